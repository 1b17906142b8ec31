use Rattle.mv_layout.proofs.Distinct.{one_place, same_is}
use Rattle.mv_layout.proofs.places.places_differ.Goals as goal

pub returns-clause-apart : goal.returns-clause-apart
returns-clause-apart c d p q checked here there one = same_is p q (one_place d p q checked here there one)
