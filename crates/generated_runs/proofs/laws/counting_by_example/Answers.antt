use Rattle.std.proofs.Common.{refl}
use Rattle.std.specs.Fmt.{digits}
use Rattle.set_model.specs.Catalogue.{cost}
use Rattle.generated_runs.proofs.laws.counting_by_example.Goals as goal

pub returns : goal.returns
unfolding cost digits
returns c = refl
