use Rattle.mv_core.specs.Moves.{load_low}
use Rattle.std.proofs.Common.{◌≡◌}
use Rattle.mv_core.proofs.Terms.{Clock, view, config_of}
use Rattle.mv_core.specs.SectionFacts.{IsWord}
use Rattle.mv_core.specs.EnterSteps.{low_loaded}
use Rattle.mv_core.proofs.shared.Shared.load_low.Given as goal

abbrev pub ghosts-load_as : goal.ghosts-load_as
ghosts-load_as g a = record {
  config = config_of a.shared.now;
  place = Clock;
  tells = λ n w. (w ≡ low_loaded (config_of a.shared.now) (view a.pass.now) n) × IsWord (config_of a.shared.now) n;
  kind = load_low;
}
