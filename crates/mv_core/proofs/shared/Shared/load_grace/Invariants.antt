use Rattle.mv_core.specs.Moves.{load_grace}
use Rattle.std.proofs.Common.{◌≡◌}
use Rattle.mv_core.proofs.Terms.{Grace, view, config_of}
use Rattle.mv_core.specs.SeatSteps.{grace_loaded}
use Rattle.mv_core.proofs.shared.Shared.load_grace.Given as goal

abbrev pub ghosts-load_as : goal.ghosts-load_as
ghosts-load_as g a = record {
  config = config_of a.shared.now;
  place = Grace;
  tells = λ n w. w ≡ grace_loaded (config_of a.shared.now) (view a.pass.now) n;
  kind = load_grace;
}
