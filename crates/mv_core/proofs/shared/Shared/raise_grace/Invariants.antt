use Rattle.mv_core.specs.Moves.{raise_grace}
use Rattle.std.proofs.Common.{◌≡◌}
use Rattle.mv_core.proofs.Terms.{Grace, view, config_of}
use Rattle.mv_core.specs.SeatSteps.{grace_raised}
use Rattle.mv_core.proofs.shared.Shared.raise_grace.Given as goal

abbrev pub ghosts-raise_as : goal.ghosts-raise_as
ghosts-raise_as g a = record {
  config = config_of a.shared.now;
  place = Grace;
  tells = λ n w. w ≡ grace_raised (config_of a.shared.now) (view a.pass.now) a.about.now n;
  kind = raise_grace a.about.now;
}
