use Rattle.mv_core.specs.Moves.{stamp}
use Rattle.std.proofs.Common.{◌≡◌}
use Rattle.mv_core.specs.Passes.{view, config_of}
use Rattle.mv_core.specs.EnterSteps.{stamp_place, stamp_swapped}
use Rattle.mv_core.proofs.shared.Shared.stamp.Given as goal

abbrev pub ghosts-swap_as : goal.ghosts-swap_as
ghosts-swap_as g a = record {
  config = config_of a.shared.now;
  place = stamp_place a.about.now.0;
  tells = λ n w. w ≡ stamp_swapped (config_of a.shared.now) (view a.pass.now) a.about.now.0 a.about.now.1 n;
  kind = stamp a.about.now.0 a.about.now.1;
}
