use Rattle.mv_core.specs.Moves.{clear_mark}
use Rattle.std.proofs.Common.{◌≡◌}
use Rattle.mv_core.proofs.Terms.{Mark, view, config_of}
use Rattle.mv_core.specs.EnterSteps.{mark_cleared}
use Rattle.mv_core.proofs.shared.Shared.clear_mark.Given as goal

abbrev pub ghosts-store_as : goal.ghosts-store_as
ghosts-store_as g a = record {
  config = config_of a.shared.now;
  place = Mark (view a.pass.now).number;
  tells = λ n w. w ≡ mark_cleared (config_of a.shared.now) (view a.pass.now);
  kind = clear_mark;
}
