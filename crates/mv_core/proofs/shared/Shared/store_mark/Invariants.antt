use Rattle.mv_core.specs.Moves.{store_mark}
use Rattle.std.proofs.Common.{◌≡◌}
use Rattle.mv_core.proofs.Terms.{Mark, view, config_of}
use Rattle.mv_core.specs.EnterSteps.{mark_stored}
use Rattle.mv_core.proofs.shared.Shared.store_mark.Given as goal

abbrev pub ghosts-store_as : goal.ghosts-store_as
ghosts-store_as g a = record {
  config = config_of a.shared.now;
  place = Mark (view a.pass.now).number;
  tells = λ n w. w ≡ mark_stored (config_of a.shared.now) (view a.pass.now) a.about.now;
  kind = store_mark a.about.now;
}
