use Rattle.mv_core.specs.Moves.{store_free}
use Rattle.std.proofs.Common.{◌≡◌}
use Rattle.mv_core.proofs.Terms.{Stamp, index_of, view, config_of}
use Rattle.mv_core.specs.ReclaimSteps.{free_stored}
use Rattle.mv_core.proofs.shared.Shared.store_free.Given as goal

abbrev pub ghosts-store_as : goal.ghosts-store_as
ghosts-store_as g a = record {
  config = config_of a.shared.now;
  place = Stamp (view a.pass.now).number (index_of (config_of a.shared.now) a.about.now);
  tells = λ n w. w ≡ free_stored (config_of a.shared.now) (view a.pass.now) a.about.now;
  kind = store_free a.about.now;
}
