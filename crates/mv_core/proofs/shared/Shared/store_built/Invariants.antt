use Rattle.mv_core.specs.Moves.{store_built}
use Rattle.std.proofs.Common.{◌≡◌, ◌<◌, ◌^◌}
use Rattle.mv_core.proofs.Terms.{index_of, view, config_of}
use Rattle.mv_core.specs.LockSteps.{field_place, built_stored}
use Rattle.mv_core.proofs.shared.Shared.store_built.Given as goal

abbrev pub ghosts-store_as : goal.ghosts-store_as
ghosts-store_as g a = record {
  config = config_of a.shared.now;
  place = field_place (view a.pass.now).number (index_of (config_of a.shared.now) a.about.now.0) a.about.now.1;
  tells = λ n w. (w ≡ built_stored (config_of a.shared.now) (view a.pass.now) a.about.now.0 a.about.now.1 n g.build) × (a.about.now.0 < 2 ^ 57);
  kind = store_built a.about.now.0 a.about.now.1 a.new g.build;
}
