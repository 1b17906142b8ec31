use Rattle.mv_core.specs.Moves.{store_master}
use Rattle.std.proofs.Common.{◌≡◌}
use Rattle.mv_core.proofs.Terms.{Master, view, config_of}
use Rattle.mv_core.specs.ReclaimSteps.{master_stored}
use Rattle.mv_core.proofs.shared.Shared.store_master.Given as goal

abbrev pub ghosts-store_as : goal.ghosts-store_as
ghosts-store_as g a = record {
  config = config_of a.shared.now;
  place = Master a.about.now.0 a.about.now.1;
  tells = λ n w. w ≡ master_stored (config_of a.shared.now) (view a.pass.now) a.about.now.0 a.about.now.1 n g.back.0;
  kind = store_master a.about.now.0 a.about.now.1 a.new g.back.0 g.back.1 g.back.2 g.back.3;
}
