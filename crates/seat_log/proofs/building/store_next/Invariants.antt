use Rattle.reader_marks.specs.mv_core.Passes.{view, config_of}
use Rattle.seat_log.specs.Builds.{build_at}
use Rattle.seat_log.proofs.building.store_next.Given as goal

abbrev pub ghost-store_built : goal.ghost-store_built
ghost-store_built g a = build_at (config_of a.self.now) (view a.pass.now) a.position
