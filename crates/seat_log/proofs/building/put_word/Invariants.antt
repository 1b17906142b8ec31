use Rattle.reader_marks.specs.mv_core.Passes.{view, config_of}
use Rattle.seat_log.specs.Builds.{version_at}
use Rattle.seat_log.proofs.building.put_word.Given as goal

abbrev pub ghost-store_data : goal.ghost-store_data
ghost-store_data g a = version_at (config_of a.self.now) (view a.pass.now) a.position
