use Rattle.seat_log.specs.mv_core.Passes.{view, config_of}
use Rattle.seat_log.specs.mv_core.Rings.{slot_at, index_of}
use Rattle.seat_log.specs.Stands.{version_of}
use Rattle.seat_log.specs.Builds.{note_in}
use Rattle.log_reclaim.proofs.settling.load_super.Given as goal

abbrev pub ghost-load_super : goal.ghost-load_super
ghost-load_super g a = (version_of g.at, note_in (slot_at (view a.pass.now).ring (index_of (config_of a.self.now) a.position)))
