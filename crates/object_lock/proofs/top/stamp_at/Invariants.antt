use Rattle.seat_log.specs.mv_core.Passes.{view}
use Rattle.version_chain.specs.Walks.{stand_in}
use Rattle.object_lock.proofs.top.stamp_at.Given as goal

abbrev pub ghost-load_first : goal.ghost-load_first
ghost-load_first g a = stand_in (view a.pass.now)

abbrev pub ghost-load_stamp : goal.ghost-load_stamp
ghost-load_stamp g a = stand_in (view a.pass.now)
