use Rattle.seat_log.specs.mv_core.Passes.{view, config_of}
use Rattle.seat_log.specs.Builds.{build_at}
use Rattle.version_chain.specs.Walks.{section_in}
use Rattle.object_lock.specs.Locks.{stored_words}
use Rattle.object_lock.proofs.locking.exchange.Given as goal

abbrev pub ghost-lock_head : goal.ghost-lock_head
ghost-lock_head g a =
    let build = build_at (config_of a.self.now) (view a.pass.now) a.position in (stored_words build, build, section_in (view a.pass.now))
