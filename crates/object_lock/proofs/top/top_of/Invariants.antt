use Rattle.seat_log.specs.mv_core.Passes.{view}
use Rattle.version_chain.specs.Walks.{section_in}
use Rattle.object_lock.proofs.top.top_of.Given as goal

abbrev pub ghost-load_head : goal.ghost-load_head
ghost-load_head g a = section_in (view a.pass.now)
