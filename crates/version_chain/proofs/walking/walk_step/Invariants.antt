use Rattle.mv_core.specs.Passes.{view}
use Rattle.version_chain.specs.Walks.{stand_in}
use Rattle.version_chain.proofs.walking.walk_step.Given as goal

abbrev pub ghost-load_first : goal.ghost-load_first
ghost-load_first g a = stand_in (view a.pass.now)

abbrev pub ghost-load_stamp : goal.ghost-load_stamp
ghost-load_stamp g a = stand_in (view a.pass.now)

abbrev pub ghost-load_prev : goal.ghost-load_prev
ghost-load_prev g a = stand_in (view a.pass.now)
