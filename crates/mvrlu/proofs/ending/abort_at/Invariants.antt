use Rattle.object_lock.specs.mv_core.Passes.{view}
use Rattle.object_lock.specs.version_chain.Walks.{section_in}
use Rattle.mvrlu.proofs.ending.abort_at.Given as goal

abbrev pub ghost-abort : goal.ghost-abort
ghost-abort g a = section_in (view a.pass.now)
