use Rattle.object_lock.specs.mv_core.Passes.{view}
use Rattle.object_lock.specs.version_chain.Walks.{section_in}
use Rattle.mvrlu.proofs.ending.commit_at.Given as goal

abbrev pub ghost-commit : goal.ghost-commit
ghost-commit g a = section_in (view a.pass.now)
