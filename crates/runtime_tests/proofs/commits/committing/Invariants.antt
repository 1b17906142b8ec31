use Rattle.mv_core.specs.Passes.{view}
use Rattle.version_chain.specs.Walks.{section_in}
use Rattle.runtime_tests.proofs.commits.committing.Given as goal

abbrev pub ghost-name : goal.ghost-name
ghost-name g a = section_in (view a.pass.now)

abbrev pub ghost-commit : goal.ghost-commit
ghost-commit g a = section_in (view a.pass.now)
