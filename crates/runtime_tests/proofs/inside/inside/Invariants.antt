use Rattle.mv_core.specs.Passes.{view}
use Rattle.version_chain.specs.Walks.{section_in}
use Rattle.runtime_tests.proofs.inside.inside.Given as goal

abbrev pub ghost-abort : goal.ghost-abort
ghost-abort g a = section_in (view a.pass.now)
