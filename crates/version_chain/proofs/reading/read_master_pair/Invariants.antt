use Rattle.mv_core.specs.Passes.{view}
use Rattle.version_chain.specs.Walks.{section_in}
use Rattle.version_chain.proofs.reading.read_master_pair.Given as goal

abbrev pub ghost-load_master : goal.ghost-load_master
ghost-load_master g a = section_in (view a.pass.now)
