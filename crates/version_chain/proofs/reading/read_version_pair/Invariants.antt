use Rattle.mv_core.specs.Passes.{view}
use Rattle.version_chain.specs.Walks.{section_in, stand_in}
use Rattle.version_chain.proofs.reading.read_version_pair.Given as goal

abbrev pub ghost-load_data : goal.ghost-load_data
ghost-load_data g a = (stand_in (view a.pass.now), section_in (view a.pass.now))
