use Rattle.mv_history.specs.declared.StepKind.TheVariants.{LoadData}
use Rattle.version_chain.proofs.Going.{reads_on}
use Rattle.version_chain.proofs.reading.read_version_four.Goals as goal

pub returns-clause-reads : goal.returns-clause-reads
returns-clause-reads g c = reads_on LoadData 2 2 _ _ _ c.read_version_pair-first.ensures.reads c.read_version_pair-third.ensures.reads
