use Rattle.c_answers.proofs.SaidBlocks.{fault_from}
use Rattle.c_answers.proofs.blocks.+read_into.Goals as goal

pub returns-in-Ok-clause-fault : goal.returns-in-Ok-clause-fault
returns-in-Ok-clause-fault t c = fault_from _ _ _ c.read_into.result c.in-Some.ensures.cases.0 c.read_into.ensures.fault
