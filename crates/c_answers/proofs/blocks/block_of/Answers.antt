use Rattle.std.proofs.Common.{rules}
use Rattle.c_answers.specs.Commands.IsNoBlock.{memory, fault, many, apart}
use Rattle.c_answers.proofs.blocks.block_of.Goals as goal

pub returns-then-given-gt-MOST-clause-fault : goal.returns-then-given-gt-MOST-clause-fault
returns-then-given-gt-MOST-clause-fault c = many (search rules)

pub returns-in-Err-clause-fault : goal.returns-in-Err-clause-fault
returns-in-Err-clause-fault c = memory

pub returns-in-Err-read_into-clause-fault : goal.returns-in-Err-read_into-clause-fault
returns-in-Err-read_into-clause-fault c = fault _ (search rules)

pub returns-in-None-clause-fault : goal.returns-in-None-clause-fault
returns-in-None-clause-fault c = apart c.in-Ok-read_into.commands.items (search rules) (search rules)
