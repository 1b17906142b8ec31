use Rattle.grow_script.proofs.Growing.{command_reads, first_reads}
use Rattle.grow_script.proofs.line.read_line.Goals as goal

pub returns-then-begun-clause-growing : goal.returns-then-begun-clause-growing
returns-then-begun-clause-growing c = command_reads c.args.line.now c.read_command.result c.read_command.ensures

pub returns-clause-growing : goal.returns-clause-growing
returns-clause-growing c = first_reads c.args.line.now c.read_first.result c.read_first.ensures
