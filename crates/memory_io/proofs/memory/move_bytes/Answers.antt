use Rattle.std.proofs.Common.{arith}
use Rattle.std.proofs.lemmas.Grind.{common_steps}
use Rattle.memory_io.proofs.Texts.{moved_whole}
use Rattle.memory_io.proofs.memory.move_bytes.Goals as goal

pub returns-clause-moved : goal.returns-clause-moved
returns-clause-moved c =
    moved_whole c.args.bytes.now c.copy_from_slice.new.self c.args.into.now c.args.place c.min-count.result (grind (arith, common_steps))
    (grind (arith, common_steps))
