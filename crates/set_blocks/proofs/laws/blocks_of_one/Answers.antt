use Rattle.set_blocks.proofs.SingleBlocks.{one_replies, one_changes, one_next, length-block_replies}
use Rattle.set_blocks.proofs.laws.blocks_of_one.Goals as goal

pub returns : goal.returns
returns c = record { replies = one_replies; changes = one_changes; next = one_next; count = length-block_replies }
