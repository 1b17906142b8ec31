use Rattle.set_blocks.proofs.Terms.{arith, take-replicate}
use Rattle.set_blocks.proofs.replies.Replies.all.Goals as goal

pub returns : goal.returns
returns c = take-replicate c.args.count 8 c.args.reply (omega (arith, c.requires))
