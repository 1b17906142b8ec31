use Rattle.set_blocks.proofs.Terms.{[], arith, touches_more}
use Rattle.set_blocks.proofs.overlay.find.Goals as goal

pub loop-i-preserved : goal.loop-i-preserved
loop-i-preserved c = touches_more c.args.writes.now c.loop-i.i c.args.object (0, []) (omega arith) c.loop-i.invariant c.if-write-object.false
