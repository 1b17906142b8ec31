use Rattle.std.proofs.Common.{[], arith}
use Rattle.mv_history.proofs.Writing.{touches_more}
use Rattle.plain_store.proofs.section.find.Goals as goal

pub loop-i-preserved : goal.loop-i-preserved
loop-i-preserved c = touches_more c.args.own.now c.loop-i.i c.args.object (0, []) (omega arith) c.loop-i.invariant c.if-write-object.false
