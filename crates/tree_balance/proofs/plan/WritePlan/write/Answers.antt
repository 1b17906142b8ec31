use Rattle.std.proofs.Common.{refl, arith}
use Rattle.tree_balance.proofs.Merging.{room_start, room_next, room_later, merged_next, merged_all}
use Rattle.tree_balance.proofs.plan.WritePlan.write.Goals as goal

pub loop-change-init : goal.loop-change-init
loop-change-init c = record {
  writes = refl;
  room = room_start c.args.self.now.writes c.args.self.now.count _ (omega (arith, c.args.self.now.few)) c.requires.room;
}

pub write_one-requires : goal.write_one-requires
write_one-requires c = record { room = room_next _ _ _ _ _ c.loop-change-test.true c.loop-change.invariant.room }

pub loop-change-preserved : goal.loop-change-preserved
loop-change-preserved c = record {
  writes = merged_next _ _ _ _ _ _ c.loop-change-test.true c.loop-change.invariant.writes c.write_one.ensures.writes;
  room = room_later _ _ _ _ _ c.loop-change-test.true c.loop-change.invariant.room _ _ c.write_one.ensures.count c.write_one.ensures.writes;
}

pub returns : goal.returns
returns c = record { writes = merged_all _ _ _ _ c.loop-change-test.false c.loop-change.invariant.writes }
