use Rattle.std.proofs.Common.{◌≡◌, ◌+◌, ◌≤◌, take, drop}
use Rattle.section_work.specs.OwnWrites.{objects_of}
use Rattle.section_work.specs.Held.{count_unheld}
use Rattle.tree_balance.specs.Drafts.{writes_in, merged}
use Rattle.tree_balance.proofs.plan.WritePlan.write.Given as goal

abbrev pub invariant-loop-change : goal.invariant-loop-change
invariant-loop-change l = record {
  writes : writes_in l.self ≡ merged (writes_in l.fn.self) (take l.change-index l.changes);
  room : l.self.count + count_unheld (writes_in l.self) (objects_of (drop l.change-index l.changes)) ≤ 16;
}
