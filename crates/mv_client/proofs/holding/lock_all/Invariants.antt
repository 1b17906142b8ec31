use Rattle.std.proofs.Common.{ℕ, take}
use Rattle.mv_history.specs.Meaning.{Holds}
use Rattle.mv_client.specs.Locks.{IsAmong, LocksOnly}
use Rattle.mv_client.proofs.holding.lock_all.Given as goal

abbrev pub invariant-loop-object : goal.invariant-loop-object
invariant-loop-object g l = record {
  locks : LocksOnly (g.T.Section.section l.fn.section) (g.T.Section.section l.section) (take l.object-index l.objects);
  held : (o : ℕ) → IsAmong o (take l.object-index l.objects) → Holds (g.T.Section.section l.section) o;
}
