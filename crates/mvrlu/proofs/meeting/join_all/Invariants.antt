use Rattle.std.proofs.Common.{◌≡◌, ◌+◌, length, All}
use Rattle.std.specs.Vec.{vec_len}
use Rattle.object_lock.specs.mv_core.EnterSteps.{MayLoadLow}
use Rattle.object_lock.specs.mv_core.Passes.{view, IsOf}
use Rattle.mvrlu.specs.Joined.{AreJoining}
use Rattle.mvrlu.specs.Placed.{Fits}
use Rattle.mvrlu.proofs.meeting.join_all.Given as goal

abbrev pub invariant-loop-other : goal.invariant-loop-other
invariant-loop-other g l = record {
  of : IsOf l.shared l.pass;
  may : MayLoadLow (view l.pass);
  own : All (λ s. Fits l.shared s.idle) l.seats.items;
  joining : AreJoining l.fn.seats.items l.seats.items (view l.pass);
  cost : l.steps + length l.seats.items + 1 ≡ l.fn.steps + length l.fn.seats.items;
}

abbrev pub decreases-loop-other : goal.decreases-loop-other
decreases-loop-other g l = vec_len l.seats
