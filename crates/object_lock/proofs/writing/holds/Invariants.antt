use Rattle.std.proofs.Common.{◌≢◌, ◌<◌, ◌≤◌, ℕ}
use Rattle.seat_log.specs.declared.version.Note.{Note}
use Rattle.seat_log.specs.Notes.{held_from, IsNoteAt}
use Rattle.object_lock.proofs.writing.holds.Given as goal

abbrev pub invariant-loop-index : goal.invariant-loop-index
invariant-loop-index l = (i : ℕ) (n : Note) → IsNoteAt l.log i n → held_from l.log ≤ i → i < l.index → n.object ≢ l.object
