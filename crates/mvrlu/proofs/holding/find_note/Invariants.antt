use Rattle.std.proofs.Common.{◌≢◌, ◌<◌, ◌≤◌, ℕ}
use Rattle.object_lock.specs.seat_log.declared.version.Note.{Note}
use Rattle.object_lock.specs.seat_log.Notes.{held_from, IsNoteAt}
use Rattle.mvrlu.proofs.holding.find_note.Given as goal

abbrev pub invariant-loop-index : goal.invariant-loop-index
invariant-loop-index l = (i : ℕ) (n : Note) → IsNoteAt l.log i n → held_from l.log ≤ i → i < l.index → n.object ≢ l.object
