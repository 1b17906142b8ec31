use Rattle.std.proofs.Common.{◌≡◌, ℕ, ◌<◌}
use Rattle.seat_log.specs.declared.version.Note.{Note}
use Rattle.seat_log.specs.Notes.{IsNoteAt}
use Rattle.seat_log.specs.Frees.{IsDeadNote}
use Rattle.seat_log.proofs.freeing.oldest_dead.Given as goal

-- each version so far is of the oldest write set, and is dead
abbrev pub invariant-loop-index : goal.invariant-loop-index
invariant-loop-index l = (i : ℕ) (n : Note) → IsNoteAt l.log i n → i < l.index → (n.first ≡ l.log.freed) × IsDeadNote l.time n
