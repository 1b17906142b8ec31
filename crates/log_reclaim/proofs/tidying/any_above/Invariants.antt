use Rattle.std.proofs.Common.{ℕ, ◌<◌, ◌≤◌}
use Rattle.seat_log.specs.declared.version.Note.{Note}
use Rattle.seat_log.specs.Notes.{IsNoteAt}
use Rattle.log_reclaim.proofs.tidying.any_above.Given as goal

-- no version so far is dead only from above the time
abbrev pub invariant-loop-index : goal.invariant-loop-index
invariant-loop-index l = (i : ℕ) (n : Note) → IsNoteAt l.log i n → i < l.index → n.dead ≤ l.time
