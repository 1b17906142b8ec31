-- What a client of the calls concludes from their clauses.
use Rattle.std.proofs.Common.{◌≡◌, ◌≢◌, ℕ, ◌+◌, ◌<◌, ◌≤◌, Bool, true, false, cond, [], ◌∷◌}
use Rattle.std.proofs.Common.{length, take_all, refl, sym, ap, ◌∙◌, arith, get_or-set_other}
use Rattle.mv_history.specs.State.{State, Writes, rewritten, touches, written, state_after, state_at}
use Rattle.mv_history.specs.Legal.{are_distinct}
use Rattle.mv_history.specs.Meaning.{Seat, InSection, words_at, snapshot_of, state_of}
use Rattle.mv_history.specs.Calls.{Enters}
use Rattle.mv_history.proofs.Writing.{length-written, length-rewritten}
use Rattle.mv_history.proofs.Steps.{state_at-later}
use Rattle.set_model.specs.Objects.{owner}
use Rattle.list_set.specs.Places.{add_writes, del_writes}
use Rattle.section_work.specs.OwnWrites.{with_locks, with_writes, objects_of}
use Rattle.section_work.specs.Held.{count_unheld, HasRoom}
use Rattle.section_work.specs.Locking.{Rewritten}
use Rattle.list_set.specs.Calls.{Adds, Takes}
use Rattle.section_work.proofs.HeldWrites.{length-with_locks}
use Rattle.list_set.proofs.Parts.{place_not_vacant}

-- at most two of two objects are not held yet
pub count_unheld-two : (own : Writes) (o p : ℕ) → count_unheld own (o ∷ p ∷ []) ≤ 2
count_unheld-two own o p = go (touches own o) (touches own p)
  where
    go : (x y : Bool) → cond x 0 1 + (cond y 0 1 + 0) ≤ 2
    go true true = omega arith
    go true false = omega arith
    go false true = omega arith
    go false false = omega arith

-- a section has room for two objects more, where it may hold two more and two slots are free
pub room_for_two : (s : InSection) (o p : ℕ) → 2 ≤ s.seat.spare → length s.own + 2 ≤ s.seat.write_max → HasRoom s (o ∷ p ∷ [])
room_for_two s o p spare most =
    let n : count_unheld s.own (o ∷ p ∷ []) ≤ 2 = count_unheld-two s.own o p in record { spare = omega arith; held = omega arith }

-- the different objects more are held
pub rewritten-held : (old new : InSection) (changes : Writes) → are_distinct changes ≡ true → Rewritten old new (objects_of changes) changes
    → length new.own ≡ length old.own + count_unheld old.own (objects_of changes)
rewritten-held old new changes d r =
    ap length r.holds.own ∙ length-with_writes (with_locks (state_of old) old.own (objects_of changes)) changes
    ∙ length-with_locks (state_of old) old.own changes d
  where
    length-with_writes : (own ws : Writes) → length (with_writes own ws) ≡ length own
    length-with_writes own [] = refl
    length-with_writes own (w ∷ ws) = length-with_writes (rewritten own w.0 w.1) ws ∙ length-rewritten own w.0 w.1

-- An add changes no vacant node but its own.
pub adds-length : (old new : InSection) (head k value node : ℕ) → Adds old new head k value node → length (state_of new) ≡ length (state_of old)
adds-length old new head k value node a =
    ap length a.change.state ∙ length-written (state_of old) (add_writes (state_of old) head k value a.previous node)

pub adds-others : (old new : InSection) (head k value node : ℕ) → head < 170 → Adds old new head k value node → (o : ℕ) → 180 ≤ o → owner (state_of old) o ≡ 0
    → o ≢ node → words_at (state_of new) o ≡ words_at (state_of old) o
adds-others old new head k value node lh a o lo vacant apart =
    let p : ℕ = a.previous in
    let other : o ≢ a.previous = λ e. place_not_vacant (state_of old) head a.previous o (omega arith) a.place.within lo vacant (sym e) in
    ap (λ (s : State). words_at s o) a.change.state ∙ get_or-set_other _ node o _ [] apart ∙ get_or-set_other (state_of old) a.previous o _ [] other

-- A del leaves its node vacant, and changes no other vacant node.
pub takes-length : (old new : InSection) (head k node : ℕ) → Takes old new head k node → length (state_of new) ≡ length (state_of old)
takes-length old new head k node t =
    ap length t.change.state ∙ length-written (state_of old) (del_writes (state_of old) t.previous node)

-- Where a section's snapshot is all that had been seen, it begins with the state after that.
pub state-entered : (old : Seat) (new : InSection) → Enters old new → new.at ≡ length old.seen → state_of new ≡ state_after old.start old.seen
state-entered old new e whole =
    ap (written (snapshot_of new)) e.own ∙ ap (state_at new.seat.start new.seat.seen) whole ∙ state_at-later e.seat.continues (length old.seen) (omega arith)
    ∙ ap (state_after old.start) (take_all (length old.seen) old.seen (omega arith))
