-- What the locks and writes of a section leave, by their answers.
use Rattle.std.specs.Prelude.{◌≡◌, ◌≢◌, ◌∷◌, ◌++◌}
use Rattle.section_work.specs.Terms.{ℕ, List, Writes, written, InSection, Lacks, state_of, IsAsBefore, GoesOn, IsStale, Refusal}
use Rattle.section_work.specs.OwnWrites.{with_locks, with_writes, objects_of}
use Rattle.section_work.specs.Held.{HoldsMore}
use Rattle.section_work.specs.declared.causes.Refusal.TheVariants.{Busy, Stale}

-- The section holds these objects too, and has written these writes: they lead from its old state to its new one.
pub record Rewritten (old new : InSection) (objects : List ℕ) (writes : Writes) : Type 0 where
  pub holds : HoldsMore old new objects (with_writes (with_locks (state_of old) old.own objects) writes)
  pub state : state_of new ≡ written (state_of old) writes

-- The lock of this object was refused: another seat holds it, or a later commit wrote it.
abbrev pub IsCause : Type 0 → (InSection → InSection → ℕ → ℕ → Type 0) → InSection → InSection → ℕ → Refusal → Type 0
IsCause may_refuse found_held old new o (Busy object seat) =
    (object ≡ o) × may_refuse × (seat ≢ old.seat.number) × found_held old new o seat
IsCause may_refuse found_held old new o (Stale object time) = (object ≡ o) × may_refuse × IsStale new o time

-- The object is not held, and its lock was refused, which left the section as it was.
pub record IsRefused (may_refuse : Type 0) (found_held : InSection → InSection → ℕ → ℕ → Type 0) (old new : InSection) (object : ℕ)
    (refusal : Refusal) : Type 0 where
  pub unheld : Lacks old object
  pub goes_on : GoesOn old new
  pub as_before : IsAsBefore old new
  pub why : IsCause may_refuse found_held old new object refusal

-- What a refusal leaves: of these objects it holds those before the one whose lock was refused, and its state is as before.
pub record Refuses (may_refuse : Type 0) (found_held : InSection → InSection → ℕ → ℕ → Type 0) (old new : InSection) (objects : List ℕ)
    (refusal : Refusal) : Type 0 where
  pub held : List ℕ
  pub object : ℕ
  pub rest : List ℕ
  pub parts : objects ≡ held ++ object ∷ rest
  pub before : InSection
  pub holds : HoldsMore old before held (with_locks (state_of old) old.own held)
  pub refused : IsRefused may_refuse found_held before new object refusal
  pub state : state_of new ≡ state_of old

-- What a refusal leaves of a section that held nothing, where each object is locked with the words that are to be committed: it holds those
-- before the one whose lock was refused, with these words, and can only be given up.
pub record RefusesWith (may_refuse : Type 0) (found_held : InSection → InSection → ℕ → ℕ → Type 0) (old new : InSection) (changes : Writes)
    (refusal : Refusal) : Type 0 where
  pub held : Writes
  pub change : ℕ × List ℕ
  pub rest : Writes
  pub parts : changes ≡ held ++ change ∷ rest
  pub before : InSection
  pub holds : HoldsMore old before (objects_of held) held
  pub refused : IsRefused may_refuse found_held before new change.0 refusal

-- One lock was refused, of an object for which this holds; those that were had stay.
pub record Stops (may_refuse : Type 0) (found_held : InSection → InSection → ℕ → ℕ → Type 0) (Named : ℕ → Type 0) (old new : InSection)
    (refusal : Refusal) : Type 0 where
  pub object : ℕ
  pub named : Named object
  pub before : InSection
  pub goes_on : GoesOn old before
  pub refused : IsRefused may_refuse found_held before new object refusal
