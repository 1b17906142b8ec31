-- Writing an object that a section holds: where its version is noted, and what the call leaves.
use Rattle.std.specs.Prelude.{◌≡◌, ◌≢◌, ℕ, ◌+◌, ◌<◌, ◌≤◌, List, ◌++◌, length, All}
use Rattle.mv_history.specs.declared.Step.{Step}
use Rattle.mv_history.specs.declared.StepKind.TheVariants.{StoreData}
use Rattle.mv_history.specs.State.{rewritten}
use Rattle.mv_layout.specs.declared.Config.{Config}
use Rattle.seat_log.specs.mv_core.declared.view.Knowledge.{Knowledge}
use Rattle.seat_log.specs.mv_core.Rings.{own_of, spare_count}
use Rattle.seat_log.specs.declared.version.Note.{Note}
use Rattle.seat_log.specs.Notes.{Noted, held_from, IsNoteAt}

-- the held version of the object is noted at this place, and is of this position
pub record IsHeldAt (l : Noted) (object position : ℕ) : Type 0 where
  pub place : ℕ
  pub note : Note
  pub there : IsNoteAt l place note
  pub held : held_from l ≤ place
  pub object_is : note.object ≡ object
  pub position_is : note.position ≡ position
  pub first_one : (i : ℕ) (n : Note) → IsNoteAt l i n → held_from l ≤ i → i < place → n.object ≢ object

-- only the log and the trail changed, which has so many stores of a data word more
pub record Stores (v w : Knowledge) (n : ℕ) : Type 0 where
  pub rest : w ≡ record v { ring = w.ring; trail = w.trail }
  pub trail : (steps : List Step) × (w.trail ≡ v.trail ++ steps) × (length steps ≡ n) × All (λ s. s.kind ≡ StoreData) steps

-- an object that is held has other words, by six stores
pub record Rewrites (c : Config) (v w : Knowledge) (object : ℕ) (words : List ℕ) (before after : ℕ) : Type 0 where
  pub own : own_of c w.ring ≡ rewritten (own_of c v.ring) object words
  pub spare : spare_count w.ring ≡ spare_count v.ring
  pub stores : Stores v w 6
  pub cost : after ≡ before + 6
