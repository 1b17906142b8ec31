-- Which objects are vacant, and which of them a search for vacant objects picks.
use Rattle.std.specs.Prelude.{ℕ, ◌≡◌, ◌≢◌, ◌+◌, ◌<◌, ◌≤◌, ◌⊎◌, ◌==◌, if◌then◌else◌, length, drop}
use Rattle.std.specs.Prelude.{slice_index_or, List, [], ◌∷◌, ◌++◌, All, Contains}
use Rattle.mv_history.specs.State.{State}
use Rattle.set_model.specs.Objects.{first_node, owner}
use Rattle.set_catalog.specs.Hinted.{Hinted}

-- the object is a node that nothing owns
pub record IsVacant (s : State) (o : ℕ) : Type 0 where
  pub node : first_node ≤ o
  pub in_range : o < length s
  pub free : owner s o ≡ 0

-- how many of these are vacant
abbrev pub count_vacant : State → ℕ
count_vacant [] = 0
count_vacant (w ∷ ws) = (if slice_index_or w 0 0 == 0 then 1 else 0) + count_vacant ws

-- how many nodes are vacant
abbrev pub vacant_nodes : State → ℕ
vacant_nodes s = count_vacant (drop first_node s)

-- So many vacant objects: one and 0, or two different ones.
pub record ArePicked (s : State) (want first second : ℕ) : Type 0 where
  pub one : IsVacant s first
  pub alone : want ≡ 1 → second ≡ 0
  pub other : want ≡ 2 → IsVacant s second × (second ≢ first)

-- the hints at the end were tried, and are gone: each was wrong, or is one of these two
pub record Tries (s : State) (old new : Hinted) (gone : List ℕ) (first second : ℕ) : Type 0 where
  pub room : new.room ≡ old.room
  pub parts : old.objects ≡ new.objects ++ gone
  pub wrong : All (λ o. IsVacant s o → (o ≡ first) ⊎ (o ≡ second)) gone

-- Hints are tried before other objects: what is picked was hinted, or no hint is left.
pub record TriesHints (s : State) (old new : Hinted) (first second : ℕ) : Type 0 where
  pub gone : List ℕ
  pub tries : Tries s old new gone first second
  pub first_hinted : Contains gone first ⊎ (new.objects ≡ [])
  pub second_hinted : (second ≡ 0) ⊎ (Contains gone second ⊎ (new.objects ≡ []))

-- the hints at the end were tried for an object other than this one, and the first of them is it
pub record TriesFor (s : State) (old new : Hinted) (but object : ℕ) : Type 0 where
  pub gone : List ℕ
  pub tries : Tries s old new gone but object
  pub hinted : Contains gone object ⊎ (new.objects ≡ [])

-- all the hints were tried for an object other than this one, and none is it
pub record AllTried (s : State) (old new : Hinted) (but : ℕ) : Type 0 where
  pub room : new.room ≡ old.room
  pub none : new.objects ≡ []
  pub wrong : All (λ o. IsVacant s o → o ≡ but) old.objects
