-- Objects that links put on lists: the first of them are heads, the others items, and links lead from head to head through one ring.
use Rattle.std.specs.Prelude.{◌≡◌, ◌≢◌, ℕ, zero, suc, ◌+◌, ◌<◌, ◌≤◌, ◌⊎◌, List, [], ◌∷◌, All, ⊤}

-- the first of these objects, or else z
abbrev pub first_or : List ℕ → ℕ → ℕ
first_or [] z = z
first_or (x ∷ xs) z = x

-- links lead along these objects, and from the last of them to z
abbrev pub Leads : (ℕ → ℕ) → List ℕ → ℕ → Type 0
Leads next [] z = ⊤
Leads next (x ∷ xs) z = (next x ≡ first_or xs z) × Leads next xs z

-- the object is an item
abbrev pub IsItem : ℕ → ℕ → Type 0
IsItem heads o = heads ≤ o

-- an item is on the list of a head: links lead to it from there, along items alone
pub record IsOn (heads : ℕ) (next : ℕ → ℕ) (head item : ℕ) : Type 0 where
  pub path : List ℕ
  pub items : All (IsItem heads) path
  pub leads : Leads next (head ∷ path) item

-- the object leads to the one at the next place, or from the last place to the first head
abbrev pub Follows : ℕ → (ℕ → ℕ) → (ℕ → ℕ) → ℕ → Type 0
Follows size next place o = ((next o ≡ 0) × (place o + 1 ≡ size)) ⊎ ((next o < size) × (place (next o) ≡ place o + 1))

-- The links form one ring: each object has a place of its own in it, head 0 the first, and leads to the next.
pub record IsRing (heads size : ℕ) (next place : ℕ → ℕ) : Type 0 where
  pub some : 0 < heads
  pub few : heads ≤ size
  pub first : place 0 ≡ 0
  pub below : (o : ℕ) → o < size → place o < size
  pub own : (a b : ℕ) → a < size → b < size → place a ≡ place b → a ≡ b
  pub follows : (o : ℕ) → o < size → Follows size next place o

-- The item is on the list of the head, behind this object: the head, or another item.
pub record IsBefore (heads size : ℕ) (next : ℕ → ℕ) (head before item : ℕ) : Type 0 where
  pub on : IsOn heads next head item
  pub next_is : next before ≡ item
  pub below : before < size
  pub not_item : before ≢ item
  pub not_head : (other : ℕ) → other < heads → other ≢ head → before ≢ other

-- the links of so many objects, from this one on, that lead each to the next one, and the last to head 0
abbrev pub links_from : ℕ → ℕ → List ℕ
links_from zero o = 0 ∷ []
links_from (suc n) o = suc o ∷ links_from n (suc o)
