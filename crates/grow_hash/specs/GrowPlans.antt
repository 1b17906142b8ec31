-- What a command on a growing hash set locks and writes in a state.
use Rattle.std.specs.Prelude.{◌≡◌, ◌^◌, ◌<◌, ◌≤◌}
use Rattle.grow_hash.specs.Terms.{ℕ, length, State, Writes, Command, Add, Put, Del, Has, Get, Move, Pair, Size, Next, owner, IsAddPlace, add_writes, IsDelPlace}
use Rattle.grow_hash.specs.Terms.{del_writes}
use Rattle.grow_hash.specs.Tables.{bucket}
use Rattle.grow_hash.specs.Grown.{first_grown, head_at, grown_name}

-- the object is a node, and vacant
abbrev pub IsFree : ℕ → State → ℕ → Type 0
IsFree levels s o = (first_grown levels ≤ o) × (o < length s) × (owner s o ≡ 0)

-- the head of the bucket in which a key stands
abbrev pub head_of : ℕ → State → ℕ → ℕ
head_of levels s key = head_at (bucket levels s key)

-- an add of the key behind its predecessor, in a vacant node
pub record AddGrown (levels : ℕ) (s : State) (key : ℕ) (writes : Writes) : Type 0 where
  pub previous : ℕ
  pub node : ℕ
  pub place : IsAddPlace s (head_of levels s key) key previous
  pub free : IsFree levels s node
  pub writes_are : writes ≡ add_writes s (head_of levels s key) key 0 previous node

-- a del of the key, whose node becomes vacant
pub record DelGrown (levels : ℕ) (s : State) (key : ℕ) (writes : Writes) : Type 0 where
  pub previous : ℕ
  pub node : ℕ
  pub place : IsDelPlace s (head_of levels s key) key previous node
  pub writes_are : writes ≡ del_writes s previous node

-- What a command that changes something locks, and how it writes that.
abbrev pub GrowPlan : ℕ → Command → State → Writes → Type 0
GrowPlan levels (Add name key) s ws = AddGrown levels s key ws
GrowPlan levels (Del name key) s ws = DelGrown levels s key ws
GrowPlan levels command s ws = ⊥

-- how many objects an add or a del locks
abbrev pub grow_locks : ℕ
grow_locks = 2

-- the command is one of a growing hash set, and its key fits its type
abbrev pub IsGrowing : Command → Type 0
IsGrowing (Add name key) = (name ≡ grown_name) × (key < 2 ^ 32)
IsGrowing (Del name key) = (name ≡ grown_name) × (key < 2 ^ 32)
IsGrowing (Has name key) = (name ≡ grown_name) × (key < 2 ^ 32)
IsGrowing (Size name) = name ≡ grown_name
IsGrowing (Next name key) = (name ≡ grown_name) × (key < 2 ^ 32)
IsGrowing (Put name key value) = ⊥
IsGrowing (Get name key) = ⊥
IsGrowing (Move source target key) = ⊥
IsGrowing (Pair first second key) = ⊥

-- the command is an add, a del, a has, a size or a next, of the set `h0`
abbrev pub IsOfGrown : Command → Type 0
IsOfGrown (Add name key) = name ≡ grown_name
IsOfGrown (Del name key) = name ≡ grown_name
IsOfGrown (Has name key) = name ≡ grown_name
IsOfGrown (Size name) = name ≡ grown_name
IsOfGrown (Next name key) = name ≡ grown_name
IsOfGrown (Put name key value) = ⊥
IsOfGrown (Get name key) = ⊥
IsOfGrown (Move source target key) = ⊥
IsOfGrown (Pair first second key) = ⊥
