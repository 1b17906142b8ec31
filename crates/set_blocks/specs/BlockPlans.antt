-- What a block locks and writes in a state, by its commands one after another, each in the state that those before it leave.
use Rattle.list_set.specs.Places.{IsAddPlace, IsDelPlace}
use Rattle.tree_set.specs.Places.{IsLeaf}
use Rattle.set_catalog.specs.Needs.{first_tree}
use Rattle.set_catalog.specs.Plans.{head_of, PlanOf}
use Rattle.std.specs.Prelude.{◌≡◌, ◌≢◌, ◌<◌, ◌≤◌, ◌||◌, ◌∷◌, ◌++◌}
use Rattle.set_blocks.specs.Terms.{ℕ, Bool, true, false, List, [], State, Writes, written, words_at, Command, Add, Put, Del, Has, Get, Move, Pair, Reply, Yes}
use Rattle.set_blocks.specs.Terms.{No, Both, NoKey, Value, key, link, value, EndsAt, IsInRange, merged, changes_in}

-- The set of the name lacks the key, as these objects show while they are held: in a list the last node before the key, or
-- the head; in a tree the leaf where the search ends, or the root of an empty tree.
pub data LacksAt (s : State) (name k : ℕ) : List ℕ → Type 0 where
  before_gap : (previous : ℕ) → name < first_tree → IsAddPlace s (head_of name k) k previous → LacksAt s name k (previous ∷ [])
  no_tree : first_tree ≤ name → link s (head_of name k) ≡ 0 → LacksAt s name k (head_of name k ∷ [])
  other_leaf : (leaf : ℕ) → first_tree ≤ name → EndsAt s (head_of name k) k leaf → key s leaf ≢ k → LacksAt s name k (leaf ∷ [])

-- It has the key.
pub data HasAt (s : State) (name k : ℕ) : List ℕ → Type 0 where
  before_node : (previous node : ℕ) → name < first_tree → IsDelPlace s (head_of name k) k previous node → HasAt s name k (previous ∷ [])
  own_leaf : (leaf : ℕ) → first_tree ≤ name → IsLeaf s (head_of name k) k leaf → HasAt s name k (leaf ∷ [])

-- It has the key with this value: in a list the key's node is held too.
pub data ValueAt (s : State) (name k v : ℕ) : List ℕ → Type 0 where
  in_node : (previous node : ℕ) → name < first_tree → IsDelPlace s (head_of name k) k previous node → value s node ≡ v
      → ValueAt s name k v (previous ∷ node ∷ [])
  in_leaf : (leaf : ℕ) → first_tree ≤ name → IsLeaf s (head_of name k) k leaf → value s leaf ≡ v → ValueAt s name k v (leaf ∷ [])

-- whether it has the key
abbrev pub TellsAt : State → ℕ → ℕ → Bool → List ℕ → Type 0
TellsAt s name k true os = HasAt s name k os
TellsAt s name k false os = LacksAt s name k os

-- A command that changes nothing, with its reply and the objects on which it depends.
pub data HoldPlan (s : State) : Command → List ℕ → Reply → Type 0 where
  has_yes : (name k : ℕ) (os : List ℕ) → HasAt s name k os → HoldPlan s (Has name k) os Yes
  has_no : (name k : ℕ) (os : List ℕ) → LacksAt s name k os → HoldPlan s (Has name k) os No
  del_no : (name k : ℕ) (os : List ℕ) → LacksAt s name k os → HoldPlan s (Del name k) os No
  add_no : (name k : ℕ) (os : List ℕ) → HasAt s name k os → HoldPlan s (Add name k) os No
  get_none : (name k : ℕ) (os : List ℕ) → LacksAt s name k os → HoldPlan s (Get name k) os NoKey
  get_value : (name k v : ℕ) (os : List ℕ) → ValueAt s name k v os → HoldPlan s (Get name k) os (Value v)
  put_no : (name k v : ℕ) (os : List ℕ) → ValueAt s name k v os → HoldPlan s (Put name k v) os No
  move_from_none : (source target k : ℕ) (os : List ℕ) → LacksAt s source k os → HoldPlan s (Move source target k) os No
  move_to_one : (source target k : ℕ) (os : List ℕ) → HasAt s target k os → HoldPlan s (Move source target k) os No
  pair_tells : (first second k : ℕ) (b c : Bool) (os qs : List ℕ) → TellsAt s first k b os → TellsAt s second k c qs
      → HoldPlan s (Pair first second k) (os ++ qs) (Both b c)

-- these objects with the words that they have
abbrev pub holding : State → List ℕ → Writes
holding s [] = []
holding s (o ∷ os) = (o, words_at s o) ∷ holding s os

-- What one command locks and writes in a state, its reply, and whether it changes something: a change, or objects that are held as they are.
pub data StepPlan (command : Command) (s : State) : Writes → Reply → Bool → Type 0 where
  changing : (ws : Writes) → changes_in command s false ≡ true → PlanOf command s ws → StepPlan command s ws Yes true
  keeping : (os : List ℕ) (answer : Reply) → HoldPlan s command os answer → StepPlan command s (holding s os) answer false

-- What commands lock and write in a state one after another, an object that is written again with its last words; their replies; and
-- whether one of them changes something.
pub data BlockPlan (s : State) : List Command → Writes → List Reply → Bool → Type 0 where
  nothing_yet : BlockPlan s [] [] [] false
  one_more : (commands : List Command) (own : Writes) (answers : List Reply) (b : Bool) (command : Command) (ws : Writes) (answer : Reply) (c : Bool)
      → BlockPlan s commands own answers b → IsInRange command → StepPlan command (written s own) ws answer c
      → BlockPlan s (commands ++ command ∷ []) (merged own ws) (answers ++ answer ∷ []) (b || c)
