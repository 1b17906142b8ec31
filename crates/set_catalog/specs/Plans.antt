-- What a command locks and writes in a state: the objects, in the order of locking, with their new words.
use Rattle.std.specs.Prelude.{ℕ, zero, suc, ◌≡◌, ◌≢◌, ◌+◌, ◌-◌, ◌*◌, ◌%◌, ◌<◌, ◌≤◌, ◌⊎◌, nat_lt, if◌then◌else◌}
use Rattle.mv_history.specs.State.{State, Writes, written}
use Rattle.set_model.specs.declared.commands.Command.{Command}
use Rattle.set_model.specs.declared.commands.Command.TheVariants.{Add, Put, Del, Move}
use Rattle.set_model.specs.Objects.{link, value}
use Rattle.set_model.specs.Trees.{Tree, HoldsTree}
use Rattle.section_work.specs.OwnWrites.{with_locks, with_writes, objects_of}
use Rattle.hash_set.specs.list_set.Places.{IsAddPlace, add_writes, IsDelPlace, del_writes, IsPutPlace, put_writes}
use Rattle.tree_balance.specs.tree_set.Places.{IsLeaf, tree_add_writes, IsGrowPlace, grow_writes, IsBarePlace, bare_writes, IsCutPlace, tree_del_writes}
use Rattle.tree_balance.specs.Depths.{depth_of}
use Rattle.tree_balance.specs.Drafts.{IsAddOnWay}
use Rattle.set_catalog.specs.Needs.{first_tree}
use Rattle.set_catalog.specs.Picks.{IsVacant}

-- the head under which a key stands in the set of a name: that of its list, its bucket or its tree
abbrev pub head_of : ℕ → ℕ → ℕ
head_of name key =
    if nat_lt name 10 then name else (if nat_lt name first_tree then 10 + 16 * (name - 10) + key % 16 else name + 150)

-- a del of the key, which leaves the node vacant, and in a tree that keeps other keys an inner node, else 0
pub data DelPlan (s : State) (name key node : ℕ) : ℕ → Writes → Type 0 where
  unlinks : (previous : ℕ) → name < first_tree → IsDelPlace s (head_of name key) key previous node
      → DelPlan s name key node 0 (del_writes s previous node)
  bares : first_tree ≤ name → IsBarePlace s (head_of name key) key node → DelPlan s name key node 0 (bare_writes s (head_of name key) node)
  cuts : (grand inner : ℕ) → first_tree ≤ name → IsCutPlace s (head_of name key) key grand inner node
      → DelPlan s name key node inner (tree_del_writes s grand inner node)

-- an add of the key with this value, which takes the first of these vacant nodes, and in a tree that is not empty the second
pub data AddPlan (s : State) (name key v first second : ℕ) : Writes → Type 0 where
  links : (previous : ℕ) → name < first_tree → IsAddPlace s (head_of name key) key previous → IsVacant s first
      → AddPlan s name key v first second (add_writes s (head_of name key) key v previous first)
  tree_adds : first_tree ≤ name → link s (head_of name key) ≡ 0 → IsVacant s first
      → AddPlan s name key v first second (tree_add_writes s (head_of name key) key v first)
  grows : (parent leaf : ℕ) → first_tree ≤ name → IsGrowPlace s (head_of name key) key parent leaf → IsVacant s first
      → IsVacant s second → second ≢ first
      → AddPlan s name key v first second (grow_writes s (head_of name key) key v parent leaf first second)

-- the search for the key in the tree of this name passes more than 8 inner nodes
abbrev pub EndsDeep : State → ℕ → ℕ → Type 0
EndsDeep s name key = (t : Tree) → HoldsTree s (head_of name key) t → 8 < depth_of key t

-- an add of the key to a tree in which its search passes more than 8 inner nodes, and steps after it by which the tree stays short: at
-- most so many objects beside the add's own four
pub record TurnedPlan (most : ℕ) (s : State) (name key v first second : ℕ) (ws : Writes) : Type 0 where
  pub parent : ℕ
  pub leaf : ℕ
  pub of_tree : first_tree ≤ name
  pub place : IsGrowPlace s (head_of name key) key parent leaf
  pub first_vacant : IsVacant s first
  pub second_vacant : IsVacant s second
  pub other : second ≢ first
  pub deep : EndsDeep s name key
  pub adds : IsAddOnWay s (head_of name key) key v parent leaf first second most ws

-- an add, with steps after it or not; where it may lock nothing beside its own objects it has none
abbrev pub AddsWithin : ℕ → State → ℕ → ℕ → ℕ → ℕ → ℕ → Writes → Type 0
AddsWithin zero s name key v first second ws = AddPlan s name key v first second ws
AddsWithin (suc n) s name key v first second ws = AddPlan s name key v first second ws ⊎ TurnedPlan (suc n) s name key v first second ws

-- another value for a key that is there
pub data PutPlan (s : State) (name key v : ℕ) : Writes → Type 0 where
  in_list : (node : ℕ) → name < first_tree → IsPutPlace s (head_of name key) key node → PutPlan s name key v (put_writes s node v)
  in_tree : (leaf : ℕ) → first_tree ≤ name → IsLeaf s (head_of name key) key leaf → PutPlan s name key v (put_writes s leaf v)

-- a del, and then an add in the state that it leaves, with the value that the key had
pub record MovePlan (s : State) (source target key : ℕ) (ws : Writes) : Type 0 where
  pub node : ℕ
  pub inner : ℕ
  pub dels : Writes
  pub del : DelPlan s source key node inner dels
  pub first : ℕ
  pub second : ℕ
  pub adds : Writes
  pub add : AddPlan (written s dels) target key (value s node) first second adds
  -- the add takes what the del removed before anything else: the node first, then the inner node, where there is one
  pub takes_node : first ≡ node
  pub takes_inner : inner ≢ 0 → second ≡ inner
  pub both : ws ≡ with_writes (with_locks (written s dels) dels (objects_of adds)) adds

-- What a command that changes something locks, and how it writes that, where an add to a tree may lock so many objects beside its own four.
abbrev pub PlanWithin : ℕ → Command → State → Writes → Type 0
PlanWithin most (Add name key) s ws = (first : ℕ) × (second : ℕ) × AddsWithin most s name key 0 first second ws
PlanWithin most (Put name key v) s ws = PutPlan s name key v ws ⊎ ((first : ℕ) × (second : ℕ) × AddsWithin most s name key v first second ws)
PlanWithin most (Del name key) s ws = (node : ℕ) × (inner : ℕ) × DelPlan s name key node inner ws
PlanWithin most (Move source target key) s ws = MovePlan s source target key ws
PlanWithin most command s ws = ⊥

-- and where no step follows an add
abbrev pub PlanOf : Command → State → Writes → Type 0
PlanOf command s ws = PlanWithin 0 command s ws

-- a del left these objects vacant, the second of them 0 where there is but one; of another command none is told
abbrev pub GoneBy : Command → State → Writes → ℕ → ℕ → Type 0
GoneBy (Del name key) s ws node inner = DelPlan s name key node inner ws
GoneBy command s ws node inner = (node ≡ 0) × (inner ≡ 0)
