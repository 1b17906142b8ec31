-- Where the search for a key in the set of a name ended, and what is written there.
use Rattle.std.specs.Prelude.{ℕ, ◌≡◌, ◌^◌, ◌<◌, ◌≤◌, ◌==◌, true, if◌then◌else◌, List, [], ◌∷◌}
use Rattle.mv_history.specs.State.{State, Writes}
use Rattle.set_model.specs.Catalogue.{map_of, has_key}
use Rattle.set_model.specs.CatalogueOf.{catalogue_of}
use Rattle.set_model.specs.Lawful.{IsLawful}
use Rattle.set_model.specs.Objects.{link}
use Rattle.hash_set.specs.list_set.Places.{add_writes, del_writes, put_writes}
use Rattle.hash_set.specs.list_set.Windows.{EndsHere}
use Rattle.tree_balance.specs.tree_set.Places.{tree_add_writes, grow_writes, bare_writes, tree_del_writes}
use Rattle.tree_balance.specs.tree_set.Descents as trees
use Rattle.set_catalog.specs.Needs.{first_tree}
use Rattle.set_catalog.specs.Plans.{head_of}
use Rattle.set_catalog.specs.declared.ends.End.{End}
use Rattle.set_catalog.specs.declared.ends.End.TheVariants.{InList, Empty, InTree}

-- the search for the key in the set of this name, in this state, ended here
abbrev pub EndsAt : State → ℕ → ℕ → End → Type 0
EndsAt s name k (InList head window) = (name < first_tree) × (head ≡ head_of name k) × EndsHere s head k window
EndsAt s name k (Empty root) = (first_tree ≤ name) × (root ≡ head_of name k) × (link s root ≡ 0)
EndsAt s name k (InTree root descent) = (first_tree ≤ name) × (root ≡ head_of name k) × trees.EndsHere s root k descent

-- what is so in each lawful state and for each name for which a search for this key ended here
abbrev pub Wherever : End → ℕ → (State → ℕ → Type 0) → Type 0
Wherever end k Holds = (s : State) (name : ℕ) → IsLawful s → name < 30 → k < 2 ^ 32 → EndsAt s name k end → Holds s name

-- and where the key is there
abbrev pub Present : End → ℕ → (State → Type 0) → Type 0
Present end k Holds = Wherever end k (λ s name. has_key k (map_of name (catalogue_of s)) ≡ true → Holds s)

-- it is the head of a list or a bucket, or the root of a tree
abbrev pub HasHead : End → Type 0
HasHead (InList head window) = head < 170
HasHead (Empty root) = (170 ≤ root) × (root < 180)
HasHead (InTree root descent) = (170 ≤ root) × (root < 180)

-- what an add of the key writes here, in these vacant nodes
abbrev pub adds_at : State → ℕ → ℕ → ℕ → ℕ → End → Writes
adds_at s k v first second (InList head window) = add_writes s head k v window.previous first
adds_at s k v first second (Empty root) = tree_add_writes s root k v first
adds_at s k v first second (InTree root descent) = grow_writes s root k v descent.parent descent.leaf first second

-- the objects of these writes
abbrev pub objects_added : ℕ → ℕ → End → List ℕ
objects_added first second (InList head window) = window.previous ∷ first ∷ []
objects_added first second (Empty root) = root ∷ first ∷ []
objects_added first second (InTree root descent) = descent.parent ∷ descent.leaf ∷ first ∷ second ∷ []

-- what a del of the key, which is there, writes here
abbrev pub dels_at : State → End → Writes
dels_at s (InList head window) = del_writes s window.previous window.node
dels_at s (Empty root) = []
dels_at s (InTree root descent) =
    if descent.parent == root then bare_writes s root descent.leaf else tree_del_writes s descent.grand descent.parent descent.leaf

-- the list node or leaf that a del leaves vacant, or 0
abbrev pub node_gone : End → ℕ
node_gone (InList head window) = window.node
node_gone (Empty root) = 0
node_gone (InTree root descent) = descent.leaf

-- the inner node that a del leaves vacant, or 0
abbrev pub inner_gone : End → ℕ
inner_gone (InList head window) = 0
inner_gone (Empty root) = 0
inner_gone (InTree root descent) = if descent.parent == root then 0 else descent.parent

-- what a put of another value writes here, for the key, which is there
abbrev pub puts_at : State → ℕ → End → Writes
puts_at s v (InList head window) = put_writes s window.node v
puts_at s v (Empty root) = []
puts_at s v (InTree root descent) = put_writes s descent.leaf v
