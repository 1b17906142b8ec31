-- The list of a head: its nodes, from the first on.
use Rattle.std.specs.Prelude.{ℕ, suc, ◌≡◌, ◌-◌, ◌%◌, ◌^◌, ◌<◌, ◌≤◌, Bool, true, false, eqb, ◌||◌, ⊤, List, [], ◌∷◌}
use Rattle.mv_history.specs.State.{State}
use Rattle.mv_history.specs.Meaning.{words_at}
use Rattle.set_model.specs.Catalogue.{Map}
use Rattle.set_model.specs.Objects.{first_node, owner, head_words, list_words}

-- a node of a list: its object, with its key and its value
pub record Node : Type 0 where
  pub object : ℕ
  pub key : ℕ
  pub value : ℕ

-- the nodes of a list, in their order
abbrev pub Nodes : Type 0
Nodes = List Node

-- the link that leads to these nodes: the first of them, or 0
abbrev pub first_of : Nodes → ℕ
first_of [] = 0
first_of (n ∷ ns) = n.object

-- whether the object is one of these nodes
abbrev pub is_among : ℕ → Nodes → Bool
is_among o [] = false
is_among o (n ∷ ns) = eqb o n.object || is_among o ns

-- their keys with their values
abbrev pub entries_of : Nodes → Map
entries_of [] = []
entries_of (n ∷ ns) = (n.key, n.value) ∷ entries_of ns

-- a key that may stand in the list of this head: in a bucket only those of its remainder
abbrev pub FitsHead : ℕ → ℕ → Type 0
FitsHead head key = (key < 2 ^ 32) × (10 ≤ head → key % 16 ≡ (head - 10) % 16)

-- each node's words are those of a list node of this head that leads to the next one
abbrev pub Links : State → ℕ → Nodes → Type 0
Links s head [] = ⊤
Links s head (n ∷ ns) =
    (first_node ≤ n.object) × FitsHead head n.key × (words_at s n.object ≡ list_words head n.key n.value (first_of ns)) × Links s head ns

-- every key is above this one
abbrev pub IsAbove : ℕ → Nodes → Type 0
IsAbove key [] = ⊤
IsAbove key (n ∷ ns) = (key < n.key) × IsAbove key ns

-- the keys rise
abbrev pub IsRising : Nodes → Type 0
IsRising [] = ⊤
IsRising (n ∷ ns) = IsAbove n.key ns × IsRising ns

-- The head leads through these nodes, with rising keys, and they are all that name it as their owner.
pub record IsList (s : State) (head : ℕ) (ns : Nodes) : Type 0 where
  pub first : words_at s head ≡ head_words (first_of ns)
  pub links : Links s head ns
  pub rising : IsRising ns
  pub only : (o : ℕ) → first_node ≤ o → owner s o ≡ suc head → is_among o ns ≡ true
