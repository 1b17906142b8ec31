-- Where an add, a del and a put of a list or a bucket work, and what they write.
use Rattle.std.specs.Prelude.{ℕ, suc, ◌≡◌, ◌≢◌, ◌<◌, ◌≤◌, ◌⊎◌, [], ◌∷◌}
use Rattle.mv_history.specs.State.{State, Writes}
use Rattle.mv_history.specs.Meaning.{words_at}
use Rattle.set_model.specs.Objects.{first_node, owner, key, link, list_words, no_words, relink, revalue}

-- the object is the head, or a node of its list
abbrev pub IsInList : State → ℕ → ℕ → Type 0
IsInList s head o = (o ≡ head) ⊎ ((first_node ≤ o) × (owner s o ≡ suc head))

-- a new node with key k belongs right behind this object
pub record IsAddPlace (s : State) (head k previous : ℕ) : Type 0 where
  pub within : IsInList s head previous
  pub below : (previous ≡ head) ⊎ (key s previous < k)
  pub above : (link s previous ≡ 0) ⊎ (k < key s (link s previous))

-- the link of the predecessor, and the words of the new node
abbrev pub add_writes : State → ℕ → ℕ → ℕ → ℕ → ℕ → Writes
add_writes s head k value previous node =
    (previous, relink (words_at s previous) node) ∷ (node, list_words head k value (link s previous)) ∷ []

-- the node with key k stands right behind this object
pub record IsDelPlace (s : State) (head k previous node : ℕ) : Type 0 where
  pub within : IsInList s head previous
  pub behind : link s previous ≡ node
  pub some : node ≢ 0
  pub has : key s node ≡ k

-- the link of the predecessor, which leads past the node, and the node, which becomes zero
abbrev pub del_writes : State → ℕ → ℕ → Writes
del_writes s previous node = (previous, relink (words_at s previous) (link s node)) ∷ (node, no_words) ∷ []

-- the node has key k, and is one of the head's list
pub record IsPutPlace (s : State) (head k node : ℕ) : Type 0 where
  pub is_node : first_node ≤ node
  pub own : owner s node ≡ suc head
  pub has : key s node ≡ k

-- the value of the node
abbrev pub put_writes : State → ℕ → ℕ → Writes
put_writes s node value = (node, revalue (words_at s node) value) ∷ []
