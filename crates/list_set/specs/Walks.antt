-- What a walk along a list finds that looks for a key.
use Rattle.std.specs.Prelude.{ℕ, suc, ◌≡◌, ◌-◌, ◌^◌, ◌<◌, ◌≤◌, ◌⊎◌, ◌==◌, ◌&&◌, not, List}
use Rattle.std.specs.Prelude.{slice_index_or, Some, None, if◌then◌else◌}
use Rattle.mv_history.specs.State.{State}
use Rattle.mv_history.specs.Meaning.{words_at}
use Rattle.set_model.specs.Catalogue.{has_key, value_of, next_key}
use Rattle.set_model.specs.CatalogueOf.{map_at}
use Rattle.set_model.specs.Objects.{first_node, owner, key, link, value}
use Rattle.list_set.specs.Places.{IsInList}

-- how far a walk can go on: keys rise, and are below 2^32
unfoldable pub walk_left : State → ℕ → ℕ
walk_left s node = if node == 0 then 0 else 2 ^ 32 - key s node

-- a walk that looks for key k may go on from this object, the head or a node with a key below k, which leads to `next`
pub record IsBehind (s : State) (head k previous next : ℕ) : Type 0 where
  pub within : IsInList s head previous
  pub leads : next ≡ link s previous
  pub below : (previous ≡ head) ⊎ (key s previous < k)

-- a node of the list with these words, whose key is not below k
pub record IsFound (s : State) (head k node : ℕ) (words : List ℕ) : Type 0 where
  pub is_node : first_node ≤ node
  pub own : owner s node ≡ suc head
  pub words_are : words ≡ words_at s node
  pub above : k ≤ key s node

-- What a search for key k found: the first node whose key is not below k, 0 at the end, and its predecessor, both with their words.
pub record IsWindow (s : State) (head k previous : ℕ) (words : List ℕ) (node : ℕ) (node_words : List ℕ) : Type 0 where
  pub within : IsInList s head previous
  pub words_are : words ≡ words_at s previous
  pub below : (previous ≡ head) ⊎ (key s previous < k)
  pub next : node ≡ link s previous
  pub found : (node ≡ 0) ⊎ IsFound s head k node node_words
  pub fits : slice_index_or node_words 2 0 < 2 ^ 32
  pub has : (not (node == 0) && (slice_index_or node_words 2 0 == k)) ≡ has_key k (map_at s head)
  pub value : (if not (node == 0) && (slice_index_or node_words 2 0 == k) then Some (slice_index_or node_words 5 0) else None) ≡ value_of k (map_at s head)
  pub least : (if node == 0 then None else Some (slice_index_or node_words 2 0)) ≡ next_key k (map_at s head)

-- a node of the list with this key, which is not below k
pub record IsReached (s : State) (head k node node_key : ℕ) : Type 0 where
  pub is_node : first_node ≤ node
  pub own : owner s node ≡ suc head
  pub key_is : node_key ≡ key s node
  pub above : k ≤ node_key

-- What a walk for key k found by keys alone: the first node whose key is not below k, 0 at the end, with its key, and its predecessor.
pub record IsKeyWindow (s : State) (head k previous node node_key : ℕ) : Type 0 where
  pub within : IsInList s head previous
  pub below : (previous ≡ head) ⊎ (key s previous < k)
  pub next : node ≡ link s previous
  pub found : (node ≡ 0) ⊎ IsReached s head k node node_key
  pub fits : node_key < 2 ^ 32
  pub has : (not (node == 0) && (node_key == k)) ≡ has_key k (map_at s head)
  pub value_is : (if not (node == 0) && (node_key == k) then Some (value s node) else None) ≡ value_of k (map_at s head)
  pub least : (if node == 0 then None else Some node_key) ≡ next_key k (map_at s head)
