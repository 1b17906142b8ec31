-- The leaves of a tree, counted by all nodes of the state.
use Rattle.std.proofs.Common.{◌≡◌, ℕ, ◌+◌, ◌<◌, ◌≤◌, true, cond, List, [], length, drop, sym, ap, ◌∙◌, arith, length-drop}
use Rattle.std.proofs.Common.{Option, Some, None}
use Rattle.std.proofs.lemmas.List.{drop_more}
use Rattle.mv_history.specs.State.{State}
use Rattle.mv_history.specs.Meaning.{words_at}
use Rattle.set_model.specs.Catalogue.{map_of}
use Rattle.set_model.specs.CatalogueOf.{name_of, is_key_at, map_at, catalogue_of}
use Rattle.set_model.specs.Lawful.{IsLawful}
use Rattle.set_model.specs.Objects.{key, most_objects}
use Rattle.set_model.specs.Trees.{Tree, IsTree, seek}
use Rattle.set_model.proofs.Heads.{is_key_at-from}
use Rattle.set_model.proofs.ObjectWords.{word}
use Rattle.set_model.proofs.Tally.{tally, tally-bound, length-map_among, node_at}
use Rattle.set_model.proofs.TreeMaps.{map_of-root, seek_leaf}
use Rattle.set_model.proofs.TreeShape.{only_in}

-- so many leaves of this root's tree are among the nodes before this object
abbrev pub CountsBefore : State → ℕ → ℕ → ℕ → Type 0
CountsBefore s root object n = n + tally (is_key_at root) (drop object s) ≡ tally (is_key_at root) (drop 180 s)

-- no two leaves of a tree have one key
leaf_once : (s : State) (root : ℕ) (t : Option Tree) → IsTree s root t → (o u : ℕ) → 180 ≤ o → 180 ≤ u → is_key_at root (words_at s o) ≡ true
    → is_key_at root (words_at s u) ≡ true → key s o ≡ key s u → o ≡ u
leaf_once s root None q o u lo hi a b e = absurd (q.1 o lo (is_key_at-from root (words_at s o) a).0)
leaf_once s root (Some t) q o u lo hi a b e =
    let x = is_key_at-from root (words_at s o) a in
    let y = is_key_at-from root (words_at s u) b in
    sym (seek_leaf s root t q.stands q.ordered o (only_in s root t q o lo x.0) x.1) ∙ ap (λ k. seek k t) e
    ∙ seek_leaf s root t q.stands q.ordered u (only_in s root t q u hi y.0) y.1

leaves_counted : (s : State) (root : ℕ) → IsLawful s → 170 ≤ root → root < 180 → length (map_at s root) ≡ tally (is_key_at root) (drop 180 s)
leaves_counted s root l lo lt = length-map_among (is_key_at root) (drop 180 s) (λ i j a b e.
    (let q : 180 + i ≡ 180 + j = leaf_once s root (l.trees root lo lt).0 (l.trees root lo lt).1 (180 + i) (180 + j) (omega arith) (omega arith)
    (ap (is_key_at root) (sym (node_at s i)) ∙ a) (ap (is_key_at root) (sym (node_at s j)) ∙ b)
    (ap (word 2) (sym (node_at s i)) ∙ e ∙ ap (word 2) (node_at s j)) in omega arith))

pub counts_start : (s : State) (root : ℕ) → CountsBefore s root 180 0
counts_start s root = omega arith

-- one object more: the count goes up where it is a leaf of the tree
pub counts_next : (s t : State) (root object n more : ℕ) (words : List ℕ) → object < length s → words ≡ words_at t object → t ≡ s
    → more ≡ cond (is_key_at root words) 1 0 → CountsBefore s root object n → CountsBefore s root (object + 1) (n + more)
counts_next s t root object n more words lt read same e c =
    let first : tally (is_key_at root) (drop object s) ≡ cond (is_key_at root (words_at s object)) 1 0 + tally (is_key_at root) (drop (object + 1) s) =
    ap (tally (is_key_at root)) (drop_more s object [] lt) in
    let picked : more ≡ cond (is_key_at root (words_at s object)) 1 0 =
    e ∙ ap (λ (w : List ℕ). cond {A = ℕ} (is_key_at root w) 1 0) (read ∙ ap (λ (u : State). words_at u object) same) in omega arith

-- no count is above the number of objects
pub counts_fit : (s : State) (root object n : ℕ) → IsLawful s → CountsBefore s root object n → n ≤ most_objects
counts_fit s root object n l c =
    let most = tally-bound (is_key_at root) (drop 180 s) in let size = length-drop 180 s in let few = l.few in omega arith

-- behind the last object all leaves are counted
pub counts_all : (s : State) (root object n : ℕ) → IsLawful s → 170 ≤ root → root < 180 → length s ≤ object → CountsBefore s root object n
    → n ≡ length (map_of (name_of root) (catalogue_of s))
counts_all s root object n l lo lt end c =
    let size = length-drop object s in
    let none = tally-bound (is_key_at root) (drop object s) in
    let all : length (map_of (name_of root) (catalogue_of s)) ≡ tally (is_key_at root) (drop 180 s) =
    ap length (map_of-root s root lo lt) ∙ leaves_counted s root l lo lt in omega arith
