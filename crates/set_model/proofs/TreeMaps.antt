-- The map of a tree: the keys of its leaves, with their values, from the left.
use Rattle.std.proofs.Common.{◌≡◌, ◌≢◌, ℕ, ◌<◌, ◌≤◌, inl, inr, true, false, Bool, eqb, eqb-true, cond, [], ◌∷◌, refl, sym, ap, ◌∙◌, arith, Option, Some, None}
use Rattle.mv_history.specs.State.{State}
use Rattle.mv_history.specs.Meaning.{words_at}
use Rattle.set_model.specs.Catalogue.{IsMap, has_key, map_of, value_of}
use Rattle.set_model.specs.CatalogueOf.{name_of, is_key_at, map_at, catalogue_of}
use Rattle.set_model.specs.Objects.{kind, key, value}
use Rattle.set_model.specs.Trees.{Tree, objects_in, entries_in, AllBelow, AllFrom, IsOrdered, Stands, HoldsTree, IsTree, seek}
use Rattle.set_model.specs.Trees.Tree.{leaf, inner}
use Rattle.set_model.proofs.ObjectWords.{word}
use Rattle.set_model.proofs.MapLemmas.{value_of-first, has_key-none, same_maps}
use Rattle.set_model.proofs.MapParts.{IsUnderKey, IsFromKey, under_append, from_append, under_higher, IsMap-append, value_of-behind, value_of-before}
use Rattle.set_model.proofs.MapParts.{value_of-either}
use Rattle.set_model.proofs.Mapped.{IsMap-map_among, map_of-catalogue_of}
use Rattle.set_model.proofs.Heads.{is_key_at-from, is_key_at-to, name_bound}
use Rattle.set_model.proofs.ListMaps.{HoldsAt, holds-map_at, map_at-value}
use Rattle.set_model.proofs.NameMaps.{map_in-alone}
use Rattle.section_work.proofs.Objects.{IsIn, in_either}
use Rattle.set_model.proofs.TreeShape.{only_in, seek_left, seek_right}

pub below_entries : (d : ℕ) (t : Tree) → AllBelow d t → IsUnderKey d (entries_in t)
below_entries d (leaf n k v) a = (a, tt)
below_entries d (inner n e x y) a =
    under_append d (entries_in x) (entries_in y) (below_entries d x a.0) (below_entries d y a.1)

pub from_entries : (d : ℕ) (t : Tree) → AllFrom d t → IsFromKey d (entries_in t)
from_entries d (leaf n k v) a = (a, tt)
from_entries d (inner n e x y) a =
    from_append d (entries_in x) (entries_in y) (from_entries d x a.0) (from_entries d y a.1)

pub IsMap-tree : (t : Tree) → IsOrdered t → IsMap (entries_in t)
IsMap-tree (leaf n k v) o = (tt, tt)
IsMap-tree (inner n d a b) o =
    IsMap-append d (entries_in a) (entries_in b) (IsMap-tree a o.2) (IsMap-tree b o.3) (below_entries d a o.0) (from_entries d b o.1)

-- the keys of leaves under a bound, by their words
pub below_key : (s : State) (root d : ℕ) (t : Tree) → Stands s root t → AllBelow d t → (o : ℕ) → IsIn o (objects_in t) → kind s o ≢ 2 → key s o < d
below_key s root d (leaf n k v) l a o (inl e) z =
    let is : key s o ≡ k = ap (key s) e ∙ ap (word 2) l.2 in let b : k < d = a in omega arith
below_key s root d (leaf n k v) l a o (inr i) z = absurd i
below_key s root d (inner n c x y) l a o (inl e) z = absurd (z (ap (kind s) e ∙ ap (word 1) l.2))
below_key s root d (inner n c x y) l a o (inr i) z = elim (in_either (objects_in x) (objects_in y) o i) [
  | inl j ↦ below_key s root d x l.3 a.0 o j z
  | inr j ↦ below_key s root d y l.4 a.1 o j z
]

pub from_key : (s : State) (root d : ℕ) (t : Tree) → Stands s root t → AllFrom d t → (o : ℕ) → IsIn o (objects_in t) → kind s o ≢ 2 → d ≤ key s o
from_key s root d (leaf n k v) l a o (inl e) z =
    let is : key s o ≡ k = ap (key s) e ∙ ap (word 2) l.2 in let b : d ≤ k = a in omega arith
from_key s root d (leaf n k v) l a o (inr i) z = absurd i
from_key s root d (inner n c x y) l a o (inl e) z = absurd (z (ap (kind s) e ∙ ap (word 1) l.2))
from_key s root d (inner n c x y) l a o (inr i) z = elim (in_either (objects_in x) (objects_in y) o i) [
  | inl j ↦ from_key s root d x l.3 a.0 o j z
  | inr j ↦ from_key s root d y l.4 a.1 o j z
]

-- the search for a leaf's key ends at that leaf
pub seek_leaf : (s : State) (root : ℕ) (t : Tree) → Stands s root t → IsOrdered t → (o : ℕ) → IsIn o (objects_in t) → kind s o ≢ 2 → seek (key s o) t ≡ o
seek_leaf s root (leaf n k v) l q o (inl e) z = sym e
seek_leaf s root (leaf n k v) l q o (inr i) z = absurd i
seek_leaf s root (inner n d a b) l q o (inl e) z = absurd (z (ap (kind s) e ∙ ap (word 1) l.2))
seek_leaf s root (inner n d a b) l q o (inr i) z = elim (in_either (objects_in a) (objects_in b) o i) [
  | inl j ↦ seek_left (key s o) n d a b (below_key s root d a l.3 q.0 o j z) ∙ seek_leaf s root a l.3 q.2 o j z
  | inr j ↦ seek_right (key s o) n d a b (from_key s root d b l.4 q.1 o j z) ∙ seek_leaf s root b l.4 q.3 o j z
]

-- a leaf's entry is among those of the tree
pub leaf_value : (s : State) (root : ℕ) (t : Tree) → Stands s root t → IsOrdered t → (o : ℕ) → IsIn o (objects_in t) → kind s o ≢ 2
    → value_of (key s o) (entries_in t) ≡ Some (value s o)
leaf_value s root (leaf n k v) l q o (inl e) z =
    let is : key s o ≡ k = ap (key s) e ∙ ap (word 2) l.2 in
    let has : value s o ≡ v = ap (value s) e ∙ ap (word 5) l.2 in
    ap (λ j. value_of j ((k, v) ∷ [])) is ∙ value_of-first k v [] ∙ ap Some (sym has)
leaf_value s root (leaf n k v) l q o (inr i) z = absurd i
leaf_value s root (inner n d a b) l q o (inl e) z = absurd (z (ap (kind s) e ∙ ap (word 1) l.2))
leaf_value s root (inner n d a b) l q o (inr i) z = elim (in_either (objects_in a) (objects_in b) o i) [
  | inl j ↦ value_of-before (key s o) (value s o) (entries_in a) (entries_in b) (leaf_value s root a l.3 q.2 o j z)
  | inr j ↦ (let le : d ≤ key s o = from_key s root d b l.4 q.1 o j z in
      value_of-behind (key s o) (entries_in a) (entries_in b) (under_higher d (key s o) (entries_in a) le (below_entries d a q.0))
      ∙ leaf_value s root b l.4 q.3 o j z)
]

-- and each entry is that of a leaf
entry_leaf : (s : State) (root : ℕ) (t : Tree) → Stands s root t → (k v : ℕ) → value_of k (entries_in t) ≡ Some v → HoldsAt s root k
entry_leaf s root (leaf n j u) l k v e = go (eqb j k) refl e
  where
    go : (b : Bool) → eqb j k ≡ b → cond b (Some u) None ≡ Some v → HoldsAt s root k
    go false q f = absurd (cc)
    go true q f =
        let one : word 1 (words_at s n) ≡ 1 = ap (word 1) l.2 in
        (n, l.0, is_key_at-to root (words_at s n) (ap (word 0) l.2) (omega arith), ap (word 2) l.2 ∙ eqb-true j k q)
entry_leaf s root (inner n d a b) l k v e = elim (value_of-either k v (entries_in a) (entries_in b) e) [
  | inl f ↦ entry_leaf s root a l.3 k v f
  | inr f ↦ entry_leaf s root b l.4 k v f
]

-- The map of a root has the keys of its tree's leaves, with their values.
pub map_at-tree : (s : State) (root : ℕ) (t : Tree) → HoldsTree s root t → map_at s root ≡ entries_in t
map_at-tree s root t g =
    same_maps (map_at s root) (entries_in t) (IsMap-map_among (is_key_at root) _) (IsMap-tree t g.ordered) (λ k. by_value k (value_of k (map_at s root)) refl)
  where
    none : (k : ℕ) → (r : Option ℕ) → value_of k (entries_in t) ≡ r → has_key k (map_at s root) ≡ false → None ≡ r
    none k None e h = refl
    none k (Some v) e h = absurd (let there = holds-map_at s root k (entry_leaf s root t g.stands k v e) in cc)

    by_value : (k : ℕ) (r : Option ℕ) → value_of k (map_at s root) ≡ r → value_of k (map_at s root) ≡ value_of k (entries_in t)
    by_value k None e = e ∙ none k (value_of k (entries_in t)) refl (has_key-none k (map_at s root) e)
    by_value k (Some v) e =
        let u = map_at-value s root k v e in
        let z : kind s u.0 ≢ 2 = (is_key_at-from root (words_at s u.0) u.1.picked).1 in
        let there : value_of (key s u.0) (entries_in t) ≡ Some (value s u.0) =
        leaf_value s root t g.stands g.ordered u.0 (only_in s root t g u.0 u.1.node u.1.own) z in
        e ∙ ap Some (sym u.1.value_is) ∙ sym there ∙ ap (λ j. value_of j (entries_in t)) u.1.key_is

-- and is empty where there is no tree
pub map_at-empty : (s : State) (root : ℕ) → IsTree s root None → map_at s root ≡ []
map_at-empty s root q =
    same_maps (map_at s root) [] (IsMap-map_among (is_key_at root) _) tt (λ k. by_value k (value_of k (map_at s root)) refl)
  where
    by_value : (k : ℕ) (r : Option ℕ) → value_of k (map_at s root) ≡ r → value_of k (map_at s root) ≡ None
    by_value k None e = e
    by_value k (Some v) e = let u = map_at-value s root k v e in absurd (q.1 u.0 u.1.node u.1.own)

-- The map of the tree's name in the catalogue.
pub map_of-root : (s : State) (root : ℕ) → 170 ≤ root → root < 180 → map_of (name_of root) (catalogue_of s) ≡ map_at s root
map_of-root s root lo lt =
    map_of-catalogue_of s (name_of root) (name_bound root lt) ∙ map_in-alone s root (inr lo)

pub map_of-tree : (s : State) (root : ℕ) (t : Tree) → 170 ≤ root → root < 180 → HoldsTree s root t → map_of (name_of root) (catalogue_of s) ≡ entries_in t
map_of-tree s root t lo lt g = map_of-root s root lo lt ∙ map_at-tree s root t g

pub map_of-empty : (s : State) (root : ℕ) → 170 ≤ root → root < 180 → IsTree s root None → map_of (name_of root) (catalogue_of s) ≡ []
map_of-empty s root lo lt q = map_of-root s root lo lt ∙ map_at-empty s root q
