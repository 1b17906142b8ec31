-- A tree with a part of it at the end of a path.
use Rattle.std.proofs.Common.{◌≡◌, ℕ, ◌⊎◌, inl, inr, [], ◌∷◌, ◌++◌, refl, sym, ap, ◌∙◌, subst, append_assoc}
use Rattle.std.proofs.lemmas.Bool.{cases_lt}
use Rattle.std.proofs.lemmas.List.{append-nil}
use Rattle.mv_history.specs.State.{State}
use Rattle.set_model.specs.Catalogue.{Map, IsAboveKey}
use Rattle.set_model.specs.Trees.{Tree, top, objects_in, IsDistinct, entries_in, AllBelow, AllFrom, IsOrdered, Stands, seek}
use Rattle.set_model.specs.Trees.Tree.{leaf, inner}
use Rattle.set_model.proofs.MapParts.{IsUnderKey, under_append, above_append, under_higher, from_above}
use Rattle.section_work.proofs.Objects.{IsIn, in_left, in_right, in_either}
use Rattle.set_model.proofs.TreeShape.{not_in, is_in-none, distinct_left, distinct_right, distinct_apart}
use Rattle.set_model.proofs.TreeShape.{distinct_join, seek_left, seek_right}
use Rattle.set_model.proofs.TreeMaps.{below_entries, from_entries}
use Rattle.tree_set.specs.Paths.{PathStep, Path, plug, node_of, parent_of, Follows, around, before, after}
use Rattle.tree_set.specs.Paths.PathStep.{left, right}

-- The objects of the tree are those of the part and those around it.
pub around_in : (ps : Path) (u : Tree) (o : ℕ) → IsIn o (around ps) → IsIn o (objects_in (plug ps u))
around_in [] u o i = absurd i
around_in (left n d b ∷ ps) u o (inl e) = inl e
around_in (left n d b ∷ ps) u o (inr i) = elim (in_either (around ps) (objects_in b) o i) [
  | inl j ↦ inr (in_left (objects_in (plug ps u)) (objects_in b) o (around_in ps u o j))
  | inr j ↦ inr (in_right (objects_in (plug ps u)) (objects_in b) o j)
]
around_in (right n d a ∷ ps) u o (inl e) = inl e
around_in (right n d a ∷ ps) u o (inr i) = elim (in_either (objects_in a) (around ps) o i) [
  | inl j ↦ inr (in_left (objects_in a) (objects_in (plug ps u)) o j)
  | inr j ↦ inr (in_right (objects_in a) (objects_in (plug ps u)) o (around_in ps u o j))
]

pub part_in : (ps : Path) (u : Tree) (o : ℕ) → IsIn o (objects_in u) → IsIn o (objects_in (plug ps u))
part_in [] u o i = i
part_in (left n d b ∷ ps) u o i = inr (in_left (objects_in (plug ps u)) (objects_in b) o (part_in ps u o i))
part_in (right n d a ∷ ps) u o i = inr (in_right (objects_in a) (objects_in (plug ps u)) o (part_in ps u o i))

pub plug_in : (ps : Path) (u : Tree) (o : ℕ) → IsIn o (objects_in (plug ps u)) → IsIn o (around ps) ⊎ IsIn o (objects_in u)
plug_in [] u o i = inr i
plug_in (left n d b ∷ ps) u o (inl e) = inl (inl e)
plug_in (left n d b ∷ ps) u o (inr i) = elim (in_either (objects_in (plug ps u)) (objects_in b) o i) [
  | inl j ↦ elim (plug_in ps u o j) [ inl k ↦ inl (inr (in_left (around ps) (objects_in b) o k)) | inr k ↦ inr k ]
  | inr j ↦ inl (inr (in_right (around ps) (objects_in b) o j))
]
plug_in (right n d a ∷ ps) u o (inl e) = inl (inl e)
plug_in (right n d a ∷ ps) u o (inr i) = elim (in_either (objects_in a) (objects_in (plug ps u)) o i) [
  | inl j ↦ inl (inr (in_left (objects_in a) (around ps) o j))
  | inr j ↦ elim (plug_in ps u o j) [ inl k ↦ inl (inr (in_right (objects_in a) (around ps) o k)) | inr k ↦ inr k ]
]

-- where no object is there twice, those around the part are none of the part's
pub plug_apart : (ps : Path) (u : Tree) → IsDistinct (objects_in (plug ps u)) → (o : ℕ) → IsIn o (around ps) → IsIn o (objects_in u) → ⊥
plug_apart [] u dis o i j = i
plug_apart (left n d b ∷ ps) u dis o (inl e) j =
    not_in n (objects_in (plug ps u) ++ objects_in b) dis.0
    (in_left (objects_in (plug ps u)) (objects_in b) n (subst (λ (x : ℕ). IsIn x (objects_in (plug ps u))) e (part_in ps u o j)))
plug_apart (left n d b ∷ ps) u dis o (inr i) j = elim (in_either (around ps) (objects_in b) o i) [
  | inl k ↦ plug_apart ps u (distinct_left (objects_in (plug ps u)) (objects_in b) dis.1) o k j
  | inr k ↦ distinct_apart (objects_in (plug ps u)) (objects_in b) dis.1 o (part_in ps u o j) k
]
plug_apart (right n d a ∷ ps) u dis o (inl e) j =
    not_in n (objects_in a ++ objects_in (plug ps u)) dis.0
    (in_right (objects_in a) (objects_in (plug ps u)) n (subst (λ (x : ℕ). IsIn x (objects_in (plug ps u))) e (part_in ps u o j)))
plug_apart (right n d a ∷ ps) u dis o (inr i) j = elim (in_either (objects_in a) (around ps) o i) [
  | inl k ↦ distinct_apart (objects_in a) (objects_in (plug ps u)) dis.1 o k (part_in ps u o j)
  | inr k ↦ plug_apart ps u (distinct_right (objects_in a) (objects_in (plug ps u)) dis.1) o k j
]

pub distinct_part : (ps : Path) (u : Tree) → IsDistinct (objects_in (plug ps u)) → IsDistinct (objects_in u)
distinct_part [] u dis = dis
distinct_part (left n d b ∷ ps) u dis = distinct_part ps u (distinct_left (objects_in (plug ps u)) (objects_in b) dis.1)
distinct_part (right n d a ∷ ps) u dis =
    distinct_part ps u (distinct_right (objects_in a) (objects_in (plug ps u)) dis.1)

-- another part of distinct objects that are not around it
pub distinct_plug : (ps : Path) (u v : Tree) → IsDistinct (objects_in (plug ps u)) → IsDistinct (objects_in v)
    → ((o : ℕ) → IsIn o (around ps) → IsIn o (objects_in v) → ⊥) → IsDistinct (objects_in (plug ps v))
distinct_plug [] u v dis new out = new
distinct_plug (left n d b ∷ ps) u v dis new out = (
  is_in-none n (objects_in (plug ps v) ++ objects_in b) (λ i. elim (in_either (objects_in (plug ps v)) (objects_in b) n i) [
    | inl j ↦ elim (plug_in ps v n j) [
      | inl k ↦ not_in n (objects_in (plug ps u) ++ objects_in b) dis.0 (in_left (objects_in (plug ps u)) (objects_in b) n (around_in ps u n k))
      | inr k ↦ out n (inl refl) k
    ]
    | inr j ↦ not_in n (objects_in (plug ps u) ++ objects_in b) dis.0 (in_right (objects_in (plug ps u)) (objects_in b) n j)
  ]),
  distinct_join (objects_in (plug ps v)) (objects_in b)
      (distinct_plug ps u v (distinct_left (objects_in (plug ps u)) (objects_in b) dis.1) new (λ o i j. out o (inr (in_left (around ps) (objects_in b) o i)) j))
      (distinct_right (objects_in (plug ps u)) (objects_in b) dis.1)
      (λ o i j. elim (plug_in ps v o i) [
        | inl k ↦ distinct_apart (objects_in (plug ps u)) (objects_in b) dis.1 o (around_in ps u o k) j
        | inr k ↦ out o (inr (in_right (around ps) (objects_in b) o j)) k
      ]),
)
distinct_plug (right n d a ∷ ps) u v dis new out = (
  is_in-none n (objects_in a ++ objects_in (plug ps v)) (λ i. elim (in_either (objects_in a) (objects_in (plug ps v)) n i) [
    | inl j ↦ not_in n (objects_in a ++ objects_in (plug ps u)) dis.0 (in_left (objects_in a) (objects_in (plug ps u)) n j)
    | inr j ↦ elim (plug_in ps v n j) [
      | inl k ↦ not_in n (objects_in a ++ objects_in (plug ps u)) dis.0 (in_right (objects_in a) (objects_in (plug ps u)) n (around_in ps u n k))
      | inr k ↦ out n (inl refl) k
    ]
  ]),
  distinct_join (objects_in a) (objects_in (plug ps v))
      (distinct_left (objects_in a) (objects_in (plug ps u)) dis.1)
      (distinct_plug ps u v (distinct_right (objects_in a) (objects_in (plug ps u)) dis.1) new
      (λ o i j. out o (inr (in_right (objects_in a) (around ps) o i)) j))
      (λ o i j. elim (plug_in ps v o j) [
        | inl k ↦ distinct_apart (objects_in a) (objects_in (plug ps u)) dis.1 o i (around_in ps u o k)
        | inr k ↦ out o (inr (in_left (objects_in a) (around ps) o i)) k
      ]),
)

pub stands_part : (s : State) (root : ℕ) (ps : Path) (u : Tree) → Stands s root (plug ps u) → Stands s root u
stands_part s root [] u q = q
stands_part s root (left n d b ∷ ps) u q = stands_part s root ps u q.3
stands_part s root (right n d a ∷ ps) u q = stands_part s root ps u q.4

pub ordered_part : (ps : Path) (u : Tree) → IsOrdered (plug ps u) → IsOrdered u
ordered_part [] u o = o
ordered_part (left n d b ∷ ps) u o = ordered_part ps u o.2
ordered_part (right n d a ∷ ps) u o = ordered_part ps u o.3

pub top_plug : (p : PathStep) (ps : Path) (u : Tree) → top (plug (p ∷ ps) u) ≡ node_of p
top_plug (left n d b) ps u = refl
top_plug (right n d a) ps u = refl

pub parent_in : (parent : ℕ) (p : PathStep) (ps : Path) → IsIn (parent_of parent (p ∷ ps)) (around (p ∷ ps))
parent_in parent (left n d b) [] = inl refl
parent_in parent (right n d a) [] = inl refl
parent_in parent (left n d b) (q ∷ ps) = inr (in_left (around (q ∷ ps)) (objects_in b) _ (parent_in n q ps))
parent_in parent (right n d a) (q ∷ ps) = inr (in_right (objects_in a) (around (q ∷ ps)) _ (parent_in n q ps))

-- the keys of the part are on the side of each turn where the part is
abbrev pub IsWithin : Path → Tree → Type 0
IsWithin [] u = Unit {0}
IsWithin (left n d b ∷ ps) u = AllBelow d u × IsWithin ps u
IsWithin (right n d a ∷ ps) u = AllFrom d u × IsWithin ps u

pub below_part : (d : ℕ) (ps : Path) (u : Tree) → AllBelow d (plug ps u) → AllBelow d u
below_part d [] u a = a
below_part d (left n e b ∷ ps) u a = below_part d ps u a.0
below_part d (right n e c ∷ ps) u a = below_part d ps u a.1

pub from_part : (d : ℕ) (ps : Path) (u : Tree) → AllFrom d (plug ps u) → AllFrom d u
from_part d [] u a = a
from_part d (left n e b ∷ ps) u a = from_part d ps u a.0
from_part d (right n e c ∷ ps) u a = from_part d ps u a.1

below_plug : (d : ℕ) (ps : Path) (u v : Tree) → AllBelow d (plug ps u) → AllBelow d v → AllBelow d (plug ps v)
below_plug d [] u v a new = new
below_plug d (left n e b ∷ ps) u v a new = (below_plug d ps u v a.0 new, a.1)
below_plug d (right n e c ∷ ps) u v a new = (a.0, below_plug d ps u v a.1 new)

from_plug : (d : ℕ) (ps : Path) (u v : Tree) → AllFrom d (plug ps u) → AllFrom d v → AllFrom d (plug ps v)
from_plug d [] u v a new = new
from_plug d (left n e b ∷ ps) u v a new = (from_plug d ps u v a.0 new, a.1)
from_plug d (right n e c ∷ ps) u v a new = (a.0, from_plug d ps u v a.1 new)

pub ordered_within : (ps : Path) (u : Tree) → IsOrdered (plug ps u) → IsWithin ps u
ordered_within [] u o = tt
ordered_within (left n d b ∷ ps) u o = (below_part d ps u o.0, ordered_within ps u o.2)
ordered_within (right n d a ∷ ps) u o = (from_part d ps u o.1, ordered_within ps u o.3)

pub ordered_plug : (ps : Path) (u v : Tree) → IsOrdered (plug ps u) → IsOrdered v → IsWithin ps v → IsOrdered (plug ps v)
ordered_plug [] u v o new w = new
ordered_plug (left n d b ∷ ps) u v o new w = (below_plug d ps u v o.0 w.0, o.1, ordered_plug ps u v o.2 new w.1, o.3)
ordered_plug (right n d a ∷ ps) u v o new w = (o.0, from_plug d ps u v o.1 w.0, o.2, ordered_plug ps u v o.3 new w.1)

-- The entries, from the left.
pub entries_plug : (ps : Path) (u : Tree) → entries_in (plug ps u) ≡ before ps ++ (entries_in u ++ after ps)
entries_plug [] u = sym (append-nil (entries_in u))
entries_plug (left n d b ∷ ps) u =
    ap (λ (m : Map). m ++ entries_in b) (entries_plug ps u) ∙ append_assoc (before ps) (entries_in u ++ after ps) (entries_in b)
    ∙ ap (λ (m : Map). before ps ++ m) (append_assoc (entries_in u) (after ps) (entries_in b))
entries_plug (right n d a ∷ ps) u =
    ap (λ (m : Map). entries_in a ++ m) (entries_plug ps u) ∙ sym (append_assoc (entries_in a) (before ps) (entries_in u ++ after ps))

pub before_under : (k : ℕ) (ps : Path) (u : Tree) → IsOrdered (plug ps u) → Follows k ps → IsUnderKey k (before ps)
before_under k [] u o f = tt
before_under k (left n d b ∷ ps) u o f = before_under k ps u o.2 f.1
before_under k (right n d a ∷ ps) u o f =
    under_append k (entries_in a) (before ps) (under_higher d k (entries_in a) f.0 (below_entries d a o.0)) (before_under k ps u o.3 f.1)

pub after_above : (k : ℕ) (ps : Path) (u : Tree) → IsOrdered (plug ps u) → Follows k ps → IsAboveKey k (after ps)
after_above k [] u o f = tt
after_above k (left n d b ∷ ps) u o f =
    above_append k (after ps) (entries_in b) (after_above k ps u o.2 f.1) (from_above k d (entries_in b) f.0 (from_entries d b o.1))
after_above k (right n d a ∷ ps) u o f = after_above k ps u o.3 f.1

-- A search along the path goes on in the part, and any other ends where it would for another part.
pub seek_plug : (k : ℕ) (ps : Path) (u : Tree) → Follows k ps → seek k (plug ps u) ≡ seek k u
seek_plug k [] u f = refl
seek_plug k (left n d b ∷ ps) u f = seek_left k n d (plug ps u) b f.0 ∙ seek_plug k ps u f.1
seek_plug k (right n d a ∷ ps) u f = seek_right k n d a (plug ps u) f.0 ∙ seek_plug k ps u f.1

pub seek_beside : (k : ℕ) (ps : Path) (u v : Tree) → Follows k ps ⊎ (seek k (plug ps u) ≡ seek k (plug ps v))
seek_beside k [] u v = inl tt
seek_beside k (left n d b ∷ ps) u v = elim (cases_lt k d) [
  | inl lt ↦ elim (seek_beside k ps u v) [
    | inl f ↦ inl (lt, f)
    | inr e ↦ inr (seek_left k n d (plug ps u) b lt ∙ e ∙ sym (seek_left k n d (plug ps v) b lt))
  ]
  | inr le ↦ inr (seek_right k n d (plug ps u) b le ∙ sym (seek_right k n d (plug ps v) b le))
]
seek_beside k (right n d a ∷ ps) u v = elim (cases_lt k d) [
  | inl lt ↦ inr (seek_left k n d a (plug ps u) lt ∙ sym (seek_left k n d a (plug ps v) lt))
  | inr le ↦ elim (seek_beside k ps u v) [
    | inl f ↦ inl (le, f)
    | inr e ↦ inr (seek_right k n d a (plug ps u) le ∙ e ∙ sym (seek_right k n d a (plug ps v) le))
  ]
]

-- each search takes a path to a leaf
pub path_to : (k : ℕ) (t : Tree) → (ps : Path) × (n : ℕ) × (j : ℕ) × (v : ℕ) × (t ≡ plug ps (leaf n j v)) × Follows k ps
path_to k (leaf n j v) = ([], n, j, v, refl, tt)
path_to k (inner n d a b) = elim (cases_lt k d) [
  | inl lt ↦ (let r = path_to k a in (left n d b ∷ r.0, r.1, r.2, r.3, ap (λ (t : Tree). inner n d t b) r.4, (lt, r.5)))
  | inr le ↦ (let r = path_to k b in (right n d a ∷ r.0, r.1, r.2, r.3, ap (λ (t : Tree). inner n d a t) r.4, (le, r.5)))
]
