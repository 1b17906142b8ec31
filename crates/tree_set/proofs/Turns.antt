-- The last turn of a path to a leaf: the leaf's parent, and the tree beside the leaf.
use Rattle.std.proofs.Common.{◌≡◌, ◌≢◌, ℕ, ◌⊎◌, inl, inr, Bool, cond, eq-eqb, ne_eqb, [], ◌∷◌, ◌++◌, refl, sym, ap, ◌∙◌, subst, append_assoc}
use Rattle.std.proofs.lemmas.Bool.{cases_lt}
use Rattle.mv_history.specs.State.{State}
use Rattle.set_model.specs.Catalogue.{Map, take_out}
use Rattle.set_model.specs.Objects.{link, right_link}
use Rattle.set_model.specs.Trees.{Tree, top, objects_in, IsDistinct, entries_in, IsOrdered, Stands, seek}
use Rattle.set_model.specs.Trees.Tree.{leaf, inner}
use Rattle.set_model.proofs.ObjectWords.{word}
use Rattle.set_model.proofs.MapParts.{IsUnderKey, under_higher, take_out-behind}
use Rattle.section_work.proofs.Objects.{IsIn, in_left, in_right, in_either}
use Rattle.set_model.proofs.TreeShape.{not_in, distinct_left, distinct_right, distinct_apart, top_in, seek_left}
use Rattle.set_model.proofs.TreeShape.{seek_right}
use Rattle.set_model.proofs.TreeMaps.{below_entries}
use Rattle.tree_set.specs.Paths.{PathStep, Path, plug, node_of, parent_of, grand_of, Follows}
use Rattle.tree_set.specs.Paths.PathStep.{left, right}
use Rattle.tree_set.specs.Places.{sibling}
use Rattle.tree_set.proofs.Plugging.{IsWithin}

-- the tree on the side that is not taken
abbrev pub beside : PathStep → Tree
beside (left n d b) = b
beside (right n d a) = a

-- a path that isn't empty has a last turn
pub last_turn : (p : PathStep) (ps : Path) → (qs : Path) × (q : PathStep) × (p ∷ ps ≡ qs ++ q ∷ [])
last_turn p [] = ([], p, refl)
last_turn p (t ∷ ps) = let r = last_turn t ps in (p ∷ r.0, r.1, ap (λ (u : Path). p ∷ u) r.2)

pub plug_last : (ps : Path) (q : PathStep) (u : Tree) → plug (ps ++ q ∷ []) u ≡ plug ps (plug (q ∷ []) u)
plug_last [] q u = refl
plug_last (left n d b ∷ ps) q u = ap (λ (t : Tree). inner n d t b) (plug_last ps q u)
plug_last (right n d a ∷ ps) q u = ap (λ (t : Tree). inner n d a t) (plug_last ps q u)

pub parent_last : (parent : ℕ) (ps : Path) (q : PathStep) → parent_of parent (ps ++ q ∷ []) ≡ node_of q
parent_last parent [] q = refl
parent_last parent (p ∷ ps) q = parent_last (node_of p) ps q

pub grand_last : (grand parent : ℕ) (ps : Path) (q : PathStep) → grand_of grand parent (ps ++ q ∷ []) ≡ parent_of parent ps
grand_last grand parent [] q = refl
grand_last grand parent (p ∷ ps) q = grand_last parent (node_of p) ps q

pub follows_front : (k : ℕ) (ps qs : Path) → Follows k (ps ++ qs) → Follows k ps
follows_front k [] qs f = tt
follows_front k (left n d b ∷ ps) qs f = (f.0, follows_front k ps qs f.1)
follows_front k (right n d a ∷ ps) qs f = (f.0, follows_front k ps qs f.1)

pub follows_back : (k : ℕ) (ps qs : Path) → Follows k (ps ++ qs) → Follows k qs
follows_back k [] qs f = f
follows_back k (left n d b ∷ ps) qs f = follows_back k ps qs f.1
follows_back k (right n d a ∷ ps) qs f = follows_back k ps qs f.1

pub top_turn : (q : PathStep) (u : Tree) → top (plug (q ∷ []) u) ≡ node_of q
top_turn (left n d b) u = refl
top_turn (right n d a) u = refl

-- What stands beside the leaf is a part of the tree under the turn.
pub beside_in : (q : PathStep) (u : Tree) (o : ℕ) → IsIn o (objects_in (beside q)) → IsIn o (objects_in (plug (q ∷ []) u))
beside_in (left n d b) u o i = inr (in_right (objects_in u) (objects_in b) o i)
beside_in (right n d a) u o i = inr (in_left (objects_in a) (objects_in u) o i)

pub turn_in : (q : PathStep) (u : Tree) → IsIn (node_of q) (objects_in (plug (q ∷ []) u))
turn_in (left n d b) u = inl refl
turn_in (right n d a) u = inl refl

pub leaf_in : (q : PathStep) (l k x : ℕ) → IsIn l (objects_in (plug (q ∷ []) (leaf l k x)))
leaf_in (left n d b) l k x = inr (inl refl)
leaf_in (right n d a) l k x = inr (in_right (objects_in a) (l ∷ []) l (inl refl))

pub in_turn : (q : PathStep) (l k x o : ℕ) → IsIn o (objects_in (plug (q ∷ []) (leaf l k x))) → (o ≡ node_of q) ⊎ ((o ≡ l) ⊎ IsIn o (objects_in (beside q)))
in_turn (left n d b) l k x o (inl e) = inl e
in_turn (left n d b) l k x o (inr (inl e)) = inr (inl e)
in_turn (left n d b) l k x o (inr (inr i)) = inr (inr i)
in_turn (right n d a) l k x o (inl e) = inl e
in_turn (right n d a) l k x o (inr i) = elim (in_either (objects_in a) (l ∷ []) o i) [
  | inl j ↦ inr (inr j)
  | inr (inl e) ↦ inr (inl e)
  | inr (inr e) ↦ absurd e
]

pub beside_not_turn : (q : PathStep) (u : Tree) → IsDistinct (objects_in (plug (q ∷ []) u)) → (o : ℕ) → IsIn o (objects_in (beside q)) → o ≢ node_of q
beside_not_turn (left n d b) u dis o i e =
    not_in n (objects_in u ++ objects_in b) dis.0 (in_right (objects_in u) (objects_in b) n (subst (λ (x : ℕ). IsIn x (objects_in b)) e i))
beside_not_turn (right n d a) u dis o i e =
    not_in n (objects_in a ++ objects_in u) dis.0 (in_left (objects_in a) (objects_in u) n (subst (λ (x : ℕ). IsIn x (objects_in a)) e i))

pub beside_not_leaf : (q : PathStep) (l k x : ℕ) → IsDistinct (objects_in (plug (q ∷ []) (leaf l k x))) → (o : ℕ) → IsIn o (objects_in (beside q)) → o ≢ l
beside_not_leaf (left n d b) l k x dis o i e = distinct_apart (l ∷ []) (objects_in b) dis.1 o (inl e) i
beside_not_leaf (right n d a) l k x dis o i e = distinct_apart (objects_in a) (l ∷ []) dis.1 o i (inl e)

pub leaf_not_turn : (q : PathStep) (l k x : ℕ) → IsDistinct (objects_in (plug (q ∷ []) (leaf l k x))) → l ≢ node_of q
leaf_not_turn (left n d b) l k x dis e = not_in n (l ∷ objects_in b) dis.0 (inl (sym e))
leaf_not_turn (right n d a) l k x dis e =
    not_in n (objects_in a ++ l ∷ []) dis.0 (in_right (objects_in a) (l ∷ []) n (inl (sym e)))

pub beside_distinct : (q : PathStep) (u : Tree) → IsDistinct (objects_in (plug (q ∷ []) u)) → IsDistinct (objects_in (beside q))
beside_distinct (left n d b) u dis = distinct_right (objects_in u) (objects_in b) dis.1
beside_distinct (right n d a) u dis = distinct_left (objects_in a) (objects_in u) dis.1

pub beside_stands : (s : State) (root : ℕ) (q : PathStep) (u : Tree) → Stands s root (plug (q ∷ []) u) → Stands s root (beside q)
beside_stands s root (left n d b) u l = l.4
beside_stands s root (right n d a) u l = l.3

pub beside_ordered : (q : PathStep) (u : Tree) → IsOrdered (plug (q ∷ []) u) → IsOrdered (beside q)
beside_ordered (left n d b) u o = o.3
beside_ordered (right n d a) u o = o.2

pub beside_within : (ps : Path) (q : PathStep) (u : Tree) → IsWithin ps (plug (q ∷ []) u) → IsWithin ps (beside q)
beside_within [] q u w = tt
beside_within (left n d b ∷ ps) (left m e c) u w = (w.0.1, beside_within ps (left m e c) u w.1)
beside_within (left n d b ∷ ps) (right m e c) u w = (w.0.0, beside_within ps (right m e c) u w.1)
beside_within (right n d b ∷ ps) (left m e c) u w = (w.0.1, beside_within ps (left m e c) u w.1)
beside_within (right n d b ∷ ps) (right m e c) u w = (w.0.0, beside_within ps (right m e c) u w.1)

-- the sibling of the leaf, by the words of its parent
pub sibling_is : (s : State) (root : ℕ) (q : PathStep) (l k x : ℕ) → Stands s root (plug (q ∷ []) (leaf l k x))
    → IsDistinct (objects_in (plug (q ∷ []) (leaf l k x))) → sibling s (node_of q) l ≡ top (beside q)
sibling_is s root (left n d b) l k x st dis =
    ap (λ (c : Bool). cond c (right_link s n) (link s n)) (eq-eqb (link s n) l (ap (word 3) st.2)) ∙ ap (word 4) st.2
sibling_is s root (right n d a) l k x st dis =
    let ne : link s n ≢ l = λ e. beside_not_leaf (right n d a) l k x dis (top a) (top_in a) (sym (ap (word 3) st.2) ∙ e) in
    ap (λ (c : Bool). cond c (right_link s n) (link s n)) (ne_eqb (link s n) l ne) ∙ ap (word 3) st.2

-- a search under the turn ends at the leaf or beside it
pub seek_turn : (i : ℕ) (q : PathStep) (l k x : ℕ) → (seek i (plug (q ∷ []) (leaf l k x)) ≡ l) ⊎ (seek i (plug (q ∷ []) (leaf l k x)) ≡ seek i (beside q))
seek_turn i (left n d b) l k x = elim (cases_lt i d) [
  | inl lt ↦ inl (seek_left i n d (leaf l k x) b lt)
  | inr le ↦ inr (seek_right i n d (leaf l k x) b le)
]
seek_turn i (right n d a) l k x = elim (cases_lt i d) [
  | inl lt ↦ inr (seek_left i n d a (leaf l k x) lt)
  | inr le ↦ inl (seek_right i n d a (leaf l k x) le)
]

-- the entries without that of the leaf
take_first : (k x : ℕ) (m : Map) → take_out k ((k, x) ∷ m) ≡ m
take_first k x m = ap (λ (c : Bool). cond c m ((k, x) ∷ take_out k m)) (eq-eqb k k refl)

pub entries_turn : (q : PathStep) (l k x : ℕ) (m : Map) → IsOrdered (plug (q ∷ []) (leaf l k x)) → Follows k (q ∷ [])
    → take_out k (entries_in (plug (q ∷ []) (leaf l k x)) ++ m) ≡ entries_in (beside q) ++ m
entries_turn (left n d b) l k x m o f = take_first k x (entries_in b ++ m)
entries_turn (right n d a) l k x m o f =
    let under : IsUnderKey k (entries_in a) = under_higher d k (entries_in a) f.0 (below_entries d a o.0) in
    ap (take_out k) (append_assoc (entries_in a) ((k, x) ∷ []) m) ∙ take_out-behind k (entries_in a) ((k, x) ∷ m) under
    ∙ ap (λ (e : Map). entries_in a ++ e) (take_first k x m)
