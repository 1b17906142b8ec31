-- That one tree at most stands at a root: its words determine it.
use Rattle.std.specs.Prelude.{◌≡◌, ℕ, suc, ◌≤◌, true, slice_index_or, refl, List, [], ◌∷◌, Option, Some, None}
use Rattle.std.proofs.Common.{sym, ap, ◌∙◌, arith}
use Rattle.std.proofs.Props.{props}
use mathlib.Core.HLevel.{Σ_prop_path}
use Rattle.mv_history.specs.State.{State}
use Rattle.mv_history.specs.Meaning.{words_at}
use Rattle.set_model.specs.Objects.{first_node, owner, rank, head_words, leaf_words, inner_words}
use Rattle.set_model.specs.Trees.{Tree, top, objects_in, is_in, IsDistinct, AllBelow, AllFrom, IsOrdered, Stands, HoldsTree, IsTree, seek, EndsAt}
use Rattle.set_model.specs.Trees.Tree.{leaf, inner}

-- what is at the top is a node
pub top_is_node : (s : State) (root : ℕ) (t : Tree) → Stands s root t → first_node ≤ top t
top_is_node s root (leaf n k v) l = l.0
top_is_node s root (inner n d a b) l = l.0

-- trees that stand at the same object are the same
pub stands_once : (s : State) (root : ℕ) (t u : Tree) → Stands s root t → Stands s root u → top t ≡ top u → t ≡ u
stands_once s root (leaf n k v) (leaf m j w) l q e =
    let f : leaf_words root k v ≡ leaf_words root j w = sym l.2 ∙ ap (words_at s) e ∙ q.2 in
    let a : k ≡ j = ap (λ x. slice_index_or x 2 0) f in
    let b : v ≡ w = ap (λ x. slice_index_or x 5 0) f in
    λ i. leaf (e i) (a i) (b i)
stands_once s root (leaf n k v) (inner m d a b) l q e =
    let f : leaf_words root k v ≡ inner_words root d (top a) (top b) (rank s m) = sym l.2 ∙ ap (words_at s) e ∙ q.2 in
    let kinds : ◌≡◌ {A = ℕ} 1 2 = ap (λ x. slice_index_or x 1 0) f in
    absurd (omega arith)
stands_once s root (inner m d a b) (leaf n k v) l q e =
    let f : inner_words root d (top a) (top b) (rank s m) ≡ leaf_words root k v = sym l.2 ∙ ap (words_at s) e ∙ q.2 in
    let kinds : ◌≡◌ {A = ℕ} 2 1 = ap (λ x. slice_index_or x 1 0) f in
    absurd (omega arith)
stands_once s root (inner n d a b) (inner m c x y) l q e =
    let f : inner_words root d (top a) (top b) (rank s n) ≡ inner_words root c (top x) (top y) (rank s m) = sym l.2 ∙ ap (words_at s) e ∙ q.2 in
    let keys : d ≡ c = ap (λ w. slice_index_or w 2 0) f in
    let lefts : top a ≡ top x = ap (λ w. slice_index_or w 3 0) f in
    let rights : top b ≡ top y = ap (λ w. slice_index_or w 4 0) f in
    let p : a ≡ x = stands_once s root a x l.3 q.3 lefts in
    let r : b ≡ y = stands_once s root b y l.4 q.4 rights in
    λ i. inner (e i) (keys i) (p i) (r i)

pub grown_once : (s : State) (root : ℕ) (t u : Tree) → HoldsTree s root t → HoldsTree s root u → t ≡ u
grown_once s root t u l q = stands_once s root t u l.stands q.stands (ap (λ w. slice_index_or w 3 0) (sym l.first ∙ q.first))

pub tree_once : (s : State) (root : ℕ) (t u : Option Tree) → IsTree s root t → IsTree s root u → t ≡ u
tree_once s root None None l q = refl
tree_once s root None (Some u) l q =
    let none : 0 ≡ top u = ap (λ w. slice_index_or w 3 0) (sym l.0 ∙ q.first) in
    let node : 180 ≤ top u = top_is_node s root u q.stands in
    absurd (omega arith)
tree_once s root (Some t) None l q =
    let none : top t ≡ 0 = ap (λ w. slice_index_or w 3 0) (sym l.first ∙ q.0) in
    let node : 180 ≤ top t = top_is_node s root t l.stands in
    absurd (omega arith)
tree_once s root (Some t) (Some u) l q = ap Some (grown_once s root t u l q)

Stands-prop : (s : State) (root : ℕ) (t : Tree) → IsProp (Stands s root t)
Stands-prop s root (leaf n k v) = hlevel props
Stands-prop s root (inner n d a b) = hlevel (props, Stands-prop s root a, Stands-prop s root b)

AllBelow-prop : (d : ℕ) (t : Tree) → IsProp (AllBelow d t)
AllBelow-prop d (leaf n k v) = hlevel props
AllBelow-prop d (inner n e a b) = hlevel (AllBelow-prop d a, AllBelow-prop d b)

AllFrom-prop : (d : ℕ) (t : Tree) → IsProp (AllFrom d t)
AllFrom-prop d (leaf n k v) = hlevel props
AllFrom-prop d (inner n e a b) = hlevel (AllFrom-prop d a, AllFrom-prop d b)

IsOrdered-prop : (t : Tree) → IsProp (IsOrdered t)
IsOrdered-prop (leaf n k v) = hlevel props
IsOrdered-prop (inner n d a b) = hlevel (AllBelow-prop d a, AllFrom-prop d b, IsOrdered-prop a, IsOrdered-prop b)

IsDistinct-prop : (os : List ℕ) → IsProp (IsDistinct os)
IsDistinct-prop [] = hlevel props
IsDistinct-prop (o ∷ os) = hlevel (props, IsDistinct-prop os)

HoldsTree-prop : (s : State) (root : ℕ) (t : Tree) → IsProp (HoldsTree s root t)
HoldsTree-prop s root t x y =
    let first_prop : IsProp (words_at s root ≡ head_words (top t)) = hlevel props in
    let only_prop : IsProp ((o : ℕ) → first_node ≤ o → owner s o ≡ suc root → is_in o (objects_in t) ≡ true) = hlevel props in
    λ i. record {
      first = first_prop x.first y.first i;
      stands = Stands-prop s root t x.stands y.stands i;
      ordered = IsOrdered-prop t x.ordered y.ordered i;
      distinct = IsDistinct-prop (objects_in t) x.distinct y.distinct i;
      only = only_prop x.only y.only i;
    }

pub IsTree-prop : (s : State) (root : ℕ) (t : Option Tree) → IsProp (IsTree s root t)
IsTree-prop s root None = hlevel props
IsTree-prop s root (Some t) = HoldsTree-prop s root t

-- a root has one tree, or none
pub one_tree : (s : State) (root : ℕ) → IsProp ((t : Option Tree) × IsTree s root t)
one_tree s root x y = Σ_prop_path (λ t. IsTree-prop s root t) (tree_once s root x.0 y.0 x.1 y.1)

-- the same in pairs
EndsAtPair : State → ℕ → ℕ → ℕ → Type 0
EndsAtPair s root k l = (t : Tree) × (HoldsTree s root t × (seek k t ≡ l))

pub EndsAt-prop : (s : State) (root k l : ℕ) → IsProp (EndsAt s root k l)
unfolding EndsAtPair
EndsAt-prop s root k l x y =
    let ends : (t : Tree) → IsProp (seek k t ≡ l) = λ t. hlevel props in
    let whole : (t : Tree) → IsProp (HoldsTree s root t × (seek k t ≡ l)) = λ t. hlevel (HoldsTree-prop s root t, ends t) in
    let u : EndsAtPair s root k l = (x.0, (x.1, x.2)) in
    let v : EndsAtPair s root k l = (y.0, (y.1, y.2)) in
    let e : u ≡ v = Σ_prop_path whole (grown_once s root x.0 y.0 x.1 y.1) in
    λ i. ((e i).0, (e i).1.0, (e i).1.1)
