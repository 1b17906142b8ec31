-- Where a search ends that ended at a leaf, once the leaf is cut out of its tree: where another key's search ended before.
use Rattle.tree_set.specs.Paths.PathStep.{left, right}
use Rattle.std.proofs.Common.{◌≡◌, ◌-◌, ◌<◌, ◌≤◌, ◌⊎◌, ◌∷◌, ◌++◌, ℕ, suc, inl, inr, [], refl, sym, ap, ◌∙◌, subst, arith}
use Rattle.set_blocks.proofs.Terms.{State, words_at, Tree, top, objects_in, IsDistinct, AllBelow, AllFrom, IsOrdered, Stands, seek, leaf, inner, word, IsIn}
use Rattle.set_blocks.proofs.Terms.{seek_in, seek_left, seek_right, top_in, PathStep, Path, plug, node_of, Follows, around, plug_in, plug_apart, ordered_part}
use Rattle.set_blocks.proofs.Terms.{ordered_within, IsWithin, seek_plug, seek_beside, beside, plug_last, follows_front, follows_back, beside_not_leaf}

-- a search that ends at the leaf takes the path to it
pub follows_end : (ps : Path) (l j x i : ℕ) → IsDistinct (objects_in (plug ps (leaf l j x))) → seek i (plug ps (leaf l j x)) ≡ l → Follows i ps
follows_end ps l j x i dis e = elim (seek_beside i ps (leaf l j x) (leaf (suc l) j x)) [
  | inl f ↦ f
  | inr q ↦ absurd (elsewhere (plug_in ps (leaf (suc l) j x) l
      (subst (λ (o : ℕ). IsIn o (objects_in (plug ps (leaf (suc l) j x)))) (sym q ∙ e) (seek_in i (plug ps (leaf (suc l) j x))))))
]
  where
    elsewhere : IsIn l (around ps) ⊎ IsIn l (suc l ∷ []) → ⊥
    elsewhere (inl i) = plug_apart ps (leaf l j x) dis l i (inl refl)
    elsewhere (inr (inl q)) = omega arith
    elsewhere (inr (inr q)) = q

-- keys of a tree lie between its bounds
between : (d e : ℕ) (t : Tree) → AllFrom d t → AllBelow e t → d < e
between d e (leaf n k v) from below = omega arith
between d e (inner n j a b) from below = between d e a from.0 below.0

-- all keys up to the least lead to one leaf, and all from the greatest on to one
pub seek_low : (d i j : ℕ) (t : Tree) → IsOrdered t → AllFrom d t → i ≤ d → j ≤ d → seek i t ≡ seek j t
seek_low d i j (leaf n k v) o from a b = refl
seek_low d i j (inner n e s t) o from a b =
    let lt : d < e = between d e s from.0 o.0 in
    seek_left i n e s t (omega arith) ∙ seek_low d i j s o.2 from.0 a b ∙ sym (seek_left j n e s t (omega arith))

pub seek_high : (d i j : ℕ) (t : Tree) → IsOrdered t → AllBelow d t → d ≤ suc i → d ≤ suc j → seek i t ≡ seek j t
seek_high d i j (leaf n k v) o below a b = refl
seek_high d i j (inner n e s t) o below a b =
    let lt : e < d = between e d t o.1 below.1 in
    seek_right i n e s t (omega arith) ∙ seek_high d i j t o.3 below.1 a b ∙ sym (seek_right j n e s t (omega arith))

-- a key that lies between the bounds wherever a part does takes the path to the part
follows_within : (i : ℕ) (ps : Path) (u : Tree) → ((e : ℕ) → AllBelow e u → i < e) → ((e : ℕ) → AllFrom e u → e ≤ i) → IsWithin ps u → Follows i ps
follows_within i [] u below from w = tt
follows_within i (left n d b ∷ ps) u below from w = (below d w.0, follows_within i ps u below from w.1)
follows_within i (right n d a ∷ ps) u below from w = (from d w.0, follows_within i ps u below from w.1)

-- the key next to the leaf's side of its turn, on the other side
abbrev pub partner : PathStep → ℕ
partner (left n d b) = d
partner (right n d a) = d - 1

-- Where a search that ended at the leaf ends without it, the search for the key on the other side ended with it.
pub partner_ends : (ps : Path) (q : PathStep) (l k x i : ℕ) → IsOrdered (plug ps (plug (q ∷ []) (leaf l k x)))
    → IsDistinct (objects_in (plug ps (plug (q ∷ []) (leaf l k x)))) → Follows k (q ∷ []) → seek i (plug ps (plug (q ∷ []) (leaf l k x))) ≡ l
    → seek (partner q) (plug ps (plug (q ∷ []) (leaf l k x))) ≡ seek i (plug ps (beside q))
partner_ends ps (left n d b) l k x i o dis turns e =
    let whole : plug (ps ++ left n d b ∷ []) (leaf l k x) ≡ plug ps (inner n d (leaf l k x) b) = plug_last ps (left n d b) (leaf l k x) in
    let f : Follows i (ps ++ left n d b ∷ []) = follows_end (ps ++ left n d b ∷ []) l k x i
    (subst (λ (t : Tree). IsDistinct (objects_in t)) (sym whole) dis) (ap (seek i) whole ∙ e) in
    let part : IsOrdered (inner n d (leaf l k x) b) = ordered_part ps (inner n d (leaf l k x) b) o in
    let lt : k < d = turns.0 in
    let fd : Follows d ps = follows_within d ps (inner n d (leaf l k x) b) (λ g w. between d g b part.1 w.1)
    (λ g w. (let a : g ≤ k = w.0 in omega arith)) (ordered_within ps (inner n d (leaf l k x) b) o) in
    let side : i < d = (follows_back i ps (left n d b ∷ []) f).0 in
    seek_plug d ps (inner n d (leaf l k x) b) fd ∙ seek_right d n d (leaf l k x) b (omega arith)
    ∙ seek_low d d i b part.3 part.1 (omega arith) (omega arith) ∙ sym (seek_plug i ps b (follows_front i ps (left n d b ∷ []) f))
partner_ends ps (right n d a) l k x i o dis turns e =
    let whole : plug (ps ++ right n d a ∷ []) (leaf l k x) ≡ plug ps (inner n d a (leaf l k x)) = plug_last ps (right n d a) (leaf l k x) in
    let f : Follows i (ps ++ right n d a ∷ []) = follows_end (ps ++ right n d a ∷ []) l k x i
    (subst (λ (t : Tree). IsDistinct (objects_in t)) (sym whole) dis) (ap (seek i) whole ∙ e) in
    let part : IsOrdered (inner n d a (leaf l k x)) = ordered_part ps (inner n d a (leaf l k x)) o in
    let le : d ≤ k = turns.0 in
    let some : 0 < d = between 0 d a (all_from a) part.0 in
    let fd : Follows (d - 1) ps = follows_within (d - 1) ps (inner n d a (leaf l k x)) (λ g w. (let b : k < g = w.1 in omega arith))
    (λ g w. (let b : g < d = between g d a w.0 part.0 in omega arith)) (ordered_within ps (inner n d a (leaf l k x)) o) in
    let side : d ≤ i = (follows_back i ps (right n d a ∷ []) f).0 in
    seek_plug (d - 1) ps (inner n d a (leaf l k x)) fd ∙ seek_left (d - 1) n d a (leaf l k x) (omega arith)
    ∙ seek_high d (d - 1) i a part.2 part.0 (omega arith) (omega arith) ∙ sym (seek_plug i ps a (follows_front i ps (right n d a ∷ []) f))
  where
    all_from : (t : Tree) → AllFrom 0 t
    all_from (leaf m j v) = omega arith
    all_from (inner m j s t) = (all_from s, all_from t)

-- The turn at a parent with the same words is to the same side, at the same key.
pub partner_same : (z u : State) (root p l k x y : ℕ) (q r : PathStep) → Stands z root (plug (q ∷ []) (leaf l k x)) → Stands u root (plug (r ∷ []) (leaf l k y))
    → IsDistinct (objects_in (plug (q ∷ []) (leaf l k x))) → IsDistinct (objects_in (plug (r ∷ []) (leaf l k y))) → node_of q ≡ p → node_of r ≡ p
    → words_at u p ≡ words_at z p → partner r ≡ partner q
partner_same z u root p l k x y (left n d b) (left m c t) st su dz du e f same =
    ap (word 2) (sym (su.2) ∙ ap (words_at u) f ∙ same ∙ ap (words_at z) (sym e) ∙ st.2)
partner_same z u root p l k x y (right n d b) (right m c t) st su dz du e f same =
    ap (λ (i : ℕ). i - 1) (ap (word 2) (sym (su.2) ∙ ap (words_at u) f ∙ same ∙ ap (words_at z) (sym e) ∙ st.2))
partner_same z u root p l k x y (left n d b) (right m c t) st su dz du e f same =
    absurd (beside_not_leaf (right m c t) l k y du (top t) (top_in t)
    (ap (word 3) (sym (su.2) ∙ ap (words_at u) f ∙ same ∙ ap (words_at z) (sym e) ∙ st.2)))
partner_same z u root p l k x y (right n d b) (left m c t) st su dz du e f same =
    absurd (beside_not_leaf (right n d b) l k x dz (top b) (top_in b)
    (sym (ap (word 3) (sym (su.2) ∙ ap (words_at u) f ∙ same ∙ ap (words_at z) (sym e) ∙ st.2))))
