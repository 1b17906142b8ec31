-- The objects of a tree, and the words at which they stand.
use Rattle.std.proofs.Common.{◌≡◌, ℕ, suc, ◌+◌, ◌*◌, ◌<◌, ◌≤◌, ◌⊎◌, inl, inr, Bool, true, false, cond, List, []}
use Rattle.std.proofs.Common.{◌∷◌, ◌++◌, length, refl, sym, ap, ◌∙◌, subst, arith, lt-ltb, le-ltb, length-append}
use Rattle.std.proofs.lemmas.Bool.{false_from_ne_true, cases_lt}
use Rattle.std.proofs.lemmas.Bool.Decides.{nat_tests}
use Rattle.mv_history.specs.State.{State}
use Rattle.mv_history.specs.Meaning.{words_at}
use Rattle.section_work.proofs.Objects.{IsIn, in_left, in_right, in_either}
use Rattle.set_model.specs.Objects.{owner, kind, link, right_link}
use Rattle.set_model.specs.Trees.{Tree, top, objects_in, is_in, IsDistinct, entries_in, Stands, HoldsTree, seek}
use Rattle.set_model.specs.Trees.Tree.{leaf, inner}
use Rattle.set_model.proofs.ObjectWords.{word, inner_kept}

pub IsIn-from : (o : ℕ) (ns : List ℕ) → is_in o ns ≡ true → IsIn o ns
IsIn-from o [] e = cc
IsIn-from o (n ∷ ns) e = grind (arith, nat_tests, IsIn-from o ns)

pub is_in-from : (o : ℕ) (ns : List ℕ) → IsIn o ns → is_in o ns ≡ true
is_in-from o [] i = absurd i
is_in-from o (n ∷ ns) (inl e) = grind (arith, nat_tests)
is_in-from o (n ∷ ns) (inr i) = let r = is_in-from o ns i in grind (arith, nat_tests)

pub not_in : (o : ℕ) (ns : List ℕ) → is_in o ns ≡ false → IsIn o ns → ⊥
not_in o ns e i = let t = is_in-from o ns i in absurd (cc)

pub is_in-none : (o : ℕ) (ns : List ℕ) → (IsIn o ns → ⊥) → is_in o ns ≡ false
is_in-none o ns f = false_from_ne_true (is_in o ns) (λ t. f (IsIn-from o ns t))

-- lists of objects one after another
pub distinct_left : (xs ys : List ℕ) → IsDistinct (xs ++ ys) → IsDistinct xs
distinct_left [] ys d = tt
distinct_left (x ∷ xs) ys d =
    (is_in-none x xs (λ i. not_in x (xs ++ ys) d.0 (in_left xs ys x i)), distinct_left xs ys d.1)

pub distinct_right : (xs ys : List ℕ) → IsDistinct (xs ++ ys) → IsDistinct ys
distinct_right [] ys d = d
distinct_right (x ∷ xs) ys d = distinct_right xs ys d.1

pub distinct_apart : (xs ys : List ℕ) → IsDistinct (xs ++ ys) → (o : ℕ) → IsIn o xs → IsIn o ys → ⊥
distinct_apart [] ys d o i j = i
distinct_apart (x ∷ xs) ys d o (inl e) j =
    not_in x (xs ++ ys) d.0 (in_right xs ys x (subst (λ (u : ℕ). IsIn u ys) e j))
distinct_apart (x ∷ xs) ys d o (inr i) j = distinct_apart xs ys d.1 o i j

pub distinct_join : (xs ys : List ℕ) → IsDistinct xs → IsDistinct ys → ((o : ℕ) → IsIn o xs → IsIn o ys → ⊥) → IsDistinct (xs ++ ys)
distinct_join [] ys p q f = q
distinct_join (x ∷ xs) ys p q f = (
  is_in-none x (xs ++ ys) (λ i. elim (in_either xs ys x i) [ inl j ↦ not_in x xs p.0 j | inr j ↦ f x (inl refl) j ]),
  distinct_join xs ys p.1 q (λ o i j. f o (inr i) j),
)

-- what stands at the top, and the leaf that a search finds, are objects of the tree
pub top_in : (t : Tree) → IsIn (top t) (objects_in t)
top_in (leaf n k v) = inl refl
top_in (inner n d a b) = inl refl

pub seek_left : (k n d : ℕ) (a b : Tree) → k < d → seek k (inner n d a b) ≡ seek k a
seek_left k n d a b lt = ap (λ (c : Bool). cond c (seek k a) (seek k b)) (lt-ltb k d lt)

pub seek_right : (k n d : ℕ) (a b : Tree) → d ≤ k → seek k (inner n d a b) ≡ seek k b
seek_right k n d a b le = ap (λ (c : Bool). cond c (seek k a) (seek k b)) (le-ltb k d le)

pub seek_in : (k : ℕ) (t : Tree) → IsIn (seek k t) (objects_in t)
seek_in k (leaf n j v) = inl refl
seek_in k (inner n d a b) = elim (cases_lt k d) [
  | inl lt ↦ subst (λ (o : ℕ). IsIn o (objects_in (inner n d a b))) (sym (seek_left k n d a b lt))
      (inr (in_left (objects_in a) (objects_in b) (seek k a) (seek_in k a)))
  | inr le ↦ subst (λ (o : ℕ). IsIn o (objects_in (inner n d a b))) (sym (seek_right k n d a b le))
      (inr (in_right (objects_in a) (objects_in b) (seek k b) (seek_in k b)))
]

-- the objects of a tree that stands are nodes, and name its root
pub Stands-node : (s : State) (root : ℕ) (t : Tree) → Stands s root t → (o : ℕ) → IsIn o (objects_in t) → 180 ≤ o
Stands-node s root (leaf n k v) l o (inl e) = let lo : 180 ≤ n = l.0 in omega arith
Stands-node s root (leaf n k v) l o (inr i) = absurd i
Stands-node s root (inner n d a b) l o (inl e) = let lo : 180 ≤ n = l.0 in omega arith
Stands-node s root (inner n d a b) l o (inr i) = elim (in_either (objects_in a) (objects_in b) o i) [
  | inl j ↦ Stands-node s root a l.3 o j
  | inr j ↦ Stands-node s root b l.4 o j
]

pub Stands-owner : (s : State) (root : ℕ) (t : Tree) → Stands s root t → (o : ℕ) → IsIn o (objects_in t) → owner s o ≡ suc root
Stands-owner s root (leaf n k v) l o (inl e) = ap (owner s) e ∙ ap (word 0) l.2
Stands-owner s root (leaf n k v) l o (inr i) = absurd i
Stands-owner s root (inner n d a b) l o (inl e) = ap (owner s) e ∙ ap (word 0) l.2
Stands-owner s root (inner n d a b) l o (inr i) = elim (in_either (objects_in a) (objects_in b) o i) [
  | inl j ↦ Stands-owner s root a l.3 o j
  | inr j ↦ Stands-owner s root b l.4 o j
]

-- a tree whose objects keep their words stands
pub Stands-same : (s s' : State) (root : ℕ) (t : Tree) → Stands s root t → ((o : ℕ) → IsIn o (objects_in t) → words_at s' o ≡ words_at s o) → Stands s' root t
Stands-same s s' root (leaf n k v) l f = (l.0, l.1, f n (inl refl) ∙ l.2)
Stands-same s s' root (inner n d a b) l f = (
  l.0,
  l.1,
  inner_kept s s' root d (top a) (top b) n (f n (inl refl)) l.2,
  Stands-same s s' root a l.3 (λ o i. f o (inr (in_left (objects_in a) (objects_in b) o i))),
  Stands-same s s' root b l.4 (λ o i. f o (inr (in_right (objects_in a) (objects_in b) o i))),
)

-- the objects that name the root are those of its tree
pub only_in : (s : State) (root : ℕ) (t : Tree) → HoldsTree s root t → (o : ℕ) → 180 ≤ o → owner s o ≡ suc root → IsIn o (objects_in t)
only_in s root t g o lo e = IsIn-from o (objects_in t) (g.only o lo e)

-- a child of an inner node of a tree is an object of it
pub child_in : (s : State) (root : ℕ) (t : Tree) → Stands s root t → (p : ℕ) → IsIn p (objects_in t) → kind s p ≡ 2 → (l : ℕ)
    → (link s p ≡ l) ⊎ (right_link s p ≡ l) → IsIn l (objects_in t)
child_in s root (leaf n k v) q p (inl e) z l c =
    let one : kind s p ≡ 1 = ap (kind s) e ∙ ap (word 1) q.2 in absurd (omega arith)
child_in s root (leaf n k v) q p (inr i) z l c = absurd i
child_in s root (inner n d a b) q p (inl e) z l (inl c) =
    let f : l ≡ top a = sym c ∙ ap (link s) e ∙ ap (word 3) q.2 in
    inr (in_left (objects_in a) (objects_in b) l (subst (λ (u : ℕ). IsIn u (objects_in a)) (sym f) (top_in a)))
child_in s root (inner n d a b) q p (inl e) z l (inr c) =
    let f : l ≡ top b = sym c ∙ ap (right_link s) e ∙ ap (word 4) q.2 in
    inr (in_right (objects_in a) (objects_in b) l (subst (λ (u : ℕ). IsIn u (objects_in b)) (sym f) (top_in b)))
child_in s root (inner n d a b) q p (inr i) z l c = elim (in_either (objects_in a) (objects_in b) p i) [
  | inl j ↦ inr (in_left (objects_in a) (objects_in b) l (child_in s root a q.3 p j z l c))
  | inr j ↦ inr (in_right (objects_in a) (objects_in b) l (child_in s root b q.4 p j z l c))
]

-- a tree has one inner node less than leaves
pub objects_count : (t : Tree) → length (objects_in t) + 1 ≡ 2 * length (entries_in t)
objects_count (leaf n k v) = omega arith
objects_count (inner n d a b) =
    let x = objects_count a in let y = objects_count b in
    let p = length-append (objects_in a) (objects_in b) in
    let q = length-append (entries_in a) (entries_in b) in omega arith
