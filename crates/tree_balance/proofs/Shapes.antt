-- A rotation of two inner nodes keeps the objects of a tree, its order, its entries and where each search ends.
use Rattle.std.proofs.Common.{◌≡◌, ◌≢◌, ℕ, ◌<◌, ◌≤◌, ◌⊎◌, inl, inr, List, ◌∷◌, ◌++◌, refl, sym, ◌∙◌, subst, append_assoc, arith}
use Rattle.std.proofs.lemmas.Bool.{cases_lt}
use Rattle.set_model.specs.Trees.{Tree, objects_in, IsDistinct, entries_in, AllBelow, AllFrom, IsOrdered, seek}
use Rattle.set_model.specs.Trees.Tree.{leaf, inner}
use Rattle.section_work.proofs.Objects.{IsIn, in_left, in_right, in_either}
use Rattle.set_model.proofs.TreeShape.{not_in, is_in-none, distinct_left, distinct_right, distinct_apart, distinct_join, seek_left, seek_right}

-- The second tree has the objects, the entries and the order of the first, and each search ends in it where it ended.
pub record IsReshaped (u v : Tree) : Type 0 where
  pub inside : (o : ℕ) → IsIn o (objects_in u) → IsIn o (objects_in v)
  pub back : (o : ℕ) → IsIn o (objects_in v) → IsIn o (objects_in u)
  pub distinct : IsDistinct (objects_in v)
  pub below : (x : ℕ) → AllBelow x u → AllBelow x v
  pub from : (x : ℕ) → AllFrom x u → AllFrom x v
  pub ordered : IsOrdered v
  pub seeks : (k : ℕ) → seek k v ≡ seek k u
  pub entries : entries_in v ≡ entries_in u

-- an object that is one of two, or in one of three lists
abbrev pub IsAmong : ℕ → ℕ → List ℕ → List ℕ → List ℕ → ℕ → Type 0
IsAmong p c xs ys zs o = (o ≡ p) ⊎ ((o ≡ c) ⊎ (IsIn o xs ⊎ (IsIn o ys ⊎ IsIn o zs)))

-- the two objects differ and are in none of the lists, and the lists share no object
pub record IsApart (p c : ℕ) (xs ys zs : List ℕ) : Type 0 where
  pub differ : p ≢ c
  pub first : IsIn p (xs ++ (ys ++ zs)) → ⊥
  pub second : IsIn c (xs ++ (ys ++ zs)) → ⊥
  pub lists : IsDistinct (xs ++ (ys ++ zs))

module _ (p c : ℕ) (xs ys zs : List ℕ) where
  low_among : (o : ℕ) → IsIn o (p ∷ ((c ∷ (xs ++ ys)) ++ zs)) → IsAmong p c xs ys zs o
  low_among o (inl e) = inl e
  low_among o (inr (inl e)) = inr (inl e)
  low_among o (inr (inr i)) = elim (in_either (xs ++ ys) zs o i) [
    | inl j ↦ elim (in_either xs ys o j) [ inl h ↦ inr (inr (inl h)) | inr h ↦ inr (inr (inr (inl h))) ]
    | inr j ↦ inr (inr (inr (inr j)))
  ]

  among_low : (o : ℕ) → IsAmong p c xs ys zs o → IsIn o (p ∷ ((c ∷ (xs ++ ys)) ++ zs))
  among_low o (inl e) = inl e
  among_low o (inr (inl e)) = inr (inl e)
  among_low o (inr (inr (inl i))) = inr (inr (in_left (xs ++ ys) zs o (in_left xs ys o i)))
  among_low o (inr (inr (inr (inl i)))) = inr (inr (in_left (xs ++ ys) zs o (in_right xs ys o i)))
  among_low o (inr (inr (inr (inr i)))) = inr (inr (in_right (xs ++ ys) zs o i))

  high_among : (o : ℕ) → IsIn o (c ∷ (xs ++ (p ∷ (ys ++ zs)))) → IsAmong p c xs ys zs o
  high_among o (inl e) = inr (inl e)
  high_among o (inr i) = elim (in_either xs (p ∷ (ys ++ zs)) o i) [
    | inl j ↦ inr (inr (inl j))
    | inr (inl e) ↦ inl e
    | inr (inr j) ↦ elim (in_either ys zs o j) [ inl h ↦ inr (inr (inr (inl h))) | inr h ↦ inr (inr (inr (inr h))) ]
  ]

  among_high : (o : ℕ) → IsAmong p c xs ys zs o → IsIn o (c ∷ (xs ++ (p ∷ (ys ++ zs))))
  among_high o (inl e) = inr (in_right xs (p ∷ (ys ++ zs)) o (inl e))
  among_high o (inr (inl e)) = inl e
  among_high o (inr (inr (inl i))) = inr (in_left xs (p ∷ (ys ++ zs)) o i)
  among_high o (inr (inr (inr (inl i)))) = inr (in_right xs (p ∷ (ys ++ zs)) o (inr (in_left ys zs o i)))
  among_high o (inr (inr (inr (inr i)))) = inr (in_right xs (p ∷ (ys ++ zs)) o (inr (in_right ys zs o i)))

  pub rest_low : (o : ℕ) → IsIn o (xs ++ (ys ++ zs)) → IsIn o (p ∷ ((c ∷ (xs ++ ys)) ++ zs))
  rest_low o i = inr (inr (subst (λ (l : List ℕ). IsIn o l) (sym (append_assoc xs ys zs)) i))

  pub rest_high : (o : ℕ) → IsIn o (xs ++ (ys ++ zs)) → IsIn o (c ∷ (xs ++ (p ∷ (ys ++ zs))))
  rest_high o i = elim (in_either xs (ys ++ zs) o i) [
    | inl j ↦ inr (in_left xs (p ∷ (ys ++ zs)) o j)
    | inr j ↦ inr (in_right xs (p ∷ (ys ++ zs)) o (inr j))
  ]

  pub low_apart : IsDistinct (p ∷ ((c ∷ (xs ++ ys)) ++ zs)) → IsApart p c xs ys zs
  low_apart d = record {
    differ = λ e. not_in p ((c ∷ (xs ++ ys)) ++ zs) d.0 (inl e);
    first = λ i. not_in p ((c ∷ (xs ++ ys)) ++ zs) d.0 (inr (subst (λ (l : List ℕ). IsIn p l) (sym (append_assoc xs ys zs)) i));
    second = λ i. not_in c ((xs ++ ys) ++ zs) rest.0 (subst (λ (l : List ℕ). IsIn c l) (sym (append_assoc xs ys zs)) i);
    lists = subst (λ (l : List ℕ). IsDistinct l) (append_assoc xs ys zs) rest.1;
  }
    where
      rest : IsDistinct (c ∷ ((xs ++ ys) ++ zs))
      rest = d.1

  apart_low : IsApart p c xs ys zs → IsDistinct (p ∷ ((c ∷ (xs ++ ys)) ++ zs))
  apart_low a = (
    is_in-none p ((c ∷ (xs ++ ys)) ++ zs) (λ i. elim i [ inl e ↦ a.differ e | inr j ↦ a.first (subst (λ (l : List ℕ). IsIn p l) (append_assoc xs ys zs) j) ]),
    (
      is_in-none c ((xs ++ ys) ++ zs) (λ i. a.second (subst (λ (l : List ℕ). IsIn c l) (append_assoc xs ys zs) i)),
      subst (λ (l : List ℕ). IsDistinct l) (sym (append_assoc xs ys zs)) a.lists,
    ),
  )

  pub high_apart : IsDistinct (c ∷ (xs ++ (p ∷ (ys ++ zs)))) → IsApart p c xs ys zs
  high_apart d = record {
    differ = λ e. out (in_right xs (p ∷ (ys ++ zs)) c (inl (sym e)));
    first = λ i. elim (in_either xs (ys ++ zs) p i) [
      | inl j ↦ distinct_apart xs (p ∷ (ys ++ zs)) d.1 p j (inl refl)
      | inr j ↦ not_in p (ys ++ zs) rest.0 j
    ];
    second = λ i. elim (in_either xs (ys ++ zs) c i) [
      | inl j ↦ out (in_left xs (p ∷ (ys ++ zs)) c j)
      | inr j ↦ out (in_right xs (p ∷ (ys ++ zs)) c (inr j))
    ];
    lists = distinct_join xs (ys ++ zs) (distinct_left xs (p ∷ (ys ++ zs)) d.1) rest.1 (λ o i j. distinct_apart xs (p ∷ (ys ++ zs)) d.1 o i (inr j));
  }
    where
      out : IsIn c (xs ++ (p ∷ (ys ++ zs))) → ⊥
      out = not_in c (xs ++ (p ∷ (ys ++ zs))) d.0

      rest : IsDistinct (p ∷ (ys ++ zs))
      rest = distinct_right xs (p ∷ (ys ++ zs)) d.1

  apart_high : IsApart p c xs ys zs → IsDistinct (c ∷ (xs ++ (p ∷ (ys ++ zs))))
  apart_high a = (
    is_in-none c (xs ++ (p ∷ (ys ++ zs))) (λ i. elim (in_either xs (p ∷ (ys ++ zs)) c i) [
      | inl j ↦ a.second (in_left xs (ys ++ zs) c j)
      | inr (inl e) ↦ a.differ (sym e)
      | inr (inr j) ↦ a.second (in_right xs (ys ++ zs) c j)
    ]),
    distinct_join xs (p ∷ (ys ++ zs)) (distinct_left xs (ys ++ zs) a.lists)
        (is_in-none p (ys ++ zs) (λ i. a.first (in_right xs (ys ++ zs) p i)), distinct_right xs (ys ++ zs) a.lists)
        (λ o i j. elim j [
          | inl e ↦ a.first (in_left xs (ys ++ zs) p (subst (λ (q : ℕ). IsIn q xs) e i))
          | inr h ↦ distinct_apart xs (ys ++ zs) a.lists o i h
        ]),
  )

-- keys that are below one number are below a larger one, and keys that are not below one are not below a smaller one
below_more : (d e : ℕ) (t : Tree) → d ≤ e → AllBelow d t → AllBelow e t
below_more d e (leaf n k v) le a = omega arith
below_more d e (inner n x a b) le w = (below_more d e a le w.0, below_more d e b le w.1)

from_less : (d e : ℕ) (t : Tree) → e ≤ d → AllFrom d t → AllFrom e t
from_less d e (leaf n k v) le a = omega arith
from_less d e (inner n x a b) le w = (from_less d e a le w.0, from_less d e b le w.1)

-- a tree has a key
between : (d e : ℕ) (t : Tree) → AllFrom e t → AllBelow d t → e < d
between d e (leaf n k v) f b = omega arith
between d e (inner n x a b) f w = between d e a f.0 w.0

module _ (p d c e : ℕ) (a b g : Tree) where
  low_high_seek : e < d → (k : ℕ) → seek k (inner c e a (inner p d b g)) ≡ seek k (inner p d (inner c e a b) g)
  low_high_seek lt k = go (cases_lt k e) (cases_lt k d)
    where
      go : (k < e) ⊎ (e ≤ k) → (k < d) ⊎ (d ≤ k) → seek k (inner c e a (inner p d b g)) ≡ seek k (inner p d (inner c e a b) g)
      go (inl x) (inl y) = seek_left k c e a (inner p d b g) x ∙ sym (seek_left k p d (inner c e a b) g y ∙ seek_left k c e a b x)
      go (inl x) (inr y) = absurd (omega arith)
      go (inr x) (inl y) =
          seek_right k c e a (inner p d b g) x ∙ seek_left k p d b g y ∙ sym (seek_left k p d (inner c e a b) g y ∙ seek_right k c e a b x)
      go (inr x) (inr y) = seek_right k c e a (inner p d b g) x ∙ seek_right k p d b g y ∙ sym (seek_right k p d (inner c e a b) g y)

  low_high_entries : entries_in (inner c e a (inner p d b g)) ≡ entries_in (inner p d (inner c e a b) g)
  low_high_entries = sym (append_assoc (entries_in a) (entries_in b) (entries_in g))

  -- The left child takes its parent's place.
  pub right_turn : IsOrdered (inner p d (inner c e a b) g) → IsDistinct (objects_in (inner p d (inner c e a b) g))
      → IsReshaped (inner p d (inner c e a b) g) (inner c e a (inner p d b g))
  right_turn o u = record {
    inside = λ n i. among_high p c (objects_in a) (objects_in b) (objects_in g) n (low_among p c (objects_in a) (objects_in b) (objects_in g) n i);
    back = λ n i. among_low p c (objects_in a) (objects_in b) (objects_in g) n (high_among p c (objects_in a) (objects_in b) (objects_in g) n i);
    distinct = apart_high p c (objects_in a) (objects_in b) (objects_in g) (low_apart p c (objects_in a) (objects_in b) (objects_in g) u);
    below = λ x w. (w.0.0, (w.0.1, w.1));
    from = λ x w. (w.0.0, (w.0.1, w.1));
    ordered = (let lt : e < d = less in (inside.0, (inside.1, from_less d e g (omega arith) o.1), inside.2, (o.0.1, o.1, inside.3, o.3)));
    seeks = low_high_seek less;
    entries = low_high_entries;
  }
    where
      inside : IsOrdered (inner c e a b)
      inside = o.2

      less : e < d
      less = between d e b inside.1 o.0.1

  -- The right child takes its parent's place.
  pub left_turn : IsOrdered (inner c e a (inner p d b g)) → IsDistinct (objects_in (inner c e a (inner p d b g)))
      → IsReshaped (inner c e a (inner p d b g)) (inner p d (inner c e a b) g)
  left_turn o u = record {
    inside = λ n i. among_low p c (objects_in a) (objects_in b) (objects_in g) n (high_among p c (objects_in a) (objects_in b) (objects_in g) n i);
    back = λ n i. among_high p c (objects_in a) (objects_in b) (objects_in g) n (low_among p c (objects_in a) (objects_in b) (objects_in g) n i);
    distinct = apart_low p c (objects_in a) (objects_in b) (objects_in g) (high_apart p c (objects_in a) (objects_in b) (objects_in g) u);
    below = λ x w. ((w.0, (rest_below x w).0), (rest_below x w).1);
    from = λ x w. ((w.0, (rest_from x w).0), (rest_from x w).1);
    ordered = (let lt : e < d = less in ((below_more e d a (omega arith) o.0, inside.0), inside.1, (o.0, o.1.0, o.2, inside.2), inside.3));
    seeks = λ k. sym (low_high_seek less k);
    entries = sym low_high_entries;
  }
    where
      inside : IsOrdered (inner p d b g)
      inside = o.3

      less : e < d
      less = between d e b o.1.0 inside.0

      rest_below : (x : ℕ) → AllBelow x (inner c e a (inner p d b g)) → AllBelow x (inner p d b g)
      rest_below x w = w.1

      rest_from : (x : ℕ) → AllFrom x (inner c e a (inner p d b g)) → AllFrom x (inner p d b g)
      rest_from x w = w.1
