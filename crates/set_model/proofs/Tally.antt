-- How many objects a test picks.
use Rattle.std.proofs.Common.{◌≡◌, ◌≢◌, ℕ, zero, suc, ◌+◌, ◌-◌, ◌<◌, ◌≤◌, ◌⊎◌, inl, inr, Bool, true, false}
use Rattle.std.proofs.Common.{cond, List, [], ◌∷◌, length, set, drop, refl, sym, ap, ◌∙◌, subst, arith, true≢false, get_or-set_same}
use Rattle.std.proofs.Common.{get_or-set_other, get_or-drop, length-drop, length-set}
use Rattle.std.proofs.lemmas.Bool.{cases_eq}
use Rattle.std.proofs.lemmas.Bool.Decides.{nat_tests}
use Rattle.mv_history.specs.State.{State}
use Rattle.mv_history.specs.Meaning.{words_at}
use Rattle.set_model.specs.Catalogue.{Map, has_key, put}
use Rattle.set_model.specs.CatalogueOf.{map_among}
use Rattle.set_model.specs.Trees.{IsDistinct}
use Rattle.set_model.proofs.ObjectWords.{word}
use Rattle.section_work.proofs.Objects.{IsIn}
use Rattle.set_model.proofs.TreeShape.{not_in}
use Rattle.set_model.proofs.Mapped.{map_among-has, drop-set_at, at-drop}

abbrev pub tally : (List ℕ → Bool) → State → ℕ
tally test [] = 0
tally test (w ∷ s) = cond (test w) 1 0 + tally test s

pub tally-none : (test : List ℕ → Bool) (s : State) → ((i : ℕ) → i < length s → test (words_at s i) ≡ true → ⊥) → tally test s ≡ 0
tally-none test [] f = refl
tally-none test (w ∷ s) f = go (test w) (f 0 (omega arith)) (tally-none test s (λ i l. f (suc i) (omega arith)))
  where
    go : (b : Bool) → (b ≡ true → ⊥) → tally test s ≡ 0 → cond b 1 0 + tally test s ≡ 0
    go true n r = absurd (n refl)
    go false n r = omega arith

pub tally-bound : (test : List ℕ → Bool) (s : State) → tally test s ≤ length s
tally-bound test [] = omega arith
tally-bound test (w ∷ s) = go (test w) (tally-bound test s)
  where
    go : (b : Bool) → tally test s ≤ length s → cond b 1 0 + tally test s ≤ suc (length s)
    go true h = omega arith
    go false h = omega arith

pub tally-same : (t u : List ℕ → Bool) (s : State) → ((i : ℕ) → i < length s → t (words_at s i) ≡ u (words_at s i)) → tally t s ≡ tally u s
tally-same t u [] f = refl
tally-same t u (w ∷ s) f =
    ap (λ (b : Bool). cond b 1 0 + tally t s) (f 0 (omega arith)) ∙ ap (λ (n : ℕ). cond (u w) 1 0 + n) (tally-same t u s (λ i l. f (suc i) (omega arith)))

-- one object less
pub tally-less : (test : List ℕ → Bool) (s : State) (i : ℕ) (w : List ℕ) → i < length s → test (words_at s i) ≡ true → test w ≡ false
    → tally test s ≡ suc (tally test (set s i w))
tally-less test [] i w l a b = absurd (omega arith)
tally-less test (x ∷ s) zero w l a b =
    let p : cond {A = ℕ} (test x) 1 0 ≡ 1 = ap (λ (c : Bool). cond {A = ℕ} c 1 0) a in
    let q : cond {A = ℕ} (test w) 1 0 ≡ 0 = ap (λ (c : Bool). cond {A = ℕ} c 1 0) b in omega arith
tally-less test (x ∷ s) (suc i) w l a b =
    let r : tally test s ≡ suc (tally test (set s i w)) = tally-less test s i w (omega arith) a b in omega arith

pub length-put : (k v : ℕ) (m : Map) → has_key k m ≡ false → length (put k v m) ≡ suc (length m)
length-put k v [] h = refl
length-put k v (e ∷ m) h = grind (arith, nat_tests, length-put k v m)

-- where no two that are picked have one key, there are as many keys as picked
pub length-map_among : (test : List ℕ → Bool) (s : State)
    → ((i j : ℕ) → test (words_at s i) ≡ true → test (words_at s j) ≡ true → word 2 (words_at s i) ≡ word 2 (words_at s j) → i ≡ j)
    → length (map_among test s) ≡ tally test s
unfolding map_among
length-map_among test [] f = refl
length-map_among test (w ∷ s) f =
    go (test w) refl (length-map_among test s (λ i j a b e. (let q : suc i ≡ suc j = f (suc i) (suc j) a b e in omega arith)))
  where
    fresh : test w ≡ true → (b : Bool) → has_key (word 2 w) (map_among test s) ≡ b → b ≡ false
    fresh e false h = refl
    fresh e true h =
        let u = map_among-has test s (word 2 w) h in
        let q : 0 ≡ suc u.0 = f 0 (suc u.0) e u.1 (sym u.2) in absurd (omega arith)

    go : (t : Bool) → test w ≡ t → length (map_among test s) ≡ tally test s
        → length (cond t (put (word 2 w) (word 5 w) (map_among test s)) (map_among test s)) ≡ cond t 1 0 + tally test s
    go true e r =
        let h : has_key (word 2 w) (map_among test s) ≡ false = fresh e (has_key (word 2 w) (map_among test s)) refl in
        let l : length (put (word 2 w) (word 5 w) (map_among test s)) ≡ suc (length (map_among test s)) =
        length-put (word 2 w) (word 5 w) (map_among test s) h in
        omega arith
    go false e r = omega arith

-- the nodes, by their places behind the heads
pub node_at : (s : State) (i : ℕ) → words_at (drop 180 s) i ≡ words_at s (180 + i)
node_at s i = get_or-drop 180 s i []

-- Where the nodes that a test picks are exactly those of a list of distinct ones, they are as many as the list is long.
pub tally_list : (test : List ℕ → Bool) (os : List ℕ) (s : State) → test [] ≡ false → IsDistinct os
    → ((o : ℕ) → IsIn o os → (180 ≤ o) × (o < length s) × (test (words_at s o) ≡ true)) → ((o : ℕ) → 180 ≤ o → test (words_at s o) ≡ true → IsIn o os)
    → tally test (drop 180 s) ≡ length os
tally_list test [] s z d f g = tally-none test (drop 180 s) (λ i l e. g (180 + i) (omega arith) (ap test (sym (node_at s i)) ∙ e))
tally_list test (o ∷ os) s z d f g =
    let lo : 180 ≤ o = (f o (inl refl)).0 in
    let lt : o < length s = (f o (inl refl)).1 in
    let less : tally test (drop 180 s) ≡ suc (tally test (set (drop 180 s) (o - 180) [])) =
    tally-less test (drop 180 s) (o - 180) [] (omega (arith, length-drop 180 s)) (ap test (at-drop s o lo) ∙ (f o (inl refl)).2) z in
    let rest : tally test (drop 180 (set s o [])) ≡ length os = tally_list test os (set s o []) z d.1
    (λ u i. (let m = f u (inr i) in
    let hi : u < length s = m.1 in
    let n : u ≢ o = λ e. not_in o os d.0 (subst (λ x. IsIn x os) e i) in
    (m.0, omega (arith, length-set s o []), ap test (get_or-set_other s o u [] [] n) ∙ m.2)))
    (λ u ge t. others u ge t lt (cases_eq u o)) in
    less ∙ ap (λ (x : State). suc (tally test x)) (sym (drop-set_at s o [] lo)) ∙ ap suc rest
  where
    others : (u : ℕ) → 180 ≤ u → test (words_at (set s o []) u) ≡ true → o < length s → (u ≡ o) ⊎ (u ≢ o) → IsIn u os
    others u ge t lt (inl e) =
        absurd (true≢false (sym t ∙ ap (λ x. test (words_at (set s o []) x)) e ∙ ap test (get_or-set_same s o [] [] lt) ∙ z))
    others u ge t lt (inr n) = elim (g u ge (ap test (sym (get_or-set_other s o u [] [] n)) ∙ t)) [ inl e ↦ absurd (n e) | inr i ↦ i ]
