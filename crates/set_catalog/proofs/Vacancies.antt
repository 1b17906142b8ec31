-- How many nodes are vacant, from which of them are.
use Rattle.std.proofs.Common.{◌≡◌, ◌≢◌, ℕ, zero, suc, ◌+◌, ◌-◌, ◌<◌, ◌≤◌, ◌==◌, ◌⊎◌, inl, inr, Bool, true}
use Rattle.std.proofs.Common.{false, if◌then◌else◌, List, [], ◌∷◌, length, drop, slice_index_or, Option, Some, None, MatchOption, refl}
use Rattle.std.proofs.Common.{sym, ap, ◌∙◌, subst, arith, length-drop, eqb-true, eq-eqb, ◌↔◌, IsTrue, nat_lt}
use Rattle.std.proofs.lemmas.Bool.Decides.{nat_tests}
use Rattle.std.proofs.lemmas.List.{get_or-drop}
use Rattle.mv_history.specs.State.{State}
use Rattle.mv_history.specs.Meaning.{words_at}
use Rattle.set_model.specs.Objects.{first_node}
use Rattle.set_catalog.specs.Picks.{IsVacant, count_vacant, vacant_nodes}

-- the object at this place of a list is vacant
record IsFree (ws : State) (i : ℕ) : Type 0 where
  pub within : i < length ws
  pub free : slice_index_or (slice_index_or ws i []) 0 0 ≡ 0

later : (w : List ℕ) (ws : State) (i : ℕ) → IsFree ws i → IsFree (w ∷ ws) (suc i)
later w ws i f = record { within = let l : i < length ws = f.within in omega arith; free = f.free }

-- the first counts where it is vacant
count_first : (w : List ℕ) (n : ℕ) (b : Bool) → (slice_index_or w 0 0 == 0) ≡ b → (slice_index_or w 0 0 ≡ 0 → ⊥) → (if b then 1 else 0) + n ≡ n
count_first w n true e h = absurd (h (grind (arith, nat_tests)))
count_first w n false e h = omega arith

count_first_free : (w : List ℕ) (n : ℕ) (b : Bool) → (slice_index_or w 0 0 == 0) ≡ b → slice_index_or w 0 0 ≡ 0 → (if b then 1 else 0) + n ≡ n + 1
count_first_free w n true e h = omega arith
count_first_free w n false e h = absurd (grind (arith, nat_tests))

count_first_most : (w : List ℕ) (n : ℕ) (b : Bool) → (if b then 1 else 0) + n ≤ n + 1
count_first_most w n true = omega arith
count_first_most w n false = omega arith

count_first_least : (w : List ℕ) (n : ℕ) (b : Bool) → n ≤ (if b then 1 else 0) + n
count_first_least w n true = omega arith
count_first_least w n false = omega arith

count_none : (ws : State) → ((i : ℕ) → IsFree ws i → ⊥) → count_vacant ws ≡ 0
count_none [] h = refl
count_none (w ∷ ws) h =
    count_first w (count_vacant ws) (slice_index_or w 0 0 == 0) refl (λ f. h 0 (record { within = omega arith; free = f }))
    ∙ count_none ws (λ i f. h (suc i) (later w ws i f))

count_one : (ws : State) (k : ℕ) → ((i : ℕ) → IsFree ws i → i ≡ k) → count_vacant ws ≤ 1
count_one [] k h = omega arith
count_one (w ∷ ws) zero h =
    omega (
      arith,
      count_first_most w (count_vacant ws) (slice_index_or w 0 0 == 0),
      count_none ws (λ i f. let e : suc i ≡ 0 = h (suc i) (later w ws i f) in omega arith),
    )
count_one (w ∷ ws) (suc k) h =
    omega (
      arith,
      count_first w (count_vacant ws) (slice_index_or w 0 0 == 0) refl
          (λ f. let e : 0 ≡ suc k = h 0 (record { within = omega arith; free = f }) in omega arith),
      count_one ws k (λ i f. let e : suc i ≡ suc k = h (suc i) (later w ws i f) in omega arith),
    )

count_some : (ws : State) (i : ℕ) → IsFree ws i → 1 ≤ count_vacant ws
count_some [] i f = let l : i < 0 = f.within in omega arith
count_some (w ∷ ws) zero f =
    omega (arith, count_first_free w (count_vacant ws) (slice_index_or w 0 0 == 0) refl f.free)
count_some (w ∷ ws) (suc i) f =
    let l : suc i < suc (length ws) = f.within in
    omega (arith, count_first_least w (count_vacant ws) (slice_index_or w 0 0 == 0), count_some ws i (record { within = omega arith; free = f.free }))

count_two : (ws : State) (i j : ℕ) → i ≢ j → IsFree ws i → IsFree ws j → 2 ≤ count_vacant ws
count_two [] i j n f g = let l : i < 0 = f.within in omega arith
count_two (w ∷ ws) zero zero n f g = absurd (n refl)
count_two (w ∷ ws) zero (suc j) n f g =
    let l : suc j < suc (length ws) = g.within in
    omega (
      arith,
      count_first_free w (count_vacant ws) (slice_index_or w 0 0 == 0) refl f.free,
      count_some ws j (record { within = omega arith; free = g.free }),
    )
count_two (w ∷ ws) (suc i) zero n f g =
    let l : suc i < suc (length ws) = f.within in
    omega (
      arith,
      count_first_free w (count_vacant ws) (slice_index_or w 0 0 == 0) refl g.free,
      count_some ws i (record { within = omega arith; free = f.free }),
    )
count_two (w ∷ ws) (suc i) (suc j) n f g =
    let a : suc i < suc (length ws) = f.within in
    let b : suc j < suc (length ws) = g.within in
    omega (
      arith,
      count_first_least w (count_vacant ws) (slice_index_or w 0 0 == 0),
      count_two ws i j (λ e. n (omega arith)) (record { within = omega arith; free = f.free }) (record { within = omega arith; free = g.free }),
    )

free_node : (s : State) (i : ℕ) → IsFree (drop first_node s) i → IsVacant s (first_node + i)
free_node s i f = record {
  node = omega arith;
  in_range = let l : i < length (drop first_node s) = f.within in omega (arith, length-drop first_node s);
  free = ap (λ (w : List ℕ). slice_index_or w 0 0) (sym (get_or-drop first_node s i [])) ∙ f.free;
}

node_free : (s : State) (o : ℕ) → IsVacant s o → IsFree (drop first_node s) (o - first_node)
node_free s o v =
    let at : first_node + (o - first_node) ≡ o = let l : first_node ≤ o = v.node in omega arith in
    record {
      within = let l : first_node ≤ o = v.node in let k : o < length s = v.in_range in omega (arith, length-drop first_node s);
      free = ap (λ (w : List ℕ). slice_index_or w 0 0) (get_or-drop first_node s (o - first_node) [] ∙ ap (words_at s) at) ∙ v.free;
    }

-- where no node is vacant, but perhaps an object that is none, there is none
pub no_vacant_node : (s : State) (but : ℕ) → but < first_node → ((o : ℕ) → IsVacant s o → o ≡ but) → vacant_nodes s ≡ 0
no_vacant_node s but l h =
    count_none (drop first_node s) (λ i f. let e : first_node + i ≡ but = h (first_node + i) (free_node s i f) in omega arith)

-- where no other node is vacant there is one at most
pub one_vacant_node : (s : State) (but : ℕ) → ((o : ℕ) → IsVacant s o → o ≡ but) → vacant_nodes s ≤ 1
one_vacant_node s but h =
    count_one (drop first_node s) (but - first_node) (λ i f. let e : first_node + i ≡ but = h (first_node + i) (free_node s i f) in omega arith)

-- a vacant node counts
pub some_vacant_node : (s : State) (o : ℕ) → IsVacant s o → 1 ≤ vacant_nodes s
some_vacant_node s o v = count_some (drop first_node s) (o - first_node) (node_free s o v)

-- two different ones count twice
pub two_vacant_nodes : (s : State) (o p : ℕ) → o ≢ p → IsVacant s o → IsVacant s p → 2 ≤ vacant_nodes s
two_vacant_nodes s o p n v w =
    count_two (drop first_node s) (o - first_node) (p - first_node)
    (λ e. n (let a : first_node ≤ o = v.node in let b : first_node ≤ p = w.node in omega arith))
    (node_free s o v) (node_free s p w)

none_is : {X : Type 0} (r : Option X) (P : Type 0) (Q : X → Type 0) → r ≡ None → P → MatchOption r P Q
none_is None P Q e p = p
none_is (Some x) P Q e p = absurd (cc)

-- where no vacant object is found, fewer are vacant than are wanted
pub none_for_first : {X : Type 0} (r : Option X) (Q : X → Type 0) (s : State) (want : ℕ) → (want ≡ 1) ⊎ (want ≡ 2) → r ≡ None
    → ((o : ℕ) → IsVacant s o → o ≡ 0) → MatchOption r (vacant_nodes s < want) Q
none_for_first r Q s want w e h =
    let none : vacant_nodes s ≡ 0 = no_vacant_node s 0 (omega arith) h in
    none_is r (vacant_nodes s < want) Q e (elim w [ inl a ↦ omega arith | inr b ↦ omega arith ])

-- where none is found beside the first, one is vacant at most
pub none_for_second : {X : Type 0} (r : Option X) (Q : X → Type 0) (s t : State) (want but : ℕ) → (want ≡ 1) ⊎ (want ≡ 2) → want ≢ 1 → t ≡ s → r ≡ None
    → ((o : ℕ) → IsVacant t o → o ≡ but) → MatchOption r (vacant_nodes s < want) Q
none_for_second r Q s t want but w n same e h =
    let one : vacant_nodes t ≤ 1 = one_vacant_node t but h in
    let is : vacant_nodes t ≡ vacant_nodes s = ap vacant_nodes same in
    none_is r (vacant_nodes s < want) Q e (elim w [ inl a ↦ absurd (n a) | inr b ↦ omega arith ])

-- two that were found are two that are vacant
pub two_found : (s t : State) (want first second : ℕ) → (want ≡ 1) ⊎ (want ≡ 2) → t ≡ s → IsVacant s first → IsVacant t second → second ≢ first
    → want ≤ vacant_nodes s
two_found s t want first second w same v u n =
    let two : 2 ≤ vacant_nodes s = two_vacant_nodes s first second (λ e. n (sym e)) v (subst (λ (x : State). IsVacant x second) same u) in
    elim w [ inl a ↦ omega arith | inr b ↦ omega arith ]

-- a node that the store has is vacant exactly where the first word that was read of it is 0
pub vacant_where_free : (s : State) (o count : ℕ) (ws : List ℕ) → first_node ≤ o → nat_lt o count ≡ true → count ≡ length s → ws ≡ words_at s o
    → IsTrue (slice_index_or ws 0 0 == 0) ↔ IsVacant s o
vacant_where_free s o count ws n lt c w = (
  λ t. record {
    node = n;
    in_range = let below : o < count = grind (arith, nat_tests) in omega (arith, c);
    free = ap (λ (x : List ℕ). slice_index_or x 0 0) (sym w) ∙ eqb-true (slice_index_or ws 0 0) 0 t;
  },
  λ v. eq-eqb (slice_index_or ws 0 0) 0 (ap (λ (x : List ℕ). slice_index_or x 0 0) w ∙ v.free),
)
