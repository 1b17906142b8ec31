-- What is known of the writes of a split.
use Rattle.set_model.specs.Trees.{IsDistinct}
use Rattle.set_model.proofs.TreeShape.{is_in-none}
use Rattle.set_model.proofs.Written.{distinct-objects_of}
use Rattle.std.proofs.Common.{◌≡◌, ◌+◌, ◌<◌, ◌≤◌, ◌⊎◌, ◌∷◌, ℕ, suc, inl, inr, true, List, [], length, refl, sym, ap, ◌∙◌, subst, arith}
use Rattle.grow_hash.proofs.Terms.{State, Writes, touches, are_distinct, AreWithin, objects_of, owned_in_range, IsIn, in-touches, level, split_place}
use Rattle.grow_hash.proofs.Terms.{buckets_at, IsGrown, head_at, SplitPlan, new_bucket, split_writes, most_buckets, first_grown}
use Rattle.grow_hash.proofs.Buckets.{some_buckets, more_buckets, twice_buckets}
use Rattle.grow_hash.proofs.GrownStates.{node_high}
use Rattle.grow_hash.proofs.split.Paths.{AreRising, rising_node, head_path_rises}
use Rattle.grow_hash.proofs.split.PartedStates.{parted_objects, first_apart}

rising_distinct : (s : State) (head : ℕ) (ns : List ℕ) → AreRising s head ns → IsDistinct ns
rising_distinct s head [] r = tt
rising_distinct s head (n ∷ ns) r = (is_in-none n ns (λ i. first_apart s head n ns r n i refl), rising_distinct s head ns r.2)

module _ (levels : ℕ) (s : State) (ws : Writes) (l : IsGrown levels s) (p : SplitPlan levels s ws) where
  abbrev old : ℕ
  old = split_place s

  new_low : split_place s + buckets_at (level s) < most_buckets levels
  new_low =
      let x = l.table.place_in in
      let y : buckets_at (suc (level s)) ≤ most_buckets levels = more_buckets levels (level s) l.least p.below in let z = twice_buckets (level s) in omega arith

  rising : AreRising s (head_at old) p.nodes
  rising = head_path_rises s (head_at old) (l.lists old (let x = new_low in omega arith)) p.nodes p.path

  high : (n : ℕ) → IsIn n p.nodes → first_grown levels ≤ n
  high n i = node_high levels s (head_at old) l n (rising_node s (head_at old) p.nodes rising n i)

  -- The table, both heads and the nodes,
  objects : objects_of ws ≡ 0 ∷ head_at old ∷ head_at (new_bucket s) ∷ p.nodes
  objects =
      ap objects_of p.writes_are ∙ ap (λ os. 0 ∷ head_at old ∷ head_at (new_bucket s) ∷ os) (parted_objects levels s p.nodes)

  object_in : (o : ℕ) → touches ws o ≡ true → (o ≡ 0) ⊎ ((o ≡ head_at old) ⊎ ((o ≡ head_at (new_bucket s)) ⊎ IsIn o p.nodes))
  object_in o t = subst (IsIn o) objects (in-touches ws o t)

  -- each once and
  pub plan_distinct : are_distinct ws ≡ true
  plan_distinct =
      let lo = new_low in
      let some = some_buckets (level s) in
      distinct-objects_of ws (subst IsDistinct (sym objects) (
        is_in-none 0 (head_at old ∷ head_at (new_bucket s) ∷ p.nodes) (λ i. elim i [
          | inl e ↦ omega arith
          | inr j ↦ elim j [ inl e ↦ omega arith | inr k ↦ (let x : first_grown levels ≤ 0 = high 0 k in omega arith) ]
        ]),
        (
          is_in-none (head_at old) (head_at (new_bucket s) ∷ p.nodes) (λ i. elim i [
            | inl e ↦ omega arith
            | inr k ↦ (let x : first_grown levels ≤ head_at old = high (head_at old) k in omega arith)
          ]),
          (
            is_in-none (head_at (new_bucket s)) p.nodes (λ k.
                (let x : first_grown levels ≤ head_at (new_bucket s) = high (head_at (new_bucket s)) k in omega arith)),
            rising_distinct s (head_at old) p.nodes rising,
          ),
        ),
      ))

  -- in range.
  pub plan_within : AreWithin ws (length s)
  plan_within o t =
      let some = l.some in
      let lo = new_low in
      elim (object_in o t) [
        | inl e ↦ omega arith
        | inr j ↦ elim j [
          | inl e ↦ omega arith
          | inr k ↦ elim k [
            | inl e ↦ omega arith
            | inr i ↦ owned_in_range s o (head_at old) (rising_node s (head_at old) p.nodes rising o i).1
          ]
        ]
      ]

  pub plan_some : 0 < length ws
  plan_some = let e : length ws ≡ length (split_writes levels s p.nodes) = ap length p.writes_are in omega arith
