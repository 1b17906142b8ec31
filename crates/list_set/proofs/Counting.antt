-- The steps of a count along a list.
use Rattle.std.proofs.Common.{◌≡◌, ◌≢◌, ℕ, zero, suc, ◌+◌, ◌-◌, ◌^◌, ◌<◌, ◌≤◌, ◌⊎◌, inl, inr, Bool, true, false, cond, nat_lt, ◌&&◌, ◌==◌, List, [], ◌∷◌}
use Rattle.std.proofs.Common.{length, drop, refl, sym, ap, ◌∙◌, subst, arith, length-drop, lt-ltb, ltb-true, ne_eqb, true≢false}
use Rattle.std.proofs.lemmas.Bool.{cases_eq, cases_lt, and_parts, false_from_ne_true}
use Rattle.mv_history.specs.State.{State}
use Rattle.mv_history.specs.Meaning.{words_at}
use Rattle.set_model.specs.CatalogueOf.{is_key_at, map_at}
use Rattle.set_model.specs.Objects.{key, link, most_objects}
use Rattle.set_model.proofs.ObjectWords.{word}
use Rattle.set_model.proofs.Heads.{is_key_at-from}
use Rattle.set_model.proofs.Tally.{tally, tally-none, tally-bound, tally-same, length-map_among, node_at}
use Rattle.list_set.specs.Places.{IsInList}
use Rattle.list_set.specs.Linked.{IsNodeOf, IsAfter, IsLinked}
use Rattle.list_set.specs.Walks.{walk_left}
use Rattle.list_set.proofs.Linking.{head_no_node}
use Rattle.list_set.proofs.Walking.{node_in_range, node_picked, list_falls}

-- one test picks one object more than another
tally-one : (t u : List ℕ → Bool) (s : State) (i : ℕ) → i < length s → t (words_at s i) ≡ false → u (words_at s i) ≡ true
    → ((j : ℕ) → j ≢ i → u (words_at s j) ≡ t (words_at s j)) → tally u s ≡ suc (tally t s)
tally-one t u [] i lt a b f = absurd (omega arith)
tally-one t u (w ∷ s) zero lt a b f =
    let p : cond {A = ℕ} (t w) 1 0 ≡ 0 = ap (λ (c : Bool). cond {A = ℕ} c 1 0) a in
    let q : cond {A = ℕ} (u w) 1 0 ≡ 1 = ap (λ (c : Bool). cond {A = ℕ} c 1 0) b in
    let r : tally u s ≡ tally t s = tally-same u t s (λ j l. f (suc j) (λ e. omega arith)) in omega arith
tally-one t u (w ∷ s) (suc i) lt a b f =
    let p : cond {A = ℕ} (u w) 1 0 ≡ cond {A = ℕ} (t w) 1 0 = ap (λ (c : Bool). cond {A = ℕ} c 1 0) (f 0 (λ e. omega arith)) in
    let r : tally u s ≡ suc (tally t s) = tally-one t u s i (omega arith) a b (λ j n. f (suc j) (λ e. n (omega arith))) in omega arith

-- the least key that is not passed: that of the node, and at the end none
abbrev bound : State → ℕ → ℕ
bound s node = cond (node == 0) (2 ^ 32) (key s node)

-- whether these are the words of a node of the head with a key below this one
abbrev is_passed : ℕ → ℕ → List ℕ → Bool
is_passed head k w = is_key_at head w && nat_lt (word 2 w) k

-- A count along the list stands at this node, or at the end, 0, and has passed the nodes with lower keys.
pub record IsCount (s : State) (head node n : ℕ) : Type 0 where
  pub here : (node ≡ 0) ⊎ IsNodeOf s head node
  pub count : n ≡ tally (is_passed head (bound s node)) (drop 180 s)

passed-from : (s : State) (head k i : ℕ) → is_passed head k (words_at (drop 180 s) i) ≡ true → IsNodeOf s head (180 + i) × (key s (180 + i) < k)
passed-from s head k i e =
    let at = node_at s i in
    let both = and_parts (is_key_at head (words_at (drop 180 s) i)) (nat_lt (word 2 (words_at (drop 180 s) i)) k) e in
    let own = (is_key_at-from head (words_at (drop 180 s) i) both.0).0 in
    ((omega arith, ap (word 0) (sym at) ∙ own), subst (λ w. word 2 w < k) at (ltb-true (word 2 (words_at (drop 180 s) i)) k both.1))

passed-to : (s : State) (head k i : ℕ) → IsLinked s head → IsNodeOf s head (180 + i) → key s (180 + i) < k → is_passed head k (words_at (drop 180 s) i) ≡ true
passed-to s head k i l j lt =
    let at = node_at s i in
    ap (λ w. is_passed head k w) at ∙ ap (λ b. b && nat_lt (key s (180 + i)) k) (node_picked s head (180 + i) l j) ∙ lt-ltb (key s (180 + i)) k lt

module _ (s : State) (head : ℕ) (l : IsLinked s head) where
  bound_at : (node : ℕ) → node ≢ 0 → bound s node ≡ key s node
  bound_at node n = ap (λ b. cond b (2 ^ 32) (key s node)) (ne_eqb node 0 n)

  -- the nodes below the bound of where an object leads don't come after it
  not_after : (o i : ℕ) → IsInList s head o → IsNodeOf s head (180 + i) → key s (180 + i) < bound s (link s o) → IsAfter s head o (180 + i) → ⊥
  not_after o i within j lt a =
      let r = l.least o (180 + i) within j a in
      let e = bound_at (link s o) r.0 in let x : key s (link s o) ≤ key s (180 + i) = r.1 in omega arith

  pub count_first : (next : ℕ) → next ≡ link s head → IsCount s head next 0
  count_first next to =
      subst (λ u. IsCount s head u 0) (sym to) (record {
        here = elim (cases_eq (link s head) 0) [ inl z ↦ inl z | inr n ↦ inr (l.leads head (inl refl) n).0 ];
        count = sym (tally-none (is_passed head (bound s (link s head))) (drop 180 s) (λ i lt t.
            (let p = passed-from s head (bound s (link s head)) i t in
            not_after head i (inl refl) p.0 p.1 (λ m. absurd (head_no_node s head l.unowned head refl m)))));
      })

  count_node : (node n : ℕ) → IsCount s head node n → node ≢ 0 → IsNodeOf s head node
  count_node node n c more = elim c.here [ inl z ↦ absurd (more z) | inr i ↦ i ]

  next_here : (node : ℕ) → IsNodeOf s head node → (link s node ≡ 0) ⊎ IsNodeOf s head (link s node)
  next_here node i = elim (cases_eq (link s node) 0) [ inl z ↦ inl z | inr n ↦ inr (l.leads node (inr i) n).0 ]

  -- the bound rises by a step
  bound_rises : (node : ℕ) → IsNodeOf s head node → key s node < bound s (link s node)
  bound_rises node i = elim (cases_eq (link s node) 0) [
    | inl z ↦ (let e : bound s (link s node) ≡ 2 ^ 32 = ap (bound s) z in let x : key s node < 2 ^ 32 = l.fits node i in omega arith)
    | inr n ↦ (let e = bound_at (link s node) n in let x : key s node < key s (link s node) = (l.leads node (inr i) n).1 i in omega arith)
  ]

  -- and passes the node alone
  passes_one : (node : ℕ) → IsNodeOf s head node
      → tally (is_passed head (bound s (link s node))) (drop 180 s) ≡ suc (tally (is_passed head (key s node)) (drop 180 s))
  passes_one node i =
      let lo : 180 ≤ node = i.0 in
      let at : 180 + (node - 180) ≡ node = omega arith in
      let here : IsNodeOf s head (180 + (node - 180)) = subst (IsNodeOf s head) (sym at) i in
      let same : key s (180 + (node - 180)) ≡ key s node = ap (key s) at in
      let up = bound_rises node i in
      tally-one (is_passed head (key s node)) (is_passed head (bound s (link s node))) (drop 180 s) (node - 180)
      (let lt = node_in_range s head node i in omega (arith, length-drop 180 s))
      (false_from_ne_true (is_passed head (key s node) (words_at (drop 180 s) (node - 180)))
      (λ t. (let x : key s (180 + (node - 180)) < key s node = (passed-from s head (key s node) (node - 180) t).1 in omega arith)))
      (passed-to s head (bound s (link s node)) (node - 180) l here (omega arith))
      (λ j n. others j n)
    where
      others : (j : ℕ) → j ≢ node - 180
          → is_passed head (bound s (link s node)) (words_at (drop 180 s) j) ≡ is_passed head (key s node) (words_at (drop 180 s) j)
      others j n = go (is_passed head (bound s (link s node)) (words_at (drop 180 s) j)) refl (is_passed head (key s node) (words_at (drop 180 s) j)) refl
        where
          go : (a : Bool) → is_passed head (bound s (link s node)) (words_at (drop 180 s) j) ≡ a → (b : Bool)
              → is_passed head (key s node) (words_at (drop 180 s) j) ≡ b → a ≡ b
          go true e true f = refl
          go false e false f = refl
          go true e false f =
              let p = passed-from s head (bound s (link s node)) j e in
              let ne : key s (180 + j) ≢ key s node = λ q. n (let x : 180 + j ≡ node = l.once (180 + j) node p.0 i q in omega arith) in
              elim (cases_lt (key s (180 + j)) (key s node)) [
                | inl lt ↦ absurd (true≢false (sym (passed-to s head (key s node) j l p.0 lt) ∙ f))
                | inr ge ↦ absurd (not_after node j (inr i) p.0 p.1 (λ _. omega arith))
              ]
          go false e true f =
              let p = passed-from s head (key s node) j f in
              let up = bound_rises node i in
              let x : key s (180 + j) < key s node = p.1 in
              absurd (true≢false (sym (passed-to s head (bound s (link s node)) j l p.0 (omega arith)) ∙ e))

  count_next : (node n : ℕ) → IsCount s head node n → node ≢ 0 → IsCount s head (link s node) (n + 1)
  count_next node n c more =
      let i = count_node node n c more in
      record {
        here = next_here node i;
        count = (let same : tally (is_passed head (bound s node)) (drop 180 s) ≡ tally (is_passed head (key s node)) (drop 180 s) =
            ap (λ k. tally (is_passed head k) (drop 180 s)) (bound_at node more) in
            let one = passes_one node i in let e = c.count in omega arith);
      }

  -- each node that holds a key of the head has a key of its own
  pub keys_counted : length (map_at s head) ≡ tally (is_key_at head) (drop 180 s)
  keys_counted = length-map_among (is_key_at head) (drop 180 s) (λ i j a b e.
      (let q : 180 + i ≡ 180 + j = l.once (180 + i) (180 + j)
      (omega arith, ap (word 0) (sym (node_at s i)) ∙ (is_key_at-from head (words_at (drop 180 s) i) a).0)
      (omega arith, ap (word 0) (sym (node_at s j)) ∙ (is_key_at-from head (words_at (drop 180 s) j) b).0)
      (ap (word 2) (sym (node_at s i)) ∙ e ∙ ap (word 2) (node_at s j)) in omega arith))

  pub count_done : (node n : ℕ) → IsCount s head node n → node ≡ 0 → n ≡ length (map_at s head)
  count_done node n c z =
      let all : tally (is_passed head (bound s node)) (drop 180 s) ≡ tally (is_key_at head) (drop 180 s) =
      ap (λ u. tally (is_passed head (bound s u)) (drop 180 s)) z
      ∙ tally-same (is_passed head (2 ^ 32)) (is_key_at head) (drop 180 s) (λ i lt. each i (is_key_at head (words_at (drop 180 s) i)) refl) in
      c.count ∙ all ∙ sym keys_counted
    where
      each : (i : ℕ) (b : Bool) → is_key_at head (words_at (drop 180 s) i) ≡ b
          → is_passed head (2 ^ 32) (words_at (drop 180 s) i) ≡ is_key_at head (words_at (drop 180 s) i)
      each i false e = ap (λ b. b && nat_lt (word 2 (words_at (drop 180 s) i)) (2 ^ 32)) e ∙ sym e
      each i true e =
          let own : IsNodeOf s head (180 + i) =
          (omega arith, ap (word 0) (sym (node_at s i)) ∙ (is_key_at-from head (words_at (drop 180 s) i) e).0) in
          passed-to s head (2 ^ 32) i l own (l.fits (180 + i) own) ∙ sym e

-- A count in section or view `t`, which reads as `s`, that isn't at its end.
module _ (s t : State) (head node n next : ℕ) (l : IsLinked s head) (same : t ≡ s) (c : IsCount s head node n) (more : node ≢ 0) where
  pub count_in_range : node < length t
  count_in_range = subst (λ (u : State). node < length u) (sym same) (node_in_range s head node (count_node s head l node n c more))

  pub count_fits : length s ≤ most_objects → node < 2 ^ 32
  count_fits few = let lt = node_in_range s head node (count_node s head l node n c more) in omega arith

  pub count_room : length s ≤ most_objects → n < 2 ^ 32
  count_room few =
      let most = tally-bound (is_passed head (bound s node)) (drop 180 s) in
      let size = length-drop 180 s in let e = c.count in omega arith

  next_read : next ≡ link t node → next ≡ link s node
  next_read e = e ∙ ap (λ (u : State). link u node) same

  pub count_falls : next ≡ link t node → walk_left s next < walk_left s node
  count_falls e = subst (λ (u : ℕ). walk_left s u < walk_left s node) (sym (next_read e)) (list_falls s head node l (count_node s head l node n c more))

  pub count_step : next ≡ link t node → IsCount s head next (n + 1)
  count_step e = subst (λ u. IsCount s head u (n + 1)) (sym (next_read e)) (count_next s head l node n c more)
