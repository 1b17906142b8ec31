-- The buckets together have as many keys as the set.
use Rattle.grow_hash.proofs.Terms.{ap, ◌∙◌, subst, arith, length-drop, lt-ltb, get_or-drop, cases_eq, cases_lt, nat_tests, State, words_at, is_key_at, map_at}
use Rattle.grow_hash.proofs.Terms.{owner, kind, key, word, tally, tally-none, tally-bound, tally-same, length-map_among, node_at, keys_counted, level}
use Rattle.grow_hash.proofs.Terms.{split_place, bucket, buckets, IsGrown, head_at, is_used, grown_map, most_buckets, first_grown, hash, ◌≡◌, ◌≢◌, ◌+◌, ◌<◌, ◌≤◌}
use Rattle.grow_hash.proofs.Terms.{◌&&◌, ◌∷◌, ℕ, zero, suc, inl, inr, Bool, true, false, cond, nat_lt, List, [], length, drop, refl, sym, ◌-◌}
use Rattle.grow_hash.proofs.Buckets.{bucket_present, many_heads}
use Rattle.grow_hash.proofs.GrownMaps.{used-from, used_vacant}
use Rattle.grow_hash.proofs.GrownStates.{low_unowned, key_once}
use Rattle.set_model.specs.Objects.{most_objects}

-- where a test picks what one of two others does, and no object is picked by both
tally-add : (t u v : List ℕ → Bool) (s : State)
    → ((i : ℕ) → i < length s → cond {A = ℕ} (v (words_at s i)) 1 0 ≡ cond (t (words_at s i)) 1 0 + cond (u (words_at s i)) 1 0)
    → tally v s ≡ tally t s + tally u s
tally-add t u v [] f = refl
tally-add t u v (w ∷ s) f =
    let here = f 0 (omega arith) in
    let rest : tally v s ≡ tally t s + tally u s = tally-add t u v s (λ i l. f (suc i) (omega arith)) in omega arith

-- objects that are not picked don't matter
tally-drop_one : (test : List ℕ → Bool) (a : ℕ) (s : State) → (a < length s → test (words_at s a) ≡ false) → tally test (drop a s) ≡ tally test (drop (suc a) s)
tally-drop_one test zero [] e = refl
tally-drop_one test (suc a) [] e = refl
tally-drop_one test zero (w ∷ s) e = ap (λ (b : Bool). cond b 1 0 + tally test s) (e (omega arith)) ∙ omega arith
tally-drop_one test (suc a) (w ∷ s) e = tally-drop_one test a s (λ lt. e (omega arith))

tally-drop : (test : List ℕ → Bool) (n a : ℕ) (s : State) → ((i : ℕ) → a ≤ i → i < a + n → i < length s → test (words_at s i) ≡ false)
    → tally test (drop a s) ≡ tally test (drop (a + n) s)
tally-drop test zero a s f = ap (λ i. tally test (drop i s)) (omega arith)
tally-drop test (suc n) a s f =
    tally-drop_one test a s (λ lt. f a (omega arith) (omega arith) lt)
    ∙ tally-drop test n (suc a) s (λ i lo lt. f i (omega arith) (omega arith))
    ∙ ap (λ i. tally test (drop i s)) (omega arith)

module _ (levels : ℕ) (s : State) (l : IsGrown levels s) where
  -- the keys of the set are those of the objects in use
  pub set_counted : length (grown_map levels s) ≡ tally is_used (drop (first_grown levels) s)
  set_counted = length-map_among is_used (drop (first_grown levels) s) (λ i j a b e.
      (let x : words_at (drop (first_grown levels) s) i ≡ words_at s (first_grown levels + i) = get_or-drop (first_grown levels) s i [] in
      let y : words_at (drop (first_grown levels) s) j ≡ words_at s (first_grown levels + j) = get_or-drop (first_grown levels) s j [] in
      let q : first_grown levels + i ≡ first_grown levels + j =
      key_once levels s l (first_grown levels + i) (first_grown levels + j) (key s (first_grown levels + j))
      (record {
        node = omega arith;
        owned = used-from (words_at s (first_grown levels + i)) (ap is_used (sym x) ∙ a);
        key_is = ap (word 2) (sym x) ∙ e
            ∙ ap (word 2) y;
      })
      (record { node = omega arith; owned = used-from (words_at s (first_grown levels + j)) (ap is_used (sym y) ∙ b); key_is = refl }) in omega arith))

  all_counted : length (grown_map levels s) ≡ tally is_used (drop 180 s)
  all_counted =
      let many : 1024 ≤ most_buckets levels = many_heads levels l.least in
      let heads : 180 + (first_grown levels - 180) ≡ first_grown levels = omega arith in
      set_counted ∙ ap (λ i. tally is_used (drop i s)) (sym heads)
      ∙ sym (tally-drop is_used (first_grown levels - 180) 180 s (λ i lo lt _. used_vacant (words_at s i) (low_unowned levels s l i (omega arith))))

-- whether these are the words of a node of the first buckets
abbrev pub in_first : ℕ → List ℕ → Bool
in_first b w = is_used w && nat_lt (word 0 w) (b + 2)

-- so many nodes are in the first buckets
abbrev pub CountsFirst : State → ℕ → ℕ → Type 0
CountsFirst s b n = n ≡ tally (in_first b) (drop 180 s)

module _ (levels : ℕ) (s : State) (l : IsGrown levels s) where
  -- what is known of an object by its owner
  node_known : (i : ℕ) → owner s i ≢ 0 → (kind s i ≡ 0) × (2 ≤ owner s i) × (owner s i < buckets s + 2)
  node_known i some =
      let hi : first_grown levels ≤ i = elim (cases_lt i (first_grown levels)) [ inl lt ↦ absurd (some (low_unowned levels s l i lt)) | inr ge ↦ ge ] in
      let w = l.nodes i hi some in
      let own : owner s i ≡ suc (head_at (bucket levels s (key s i))) = ap (word 0) w in
      let lt : bucket levels s (key s i) < buckets s = bucket_present (level s) (split_place s) (hash levels (key s i)) in
      (ap (word 1) w, omega arith, omega arith)

  first_none : tally (in_first 0) (drop 180 s) ≡ 0
  first_none = tally-none (in_first 0) (drop 180 s) (λ i lt e.
      (let at = node_at s i in
      let used : (is_used (words_at s (180 + i)) && nat_lt (owner s (180 + i)) 2) ≡ true = ap (in_first 0) (sym at) ∙ e in
      let some : owner s (180 + i) ≢ 0 = grind (arith, nat_tests) in
      let small : owner s (180 + i) < 2 = grind (arith, nat_tests) in
      let r = (node_known (180 + i) some).1 in omega arith))

  first_more : (b : ℕ) → tally (in_first (suc b)) (drop 180 s) ≡ tally (in_first b) (drop 180 s) + tally (is_key_at (head_at b)) (drop 180 s)
  first_more b = tally-add (in_first b) (is_key_at (head_at b)) (in_first (suc b)) (drop 180 s) (λ i lt.
      subst (λ w. cond {A = ℕ} (in_first (suc b) w) 1 0 ≡ cond (in_first b w) 1 0 + cond (is_key_at (head_at b) w) 1 0) (sym (node_at s i)) (each (180 + i)))
    where
      each : (o : ℕ) → cond {A = ℕ} (in_first (suc b) (words_at s o)) 1 0
          ≡ cond (in_first b (words_at s o)) 1 0 + cond (is_key_at (head_at b) (words_at s o)) 1 0
      each o = elim (cases_eq (owner s o) 0) [
        | inl z ↦ grind (arith, nat_tests)
        | inr n ↦ (let k = (node_known o n).0 in grind (arith, nat_tests))
      ]

  first_all : tally (in_first (buckets s)) (drop 180 s) ≡ tally is_used (drop 180 s)
  first_all = tally-same (in_first (buckets s)) is_used (drop 180 s) (λ i lt.
      subst (λ w. in_first (buckets s) w ≡ is_used w) (sym (node_at s i)) (each (180 + i)))
    where
      each : (o : ℕ) → in_first (buckets s) (words_at s o) ≡ is_used (words_at s o)
      each o = elim (cases_eq (owner s o) 0) [
        | inl z ↦ grind (arith, nat_tests)
        | inr n ↦ ap (λ b. is_used (words_at s o) && b) (lt-ltb (owner s o) (buckets s + 2) (node_known o n).2) ∙ grind (arith, nat_tests)
      ]

  pub first_start : CountsFirst s 0 0
  first_start = sym first_none

  pub first_step : (t : State) (b n m : ℕ) → b < most_buckets levels → t ≡ s → CountsFirst s b n → m ≡ length (map_at t (b + 1)) → CountsFirst s (b + 1) (n + m)
  first_step t b n m lt same c e =
      let h : b + 1 ≡ suc b = omega arith in
      let own : m ≡ tally (is_key_at (head_at b)) (drop 180 s) =
      e ∙ ap (λ u. length (map_at u (b + 1))) same ∙ ap (λ u. length (map_at s u)) h ∙ keys_counted s (head_at b) (l.lists b lt) in
      let more = first_more b in
      ap (λ u. u + m) c ∙ ap (λ u. tally (in_first b) (drop 180 s) + u) own ∙ sym more ∙ ap (λ u. tally (in_first u) (drop 180 s)) (sym h)

  pub first_fits : (b n : ℕ) → CountsFirst s b n → n ≤ most_objects
  first_fits b n c =
      let most = tally-bound (in_first b) (drop 180 s) in let size = length-drop 180 s in let few = l.few in omega arith

  pub first_end : (b n : ℕ) → b ≡ buckets s → CountsFirst s b n → n ≡ length (grown_map levels s)
  first_end b n e c = c ∙ ap (λ u. tally (in_first u) (drop 180 s)) e ∙ first_all ∙ sym (all_counted levels s l)
