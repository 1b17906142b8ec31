-- A split keeps a grown state lawful, and leaves its set.
use Rattle.grow_hash.proofs.Terms.{ℕ, zero, suc, inl, inr, List, [], length, set, refl, sym, ap, ◌∙◌, subst, arith, length-set, get_or-set_same}
use Rattle.grow_hash.proofs.Terms.{get_or-set_other, cases_eq, cases_lt, State, written, words_at, length-written, empty, owner, key, link, value, head_words}
use Rattle.grow_hash.proofs.Terms.{list_words, word, owned_in_range, IsIn, touches-in, IsNodeOf, IsLinked, level, split_place, buckets_at, bucket, next_table}
use Rattle.grow_hash.proofs.Terms.{IsGrown, head_at, grown_map, grown_name, split_tag, IsGrowCommit, IsPath, new_bucket, split_bucket, first_to, split_writes}
use Rattle.grow_hash.proofs.Terms.{most_buckets, most_level, first_grown, hash, ◌≡◌, ◌≢◌, ◌+◌, ◌<◌, ◌≤◌, ◌⊎◌}
use Rattle.grow_hash.proofs.Buckets.{many_heads, twice_buckets, more_buckets, split_mod, split_to, bucket_present}
use Rattle.grow_hash.proofs.KeptLists.{list_kept}
use Rattle.grow_hash.proofs.GrownMaps.{grown_map-low}
use Rattle.grow_hash.proofs.GrownStates.{low_unowned, node_high, node_of_bucket, node_bucket, head_is, node_is}
use Rattle.grow_hash.proofs.Splitting.{bucket_apart, bucket_parted, table_splits, table_owner}
use Rattle.grow_hash.proofs.split.Paths.{AreRising, rising_node, head_path_rises, head_path_has}
use Rattle.grow_hash.proofs.split.PartedLists.{AreParted, parted_words, list_parted}
use Rattle.grow_hash.proofs.split.PartedStates.{parted_objects, parted_out, parted_in, parted_map}

module _ (levels : ℕ) (s : State) (ns : List ℕ) (l : IsGrown levels s) (below : level s < most_level levels)
    (path : IsPath s (head_at (split_place s)) ns) where
  abbrev after : State
  after = written s (split_writes levels s ns)

  abbrev old : ℕ
  old = split_place s

  abbrev new : ℕ
  new = new_bucket s

  in_level : old < buckets_at (level s)
  in_level = l.table.place_in

  new_low : new < most_buckets levels
  new_low =
      let x = in_level in
      let y : buckets_at (suc (level s)) ≤ most_buckets levels = more_buckets levels (level s) l.least below in
      let z = twice_buckets (level s) in omega arith

  linked : IsLinked s (head_at old)
  linked = l.lists old (let x = new_low in omega arith)

  rising : AreRising s (head_at old) ns
  rising = head_path_rises s (head_at old) linked ns path

  -- the nodes of the bucket
  node_in : (n : ℕ) → IsIn n ns → IsNodeOf s (head_at old) n
  node_in n i = rising_node s (head_at old) ns rising n i

  in_node : (n : ℕ) → IsNodeOf s (head_at old) n → IsIn n ns
  in_node n j = head_path_has s (head_at old) linked ns path n j

  high : (n : ℕ) → IsIn n ns → first_grown levels ≤ n
  high n i = node_high levels s (head_at old) l n (node_in n i)

  goes : (n : ℕ) → IsIn n ns → (split_bucket levels s n ≡ old) ⊎ (split_bucket levels s n ≡ new)
  goes n i = split_to (level s) old (hash levels (key s n)) in_level (node_bucket levels s old l n (node_in n i))

  -- the state with the table and both heads written
  abbrev middle : State
  middle = set (set (set s 0 (next_table (level s) old)) (head_at old) (head_words (first_to levels s old ns))) (head_at new)
      (head_words (first_to levels s new ns))

  middle_length : length middle ≡ length s
  middle_length = omega (arith, length-set {A = List ℕ})

  low_out : (o : ℕ) → o < first_grown levels → IsIn o ns → ⊥
  low_out o lt i = let x : first_grown levels ≤ o = high o i in omega arith

  pub table_now : words_at after 0 ≡ next_table (level s) old
  table_now =
      let some = l.some in
      let first : State = set s 0 (next_table (level s) old) in
      let second : State = set first (head_at old) (head_words (first_to levels s old ns)) in
      parted_out levels s middle ns 0 (low_out 0 (omega arith))
      ∙ get_or-set_other second (head_at new) 0 (head_words (first_to levels s new ns)) [] (λ e. omega arith)
      ∙ get_or-set_other first (head_at old) 0 (head_words (first_to levels s old ns)) [] (λ e. omega arith)
      ∙ get_or-set_same s 0 (next_table (level s) old) [] (omega arith)

  old_now : words_at after (head_at old) ≡ head_words (first_to levels s old ns)
  old_now =
      let some = l.some in let lt = in_level in let lo = new_low in
      let first : State = set s 0 (next_table (level s) old) in
      let second : State = set first (head_at old) (head_words (first_to levels s old ns)) in
      parted_out levels s middle ns (head_at old) (low_out (head_at old) (omega arith))
      ∙ get_or-set_other second (head_at new) (head_at old) (head_words (first_to levels s new ns)) [] (λ e. omega arith)
      ∙ get_or-set_same first (head_at old) (head_words (first_to levels s old ns)) [] (omega (arith, length-set s 0 (next_table (level s) old)))

  new_now : words_at after (head_at new) ≡ head_words (first_to levels s new ns)
  new_now =
      let some = l.some in let lo = new_low in
      let first : State = set s 0 (next_table (level s) old) in
      let second : State = set first (head_at old) (head_words (first_to levels s old ns)) in
      parted_out levels s middle ns (head_at new) (low_out (head_at new) (omega arith))
      ∙ get_or-set_same second (head_at new) (head_words (first_to levels s new ns)) [] (omega (arith, length-set {A = List ℕ}))

  -- Another object keeps its words.
  kept : (o : ℕ) → o ≢ 0 → o ≢ head_at old → o ≢ head_at new → owner s o ≢ suc (head_at old) → words_at after o ≡ words_at s o
  kept o a b c d =
      let first : State = set s 0 (next_table (level s) old) in
      let second : State = set first (head_at old) (head_words (first_to levels s old ns)) in
      parted_out levels s middle ns o (λ i. d (node_in o i).1)
      ∙ get_or-set_other second (head_at new) o (head_words (first_to levels s new ns)) [] c
      ∙ get_or-set_other first (head_at old) o (head_words (first_to levels s old ns)) [] b
      ∙ get_or-set_other s 0 o (next_table (level s) old) [] a

  kept_node : (o : ℕ) → first_grown levels ≤ o → owner s o ≢ suc (head_at old) → words_at after o ≡ words_at s o
  kept_node o lo d = let lt = in_level in let x = new_low in kept o (λ e. omega arith) (λ e. omega arith) (λ e. omega arith) d

  parted : AreParted levels s after ns
  parted = parted_in levels s middle (head_at old) ns rising
      (λ n i. (let x : n < length s = owned_in_range s n (head_at old) (node_in n i).1 in let y = middle_length in omega arith))

  len : length after ≡ length s
  len = length-written s (split_writes levels s ns)

  head_now : (g : ℕ) → g < most_buckets levels → words_at after (head_at g) ≡ head_words (link after (head_at g))
  head_now g lt = elim (cases_eq g old) [
    | inl e ↦ head_is (words_at after (head_at g)) (first_to levels s old ns) (ap (λ c. words_at after (head_at c)) e ∙ old_now)
    | inr a ↦ elim (cases_eq g new) [
      | inl e ↦ head_is (words_at after (head_at g)) (first_to levels s new ns) (ap (λ c. words_at after (head_at c)) e ∙ new_now)
      | inr b ↦ head_is (words_at after (head_at g)) (link s (head_at g))
          (kept (head_at g) (λ e. omega arith) (λ e. a (omega arith)) (λ e. b (omega arith))
          (λ e. (let z : owner s (head_at g) ≡ 0 = (l.lists g lt).unowned in omega arith)) ∙ l.heads g lt)
    ]
  ]

  -- a node of the second state is a node
  now_high : (o head : ℕ) → owner after o ≡ suc head → first_grown levels ≤ o
  now_high o head own = go (cases_lt o (first_grown levels))
    where
      unowned : (o : ℕ) → o < first_grown levels → owner after o ≡ 0
      unowned zero lt = ap (word 0) table_now ∙ table_owner (level s) old
      unowned (suc g) lt = ap (word 0) (head_now g (omega arith))

      go : (o < first_grown levels) ⊎ (first_grown levels ≤ o) → first_grown levels ≤ o
      go (inl lt) = let x = unowned o lt in absurd (omega arith)
      go (inr ge) = ge

  -- of the old bucket, and so one of its nodes before
  back_old : (n : ℕ) → IsNodeOf after (head_at old) n → IsIn n ns
  back_old n j = elim (cases_eq (owner s n) (suc (head_at old))) [
    | inl e ↦ in_node n (j.0, e)
    | inr ne ↦ absurd (ne (ap (word 0) (sym (kept_node n (now_high n (head_at old) j.1) ne)) ∙ j.1))
  ]

  -- or of the new one, of which there was none
  back_new : (n : ℕ) → IsNodeOf after (head_at new) n → IsIn n ns
  back_new n j = elim (cases_eq (owner s n) (suc (head_at old))) [
    | inl e ↦ in_node n (j.0, e)
    | inr ne ↦ (let own : owner s n ≡ suc (head_at new) = ap (word 0) (sym (kept_node n (now_high n (head_at new) j.1) ne)) ∙ j.1 in
        let home : bucket levels s (key s n) ≡ new = node_bucket levels s new l n (j.0, own) in
        let most : bucket levels s (key s n) < buckets_at (level s) + split_place s = bucket_present (level s) (split_place s) (hash levels (key s n)) in
        absurd (omega arith))
  ]

  other_list : (g : ℕ) → g < most_buckets levels → g ≢ old → g ≢ new → IsLinked after (head_at g)
  other_list g lt a b =
      list_kept s after (head_at g)
      (kept (head_at g) (λ e. omega arith) (λ e. a (omega arith)) (λ e. b (omega arith))
      (λ e. (let z : owner s (head_at g) ≡ 0 = (l.lists g lt).unowned in omega arith)))
      (λ o i. kept_node o (node_high levels s (head_at g) l o i) (λ e. a (let own : owner s o ≡ suc (head_at g) = i.1 in omega arith)))
      (λ o i. elim (cases_eq (owner s o) (suc (head_at old))) [
        | inl e ↦ (let own : owner after o ≡ suc (head_at g) = i.1 in
            let at : owner after o ≡ suc (head_at (split_bucket levels s o)) = ap (word 0) (parted_words levels s after ns parted o (in_node o (i.0, e))).1 in
            elim (goes o (in_node o (i.0, e))) [ inl q ↦ absurd (a (omega arith)) | inr q ↦ absurd (b (omega arith)) ])
        | inr ne ↦ (i.0, ap (word 0) (sym (kept_node o (now_high o (head_at g) i.1) ne)) ∙ i.1)
      ])
      len (l.lists g lt)

  lists : (g : ℕ) → g < most_buckets levels → IsLinked after (head_at g)
  lists g lt =
      let some = l.some in let same = len in let lo = new_low in
      elim (cases_eq g old) [
        | inl e ↦ subst (λ c. IsLinked after (head_at c)) (sym e)
            (list_parted levels s after (head_at old) old ns linked rising parted (ap (word 0) old_now) (ap (word 3) old_now) back_old (omega arith))
        | inr a ↦ elim (cases_eq g new) [
          | inl e ↦ subst (λ c. IsLinked after (head_at c)) (sym e)
              (list_parted levels s after (head_at old) new ns linked rising parted (ap (word 0) new_now) (ap (word 3) new_now) back_new (omega arith))
          | inr b ↦ other_list g lt a b
        ]
      ]

  nodes : (o : ℕ) → first_grown levels ≤ o → owner after o ≢ 0
      → words_at after o ≡ list_words (head_at (bucket levels after (key after o))) (key after o) (value after o) (link after o)
  nodes o lo some = elim (cases_eq (owner s o) (suc (head_at old))) [
    | inl e ↦ (let many : 1024 ≤ most_buckets levels = many_heads levels l.least in
        let i : IsIn o ns = in_node o (omega arith, e) in
        let w = parted_words levels s after ns parted o i in
        node_is levels after (words_at after o) (split_bucket levels s o) (key s o) (value s o) w.0 w.1
        (bucket_parted levels s after (key s o) table_now (split_mod (level s) old (hash levels (key s o)) in_level
        (node_bucket levels s old l o (node_in o i)))))
    | inr ne ↦ (let same : words_at after o ≡ words_at s o = kept_node o lo ne in
        let own : owner s o ≢ 0 = λ z. some (ap (word 0) same ∙ z) in
        let apart : bucket levels s (key s o) ≢ split_place s = λ z. ne ((node_of_bucket levels s l o lo own).1 ∙ ap (λ c. suc (head_at c)) z) in
        node_is levels after (words_at after o) (bucket levels s (key s o)) (key s o) (value s o) (link s o) (same ∙ l.nodes o lo own)
        (bucket_apart levels s after (key s o) table_now apart))
  ]

  -- A split leaves a lawful state,
  pub split_grown : IsGrown levels after
  split_grown = record {
    least = l.least;
    most = l.most;
    some = let x = l.some in let e = len in omega arith;
    few = let x = l.few in let e = len in omega arith;
    table = table_splits levels s after table_now below l.table;
    heads = head_now;
    lists = lists;
    nodes = nodes;
  }

  -- and the same set.
  pub split_map : grown_map levels after ≡ grown_map levels s
  split_map =
      let lo = new_low in
      let first : State = set s 0 (next_table (level s) old) in
      let second : State = set first (head_at old) (head_words (first_to levels s old ns)) in
      parted_map levels s middle (head_at old) ns rising
      (λ n i. (let hi : first_grown levels ≤ n = high n i in
      let lt = in_level in (
        hi,
        get_or-set_other second (head_at new) n (head_words (first_to levels s new ns)) [] (λ e. omega arith)
            ∙ get_or-set_other first (head_at old) n (head_words (first_to levels s old ns)) [] (λ e. omega arith)
            ∙ get_or-set_other s 0 n (next_table (level s) old) [] (λ e. omega arith),
      )))
      ∙ grown_map-low levels second (head_at new) (head_words (first_to levels s new ns)) (omega arith)
      ∙ grown_map-low levels first (head_at old) (head_words (first_to levels s old ns)) (omega arith)
      ∙ grown_map-low levels s 0 (next_table (level s) old) (omega arith)

  split_keys : (o : ℕ) → owner s o ≢ 0 → key after o ≡ key s o
  split_keys o some = elim (cases_eq (owner s o) (suc (head_at old))) [
    | inl e ↦ (let lo : first_grown levels ≤ o = owned_high o some in
        let many : 1024 ≤ most_buckets levels = many_heads levels l.least in
        let i : IsNodeOf s (head_at old) o = (omega arith, e) in
        ap (word 2) (parted_words levels s after ns parted o (in_node o i)).1)
    | inr ne ↦ ap (word 2) (kept_node o (owned_high o some) ne)
  ]
    where
      owned_high : (o : ℕ) → owner s o ≢ 0 → first_grown levels ≤ o
      owned_high o some = elim (cases_lt o (first_grown levels)) [ inl lt ↦ absurd (some (low_unowned levels s l o lt)) | inr ge ↦ ge ]

  -- A split is a commit of a growing hash set.
  pub split_allowed : IsGrowCommit levels (split_tag old) s (split_writes levels s ns)
  split_allowed = record {
    keeps = record { lawful_before = l; lawful_after = split_grown; keys = λ o some _. split_keys o some };
    grows = record {
      here = refl;
      below = below;
      leaves = ap (set empty grown_name) split_map;
      table = table_now;
      writes_table = touches-in (split_writes levels s ns) 0 (inl refl);
      writes_old = touches-in (split_writes levels s ns) (head_at old) (inr (inl refl));
      writes_new = touches-in (split_writes levels s ns) (head_at new) (inr (inr (inl refl)));
      writes_nodes = λ o j. touches-in (split_writes levels s ns) o (inr (inr (inr (subst (IsIn o) (sym (parted_objects levels s ns)) (in_node o j)))));
    };
  }
