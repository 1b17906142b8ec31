-- An add at its place keeps a grown state lawful, and puts its key into the set.
use Rattle.list_set.proofs.Adding.{add_writes_do}
use Rattle.std.proofs.Common.{◌≡◌, ◌≢◌, ◌^◌, ◌<◌, ◌≤◌, ◌⊎◌, ℕ, suc, inl, inr, false, not, [], length, set, refl, sym, ap, ◌∙◌, subst, arith, get_or-set_other}
use Rattle.grow_hash.proofs.Terms.{length-set, cases_eq, false_from_ne_true, State, written, words_at, length-written, Add, empty, has_key, put, owner, key}
use Rattle.grow_hash.proofs.Terms.{link, value, head_words, list_words, relink, tag_of, word, owned_in_range, owner-relink, kind-relink, key-relink, IsInList}
use Rattle.grow_hash.proofs.Terms.{IsAddPlace, add_writes, IsNodeOf, IsLinked, Added, bucket, IsGrown, head_at, grown_map, grown_name, KeepsGrown, IsGrowCommit}
use Rattle.grow_hash.proofs.KeptLists.{list_kept}
use Rattle.grow_hash.proofs.LinkedAdds.{add_new, Inserted, more_owner, more_key, list_more}
use Rattle.grow_hash.proofs.Buckets.{many_heads}
use Rattle.grow_hash.proofs.GrownMaps.{grown_map-keeps, grown_map-relink, grown_map-more}
use Rattle.grow_hash.proofs.GrownStates.{node_high, bucket_low, keeps_node, table_kept, bucket_kept, head_is, node_is}
use Rattle.grow_hash.proofs.Committing.{grow_commit}
use Rattle.grow_hash.proofs.Terms.{most_buckets, first_grown}

-- an object of a bucket's list is its head, or a node
pub list_high : (levels : ℕ) (s : State) (b p : ℕ) → IsGrown levels s → IsInList s (head_at b) p → (p ≡ head_at b) ⊎ (first_grown levels ≤ p)
list_high levels s b p l (inl e) = inl e
list_high levels s b p l (inr i) = inr (node_high levels s (head_at b) l p i)

-- its link is read back once it is written
pub relinked : (levels : ℕ) (s : State) (b p to : ℕ) → IsGrown levels s → b < most_buckets levels → IsInList s (head_at b) p
    → word 3 (relink (words_at s p) to) ≡ to
relinked levels s b p to l lt (inl e) =
    ap (λ w. word 3 (relink w to)) (ap (words_at s) e ∙ l.heads b lt)
relinked levels s b p to l lt (inr i) =
    let own : owner s p ≡ suc (head_at b) = i.1 in
    ap (λ w. word 3 (relink w to)) (l.nodes p (node_high levels s (head_at b) l p i) (omega arith))

pub list_in_range : (levels : ℕ) (s : State) (b p : ℕ) → IsGrown levels s → b < most_buckets levels → IsInList s (head_at b) p → p < length s
list_in_range levels s b p l lt (inl e) = let x = (l.lists b lt).here in omega arith
list_in_range levels s b p l lt (inr i) = owned_in_range s p (head_at b) i.1

module _ (levels : ℕ) (s : State) (b k v p n : ℕ) (l : IsGrown levels s) (home : bucket levels s k ≡ b) (place : IsAddPlace s (head_at b) k p)
    (lo : first_grown levels ≤ n) (lt : n < length s)
    (vac : owner s n ≡ 0) where
  abbrev after : State
  after = written s (add_writes s (head_at b) k v p n)

  in_buckets : b < most_buckets levels
  in_buckets = let x : bucket levels s k < most_buckets levels = bucket_low levels s l k in omega arith

  linked : IsLinked s (head_at b)
  linked = l.lists b in_buckets

  pub add_apart : p ≢ n
  add_apart e = elim place.within [
    | inl f ↦ (let x = in_buckets in omega arith)
    | inr i ↦ (let x : owner s p ≡ suc (head_at b) = i.1 in let y : owner s p ≡ owner s n = ap (owner s) e in omega arith)
  ]

  done : Added s after (head_at b) p (record { object = n; key = k; value = v }) (link s p)
  done = add_writes_do s (head_at b) p (record { object = n; key = k; value = v }) (list_in_range levels s b p l in_buckets place.within) lt add_apart

  inserted : Inserted s after (head_at b) k p n
  inserted = record {
    is_node = let many : 1024 ≤ most_buckets levels = many_heads levels l.least in omega arith;
    vacant = vac;
    no_head = λ e. (let x = in_buckets in omega arith);
    apart = λ e. add_apart (sym e);
    same_owner = ap (word 0) done.before ∙ owner-relink (words_at s p) n;
    same_kind = ap (word 1) done.before ∙ kind-relink (words_at s p) n;
    same_key = ap (word 2) done.before ∙ key-relink (words_at s p) n;
    to_new = ap (word 3) done.before ∙ relinked levels s b p n l in_buckets place.within;
    new_owner = ap (word 0) done.new;
    new_kind = ap (word 1) done.new;
    new_key = ap (word 2) done.new;
    new_link = ap (word 3) done.new;
    others = done.others;
  }

  len : length after ≡ length s
  len = length-written s (add_writes s (head_at b) k v p n)

  owner_now : (o : ℕ) → o ≢ n → owner after o ≡ owner s o
  owner_now = more_owner s after (head_at b) k p n linked place inserted

  key_now : (o : ℕ) → o ≢ n → key after o ≡ key s o
  key_now = more_key s after (head_at b) k p n linked place inserted

  pub add_table : words_at after 0 ≡ words_at s 0
  add_table =
      done.others 0 (λ e. elim (list_high levels s b p l place.within) [ inl f ↦ omega arith | inr g ↦ omega arith ]) (λ e. omega arith)

  other_head : (g : ℕ) → g < most_buckets levels → g ≢ b → words_at after (head_at g) ≡ words_at s (head_at g)
  other_head g lg ne =
      done.others (head_at g)
      (λ e. elim (list_high levels s b p l place.within) [ inl f ↦ ne (let x : suc g ≡ suc b = e ∙ f in omega arith) | inr h ↦ omega arith ])
      (λ e. omega arith)

  other_node : (g o : ℕ) → g ≢ b → IsNodeOf s (head_at g) o → words_at after o ≡ words_at s o
  other_node g o ne i =
      let own : owner s o ≡ suc (head_at g) = i.1 in
      let hi : first_grown levels ≤ o = node_high levels s (head_at g) l o i in
      let x = in_buckets in
      done.others o
      (λ e. elim place.within [
        | inl f ↦ omega arith
        | inr j ↦ ne (let y : owner s p ≡ suc (head_at b) = j.1 in let z : owner s o ≡ owner s p = ap (owner s) e in omega arith)
      ])
      (λ e. (let z : owner s o ≡ owner s n = ap (owner s) e in omega arith))

  other_back : (g o : ℕ) → g ≢ b → IsNodeOf after (head_at g) o → IsNodeOf s (head_at g) o
  other_back g o ne i =
      let new : o ≢ n = λ e. ne (let x : owner after o ≡ owner after n = ap (owner after) e in let y = inserted.new_owner in
      let z : owner after o ≡ suc (head_at g) = i.1 in omega arith) in
      (i.0, sym (owner_now o new) ∙ i.1)

  heads : (g : ℕ) → g < most_buckets levels → (head_at g ≡ p) ⊎ (head_at g ≢ p) → words_at after (head_at g) ≡ head_words (link after (head_at g))
  heads g lg (inl e) =
      head_is (words_at after (head_at g)) n
      (ap (words_at after) e ∙ done.before ∙ ap (λ w. relink w n) (ap (words_at s) (sym e) ∙ l.heads g lg))
  heads g lg (inr ne) =
      head_is (words_at after (head_at g)) (link s (head_at g)) (done.others (head_at g) ne (λ e. omega arith) ∙ l.heads g lg)

  nodes : (o : ℕ) → first_grown levels ≤ o → owner after o ≢ 0 → (o ≡ n) ⊎ (o ≢ n) → (o ≡ p) ⊎ (o ≢ p)
      → words_at after o ≡ list_words (head_at (bucket levels after (key after o))) (key after o) (value after o) (link after o)
  nodes o ho some (inl e) _ =
      node_is levels after (words_at after o) b k v (link s p) (ap (words_at after) e ∙ done.new) (bucket_kept levels s after k add_table ∙ home)
  nodes o ho some (inr ne) (inl e) =
      let own : owner s o ≢ 0 = λ z. some (owner_now o ne ∙ z) in
      node_is levels after (words_at after o) (bucket levels s (key s o)) (key s o) (value s o) n
      (ap (words_at after) e ∙ done.before ∙ ap (λ w. relink w n) (ap (words_at s) (sym e) ∙ l.nodes o ho own)) (bucket_kept levels s after (key s o) add_table)
  nodes o ho some (inr ne) (inr np) =
      let own : owner s o ≢ 0 = λ z. some (owner_now o ne ∙ z) in
      node_is levels after (words_at after o) (bucket levels s (key s o)) (key s o) (value s o) (link s o)
      (done.others o np ne ∙ l.nodes o ho own) (bucket_kept levels s after (key s o) add_table)

  -- An add at its place leaves a lawful state.
  pub add_grown : k < 2 ^ 32 → IsGrown levels after
  add_grown fit = record {
    least = l.least;
    most = l.most;
    some = let x = l.some in let e = len in omega arith;
    few = let x = l.few in let e = len in omega arith;
    table = table_kept levels s after add_table l.table;
    heads = λ g lg. heads g lg (cases_eq (head_at g) p);
    lists = λ g lg. elim (cases_eq g b) [
      | inl e ↦ subst (λ u. IsLinked after (head_at u)) (sym e) (list_more s after (head_at b) k p n linked place inserted len fit)
      | inr ne ↦ list_kept s after (head_at g) (other_head g lg ne) (λ o i. other_node g o ne i) (λ o i. other_back g o ne i) len (l.lists g lg)
    ];
    nodes = λ o ho some. nodes o ho some (cases_eq o n) (cases_eq o p);
  }

  -- The key is not there.
  pub add_absent : has_key k (grown_map levels s) ≡ false
  add_absent = false_from_ne_true (has_key k (grown_map levels s)) (λ h.
      (let u = grown_map-keeps levels s k h in
      add_new s (head_at b) k p linked place u.0 (subst (λ c. IsNodeOf s (head_at c) u.0) home (keeps_node levels s k u.0 l u.1)) u.1.key_is))

  -- It puts the key into the set.
  pub add_map : grown_map levels after ≡ put k v (grown_map levels s)
  add_map =
      let middle : State = set s p (relink (words_at s p) n) in
      let same : grown_map levels middle ≡ grown_map levels s = grown_map-relink levels s p n in
      let there : words_at middle n ≡ words_at s n = get_or-set_other s p n (relink (words_at s p) n) [] (λ e. add_apart (sym e)) in
      grown_map-more levels middle n (list_words (head_at b) k v (link s p)) lo (omega (arith, length-set s p (relink (words_at s p) n)))
      (ap (word 0) there ∙ vac) (λ z. omega arith) (ap (has_key k) same ∙ add_absent)
      ∙ ap (put k v) same

  add_keeps : k < 2 ^ 32 → KeepsGrown levels s after
  add_keeps fit = record {
    lawful_before = l;
    lawful_after = add_grown fit;
    keys = λ o some same. key_now o (λ e. some (ap (owner s) e ∙ vac));
  }

-- An add is a commit of a growing hash set.
pub add_allowed : (levels : ℕ) (s : State) (b k p n : ℕ) → IsGrown levels s → bucket levels s k ≡ b → IsAddPlace s (head_at b) k p → first_grown levels ≤ n
    → n < length s → owner s n ≡ 0 → k < 2 ^ 32
    → IsGrowCommit levels (tag_of (Add grown_name k)) s (add_writes s (head_at b) k 0 p n)
add_allowed levels s b k p n l home place lo lt vac fit =
    grow_commit levels (Add grown_name k) s (add_writes s (head_at b) k 0 p n) refl (add_keeps levels s b k 0 p n l home place lo lt vac fit)
    (add_table levels s b k 0 p n l home place lo lt vac) (ap not (add_absent levels s b k 0 p n l home place lo lt vac))
    (ap (set empty grown_name) (add_map levels s b k 0 p n l home place lo lt vac))
