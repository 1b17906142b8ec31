-- A del at its place keeps a grown state lawful, and takes its key out of the set.
use Rattle.list_set.proofs.Removing.{del_writes_do}
use Rattle.grow_hash.proofs.Terms.{ℕ, suc, inl, inr, true, false, [], length, set, refl, sym, ap, ◌∙◌, subst, arith, get_or-set_other, length-set, cases_eq}
use Rattle.grow_hash.proofs.Terms.{false_from_ne_true, State, written, words_at, length-written, Del, empty, has_key, take_out, owner, key, link, value}
use Rattle.grow_hash.proofs.Terms.{head_words, list_words, no_words, relink, tag_of, word, owned_in_range, owner-relink, kind-relink, key-relink, IsDelPlace}
use Rattle.grow_hash.proofs.Terms.{del_writes, IsNodeOf, IsLinked, Taken, bucket, IsGrown, head_at, grown_map, grown_name, KeepsGrown, IsGrowCommit}
use Rattle.grow_hash.proofs.Terms.{most_buckets, first_grown, ◌≡◌, ◌≢◌, ◌<◌, ◌≤◌, ◌⊎◌}
use Rattle.grow_hash.proofs.KeptLists.{list_kept}
use Rattle.grow_hash.proofs.LinkedDels.{del_node, del_apart, Unlinked, less_owner, less_key, list_less}
use Rattle.grow_hash.proofs.GrownMaps.{Keeps, grown_map-keeps, keeps-grown_map, grown_map-relink, grown_map-less}
use Rattle.grow_hash.proofs.GrownStates.{node_high, node_keeps, key_once, table_kept, bucket_kept, head_is, node_is}
use Rattle.grow_hash.proofs.GrownAdds.{list_high, relinked, list_in_range}
use Rattle.grow_hash.proofs.Committing.{grow_commit}

module _ (levels : ℕ) (s : State) (b k p n : ℕ) (l : IsGrown levels s) (in_buckets : b < most_buckets levels) (place : IsDelPlace s (head_at b) k p n) where
  abbrev after : State
  after = written s (del_writes s p n)

  linked : IsLinked s (head_at b)
  linked = l.lists b in_buckets

  node : IsNodeOf s (head_at b) n
  node = del_node s (head_at b) k p n linked place

  high : first_grown levels ≤ n
  high = node_high levels s (head_at b) l n node

  in_range : n < length s
  in_range = owned_in_range s n (head_at b) node.1

  apart : p ≢ n
  apart = del_apart s (head_at b) k p n linked place

  done : Taken s after p n (link s n)
  done = del_writes_do s p n (list_in_range levels s b p l in_buckets place.within) in_range apart

  unlinked : Unlinked s after p n
  unlinked = record {
    same_owner = ap (word 0) done.before ∙ owner-relink (words_at s p) (link s n);
    same_kind = ap (word 1) done.before ∙ kind-relink (words_at s p) (link s n);
    same_key = ap (word 2) done.before ∙ key-relink (words_at s p) (link s n);
    past = ap (word 3) done.before ∙ relinked levels s b p (link s n) l in_buckets place.within;
    gone = ap (word 0) done.gone;
    others = done.others;
  }

  len : length after ≡ length s
  len = length-written s (del_writes s p n)

  owner_now : (o : ℕ) → o ≢ n → owner after o ≡ owner s o
  owner_now = less_owner s after (head_at b) k p n linked place unlinked

  key_now : (o : ℕ) → o ≢ n → key after o ≡ key s o
  key_now = less_key s after (head_at b) k p n linked place unlinked

  left : (o : ℕ) → owner after o ≢ 0 → o ≢ n
  left o some e = some (ap (owner after) e ∙ unlinked.gone)

  pub del_table : words_at after 0 ≡ words_at s 0
  del_table =
      let x = high in
      done.others 0 (λ e. elim (list_high levels s b p l place.within) [ inl f ↦ omega arith | inr g ↦ omega arith ]) (λ e. omega arith)

  other_head : (g : ℕ) → g < most_buckets levels → g ≢ b → words_at after (head_at g) ≡ words_at s (head_at g)
  other_head g lg ne =
      let x = high in
      done.others (head_at g)
      (λ e. elim (list_high levels s b p l place.within) [ inl f ↦ ne (let x : suc g ≡ suc b = e ∙ f in omega arith) | inr h ↦ omega arith ])
      (λ e. omega arith)

  other_node : (g o : ℕ) → g ≢ b → IsNodeOf s (head_at g) o → words_at after o ≡ words_at s o
  other_node g o ne i =
      let own : owner s o ≡ suc (head_at g) = i.1 in
      let hi : first_grown levels ≤ o = node_high levels s (head_at g) l o i in
      done.others o
      (λ e. elim place.within [
        | inl f ↦ omega arith
        | inr j ↦ ne (let y : owner s p ≡ suc (head_at b) = j.1 in let z : owner s o ≡ owner s p = ap (owner s) e in omega arith)
      ])
      (λ e. ne (let y : owner s n ≡ suc (head_at b) = node.1 in let z : owner s o ≡ owner s n = ap (owner s) e in omega arith))

  other_back : (g o : ℕ) → IsNodeOf after (head_at g) o → IsNodeOf s (head_at g) o
  other_back g o i =
      let own : owner after o ≡ suc (head_at g) = i.1 in
      (i.0, sym (owner_now o (left o (omega arith))) ∙ i.1)

  heads : (g : ℕ) → g < most_buckets levels → (head_at g ≡ p) ⊎ (head_at g ≢ p) → words_at after (head_at g) ≡ head_words (link after (head_at g))
  heads g lg (inl e) =
      head_is (words_at after (head_at g)) (link s n)
      (ap (words_at after) e ∙ done.before ∙ ap (λ w. relink w (link s n)) (ap (words_at s) (sym e) ∙ l.heads g lg))
  heads g lg (inr ne) =
      let x = high in
      head_is (words_at after (head_at g)) (link s (head_at g)) (done.others (head_at g) ne (λ e. omega arith) ∙ l.heads g lg)

  nodes : (o : ℕ) → first_grown levels ≤ o → owner after o ≢ 0 → (o ≡ p) ⊎ (o ≢ p)
      → words_at after o ≡ list_words (head_at (bucket levels after (key after o))) (key after o) (value after o) (link after o)
  nodes o ho some (inl e) =
      let own : owner s o ≢ 0 = λ z. some (owner_now o (left o some) ∙ z) in
      node_is levels after (words_at after o) (bucket levels s (key s o)) (key s o) (value s o) (link s n)
      (ap (words_at after) e ∙ done.before ∙ ap (λ w. relink w (link s n)) (ap (words_at s) (sym e) ∙ l.nodes o ho own))
      (bucket_kept levels s after (key s o) del_table)
  nodes o ho some (inr np) =
      let own : owner s o ≢ 0 = λ z. some (owner_now o (left o some) ∙ z) in
      node_is levels after (words_at after o) (bucket levels s (key s o)) (key s o) (value s o) (link s o)
      (done.others o np (left o some) ∙ l.nodes o ho own) (bucket_kept levels s after (key s o) del_table)

  -- A del at its place leaves a lawful state.
  pub del_grown : IsGrown levels after
  del_grown = record {
    least = l.least;
    most = l.most;
    some = let x = l.some in let e = len in omega arith;
    few = let x = l.few in let e = len in omega arith;
    table = table_kept levels s after del_table l.table;
    heads = λ g lg. heads g lg (cases_eq (head_at g) p);
    lists = λ g lg. elim (cases_eq g b) [
      | inl e ↦ subst (λ u. IsLinked after (head_at u)) (sym e) (list_less s after (head_at b) k p n linked place unlinked len)
      | inr ne ↦ list_kept s after (head_at g) (other_head g lg ne) (λ o i. other_node g o ne i) (λ o i. other_back g o i) len (l.lists g lg)
    ];
    nodes = λ o ho some. nodes o ho some (cases_eq o p);
  }

  -- The key is there.
  pub del_present : has_key k (grown_map levels s) ≡ true
  del_present = keeps-grown_map levels s k n (node_keeps levels s b k n l node place.has)

  -- no other node has it
  gone_key : has_key k (grown_map levels after) ≡ false
  gone_key = false_from_ne_true (has_key k (grown_map levels after)) (λ h.
      (let u = grown_map-keeps levels after k h in
      let ne : u.0 ≢ n = left u.0 u.1.owned in
      let there : Keeps levels s k u.0 = record {
        node = u.1.node;
        owned = λ z. u.1.owned (owner_now u.0 ne ∙ z);
        key_is = sym (key_now u.0 ne) ∙ u.1.key_is;
      } in
      ne (key_once levels s l u.0 n k there (node_keeps levels s b k n l node place.has))))

  -- It takes the key out of the set.
  pub del_map : grown_map levels after ≡ take_out k (grown_map levels s)
  del_map =
      let middle : State = set s p (relink (words_at s p) (link s n)) in
      let there : words_at middle n ≡ words_at s n = get_or-set_other s p n (relink (words_at s p) (link s n)) [] (λ e. apart (sym e)) in
      let same : key middle n ≡ k = ap (word 2) there ∙ place.has in
      let own : owner middle n ≡ suc (head_at b) = ap (word 0) there ∙ node.1 in
      grown_map-less levels middle n no_words high (omega (arith, in_range, length-set s p (relink (words_at s p) (link s n)))) (λ z. omega arith) refl
      (ap (λ j. has_key j (grown_map levels after)) same ∙ gone_key)
      ∙ ap (λ j. take_out j (grown_map levels middle)) same ∙ ap (take_out k) (grown_map-relink levels s p (link s n))

  del_keeps : KeepsGrown levels s after
  del_keeps = record {
    lawful_before = l;
    lawful_after = del_grown;
    keys = λ o some same. key_now o (left o (λ z. some (sym same ∙ z)));
  }

  -- A del is a commit of a growing hash set.
  pub del_allowed : IsGrowCommit levels (tag_of (Del grown_name k)) s (del_writes s p n)
  del_allowed =
      grow_commit levels (Del grown_name k) s (del_writes s p n) refl del_keeps del_table del_present (ap (set empty grown_name) del_map)
