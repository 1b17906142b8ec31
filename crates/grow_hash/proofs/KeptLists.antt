-- A list of which nothing changes.
use Rattle.std.proofs.Common.{◌≡◌, ◌≢◌, ◌^◌, ◌<◌, ◌≤◌}
use Rattle.grow_hash.proofs.Terms.{ℕ, inl, inr, length, sym, ap, ◌∙◌, subst, arith, State, words_at, key, link, word, IsInList, IsNodeOf, IsAfter, IsLinked}

module _ (s s' : State) (head : ℕ) (here : words_at s' head ≡ words_at s head) (kept : (o : ℕ) → IsNodeOf s head o → words_at s' o ≡ words_at s o)
    (back : (o : ℕ) → IsNodeOf s' head o → IsNodeOf s head o) where
  same : (o : ℕ) → IsInList s head o → words_at s' o ≡ words_at s o
  same o (inl e) = ap (words_at s') e ∙ here ∙ sym (ap (words_at s) e)
  same o (inr n) = kept o n

  list_back : (o : ℕ) → IsInList s' head o → IsInList s head o
  list_back o (inl e) = inl e
  list_back o (inr n) = inr (back o n)

  now : (o : ℕ) → IsNodeOf s head o → IsNodeOf s' head o
  now o n = (n.0, ap (word 0) (kept o n) ∙ n.1)

  key_same : (o : ℕ) → IsNodeOf s head o → key s' o ≡ key s o
  key_same o n = ap (word 2) (kept o n)

  after_back : (o n : ℕ) → IsNodeOf s head n → IsAfter s' head o n → IsAfter s head o n
  after_back o n j a = λ m. (let x : key s' o < key s' n = a (now o m) in let e = key_same o m in let f = key_same n j in omega arith)

  after_now : (o n : ℕ) → IsNodeOf s head n → IsAfter s head o n → IsAfter s' head o n
  after_now o n j a = λ m. (let x : key s o < key s n = a (back o m) in let e = key_same o (back o m) in let f = key_same n j in omega arith)

  leads : IsLinked s head → (o : ℕ) → IsInList s head o → link s' o ≢ 0 → IsNodeOf s' head (link s' o) × IsAfter s' head o (link s' o)
  leads l o i n =
      let e : link s' o ≡ link s o = ap (word 3) (same o i) in
      let r = l.leads o i (λ z. n (e ∙ z)) in
      subst (λ u. IsNodeOf s' head u × IsAfter s' head o u) (sym e) (now (link s o) r.0, after_now o (link s o) r.0 r.1)

  least : IsLinked s head → (o n : ℕ) → IsInList s head o → IsNodeOf s head n → IsAfter s' head o n → (link s' o ≢ 0) × (key s' (link s' o) ≤ key s' n)
  least l o n i j a =
      let e : link s' o ≡ link s o = ap (word 3) (same o i) in
      let r = l.least o n i j (after_back o n j a) in
      let to : IsNodeOf s head (link s o) = (l.leads o i r.0).0 in
      let x : key s (link s o) ≤ key s n = r.1 in
      let f : key s' (link s o) ≡ key s (link s o) = key_same (link s o) to in
      let g : key s' n ≡ key s n = key_same n j in
      (λ z. r.0 (sym e ∙ z), subst (λ u. key s' u ≤ key s' n) (sym e) (omega arith))

  -- Where its head and its nodes keep their words, and no other node comes, a list stays.
  pub list_kept : length s' ≡ length s → IsLinked s head → IsLinked s' head
  list_kept len l = record {
    here = let x = l.here in omega arith;
    unowned = ap (word 0) here ∙ l.unowned;
    kinds = λ n i. ap (word 1) (kept n (back n i)) ∙ l.kinds n (back n i);
    fits = λ n i. (let x : key s n < 2 ^ 32 = l.fits n (back n i) in let e = key_same n (back n i) in omega arith);
    leads = λ o i n. leads l o (list_back o i) n;
    least = λ o n i j a. least l o n (list_back o i) (back n j) a;
    once = λ n m i j e. l.once n m (back n i) (back m j) (sym (key_same n (back n i)) ∙ e ∙ key_same m (back m j));
  }
