-- The last entry of a history that passes a test, and the last write of an object up to a time.
use Rattle.std.proofs.Common.{◌≡◌, ℕ, zero, suc, ◌+◌, ◌-◌, ◌<◌, ◌≤◌, Bool, true, false, List, [], ◌∷◌, ◌++◌}
use Rattle.std.proofs.Common.{length, take, Some, slice_get, sym, refl, ap, ◌∙◌, subst, arith, length-take}
use Rattle.std.proofs.lemmas.Option.{slice_get_within}
use Rattle.mv_core.proofs.Terms.{dite, dec_lt, dec_le, Entry, one_more, last_that, writes_to, latest, latest_at, IsEntry, IsNextWrite}

-- an element of a list's beginning is the list's
pub slice_get-take : {X : Type 0} (n : ℕ) (xs : List X) (i : ℕ) → i < n → slice_get (take n xs) i ≡ slice_get xs i
slice_get-take zero xs i lt = absurd (omega arith)
slice_get-take (suc n) [] i lt = refl
slice_get-take (suc n) (x ∷ xs) zero lt = refl
slice_get-take (suc n) (x ∷ xs) (suc i) lt = slice_get-take n xs i (omega arith)

one_more-le : (b : Bool) (n m : ℕ) → n ≤ m → one_more b n ≤ suc m
one_more-le b (suc n) m h = omega arith
one_more-le true zero m h = omega arith
one_more-le false zero m h = omega arith

one_more-mono : (b : Bool) (n m : ℕ) → n ≤ m → one_more b n ≤ one_more b m
one_more-mono b (suc n) (suc m) h = omega arith
one_more-mono b (suc n) zero h = absurd (omega arith)
one_more-mono b zero (suc m) h = one_more-le b zero (suc m) h
one_more-mono true zero zero h = omega arith
one_more-mono false zero zero h = omega arith

pub one_more-back : (b : Bool) (n a : ℕ) → one_more b n ≤ suc a → n ≤ a
one_more-back b (suc n) a h = omega arith
one_more-back b zero a h = omega arith

one_more-up : (b : Bool) (n i : ℕ) → i < n → suc i < one_more b n
one_more-up b (suc n) i h = omega arith
one_more-up b zero i h = absurd (omega arith)

one_more-some : (b : Bool) (n : ℕ) → b ≡ true → 0 < one_more b n
one_more-some b (suc n) e = omega arith
one_more-some true zero e = omega arith
one_more-some false zero e = absurd cc

module _ (test : Entry → Bool) where
  pub last_that-le : (es : List Entry) → last_that test es ≤ length es
  last_that-le [] = omega arith
  last_that-le (e ∷ es) = one_more-le (test e) (last_that test es) (length es) (last_that-le es)

  -- an entry that passes isn't after the last one
  pub last_that-reaches : (es : List Entry) (i : ℕ) (e : Entry) → slice_get es i ≡ Some e → test e ≡ true → i < last_that test es
  last_that-reaches [] i e at passes = absurd cc
  last_that-reaches (x ∷ es) zero e at passes = let same : x ≡ e = cc in one_more-some (test x) (last_that test es) (ap test same ∙ passes)
  last_that-reaches (x ∷ es) (suc i) e at passes = one_more-up (test x) (last_that test es) i (last_that-reaches es i e at passes)

  -- the entry at a place, which passes
  Passes : List Entry → ℕ → Type 0
  Passes es i = (e : Entry) × (slice_get es i ≡ Some e) × (test e ≡ true)

  passes_go : (x : Entry) (es : List Entry) (i n : ℕ) (b : Bool) → ((j : ℕ) → n ≡ suc j → Passes es j) → test x ≡ b → one_more b n ≡ suc i → Passes (x ∷ es) i
  unfolding Passes
  passes_go x es i (suc n) b rest is e =
      let p = rest n refl in let j : suc n ≡ i = omega arith in subst (λ (k : ℕ). (e : Entry) × (slice_get (x ∷ es) k ≡ Some e) × (test e ≡ true)) j p
  passes_go x es i zero true rest is e =
      let j : zero ≡ i = omega arith in subst (λ (k : ℕ). (e : Entry) × (slice_get (x ∷ es) k ≡ Some e) × (test e ≡ true)) j (x, refl, is)
  passes_go x es i zero false rest is e = absurd (omega arith)

  -- the last one passes
  last_that-passes : (es : List Entry) (i : ℕ) → last_that test es ≡ suc i → Passes es i
  last_that-passes [] i e = absurd (omega arith)
  last_that-passes (x ∷ es) i e = passes_go x es i (last_that test es) (test x) (λ j e. last_that-passes es j e) refl e

  pub last_that-is : (es : List Entry) (i : ℕ) → last_that test es ≡ suc i → (e : Entry) × (slice_get es i ≡ Some e) × (test e ≡ true)
  unfolding Passes
  last_that-is es i e = last_that-passes es i e

  -- one more entry, that passes or doesn't
  pub last_that-push : (es : List Entry) (e : Entry) → test e ≡ true → last_that test (es ++ e ∷ []) ≡ suc (length es)
  last_that-push [] e passes = ap (λ b. one_more b 0) passes
  last_that-push (x ∷ es) e passes = ap (one_more (test x)) (last_that-push es e passes)

  pub last_that-skip : (es : List Entry) (e : Entry) → test e ≡ false → last_that test (es ++ e ∷ []) ≡ last_that test es
  last_that-skip [] e fails = ap (λ b. one_more b 0) fails
  last_that-skip (x ∷ es) e fails = ap (one_more (test x)) (last_that-skip es e fails)

  -- among fewer entries it isn't later
  pub last_that-take-mono : (es : List Entry) (a b : ℕ) → a ≤ b → last_that test (take a es) ≤ last_that test (take b es)
  last_that-take-mono es zero b le = omega arith
  last_that-take-mono es (suc a) zero le = absurd (omega arith)
  last_that-take-mono [] (suc a) (suc b) le = omega arith
  last_that-take-mono (x ∷ es) (suc a) (suc b) le =
      one_more-mono (test x) (last_that test (take a es)) (last_that test (take b es)) (last_that-take-mono es a b (omega arith))

  -- and it is the same where it is among these
  pub last_that-take-same : (es : List Entry) (a b : ℕ) → a ≤ b → last_that test (take b es) ≤ a → last_that test (take a es) ≡ last_that test (take b es)
  last_that-take-same es zero b le within = omega arith
  last_that-take-same es (suc a) zero le within = absurd (omega arith)
  last_that-take-same [] (suc a) (suc b) le within = refl
  last_that-take-same (x ∷ es) (suc a) (suc b) le within =
      ap (one_more (test x)) (last_that-take-same es a b (omega arith) (one_more-back (test x) (last_that test (take b es)) a within))

  pub last_that-take-all : (es : List Entry) (a : ℕ) → length es ≤ a → last_that test (take a es) ≡ last_that test es
  last_that-take-all [] zero le = refl
  last_that-take-all [] (suc a) le = refl
  last_that-take-all (x ∷ es) zero le = absurd (omega arith)
  last_that-take-all (x ∷ es) (suc a) le = ap (one_more (test x)) (last_that-take-all es a (omega arith))

module _ (base : ℕ) (h : List Entry) (o : ℕ) where
  pub latest-le : latest base h o ≤ base + length h
  latest-le = omega (arith, last_that-le (writes_to o) h)

  pub latest_at-low : (t : ℕ) → base ≤ latest_at base h o t
  latest_at-low t = omega arith

  pub latest_at-le : (t : ℕ) → base ≤ t → latest_at base h o t ≤ t
  latest_at-le t low = omega (arith, last_that-le (writes_to o) (take (t - base) h), length-take (t - base) h)

  pub latest_at-mono : (a b : ℕ) → a ≤ b → latest_at base h o a ≤ latest_at base h o b
  latest_at-mono a b le = omega (arith, last_that-take-mono (writes_to o) h (a - base) (b - base) (omega arith))

  -- where the last write up to a time isn't after an earlier time, it is the last one up to that too
  pub latest_at-same : (a b : ℕ) → a ≤ b → latest_at base h o b ≤ a → latest_at base h o a ≡ latest_at base h o b
  latest_at-same a b le within = ap (λ n. base + n) (last_that-take-same (writes_to o) h (a - base) (b - base) (omega arith) (omega arith))

  -- at the end of the history, and after it, it is the last write of all
  pub latest_at-end : (t : ℕ) → base + length h ≤ t → latest_at base h o t ≡ latest base h o
  latest_at-end t le = ap (λ n. base + n) (last_that-take-all (writes_to o) h (t - base) (omega arith))

  pub latest_at-latest : (t : ℕ) → latest_at base h o t ≤ latest base h o
  latest_at-latest t =
      let m = latest_at-mono t (t + (base + length h)) (omega arith) in let e = latest_at-end (t + (base + length h)) (omega arith) in omega arith

  pub latest_at-whole : (t : ℕ) → latest base h o ≤ t → latest_at base h o t ≡ latest base h o
  latest_at-whole t le =
      let e = latest_at-end (t + (base + length h)) (omega arith) in
      latest_at-same t (t + (base + length h)) (omega arith) (omega arith) ∙ e

  -- an entry is one of the history
  pub entry-within : (u : ℕ) (e : Entry) → IsEntry base h u e → (base < u) × (u ≤ base + length h)
  entry-within u e is = let lt = slice_get_within h (u - (base + 1)) e is.1 in let low = is.0 in (low, omega arith)

  -- no entry up to a time that writes the object is after the last such
  pub latest_at-reaches : (u t : ℕ) (e : Entry) → IsEntry base h u e → writes_to o e ≡ true → u ≤ t → u ≤ latest_at base h o t
  latest_at-reaches u t e is writes le =
      let low = is.0 in
      let at = slice_get-take (t - base) h (u - (base + 1)) (omega arith) ∙ is.1 in
      omega (arith, last_that-reaches (writes_to o) (take (t - base) h) (u - (base + 1)) e at writes)

  pub latest-reaches : (u : ℕ) (e : Entry) → IsEntry base h u e → writes_to o e ≡ true → u ≤ latest base h o
  latest-reaches u e is writes = let a = latest_at-reaches u u e is writes (omega arith) in let b = latest_at-latest u in omega arith

  -- up to its own time it is the last
  pub latest_at-own : (u : ℕ) (e : Entry) → IsEntry base h u e → writes_to o e ≡ true → latest_at base h o u ≡ u
  latest_at-own u e is writes = let low = is.0 in let a = latest_at-reaches u u e is writes (omega arith) in let b = latest_at-le u (omega arith) in omega arith

  -- the last write up to a time is by an entry, if it is after base
  pub latest_at-entry : (t : ℕ) → base < latest_at base h o t → (e : Entry) × IsEntry base h (latest_at base h o t) e × (writes_to o e ≡ true)
  latest_at-entry t low =
      let n : ℕ = last_that (writes_to o) (take (t - base) h) in
      let p = last_that-is (writes_to o) (take (t - base) h) (n - 1) (omega arith) in
      let fits : n - 1 < t - base = omega (arith, last_that-le (writes_to o) (take (t - base) h), length-take (t - base) h) in
      let place : base + n - (base + 1) ≡ n - 1 = omega arith in
      (p.0, (low, subst (λ (i : ℕ). slice_get h i ≡ Some p.0) (sym place) (sym (slice_get-take (t - base) h (n - 1) fits) ∙ p.1)), p.2)

  -- a write after u where none was up to the time before is at that time, and the next after u
  latest_at-new : (u t : ℕ) → base ≤ u → u ≤ t → latest_at base h o t ≤ u → u < latest_at base h o (suc t) → IsNextWrite base h o u (suc t)
  latest_at-new u t low le before now =
      let high = latest_at-le (suc t) (omega arith) in
      let here : latest_at base h o (suc t) ≡ suc t =
      dite (dec_le (latest_at base h o (suc t)) t)
      (λ up. let s = latest_at-same t (suc t) (omega arith) up in absurd (omega arith))
      (λ gt. omega arith) in
      let p = latest_at-entry (suc t) (omega arith) in
      record {
        later = omega arith;
        entry = p.0;
        there = subst (λ (v : ℕ). IsEntry base h v p.0) here p.1;
        writes = p.2;
        none_between = subst (λ (v : ℕ). latest_at base h o v ≤ u) (let e : t ≡ suc t - 1 = omega arith in e) before;
      }

  -- where the object is written after a time, there is the next write
  next_by : (u n : ℕ) → base ≤ u → u < latest_at base h o (u + n) → (next : ℕ) × IsNextWrite base h o u next
  next_by u zero low late = let le = latest_at-le (u + 0) (omega arith) in absurd (omega arith)
  next_by u (suc n) low late =
      dite (dec_lt u (latest_at base h o (u + n)))
      (λ lt. next_by u n low lt)
      (λ none. (
        suc (u + n),
        latest_at-new u (u + n) low (omega arith) (omega arith)
            (let e : u + suc n ≡ suc (u + n) = omega arith in subst (λ (t : ℕ). u < latest_at base h o t) e late),
      ))

  pub next_write : (u : ℕ) → base ≤ u → u < latest base h o → (next : ℕ) × IsNextWrite base h o u next
  next_write u low late = let e = latest_at-end (u + (base + length h)) (omega arith) in next_by u (base + length h) low (omega arith)

  pub next_write-le : (u next : ℕ) → IsNextWrite base h o u next → next ≤ latest base h o
  next_write-le u next is = latest-reaches next is.entry is.there is.writes

  next_not_before : (u a b : ℕ) → IsNextWrite base h o u a → IsNextWrite base h o u b → a < b → ⊥
  next_not_before u a b p q lt = let r = latest_at-reaches a (b - 1) p.entry p.there p.writes (omega arith) in let none = q.none_between in let later =
      p.later in omega arith

  -- there is one next write at most
  pub next_write-once : (u a b : ℕ) → IsNextWrite base h o u a → IsNextWrite base h o u b → a ≡ b
  next_write-once u a b p q =
      dite (dec_lt a b) (λ lt. absurd (next_not_before u a b p q lt))
      (λ ge. dite (dec_lt b a) (λ lt. absurd (next_not_before u b a q p lt)) (λ le. omega arith))

  -- a write is the last one up to just before the next
  pub latest_at-before : (t next : ℕ) (e : Entry) → IsEntry base h t e → writes_to o e ≡ true → IsNextWrite base h o t next → latest_at base h o (next - 1) ≡ t
  latest_at-before t next e is writes k = let later = k.later in let low = latest_at-reaches t (next - 1) e is writes (omega arith) in let high =
      k.none_between in omega arith

  -- an entry that writes the object is the next write after the last one before it
  pub next_write-of : (t : ℕ) (e : Entry) → IsEntry base h t e → writes_to o e ≡ true → IsNextWrite base h o (latest_at base h o (t - 1)) t
  next_write-of t e is writes =
      let low = is.0 in
      let le = latest_at-le (t - 1) (omega arith) in
      record { later = omega arith; entry = e; there = is; writes = writes; none_between = omega arith }
