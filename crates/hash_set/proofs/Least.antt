-- The least of the next keys of the buckets is the next key of the set.
use Rattle.std.proofs.Common.{◌≡◌, ℕ, zero, suc, ◌+◌, ◌-◌, ◌%◌, ◌<◌, ◌≤◌, ◌⊎◌, inl, inr, Bool, true, false, cond, ltb, ltb-true}
use Rattle.std.proofs.Common.{ltb-false, refl, sym, ap, ◌∙◌, subst, arith, Option, Some, None}
use Rattle.std.proofs.lemmas.Bool.{cases_eq, cases_lt}
use Rattle.std.proofs.lemmas.Bool.Decides.{nat_tests}
use Rattle.mv_history.specs.State.{State}
use Rattle.mv_history.specs.Meaning.{words_at}
use Rattle.set_model.specs.Catalogue.{has_key, next_key, map_of}
use Rattle.set_model.specs.CatalogueOf.{is_key_of, is_key_at, map_at, map_in, catalogue_of}
use Rattle.set_model.specs.Objects.{owner, key}
use Rattle.set_model.specs.Lawful.{IsLawful}
use Rattle.set_model.proofs.Mapped.{map_in-holds, holds-map_in, IsMap-map_among, is_key-from, map_of-catalogue_of}
use Rattle.set_model.proofs.Heads.{is_key_at-from, is_key_at-to, at_named, home, owned_fits}
use Rattle.set_model.proofs.ListMaps.{holds-map_at, map_at-holds}
use Rattle.set_model.proofs.NextKeys.{IsLeast, next_is, next_none, least_from, none_from}
use Rattle.hash_set.specs.Buckets.{bucket_at, asked, lesser_of, is_within, least_in}
use Rattle.hash_set.proofs.SetMaps.{bucket_low, bucket_name, bucket_is}

-- one of the first n buckets that are asked for k has the key
abbrev pub InBuckets : State → ℕ → ℕ → ℕ → ℕ → Type 0
InBuckets s set k n u = (i : ℕ) × (i < n) × (has_key u (map_at s (asked set k i)) ≡ true)

-- the answer is the least of the keys that these buckets have, but those below k
abbrev pub IsLeastOf : State → ℕ → ℕ → ℕ → Option ℕ → Type 0
IsLeastOf s set n k None = (u : ℕ) → InBuckets s set k n u → u < k
IsLeastOf s set n k (Some j) = InBuckets s set k n j × (k ≤ j) × ((u : ℕ) → InBuckets s set k n u → k ≤ u → j ≤ u)

earlier : (s : State) (set k n u : ℕ) → InBuckets s set k (suc n) u → InBuckets s set k n u ⊎ (has_key u (map_at s (asked set k n)) ≡ true)
earlier s set k n u (i, lt, h) = elim (cases_eq i n) [
  | inl e ↦ inr (ap (λ (v : ℕ). has_key u (map_at s (asked set k v))) (sym e) ∙ h)
  | inr ne ↦ inl (i, omega arith, h)
]

later : (s : State) (set k n m u : ℕ) → n ≤ m → InBuckets s set k n u → InBuckets s set k m u
later s set k n m u le (i, lt, h) = (i, omega arith, h)

-- one bucket more
lesser_is : (s : State) (set n k : ℕ) (left right : Option ℕ) → IsLeastOf s set n k left → next_key k (map_at s (asked set k n)) ≡ right
    → IsLeastOf s set (suc n) k (lesser_of left right)
lesser_is s set n k None None f e =
    λ u i. elim (earlier s set k n u i) [ inl a ↦ f u a | inr h ↦ none_from k (map_at s (asked set k n)) e u h ]
lesser_is s set n k None (Some j) f e =
    let l : IsLeast k (map_at s (asked set k n)) j = least_from k (map_at s (asked set k n)) j (IsMap-map_among (is_key_at (asked set k n)) _) e in (
      (n, omega arith, l.has),
      l.from,
      λ u i le. elim (earlier s set k n u i) [ inl a ↦ (let lt : u < k = f u a in absurd (omega arith)) | inr h ↦ l.least u h le ],
    )
lesser_is s set n k (Some j) None f e = (
  later s set k n (suc n) j (omega arith) f.0,
  f.1,
  λ u i le. elim (earlier s set k n u i)
      [ inl a ↦ f.2 u a le | inr h ↦ (let lt : u < k = none_from k (map_at s (asked set k n)) e u h in absurd (omega arith)) ],
)
lesser_is s set n k (Some i) (Some j) f e = go (ltb j i) refl
  where
    l : IsLeast k (map_at s (asked set k n)) j
    l = least_from k (map_at s (asked set k n)) j (IsMap-map_among (is_key_at (asked set k n)) _) e

    go : (b : Bool) → ltb j i ≡ b → IsLeastOf s set (suc n) k (Some (cond b j i))
    go true q =
        let lt : j < i = ltb-true j i q in (
          (n, omega arith, l.has),
          l.from,
          λ u m le. elim (earlier s set k n u m) [
            | inl a ↦ (let y : i ≤ u = f.2 u a le in omega arith)
            | inr h ↦ l.least u h le
          ],
        )
    go false q =
        let ge : i ≤ j = ltb-false j i q in (
          later s set k n (suc n) i (omega arith) f.0,
          f.1,
          λ u m le. elim (earlier s set k n u m) [
            | inl a ↦ f.2 u a le
            | inr h ↦ (let y : j ≤ u = l.least u h le in omega arith)
          ],
        )

least_is : (s : State) (set k n : ℕ) → IsLeastOf s set n k (least_in s set k n)
least_is s set k zero = λ u i. (let lt : i.0 < 0 = i.1 in absurd (omega arith))
least_is s set k (suc n) = lesser_is s set n k (least_in s set k n) (next_key k (map_at s (asked set k n))) (least_is s set k n) refl

-- the sixteen buckets have the keys of the name
pub buckets_from : (s : State) (set k u : ℕ) → set < 10 → InBuckets s set k 16 u → has_key u (map_in s (10 + set)) ≡ true
buckets_from s set k u ls (i, lt, h) =
    let m = map_at-holds s (asked set k i) u h in
    holds-map_in s (10 + set) u (
      m.0,
      m.1,
      subst (λ (n : ℕ). is_key_of n (words_at s m.0) ≡ true) (bucket_name set ((k + i) % 16) ls (omega arith))
          (at_named (asked set k i) (words_at s m.0) m.2),
      m.3,
    )

-- each bucket is asked at one place in the order
place_of : (k n : ℕ) → n < 16 → (i : ℕ) × (i < 16) × ((k + i) % 16 ≡ n)
place_of k n lt = ((n + 16 - k % 16) % 16, omega arith, omega arith)

pub buckets_to : (s : State) (set k u : ℕ) → IsLawful s → set < 10 → has_key u (map_in s (10 + set)) ≡ true → InBuckets s set k 16 u
buckets_to s set k u l ls h =
    let m = map_in-holds s (10 + set) u h in
    let g = home s (10 + set) m.0 l m.1 m.2 in
    let n = bucket_is set g.0 ls g.1.named in
    let i = place_of k n.0 n.1 in
    let there : has_key u (map_at s g.0) ≡ true =
    holds-map_at s g.0 u (m.0, m.1, is_key_at-to g.0 (words_at s m.0) g.1.own (is_key-from (10 + set) (words_at s m.0) m.2).1, m.3) in
    (i.0, i.1, ap (λ (v : ℕ). has_key u (map_at s v)) (ap (bucket_at set) i.2 ∙ n.2) ∙ there)

-- a key that is asked for behind so many others is at least so far above k
key_far : (s : State) (set k i u : ℕ) → IsLawful s → set < 10 → i < 16 → has_key u (map_at s (asked set k i)) ≡ true → k ≤ u → k + i ≤ u
key_far s set k i u l ls lt h le =
    let m = map_at-holds s (asked set k i) u h in
    let own : owner s m.0 ≡ suc (asked set k i) = (is_key_at-from (asked set k i) (words_at s m.0) m.2).0 in
    let low : asked set k i < 170 = bucket_low set ((k + i) % 16) ls (omega arith) in
    let fit : key s m.0 % 16 ≡ (asked set k i - 10) % 16 = (owned_fits s (asked set k i) m.0 l low m.1 own).1 (omega arith) in
    let is : key s m.0 ≡ u = m.3 in
    let same : u % 16 ≡ (k + i) % 16 = omega arith in omega arith

-- The least of the next keys of the sixteen buckets is the next key of the set.
pub least_all : (s : State) (set k : ℕ) → IsLawful s → set < 10 → least_in s set k 16 ≡ next_key k (map_of (10 + set) (catalogue_of s))
least_all s set k l ls =
    sym (ap (next_key k) (map_of-catalogue_of s (10 + set) (omega arith)) ∙ go (least_in s set k 16) (least_is s set k 16))
  where
    go : (r : Option ℕ) → IsLeastOf s set 16 k r → next_key k (map_in s (10 + set)) ≡ r
    go None f = next_none k (map_in s (10 + set)) (λ u h. f u (buckets_to s set k u l ls h))
    go (Some j) f = next_is k (map_in s (10 + set)) j (IsMap-map_among (is_key_of (10 + set)) _) (record {
      has = buckets_from s set k j ls f.0;
      from = f.1;
      least = λ u h le. f.2 u (buckets_to s set k u l ls h) le;
    })

-- And so is what the first buckets have, where it is no greater than any key can be that the others have.
pub least_within : (s : State) (set k i : ℕ) (least : Option ℕ) → IsLawful s → set < 10 → i ≤ 16 → least ≡ least_in s set k i
    → is_within least (k + i) ≡ true → least ≡ next_key k (map_of (10 + set) (catalogue_of s))
least_within s set k i least l ls le e w =
    sym (ap (next_key k) (map_of-catalogue_of s (10 + set) (omega arith)) ∙ go least (subst (IsLeastOf s set i k) (sym e) (least_is s set k i)) w)
  where
    go : (r : Option ℕ) → IsLeastOf s set i k r → is_within r (k + i) ≡ true → next_key k (map_in s (10 + set)) ≡ r
    go None f t = absurd (cc)
    go (Some j) f t =
        let most : j ≤ k + i = grind (arith, nat_tests) in
        next_is k (map_in s (10 + set)) j (IsMap-map_among (is_key_of (10 + set)) _) (record {
          has = buckets_from s set k j ls (later s set k i 16 j le f.0);
          from = f.1;
          least = λ u h ge. (let b = buckets_to s set k u l ls h in
              elim (cases_lt b.0 i) [
                | inl lt ↦ f.2 u (b.0, lt, b.2) ge
                | inr far ↦ (let up : k + b.0 ≤ u = key_far s set k b.0 u l ls b.1 b.2 ge in omega arith)
              ]);
        })

-- The loop over the buckets, whose views read alike.
pub least_step : (s t : State) (set k i head : ℕ) (least next lesser : Option ℕ) → t ≡ s → least ≡ least_in s set k i → head ≡ asked set k i
    → next ≡ next_key k (map_at t head) → lesser ≡ lesser_of least next → lesser ≡ least_in s set k (i + 1)
least_step s t set k i head least next lesser same so_far e f g =
    let more : suc i ≡ i + 1 = omega arith in
    let there : next ≡ next_key k (map_at s (asked set k i)) =
    f ∙ ap (λ (u : State). next_key k (map_at u head)) same ∙ ap (λ (u : ℕ). next_key k (map_at s u)) e in
    g ∙ ap (λ (u : Option ℕ). lesser_of u next) so_far ∙ ap (lesser_of (least_in s set k i)) there ∙ ap (least_in s set k) more

pub least_end : (s : State) (set k i : ℕ) (least : Option ℕ) → IsLawful s → set < 10 → 16 ≤ i → i ≤ 16 → least ≡ least_in s set k i
    → least ≡ next_key k (map_of (10 + set) (catalogue_of s))
least_end s set k i least l ls ge le e =
    let whole : i ≡ 16 = omega arith in e ∙ ap (least_in s set k) whole ∙ least_all s set k l ls
