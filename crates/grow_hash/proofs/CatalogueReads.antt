-- The catalogue of a growing hash set, node by node from the last one.
use Rattle.set_model.specs.CatalogueOf.{map_among}
use Rattle.std.proofs.Common.{◌≡◌, ◌≢◌, ◌-◌, ◌^◌, ◌<◌, ◌≤◌, ◌∷◌, ℕ, zero, suc, Bool, cond, List, [], length, drop, set, refl, sym, ap, ◌∙◌, subst, arith}
use Rattle.grow_hash.proofs.Terms.{State, words_at, Map, Maps, empty, map_of, put, owner, key, word, bucket, IsGrown, is_used, grown_name, first_grown}
use Rattle.grow_hash.proofs.GrownMaps.{used_owned, used_vacant}
use Rattle.grow_hash.proofs.GrownStates.{bucket_low, node_of_bucket}

-- the nodes from this object on
drop_here : (s : State) (i : ℕ) → i < length s → drop i s ≡ words_at s i ∷ drop (suc i) s
drop_here [] i lt = absurd (omega arith)
drop_here (w ∷ s) zero lt = refl
drop_here (w ∷ s) (suc i) lt = drop_here s i (omega arith)

drop_none : (s : State) → drop (length s) s ≡ []
drop_none [] = refl
drop_none (w ∷ s) = drop_none s

map_none : map_among is_used [] ≡ []
unfolding map_among
map_none = refl

map_first : (w : List ℕ) (s : State)
    → map_among is_used (w ∷ s) ≡ cond (is_used w) (put (word 2 w) (word 5 w) (map_among is_used s)) (map_among is_used s)
unfolding map_among
map_first w s = refl

-- the catalogue has the keys of the nodes from this object on, and nothing else
abbrev pub HasFrom : State → ℕ → Maps → Type 0
HasFrom s o all = all ≡ set empty grown_name (map_among is_used (drop o s))

pub reads_none : (s : State) (n : ℕ) (all : Maps) → n ≡ length s → all ≡ empty → HasFrom s n all
reads_none s n all e none =
    none ∙ sym (ap (λ (m : Map). set empty grown_name m) (ap (λ i. map_among is_used (drop i s)) e ∙ ap (map_among is_used) (drop_none s) ∙ map_none))

-- what is read of one more node
module _ (levels : ℕ) (s t : State) (o : ℕ) (words : List ℕ) (l : IsGrown levels s) (same : t ≡ s) (lo : first_grown levels < o) (le : o ≤ length s)
    (read : words ≡ words_at t (o - 1)) where
  here : words ≡ words_at s (o - 1)
  here = read ∙ ap (λ (u : State). words_at u (o - 1)) same

  first : drop (o - 1) s ≡ words ∷ drop o s
  first =
      let e : suc (o - 1) ≡ o = omega arith in
      drop_here s (o - 1) (omega arith) ∙ ap (λ (w : List ℕ). w ∷ drop (suc (o - 1)) s) (sym here) ∙ ap (λ i. words ∷ drop i s) e

  pub key_fits : word 0 words ≢ 0 → word 2 words < 2 ^ 32
  key_fits some =
      let own : owner s (o - 1) ≢ 0 = λ z. some (ap (word 0) here ∙ z) in
      let fits : key s (o - 1) < 2 ^ 32 =
      (l.lists (bucket levels s (key s (o - 1))) (bucket_low levels s l (key s (o - 1)))).fits (o - 1) (node_of_bucket levels s l (o - 1) (omega arith) own) in
      subst (λ n. n < 2 ^ 32) (sym (ap (word 2) here)) fits

  pub reads_more : (old new : Maps) → word 0 words ≢ 0 → HasFrom s o old
      → new ≡ set old grown_name (put (word 2 words) (word 5 words) (map_of grown_name old)) → HasFrom s (o - 1) new
  reads_more old new some h made =
      made ∙ ap (λ (m : Maps). set m grown_name (put (word 2 words) (word 5 words) (map_of grown_name m))) h
      ∙ sym (ap (λ (m : Map). set empty grown_name m) (ap (map_among is_used) first ∙ map_first words (drop o s)
      ∙ ap (λ (b : Bool). cond b (put (word 2 words) (word 5 words) (map_among is_used (drop o s))) (map_among is_used (drop o s)))
      (used_owned words some)))

  pub reads_past : (all : Maps) → word 0 words ≡ 0 → HasFrom s o all → HasFrom s (o - 1) all
  reads_past all vacant h =
      h
      ∙ sym (ap (λ (m : Map). set empty grown_name m) (ap (map_among is_used) first ∙ map_first words (drop o s)
      ∙ ap (λ (b : Bool). cond b (put (word 2 words) (word 5 words) (map_among is_used (drop o s))) (map_among is_used (drop o s)))
      (used_vacant words vacant)))

-- all nodes were read
pub reads_all : (levels : ℕ) (s : State) (o : ℕ) (all : Maps) → o ≡ first_grown levels → HasFrom s o all
    → all ≡ set empty grown_name (map_among is_used (drop (first_grown levels) s))
reads_all levels s o all e h = subst (λ i. HasFrom s i all) e h
