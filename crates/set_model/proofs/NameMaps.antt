-- The map of a name is that of its head, where it has one, and has the keys of sixteen buckets, where it has those.
use Rattle.std.proofs.Common.{◌≡◌, ℕ, suc, ◌+◌, ◌-◌, ◌<◌, ◌≤◌, ◌⊎◌, inl, inr, Bool, true, false, cond, List, []}
use Rattle.std.proofs.Common.{◌∷◌, drop, refl, sym, ap, ◌∙◌, subst, arith, Option, Some, None, get_or-drop}
use Rattle.std.proofs.lemmas.Bool.{cases_lt}
use Rattle.mv_history.specs.State.{State}
use Rattle.mv_history.specs.Meaning.{words_at}
use Rattle.set_model.specs.Catalogue.{has_key, put, map_of, value_of}
use Rattle.set_model.specs.CatalogueOf.{name_of, is_key_of, is_key_at, map_among, map_in, map_at, catalogue_of}
use Rattle.set_model.specs.Objects.{owner, key}
use Rattle.set_model.specs.Lists.{FitsHead}
use Rattle.set_model.specs.Lawful.{IsLawful}
use Rattle.set_model.proofs.ObjectWords.{word}
use Rattle.set_model.proofs.MapLemmas.{has_key-none, has_key-same}
use Rattle.set_model.proofs.Mapped.{map_among-value, holds-map_in, is_key-from, map_of-catalogue_of}
use Rattle.set_model.proofs.Heads.{name_of-list, name_bound, is_key_at-to, at_named, home_is}
use Rattle.set_model.proofs.ListMaps.{map_at-value, node_value}

same_tests : (a b : Bool) → (a ≡ true → b ≡ true) → (b ≡ true → a ≡ true) → a ≡ b
same_tests true b f g = sym (f refl)
same_tests false true f g = g refl
same_tests false false f g = refl

-- two tests that agree pick the same map
pub map_among-agree : (t u : List ℕ → Bool) (s : State) → ((w : List ℕ) → t w ≡ u w) → map_among t s ≡ map_among u s
unfolding map_among
map_among-agree t u [] f = refl
map_among-agree t u (w ∷ s) f =
    ap (λ (b : Bool). cond b (put (word 2 w) (word 5 w) (map_among t s)) (map_among t s)) (f w)
    ∙ ap (λ m. cond (u w) (put (word 2 w) (word 5 w) m) m) (map_among-agree t u s f)

-- a name of one head
alone : (g head : ℕ) → (head < 10) ⊎ (170 ≤ head) → name_of g ≡ name_of head → g ≡ head
alone g head (inl lt) e = grind (arith, cases_lt)
alone g head (inr ge) e = grind (arith, cases_lt)

-- The map of a list's or a tree's name is that of its head.
pub map_in-alone : (s : State) (head : ℕ) → (head < 10) ⊎ (170 ≤ head) → map_in s (name_of head) ≡ map_at s head
map_in-alone s head one = map_among-agree (is_key_of (name_of head)) (is_key_at head) (drop 180 s) (λ w. same_tests _ _ (there w) (at_named head w))
  where
    there : (w : List ℕ) → is_key_of (name_of head) w ≡ true → is_key_at head w ≡ true
    there w e =
        let f = is_key-from (name_of head) w e in
        let g : word 0 w - 1 ≡ head = alone (word 0 w - 1) head one f.2 in
        let p : 0 < word 0 w = f.0 in is_key_at-to head w (omega arith) f.1

pub map_of-list : (s : State) (head : ℕ) → head < 10 → map_of head (catalogue_of s) ≡ map_at s head
map_of-list s head lt =
    map_of-catalogue_of s head (omega arith) ∙ ap (map_in s) (sym (name_of-list head lt)) ∙ map_in-alone s head (inl lt)

-- A key that may stand in a list or a bucket has the same value in the map of the name.
pub map_in-value : (s : State) (head k : ℕ) → IsLawful s → head < 170 → FitsHead head k → value_of k (map_in s (name_of head)) ≡ value_of k (map_at s head)
map_in-value s head k l lh fit = go (value_of k (map_in s (name_of head))) refl
  where
    none : (r : Option ℕ) → value_of k (map_at s head) ≡ r → has_key k (map_in s (name_of head)) ≡ false → None ≡ r
    none None e h = refl
    none (Some v) e h =
        let u = map_at-value s head k v e in
        let there = holds-map_in s (name_of head) k (u.0, u.1.node, at_named head (words_at s u.0) u.1.picked, u.1.key_is) in absurd (cc)

    go : (r : Option ℕ) → value_of k (map_in s (name_of head)) ≡ r → value_of k (map_in s (name_of head)) ≡ value_of k (map_at s head)
    go None e = e ∙ none (value_of k (map_at s head)) refl (has_key-none k (map_in s (name_of head)) e)
    go (Some v) e =
        let u = map_among-value (is_key_of (name_of head)) _ k v e in
        let f : words_at s (180 + u.0) ≡ _ = sym (get_or-drop 180 s u.0 []) in
        let ky : key s (180 + u.0) ≡ k = ap (word 2) f ∙ u.2 in
        let own : owner s (180 + u.0) ≡ suc head =
        home_is s head (180 + u.0) l lh (subst (λ (j : ℕ). FitsHead head j) (sym ky) fit) (omega arith) (ap (is_key_of (name_of head)) f ∙ u.1) in
        e ∙ ap Some (sym (ap (word 5) f ∙ u.3)) ∙ sym (node_value s head (180 + u.0) l lh (omega arith) own) ∙ ap (λ j. value_of j (map_at s head)) ky

pub map_in-has : (s : State) (head k : ℕ) → IsLawful s → head < 170 → FitsHead head k → has_key k (map_in s (name_of head)) ≡ has_key k (map_at s head)
map_in-has s head k l lh fit = has_key-same k (map_in s (name_of head)) (map_at s head) (map_in-value s head k l lh fit)

pub map_of-value : (s : State) (head k : ℕ) → IsLawful s → head < 170 → FitsHead head k
    → value_of k (map_of (name_of head) (catalogue_of s)) ≡ value_of k (map_at s head)
map_of-value s head k l lh fit =
    ap (value_of k) (map_of-catalogue_of s (name_of head) (name_bound head (omega arith))) ∙ map_in-value s head k l lh fit

pub map_of-has : (s : State) (head k : ℕ) → IsLawful s → head < 170 → FitsHead head k
    → has_key k (map_of (name_of head) (catalogue_of s)) ≡ has_key k (map_at s head)
map_of-has s head k l lh fit =
    ap (has_key k) (map_of-catalogue_of s (name_of head) (name_bound head (omega arith))) ∙ map_in-has s head k l lh fit
