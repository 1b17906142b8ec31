-- The entries of a set in a state, by the replies of commands that only ask.
use Rattle.std.proofs.Common.{◌≡◌, ◌≢◌, ℕ, ◌+◌, ◌^◌, ◌<◌, ◌≤◌, inl, inr, [], ◌∷◌, Option, Some, None}
use Rattle.std.proofs.Common.{refl, sym, ap, ◌∙◌, subst, arith, get_or-drop}
use Rattle.std.proofs.lemmas.Bool.{cases_lt}
use Rattle.std.proofs.lemmas.List.{get_or_past}
use Rattle.mv_history.specs.State.{State}
use Rattle.mv_history.specs.Meaning.{words_at}
use Rattle.set_model.specs.Catalogue.{Map, IsMap, map_of, next_key, value_of}
use Rattle.set_model.specs.CatalogueOf.{is_key_of, catalogue_of}
use Rattle.set_model.specs.Lawful.{IsLawful}
use Rattle.set_model.specs.Objects.{owner, key}
use Rattle.set_model.specs.Replies.{key_reply, value_reply}
use Rattle.set_model.specs.declared.commands.Reply.{Reply}
use Rattle.set_model.specs.declared.commands.Reply.TheVariants.{Key, Value}
use Rattle.set_model.proofs.Mapped.{IsMap-map_among, map_among-value, map_of-catalogue_of, length-catalogue_of, is_key-from}
use Rattle.set_model.proofs.ObjectWords.{word}
use Rattle.set_catalog.proofs.NodeReads.{key_fits}
use Rattle.set_seats.specs.Walks.{as_entry, entries_from, first_entry, first_key}
use Rattle.set_seats.proofs.EntriesFrom.{next_first, value_at, from_there}

-- there are thirty sets
no_more : (s : State) (name : ℕ) → 30 ≤ name → map_of name (catalogue_of s) ≡ []
no_more s name le = get_or_past (catalogue_of s) name [] (omega (arith, length-catalogue_of s))

-- the keys of each rise
pub rising : (s : State) (name : ℕ) → IsMap (map_of name (catalogue_of s))
rising s name = elim (cases_lt name 30) [
  | inl few ↦ subst IsMap (sym (map_of-catalogue_of s name few)) (IsMap-map_among _ _)
  | inr many ↦ subst IsMap (sym (no_more s name many)) tt
]

-- and fit 32 bits
pub low_key : (s : State) (name k v : ℕ) → IsLawful s → value_of k (map_of name (catalogue_of s)) ≡ Some v → k < 2 ^ 32
low_key s name k v l e = elim (cases_lt name 30) [
  | inl few ↦ (let u = map_among-value (is_key_of name) _ k v (ap (value_of k) (sym (map_of-catalogue_of s name few)) ∙ e) in
      let f : words_at s (180 + u.0) ≡ _ = sym (get_or-drop 180 s u.0 []) in
      let some : 0 < owner s (180 + u.0) = (is_key-from name (words_at s (180 + u.0)) (ap (is_key_of name) f ∙ u.1)).0 in
      let own : owner s (180 + u.0) ≢ 0 = λ z. absurd (omega arith) in
      let fits : key s (180 + u.0) < 2 ^ 32 = key_fits s (180 + u.0) l (omega arith) own in
      let is : key s (180 + u.0) ≡ k = ap (word 2) f ∙ u.2 in omega arith)
  | inr many ↦ (let none : Some v ≡ None = sym e ∙ ap (value_of k) (no_more s name many) in absurd (cc))
]

-- no entry, where no key is next
first_none : (m : Map) → None ≡ first_key m → None ≡ first_entry m
first_none [] e = refl
first_none (x ∷ m) e = absurd (cc)

pub none_next : (r : Reply) (k : ℕ) (m : Map) → r ≡ key_reply (next_key k m) → ((x : ℕ) → r ≡ Key x → ⊥) → None ≡ first_entry (entries_from k m)
none_next r k m e never = first_none (entries_from k m) (go (next_key k m) e ∙ next_first k m)
  where
    go : (n : Option ℕ) → r ≡ key_reply n → None ≡ n
    go None q = refl
    go (Some x) q = absurd (never x q)

-- the next key, and its value
key_is : (x : ℕ) (n : Option ℕ) → Key x ≡ key_reply n → n ≡ Some x
key_is x None e = absurd (cc)
key_is x (Some y) e = let same : x ≡ y = cc in ap Some (sym same)

value_is : (v : ℕ) (n : Option ℕ) → Value v ≡ value_reply n → n ≡ Some v
value_is v None e = absurd (cc)
value_is v (Some y) e = let same : v ≡ y = cc in ap Some (sym same)

module _ (s : State) (name k x : ℕ) (e : Key x ≡ key_reply (next_key k (map_of name (catalogue_of s)))) where
  abbrev m : Map
  m = map_of name (catalogue_of s)

  first_is : first_key (entries_from k m) ≡ Some x
  first_is = sym (next_first k m) ∙ key_is x (next_key k m) e

  there : (f : Map) → entries_from k m ≡ f → first_key f ≡ Some x → (v : ℕ) × (value_of x m ≡ Some v) × (Some (as_entry (x, v)) ≡ first_entry f)
  there [] q h = absurd (cc)
  there (y ∷ f) q h =
      let same : y.0 ≡ x = cc in (
        y.1,
        ap (λ (j : ℕ). value_of j m) (sym same) ∙ value_at k 0 m f y (rising s name) q,
        ap (λ (j : ℕ). Some (as_entry (j, y.1))) (sym same),
      )

  -- so the reply that asks for its value, in the same state, has one
  module _ (u : State) (as_before : u ≡ s) (r : Reply) (q : r ≡ value_reply (value_of x (map_of name (catalogue_of u)))) where
    asked : r ≡ value_reply (value_of x m)
    asked = q ∙ ap (λ (z : State). value_reply (value_of x (map_of name (catalogue_of z)))) as_before

    pub has_value : ((v : ℕ) → r ≡ Value v → ⊥) → ⊥
    has_value never = let t = there (entries_from k m) refl first_is in never t.0 (asked ∙ ap value_reply t.1)

    pub entry_next : (v : ℕ) → r ≡ Value v → Some (as_entry (x, v)) ≡ first_entry (entries_from k m)
    entry_next v is =
        let t = there (entries_from k m) refl first_is in
        let same : Some v ≡ Some t.0 = sym (value_is v (value_of x m) (sym is ∙ asked)) ∙ t.1 in
        let one : v ≡ t.0 = cc in
        ap (λ (j : ℕ). Some (as_entry (x, j))) one ∙ t.2

-- above the greatest key of 32 bits there is none
pub none_above : (s : State) (name k : ℕ) → IsLawful s → k + 1 ≡ 2 ^ 32 → None ≡ first_entry (entries_from (k + 1) (map_of name (catalogue_of s)))
none_above s name k l e = go (entries_from (k + 1) m) refl
  where
    m : Map
    m = map_of name (catalogue_of s)

    go : (f : Map) → entries_from (k + 1) m ≡ f → None ≡ first_entry f
    go [] q = refl
    go (y ∷ f) q =
        let fits : y.0 < 2 ^ 32 = low_key s name y.0 y.1 l (value_at (k + 1) 0 m f y (rising s name) q) in
        let from : k + 1 ≤ y.0 = from_there (k + 1) m f y q in absurd (omega arith)
