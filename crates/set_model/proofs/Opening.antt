-- The states with which the sets begin are lawful, and their catalogue is empty.
use Rattle.std.proofs.Common.{◌≡◌, ℕ, zero, suc, ◌+◌, ◌<◌, ◌≤◌, inl, inr, Bool, false, cond, List, [], ◌∷◌, length, map}
use Rattle.std.proofs.Common.{drop, replicate, refl, ap, ◌∙◌, arith, get_or-drop, None}
use Rattle.std.proofs.lemmas.List.{get_or_past, get_or-replicate, length-replicate}
use Rattle.std.proofs.lemmas.Bool.{cases_lt}
use Rattle.mv_history.specs.State.{State}
use Rattle.mv_history.specs.Meaning.{words_at}
use Rattle.set_model.specs.Catalogue.{empty, put}
use Rattle.set_model.specs.CatalogueOf.{is_key_of, map_among, map_in, numbers, catalogue_of}
use Rattle.set_model.specs.Objects.{owner, no_words, most_objects}
use Rattle.set_model.specs.Lawful.{IsLawful, IsOpening}
use Rattle.set_model.proofs.ObjectWords.{word}
use Rattle.set_model.proofs.Mapped.{is_key-vacant}

-- so many objects that are all zero
pub opening_zeros : (n : ℕ) → 180 < n → n ≤ most_objects → IsOpening (replicate n no_words)
opening_zeros n some few =
    let size : length (replicate n no_words) ≡ n = length-replicate n no_words in
    record {
      some = omega arith;
      few = omega arith;
      zeros = λ o lt. get_or-replicate n o no_words [] (omega arith);
    }

pub opening_owner : (s : State) → IsOpening s → (o : ℕ) → owner s o ≡ 0
opening_owner s z o = elim (cases_lt o (length s)) [
  | inl lt ↦ ap (word 0) (z.zeros o lt)
  | inr ge ↦ ap (word 0) (get_or_past s o [] ge)
]

pub opening_lawful : (s : State) → IsOpening s → IsLawful s
opening_lawful s z = record {
  some = z.some;
  few = z.few;
  lists = λ head lt. (
    [],
    record {
      first = (let m = z.some in z.zeros head (omega arith));
      links = tt;
      rising = tt;
      only = λ o lo e. (let q = opening_owner s z o in absurd (omega arith));
    },
  );
  trees = λ root lo lt. (
    None,
    ((let m = z.some in z.zeros root (omega arith)), λ o ge e. (let q = opening_owner s z o in absurd (omega arith))),
  );
  owned = λ o lo. (let q = opening_owner s z o in omega arith);
}

none_picked : (test : List ℕ → Bool) (s : State) → ((i : ℕ) → i < length s → test (words_at s i) ≡ false) → map_among test s ≡ []
unfolding map_among
none_picked test [] f = refl
none_picked test (w ∷ s) f =
    ap (λ b. cond b (put (word 2 w) (word 5 w) (map_among test s)) (map_among test s)) (f 0 (omega arith)) ∙ none_picked test s (λ i l. f (suc i) (omega arith))

opening_map : (s : State) → IsOpening s → (name : ℕ) → map_in s name ≡ []
opening_map s z name = none_picked (is_key_of name) (drop 180 s) (λ i l.
    is_key-vacant name (words_at (drop 180 s) i) (ap (word 0) (get_or-drop 180 s i []) ∙ opening_owner s z (180 + i)))

pub opening_empty : (s : State) → IsOpening s → catalogue_of s ≡ empty
unfolding catalogue_of
opening_empty s z = go 30 0
  where
    go : (count n : ℕ) → map (λ name. map_in s name) (numbers count n) ≡ replicate count []
    go zero n = refl
    go (suc count) n = let e = opening_map s z n in let r = go count (suc n) in cc
