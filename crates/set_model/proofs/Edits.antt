-- What a new link, and a new value, of one node do to the maps.
use Rattle.std.proofs.Common.{◌≡◌, ◌≢◌, ℕ, ◌<◌, ◌≤◌, ◌⊎◌, inl, inr, true, false, List, [], ◌∷◌, length, set, refl}
use Rattle.std.proofs.Common.{sym, ap, ◌∙◌, arith, length-set, get_or-set_same, get_or-set_other, set-set}
use Rattle.std.proofs.lemmas.Bool.{cases_eq, false_from_ne_true}
use Rattle.mv_history.specs.State.{State}
use Rattle.mv_history.specs.Meaning.{words_at}
use Rattle.set_model.specs.Catalogue.{has_key, put, take_out}
use Rattle.set_model.specs.CatalogueOf.{is_key_of, map_in}
use Rattle.set_model.specs.Objects.{key, no_words, relink, revalue}
use Rattle.set_model.proofs.ObjectWords.{word, key-relink, value-relink}
use Rattle.set_model.proofs.MapLemmas.{put-take_out}
use Rattle.set_model.proofs.Mapped.{map_in-holds, is_key-from, is_key-vacant, map_in-same, map_in-more, map_in-less, IsMap-map_among}

pub is_key-relink : (name : ℕ) (w : List ℕ) (to : ℕ) → is_key_of name (relink w to) ≡ is_key_of name w
is_key-relink name [] to = refl
is_key-relink name (a ∷ []) to = refl
is_key-relink name (a ∷ b ∷ w) to = refl

-- a new link changes no map
pub map_in-relink : (s : State) (name o to : ℕ) → map_in (set s o (relink (words_at s o) to)) name ≡ map_in s name
map_in-relink s name o to =
    map_in-same s name o (relink (words_at s o) to) (is_key-relink name (words_at s o) to) (key-relink (words_at s o) to) (value-relink (words_at s o) to)

pub is_key-revalue : (name : ℕ) (w : List ℕ) (to : ℕ) → is_key_of name (revalue w to) ≡ is_key_of name w
is_key-revalue name [] to = refl
is_key-revalue name (a ∷ []) to = refl
is_key-revalue name (a ∷ b ∷ w) to = refl

-- a node whose key no other node of the name has
abbrev pub IsAlone : State → ℕ → ℕ → Type 0
IsAlone s name o = (u : ℕ) → 180 ≤ u → is_key_of name (words_at s u) ≡ true → key s u ≡ key s o → u ≡ o

-- New words of such a node with the same key put its value into the map.
pub map_in-put : (s : State) (name o : ℕ) (w : List ℕ) → 180 ≤ o → o < length s → is_key_of name (words_at s o) ≡ true → is_key_of name w ≡ true
    → word 2 w ≡ key s o → IsAlone s name o → map_in (set s o w) name ≡ put (key s o) (word 5 w) (map_in s name)
map_in-put s name o w lo lt a b k alone =
    ap (λ t. map_in t name) (sym (set-set s o no_words w)) ∙ more ∙ ap (λ m. put (word 2 w) (word 5 w) m) less
    ∙ ap (λ j. put j (word 5 w) (take_out (key s o) (map_in s name))) k
    ∙ put-take_out (key s o) (word 5 w) (map_in s name) (IsMap-map_among (is_key_of name) _)
  where
    vacant : is_key_of name no_words ≡ false
    vacant = is_key-vacant name no_words refl

    here : words_at (set s o no_words) o ≡ no_words
    here = get_or-set_same s o no_words [] lt

    other : (u : ℕ) → 180 ≤ u → is_key_of name (words_at (set s o no_words) u) ≡ true → key (set s o no_words) u ≡ key s o → (u ≡ o) ⊎ (u ≢ o) → ⊥
    other u g t q (inl e) =
        let f = (is_key-from name (words_at (set s o no_words) u) t).0 in
        let z : word 0 (words_at (set s o no_words) u) ≡ 0 = ap (λ i. word 0 (words_at (set s o no_words) i)) e ∙ ap (word 0) here in omega arith
    other u g t q (inr n) =
        let f : words_at (set s o no_words) u ≡ words_at s u = get_or-set_other s o u no_words [] n in
        n (alone u g (ap (is_key_of name) (sym f) ∙ t) (ap (word 2) (sym f) ∙ q))

    gone : has_key (key s o) (map_in (set s o no_words) name) ≡ false
    gone = false_from_ne_true (has_key (key s o) (map_in (set s o no_words) name))
        (λ h. (let u = map_in-holds (set s o no_words) name (key s o) h in other u.0 u.1 u.2 u.3 (cases_eq u.0 o)))

    less : map_in (set s o no_words) name ≡ take_out (key s o) (map_in s name)
    less = map_in-less s name o no_words lo lt a vacant gone

    more : map_in (set (set s o no_words) o w) name ≡ put (word 2 w) (word 5 w) (map_in (set s o no_words) name)
    more = map_in-more (set s o no_words) name o w lo (omega (arith, lt, length-set s o no_words)) (ap (is_key_of name) here ∙ vacant) b
        (ap (λ j. has_key j (map_in (set s o no_words) name)) k ∙ gone)
