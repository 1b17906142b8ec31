-- What words ask for, by the first of them.
use Rattle.std.proofs.Common.{◌≡◌, ◌∙◌, ◌≤◌, ◌-◌, ℕ, List, [], ◌∷◌, length, take, drop, map, get_or, String, string_bytes, false, refl, sym, ap, arith}
use Rattle.std.proofs.Common.{Result, Ok, Err, MatchResult}
use Rattle.std.specs.Prelude.{codes}
use Rattle.std.specs.Str.{bytes_eq}
use Rattle.std.specs.declared.alloc.Global.{Global}
use Rattle.std.proofs.lemmas.Bool.{false_from_ne_true}
use Rattle.std.proofs.lemmas.List.{take_all}
use Rattle.std.proofs.lemmas.Slice.Eq.{bytes_eq-Decides}
use Rattle.run_words.specs.declared.request.Request.{Request}
use Rattle.run_words.specs.declared.request.BadWords.{BadWords}
use Rattle.run_words.specs.declared.request.BadWords.TheVariants.{Form}
use Rattle.run_words.specs.Words.{Asks, asks_of, asked}

-- a request, or a refusal, says what is asked
abbrev pub Says : Result Request BadWords → Result Asks BadWords → Type 0
Says result what = MatchResult result (λ request. what ≡ Ok (asks_of request)) (λ refusal. what ≡ Err refusal)

-- what says a part's asking says that of the whole, where these are the same
pub says : (result : Result Request BadWords) (whole part : Result Asks BadWords) → whole ≡ part → Says result part → Says result whole
says result whole part e h = rw e h

-- words whose first is this text ask for what the text asks with the words behind it
pub by_first : (words : List (String Global)) (first : String Global) (word text : List ℕ) → 1 ≤ length words → first ≡ get_or words 0 first
    → word ≡ string_bytes first → word ≡ text → asked (map string_bytes words) ≡ asked (text ∷ map string_bytes (take (length words - 1) (drop 1 words)))
by_first [] first word text le f w t = absurd (omega (arith, le))
by_first (x ∷ words) first word text le f w t =
    let e : text ≡ string_bytes x = sym t ∙ w ∙ ap string_bytes f in
    rw (take_all (length (x ∷ words) - 1) words (omega arith), e) refl

-- a word that isn't a text differs from it byte by byte
differs : (word text : List ℕ) → (word ≡ text → ⊥) → bytes_eq word text ≡ false
differs word text n = false_from_ne_true (bytes_eq word text) (λ e. n ((bytes_eq-Decides word text).0 e))

-- a first word of none of these texts asks for nothing
pub of_no_verb : (word : List ℕ) (words : List (List ℕ)) → (word ≡ codes "run" → ⊥) → (word ≡ codes "gen" → ⊥) → (word ≡ codes "work" → ⊥)
    → (word ≡ codes "block" → ⊥) → (word ≡ codes "pool" → ⊥) → (word ≡ codes "grow" → ⊥) → (word ≡ codes "replay" → ⊥)
    → asked (word ∷ words) ≡ Err Form
of_no_verb word words r g w b p o y =
    rw (differs word _ r, differs word _ g, differs word _ w, differs word _ b, differs word _ p, differs word _ o, differs word _ y) refl
