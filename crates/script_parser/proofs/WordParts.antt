-- The words of bytes, from the front on.
use Rattle.std.proofs.Common.{◌≡◌, ℕ, ◌+◌, suc, Bool, true, false, not, cond, ◌==◌, Some, None, List, [], ◌∷◌, take, drop, refl, ap, sym, ◌∙◌, arith}
use Rattle.std.specs.List.{slice_split, prefix_len, position_or_len, filter, take_while, slice_get}
use Rattle.std.proofs.lemmas.List.Splits.{slice_split-cons_yes}
use Rattle.std.proofs.lemmas.List.Sums.{take_while-cons}
use Rattle.std.proofs.lemmas.Bool.Decides.{nat_tests}
use Rattle.script_parser.specs.Grammar.{is_blank, is_word, is_plain, words_in}

-- the parts that are words, a comment's too
abbrev pub parts_in : List ℕ → List (List ℕ)
parts_in bytes = filter is_word (slice_split is_blank bytes)

drop-one_more : (n : ℕ) (b : ℕ) (bs : List ℕ) → drop (1 + n) (b ∷ bs) ≡ drop n bs
drop-one_more n b bs = let e : 1 + n ≡ suc n = omega arith in rw e refl

take-one_more : (n : ℕ) (b : ℕ) (bs : List ℕ) → take (1 + n) (b ∷ bs) ≡ b ∷ take n bs
take-one_more n b bs = let e : 1 + n ≡ suc n = omega arith in rw e refl

-- blanks in front add no word
pub words_in-past_blanks : (bs : List ℕ) → words_in (drop (prefix_len is_blank bs) bs) ≡ words_in bs
words_in-past_blanks [] = refl
words_in-past_blanks (b ∷ bs) = cases (words_in-past_blanks bs) (is_blank b) refl
  where
    cases : words_in (drop (prefix_len is_blank bs) bs) ≡ words_in bs → (t : Bool) → is_blank b ≡ t
        → words_in (drop (cond t (1 + prefix_len is_blank bs) 0) (b ∷ bs)) ≡ words_in (b ∷ bs)
    cases rest true there =
        ap words_in (drop-one_more (prefix_len is_blank bs) b bs) ∙ rest
        ∙ sym (ap (λ parts. take_while is_plain (filter is_word parts)) (slice_split-cons_yes is_blank b bs there))
    cases rest false none = refl

-- where the blanks in front are gone, the first byte is none
pub starts_plain : (bs : List ℕ) (b : ℕ) (rest : List ℕ) → drop (prefix_len is_blank bs) bs ≡ b ∷ rest → is_blank b ≡ false
starts_plain [] b rest e = absurd (cc)
starts_plain (x ∷ bs) b rest e = cases (starts_plain bs b rest) (is_blank x) refl e
  where
    cases : (drop (prefix_len is_blank bs) bs ≡ b ∷ rest → is_blank b ≡ false) → (t : Bool) → is_blank x ≡ t
        → drop (cond t (1 + prefix_len is_blank bs) 0) (x ∷ bs) ≡ b ∷ rest → is_blank b ≡ false
    cases more true there e = more (sym (drop-one_more (prefix_len is_blank bs) x bs) ∙ e)
    cases more false none e = let same : x ≡ b = cc in rw same at none

-- The first part ends before the first blank, and the words of what follows are among the other parts.
record FirstPart (bs : List ℕ) : Type 0 where
  others : List (List ℕ)
  parts : slice_split is_blank bs ≡ take (position_or_len is_blank bs) bs ∷ others
  words : filter is_word others ≡ parts_in (drop (position_or_len is_blank bs) bs)

first_part : (bs : List ℕ) → FirstPart bs
first_part [] = record { others = []; parts = refl; words = refl }
first_part (b ∷ bs) = cases (first_part bs) (is_blank b) refl
  where
    cases : FirstPart bs → (t : Bool) → is_blank b ≡ t → FirstPart (b ∷ bs)
    cases first true there = record {
      others = slice_split is_blank bs;
      parts = rw there refl;
      words = rw (there, slice_split-cons_yes is_blank b bs there) refl;
    }
    cases first false none = record {
      others = first.others;
      parts = rw (none, take-one_more (position_or_len is_blank bs) b bs, first.parts) refl;
      words = rw (none, drop-one_more (position_or_len is_blank bs) b bs) first.words;
    }

module _ (b : ℕ) (bs : List ℕ) (none : is_blank b ≡ false) where
  -- bytes that begin with no blank have their front up to the first blank for a part
  parts_in-first : parts_in (b ∷ bs) ≡ (b ∷ take (position_or_len is_blank bs) bs) ∷ parts_in (drop (position_or_len is_blank bs) bs)
  parts_in-first = let first = first_part bs in rw (none, first.parts, first.words) refl

  words_in-parts : words_in (b ∷ bs) ≡ cond (not (b == 35)) ((b ∷ take (position_or_len is_blank bs) bs) ∷ words_in (drop (position_or_len is_blank bs) bs)) []
  words_in-parts =
      ap (take_while is_plain) parts_in-first
      ∙ take_while-cons is_plain (b ∷ take (position_or_len is_blank bs) bs) (parts_in (drop (position_or_len is_blank bs) bs))

  -- and for the first word, where they begin no comment
  words_in-first : (b == 35) ≡ false → (n : ℕ) → n ≡ position_or_len is_blank (b ∷ bs) → words_in (b ∷ bs) ≡ take n (b ∷ bs) ∷ words_in (drop n (b ∷ bs))
  words_in-first plain n len =
      let e = position_or_len is_blank bs in
      let more : n ≡ 1 + e = len ∙ ap (λ t. cond (not t) (1 + e) 0) none in
      let front : take n (b ∷ bs) ≡ b ∷ take e bs = ap (λ m. take m (b ∷ bs)) more ∙ take-one_more e b bs in
      let back : drop n (b ∷ bs) ≡ drop e bs = ap (λ m. drop m (b ∷ bs)) more ∙ drop-one_more e b bs in
      words_in-parts ∙ ap (λ t. cond (not t) ((b ∷ take e bs) ∷ words_in (drop e bs)) []) plain
      ∙ sym (ap (λ x. x ∷ words_in (drop n (b ∷ bs))) front ∙ ap (λ x. (b ∷ take e bs) ∷ words_in x) back)

  words_in-comment : (b == 35) ≡ true → words_in (b ∷ bs) ≡ []
  words_in-comment sign =
      words_in-parts ∙ ap (λ t. cond (not t) ((b ∷ take (position_or_len is_blank bs) bs) ∷ words_in (drop (position_or_len is_blank bs) bs)) []) sign

-- The words of bytes, by what follows the blanks in front.
module _ (bytes : List ℕ) where
  pub no_word : (rest : List ℕ) → rest ≡ drop (prefix_len is_blank bytes) bytes → None ≡ slice_get rest 0 → words_in bytes ≡ []
  no_word [] e none = sym (words_in-past_blanks bytes) ∙ ap words_in (sym e)
  no_word (b ∷ rest) e none = absurd (cc)

  pub comment : (rest : List ℕ) (b : ℕ) → rest ≡ drop (prefix_len is_blank bytes) bytes → Some b ≡ slice_get rest 0 → b ≡ 35 → words_in bytes ≡ []
  comment [] b e first sign = absurd (cc)
  comment (x ∷ rest) b e first sign =
      let same : x ≡ 35 = cc in
      sym (words_in-past_blanks bytes) ∙ ap words_in (sym e) ∙ words_in-comment x rest (starts_plain bytes x rest (sym e)) (grind (arith, nat_tests))

  pub word : (rest : List ℕ) (b n : ℕ) → rest ≡ drop (prefix_len is_blank bytes) bytes → Some b ≡ slice_get rest 0 → (b ≡ 35 → ⊥)
      → n ≡ position_or_len is_blank rest → words_in bytes ≡ take n rest ∷ words_in (drop n rest)
  word [] b n e first plain len = absurd (cc)
  word (x ∷ rest) b n e first plain len =
      let same : x ≡ b = cc in
      sym (words_in-past_blanks bytes) ∙ ap words_in (sym e) ∙ words_in-first x rest (starts_plain bytes x rest (sym e)) (grind (arith, nat_tests)) n len
