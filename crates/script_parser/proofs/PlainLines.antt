-- The words of a line in its plainest form.
use Rattle.std.proofs.Common.{◌≡◌, ℕ, ◌-◌, ◌≤◌, ◌==◌, Bool, true, false, cond, List, [], ◌∷◌, ◌++◌, length, get_or, take, drop}
use Rattle.std.proofs.Common.{Option, Some, None, Result, Ok, Err, MatchOption, codes, subst, refl, ap, sym, ◌∙◌, arith}
use Rattle.std.specs.Char.{is_ascii_digit}
use Rattle.std.specs.Prelude.{⊤}
use Rattle.std.specs.Str.{bytes_eq}
use Rattle.std.specs.List.{slice_split, filter, take_while}
use Rattle.std.proofs.lemmas.Bool.Decides.{nat_tests}
use Rattle.std.proofs.lemmas.List.{take_rest}
use Rattle.std.proofs.lemmas.Slice.Eq.{bytes_eq-Decides}
use Rattle.std.proofs.lemmas.List.Elements.{All-nil, All-cons}
use Rattle.std.proofs.lemmas.List.Splits.{slice_split_none, slice_split_at}
use Rattle.std.proofs.lemmas.List.Sums.{take_while-cons}
use Rattle.set_model.specs.declared.commands.Command.{Command}
use Rattle.script_parser.specs.declared.line.Verb.{Verb}
use Rattle.script_parser.specs.declared.faults.FaultKind.{FaultKind}
use Rattle.script_parser.specs.declared.faults.FaultKind.TheVariants as faults
use Rattle.script_parser.specs.Grammar.{◌>>=◌, is_blank, is_word, is_plain, words_in, letter_of, name_of, is_numeral, key_of, set_key_of, sets_key_of}
use Rattle.script_parser.specs.Grammar.{verb_of, command_with, command_of}
use Rattle.script_parser.proofs.LineTexts.{IsPlain, IsVerb, verb, no_blank, plain_words, digits_plain}

-- a plain word, and what stands behind it and a space
words_in-then : (word rest : List ℕ) → IsPlain word → words_in (word ++ 32 ∷ rest) ≡ word ∷ words_in rest
words_in-then word rest plain =
    let parts = slice_split is_blank rest in
    let kept : filter is_word (word ∷ parts) ≡ word ∷ filter is_word parts = let there = plain.word_is in rw there refl in
    ap (λ ps. take_while is_plain (filter is_word ps)) (slice_split_at is_blank word 32 rest (no_blank word plain.visible) refl)
    ∙ ap (take_while is_plain) kept
    ∙ take_while-cons is_plain word (filter is_word parts)
    ∙ ap (λ b. cond b (word ∷ words_in rest) []) plain.plain

-- a plain word alone
words_in-one : (word : List ℕ) → IsPlain word → words_in word ≡ word ∷ []
words_in-one word plain =
    ap (λ ps. take_while is_plain (filter is_word ps)) (slice_split_none is_blank word (no_blank word plain.visible)) ∙ plain_words (word ∷ []) (plain, tt)

-- a key is plain
key_plain : (word : List ℕ) (key : ℕ) → key_of word ≡ Ok key → IsPlain word
key_plain word key read = cases (is_numeral 10 word) refl
  where
    cases : (t : Bool) → is_numeral 10 word ≡ t → IsPlain word
    cases true is = digits_plain word (grind (arith, nat_tests)) (grind (arith, nat_tests))
    cases false not = let h : Err faults.Key ≡ Ok key = rw not at read in absurd (cc)

-- the letter of a name
letter_plain : (letter first : ℕ) → letter_of letter ≡ Ok first → (33 ≤ letter) × ((letter == 35) ≡ false)
letter_plain letter first e = cases (letter == 108) refl (letter == 104) refl (letter == 116) refl
  where
    cases : (a : Bool) → (letter == 108) ≡ a → (b : Bool) → (letter == 104) ≡ b → (c : Bool) → (letter == 116) ≡ c
        → (33 ≤ letter) × ((letter == 35) ≡ false)
    cases true is b p c q = (grind (arith, nat_tests), grind (arith, nat_tests))
    cases false n true is c q = (grind (arith, nat_tests), grind (arith, nat_tests))
    cases false n false m true is = (grind (arith, nat_tests), grind (arith, nat_tests))
    cases false n false m false k = let h : Err faults.Name ≡ Ok first = rw (n, m, k) at e in absurd (cc)

-- a name is plain
name_plain : (letter digit name : ℕ) → name_of (letter ∷ digit ∷ []) ≡ Ok name → IsPlain (letter ∷ digit ∷ [])
name_plain letter digit name e = cases (letter_of letter) refl (is_ascii_digit digit) refl
  where
    cases : (l : Result ℕ FaultKind) → letter_of letter ≡ l → (d : Bool) → is_ascii_digit digit ≡ d → IsPlain (letter ∷ digit ∷ [])
    cases (Ok first) p true q =
        let told = letter_plain letter first p in
        let other = told.1 in
        record {
          visible = All-cons (λ b. 33 ≤ b) letter (digit ∷ []) told.0 (All-cons (λ b. 33 ≤ b) digit [] (grind (arith, nat_tests)) (All-nil (λ b. 33 ≤ b)));
          word_is = refl;
          plain = rw other refl;
        }
    cases (Ok first) p false q = let h : Err faults.Name ≡ Ok name = rw (p, q) at e in absurd (cc)
    cases (Err kind) p d q = let h : Err kind ≡ Ok name = rw p at e in absurd (cc)

-- what two and three words read
abbrev two : ℕ → ℕ → Result (ℕ × ℕ) FaultKind
two a b = Ok (a, b)

abbrev three : ℕ → ℕ → ℕ → Result (ℕ × ℕ × ℕ) FaultKind
three a b c = Ok (a, b, c)

-- what stands behind a name and a space
behind_name : (bytes : List ℕ) (name : ℕ) → 3 ≤ length bytes → get_or bytes 2 0 ≡ 32 → name_of (take 2 bytes) ≡ Ok name
    → words_in bytes ≡ take 2 bytes ∷ words_in (drop 3 bytes)
behind_name [] name long space read = absurd (omega arith)
behind_name (a ∷ []) name long space read = absurd (omega arith)
behind_name (a ∷ b ∷ []) name long space read = absurd (omega arith)
behind_name (a ∷ b ∷ c ∷ rest) name long space read =
    ap (λ x. words_in (a ∷ b ∷ x ∷ rest)) space ∙ words_in-then (a ∷ b ∷ []) rest (name_plain a b name read)

-- A name, a space, and the bytes behind them.
module _ (bytes rest : List ℕ) (name : ℕ) (long : 3 ≤ length bytes) (space : get_or bytes 2 0 ≡ 32) (named : name_of (take 2 bytes) ≡ Ok name)
    (behind : rest ≡ take (length bytes - 3) (drop 3 bytes)) where
  split : words_in bytes ≡ take 2 bytes ∷ words_in rest
  split = behind_name bytes name long space named ∙ ap (λ r. take 2 bytes ∷ words_in r) (sym (behind ∙ take_rest bytes 3))

  -- where they are a key
  pub set_key : (key : ℕ) → key_of rest ≡ Ok key → set_key_of (words_in bytes) ≡ Ok (name, key)
  set_key key keyed =
      ap set_key_of (split ∙ ap (λ ws. take 2 bytes ∷ ws) (words_in-one rest (key_plain rest key keyed)))
      ∙ ap (λ n. n >>= (λ x. key_of rest >>= (λ y. two x y))) named
      ∙ ap (λ k. k >>= (λ y. two name y)) keyed

  -- where they are a name and a key
  pub sets_key : (second key : ℕ) → set_key_of (words_in rest) ≡ Ok (second, key) → sets_key_of (words_in bytes) ≡ Ok (name, second, key)
  sets_key second key read = ap sets_key_of split ∙ by_words (words_in rest) read
    where
      both : (n k : Result ℕ FaultKind) → (n >>= (λ a. k >>= (λ b. two a b))) ≡ Ok (second, key)
          → (n >>= (λ a. k >>= (λ b. three name a b))) ≡ Ok (name, second, key)
      both (Ok a) (Ok b) e = ap (λ r. r >>= (λ t. three name t.0 t.1)) e
      both (Ok a) (Err kind) e = absurd (cc)
      both (Err kind) k e = absurd (cc)

      by_words : (ws : List (List ℕ)) → set_key_of ws ≡ Ok (second, key) → sets_key_of (take 2 bytes ∷ ws) ≡ Ok (name, second, key)
      by_words [] e = absurd (cc)
      by_words (x ∷ []) e = absurd (cc)
      by_words (x ∷ y ∷ []) e =
          ap (λ n. n >>= (λ first. name_of x >>= (λ a. key_of y >>= (λ b. three first a b)))) named ∙ both (name_of x) (key_of y) e
      by_words (x ∷ y ∷ z ∷ ws) e = absurd (cc)

-- three bytes before a space
pub three_before : (line : List ℕ) → 4 ≤ length line → get_or line 3 0 ≡ 32 → line ≡ take 3 line ++ 32 ∷ take (length line - 4) (drop 4 line)
three_before [] long space = absurd (omega arith)
three_before (a ∷ []) long space = absurd (omega arith)
three_before (a ∷ b ∷ []) long space = absurd (omega arith)
three_before (a ∷ b ∷ c ∷ []) long space = absurd (omega arith)
three_before (a ∷ b ∷ c ∷ d ∷ rest) long space =
    ap (λ x. a ∷ b ∷ c ∷ x ∷ rest) space ∙ ap (λ r. a ∷ b ∷ c ∷ 32 ∷ r) (sym (take_rest (a ∷ b ∷ c ∷ d ∷ rest) 4))

-- a command's word is plain
module _ (format : ℕ) (word : List ℕ) where
  is_text : (text : List ℕ) → IsVerb text → bytes_eq word text ≡ true → IsPlain word
  is_text text told is = let same : word ≡ text = grind (arith, bytes_eq-Decides) in subst IsPlain (sym same) told.plain

  verb_plain : (v : Verb) → verb_of format word ≡ Ok v → IsPlain word
  verb_plain v e = cases (bytes_eq word (codes "add")) refl (bytes_eq word (codes "put")) refl (bytes_eq word (codes "del")) refl
      (bytes_eq word (codes "has")) refl (bytes_eq word (codes "get")) refl (bytes_eq word (codes "move")) refl (bytes_eq word (codes "pair")) refl
      (bytes_eq word (codes "size")) refl (bytes_eq word (codes "next")) refl
    where
      cases : (b1 : Bool) → bytes_eq word (codes "add") ≡ b1 → (b2 : Bool) → bytes_eq word (codes "put") ≡ b2
          → (b3 : Bool) → bytes_eq word (codes "del") ≡ b3 → (b4 : Bool) → bytes_eq word (codes "has") ≡ b4
          → (b5 : Bool) → bytes_eq word (codes "get") ≡ b5 → (b6 : Bool) → bytes_eq word (codes "move") ≡ b6
          → (b7 : Bool) → bytes_eq word (codes "pair") ≡ b7 → (b8 : Bool) → bytes_eq word (codes "size") ≡ b8
          → (b9 : Bool) → bytes_eq word (codes "next") ≡ b9 → IsPlain word
      cases true is b2 n2 b3 n3 b4 n4 b5 n5 b6 n6 b7 n7 b8 n8 b9 n9 = is_text (codes "add") (verb (codes "add") refl refl refl refl) is
      cases false n1 true is b3 n3 b4 n4 b5 n5 b6 n6 b7 n7 b8 n8 b9 n9 = is_text (codes "put") (verb (codes "put") refl refl refl refl) is
      cases false n1 false n2 true is b4 n4 b5 n5 b6 n6 b7 n7 b8 n8 b9 n9 = is_text (codes "del") (verb (codes "del") refl refl refl refl) is
      cases false n1 false n2 false n3 true is b5 n5 b6 n6 b7 n7 b8 n8 b9 n9 = is_text (codes "has") (verb (codes "has") refl refl refl refl) is
      cases false n1 false n2 false n3 false n4 true is b6 n6 b7 n7 b8 n8 b9 n9 = is_text (codes "get") (verb (codes "get") refl refl refl refl) is
      cases false n1 false n2 false n3 false n4 false n5 true is b7 n7 b8 n8 b9 n9 = is_text (codes "move") (verb (codes "move") refl refl refl refl) is
      cases false n1 false n2 false n3 false n4 false n5 false n6 true is b8 n8 b9 n9 = is_text (codes "pair") (verb (codes "pair") refl refl refl refl) is
      cases false n1 false n2 false n3 false n4 false n5 false n6 false n7 true is b9 n9 = is_text (codes "size") (verb (codes "size") refl refl refl refl) is
      cases false n1 false n2 false n3 false n4 false n5 false n6 false n7 false n8 true is =
          is_text (codes "next") (verb (codes "next") refl refl refl refl) is
      cases false n1 false n2 false n3 false n4 false n5 false n6 false n7 false n8 false n9 =
          let h : Err faults.Word ≡ Ok v = rw (n1, n2, n3, n4, n5, n6, n7, n8, n9) at e in absurd (cc)

  -- the command of a line whose first word is this, with what stands behind it and a space
  pub command_is : (line rest : List ℕ) (v : Verb) → line ≡ word ++ 32 ∷ rest → verb_of format word ≡ Ok v → (command : Option Command)
      → MatchOption command ⊤ (λ c. command_with v (words_in rest) ≡ Ok c) → MatchOption command ⊤ (λ c. command_of format (words_in line) ≡ Ok (Some c))
  unfolding command_of
  command_is line rest v e said None told = tt
  command_is line rest v e said (Some command) told =
      ap (λ l. command_of format (words_in l)) e ∙ ap (command_of format) (words_in-then word rest (verb_plain v said))
      ∙ ap (λ r. r >>= (λ x. command_with x (words_in rest) >>= (λ c. Ok (Some c)))) said
      ∙ ap (λ r. r >>= (λ c. Ok (Some c))) told
