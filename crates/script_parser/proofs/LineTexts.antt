-- A command is read back from its line.
use Rattle.std.proofs.Common.{◌≡◌, ℕ, ◌+◌, ◌-◌, ◌%◌, ◌≤◌, ◌<◌, ◌^◌, ◌==◌, nat_le, nat_lt, Bool, true, false}
use Rattle.std.proofs.Common.{cond, List, [], ◌∷◌, ◌++◌, length, get_or, take, None, Some, Ok, codes, decimal, inl, inr, refl, ap, sym}
use Rattle.std.proofs.Common.{◌∙◌, subst, arith}
use Rattle.std.specs.Char.{is_ascii_digit}
use Rattle.std.specs.List.{All, AllByRecursion, slice_split, list_all, filter, take_while}
use Rattle.std.specs.Result.{result_unwrap_or}
use Rattle.std.specs.Str.Lines.{strip_carriage_return}
use Rattle.std.specs.Str.Parse.{digits_value}
use Rattle.std.proofs.lemmas.Bool.{cases_lt}
use Rattle.std.proofs.lemmas.Bool.Decides.{nat_tests}
use Rattle.std.proofs.lemmas.Fmt.{digits_decimal, digits_value-decimal, length-decimal-le, decimal_digit, decimal_nonempty}
use Rattle.std.proofs.lemmas.List.Elements.{All-nil, All-cons, All-append, All-weaker, All-get_or}
use Rattle.std.proofs.lemmas.List.Splits.{slice_split_none, slice_split_at}
use Rattle.std.proofs.lemmas.List.Sums.{AllPass-from_list_all, take_while-cons}
use Rattle.set_model.specs.declared.commands.Command.{Command}
use Rattle.set_model.specs.declared.commands.Command.TheVariants.{Add, Put, Del, Has, Get, Move, Pair, Size, Next}
use Rattle.script_parser.specs.Grammar.{◌>>=◌, is_blank, is_word, is_plain, words_in, words_of, name_of, key_of, value_of, command_of, line_read}
use Rattle.script_parser.specs.Grammar.{is_format_word, format_of, first_read, first_format, reading_in, format_after}
use Rattle.set_model.specs.Names.{name_text}
use Rattle.script_parser.specs.GrammarLaws.{spaced, line_text, MaySay}
use Rattle.script_parser.proofs.Numerals.{own}

-- no byte is a blank or an end of a line
abbrev pub AreVisible : List ℕ → Type 0
AreVisible bytes = All (λ b. 33 ≤ b) bytes

pub no_blank : (bytes : List ℕ) → AreVisible bytes → All (λ b. is_blank b ≡ false) bytes
no_blank bytes visible = All-weaker (λ b. 33 ≤ b) (λ b. is_blank b ≡ false) (λ b h. grind (arith, nat_tests)) bytes visible

-- a word of visible bytes that begins no comment
pub record IsPlain (word : List ℕ) : Type 0 where
  pub visible : AreVisible word
  pub word_is : is_word word ≡ true
  pub plain : is_plain word ≡ true

-- words that have one space between them are the parts between the blanks
spaced_parts : (word : List ℕ) (words : List (List ℕ)) → IsPlain word → AllByRecursion IsPlain words → slice_split is_blank (spaced word words) ≡ word ∷ words
spaced_parts word [] first rest = slice_split_none is_blank word (no_blank word first.visible)
spaced_parts word (next ∷ words) first rest =
    slice_split_at is_blank word 32 (spaced next words) (no_blank word first.visible) refl ∙ ap (λ parts. word ∷ parts) (spaced_parts next words rest.0 rest.1)

pub plain_words : (words : List (List ℕ)) → AllByRecursion IsPlain words → take_while is_plain (filter is_word words) ≡ words
plain_words [] all = refl
plain_words (word ∷ words) all =
    let kept : filter is_word (word ∷ words) ≡ word ∷ filter is_word words = let there = all.0.word_is in rw there refl in
    ap (take_while is_plain) kept
    ∙ take_while-cons is_plain word (filter is_word words)
    ∙ ap (λ b. cond b (word ∷ take_while is_plain (filter is_word words)) []) all.0.plain
    ∙ ap (λ ws. word ∷ ws) (plain_words words all.1)

-- the bytes of such a line are spaces and visible ones
pub spaced_printed : (word : List ℕ) (words : List (List ℕ)) → IsPlain word → AllByRecursion IsPlain words → All (λ b. 32 ≤ b) (spaced word words)
spaced_printed word [] first rest = All-weaker (λ b. 33 ≤ b) (λ b. 32 ≤ b) (λ b h. omega arith) word first.visible
spaced_printed word (next ∷ words) first rest =
    All-append (λ b. 32 ≤ b) word (32 ∷ spaced next words) (All-weaker (λ b. 33 ≤ b) (λ b. 32 ≤ b) (λ b h. omega arith) word first.visible)
    (All-cons (λ b. 32 ≤ b) 32 (spaced next words) (omega arith) (spaced_printed next words rest.0 rest.1))

-- where no byte is a CR, none is dropped
strip_none : (bytes : List ℕ) → All (λ b. 32 ≤ b) bytes → strip_carriage_return bytes ≡ bytes
strip_none [] all = refl
strip_none (b ∷ bytes) all =
    let last : 32 ≤ get_or (b ∷ bytes) (length (b ∷ bytes) - 1) 0 = All-get_or (λ x. 32 ≤ x) (b ∷ bytes) (length (b ∷ bytes) - 1) 0 (omega arith) all in
    let other : (get_or (b ∷ bytes) (length (b ∷ bytes) - 1) 0 == 13) ≡ false = grind (arith, nat_tests) in
    ap (λ t. cond t (take (length (b ∷ bytes) - 1) (b ∷ bytes)) (b ∷ bytes)) other

-- the words of such a line
pub spaced_words : (word : List ℕ) (words : List (List ℕ)) → IsPlain word → AllByRecursion IsPlain words → words_of (spaced word words) ≡ word ∷ words
spaced_words word words first rest =
    ap words_in (strip_none (spaced word words) (spaced_printed word words first rest))
    ∙ ap (λ parts. take_while is_plain (filter is_word parts)) (spaced_parts word words first rest)
    ∙ plain_words (word ∷ words) (first, rest)

-- a numeral is plain
pub digits_plain : (bytes : List ℕ) → 0 < length bytes → list_all is_ascii_digit bytes ≡ true → IsPlain bytes
digits_plain [] some digits = absurd (omega arith)
digits_plain (b ∷ bytes) some digits = record {
  visible = All-weaker (λ b. is_ascii_digit b ≡ true) (λ b. 33 ≤ b) (λ b h. grind (arith, nat_tests)) (b ∷ bytes)
      (AllPass-from_list_all is_ascii_digit (b ∷ bytes) digits);
  word_is = refl;
  plain = grind (arith, nat_tests);
}

-- a key
module _ (key : ℕ) (fits : key < 2 ^ 32) where
  key_digits : list_all is_ascii_digit (decimal key) ≡ true
  key_digits = digits_decimal own key (omega arith)

  key_plain : IsPlain (decimal key)
  key_plain = digits_plain (decimal key) (decimal_nonempty key (omega arith)) key_digits

  key_back : key_of (decimal key) ≡ Ok key
  key_back =
      let value : digits_value 10 (decimal key) ≡ key = digits_value-decimal own key (omega arith) in
      let some : nat_le 1 (length (decimal key)) ≡ true = let h = decimal_nonempty key (omega arith) in grind (arith, nat_tests) in
      let short : nat_le (length (decimal key)) 10 ≡ true =
      let h = length-decimal-le 10 key (omega arith) (omega arith) (omega arith) in grind (arith, nat_tests) in
      let low : nat_le key 4294967295 ≡ true = grind (arith, nat_tests) in
      rw (some, short, key_digits, value, low) refl

-- a value
module _ (value : ℕ) (fits : value < 2 ^ 64) where
  value_digits : list_all is_ascii_digit (decimal value) ≡ true
  value_digits = digits_decimal own value (omega arith)

  pub value_plain : IsPlain (decimal value)
  value_plain = digits_plain (decimal value) (decimal_nonempty value (omega arith)) value_digits

  value_back : value_of (decimal value) ≡ Ok value
  value_back =
      let number : digits_value 10 (decimal value) ≡ value = digits_value-decimal own value (omega arith) in
      let some : nat_le 1 (length (decimal value)) ≡ true = let h = decimal_nonempty value (omega arith) in grind (arith, nat_tests) in
      let short : nat_le (length (decimal value)) 20 ≡ true =
      let h = length-decimal-le 20 value (omega arith) (omega arith) (omega arith) in grind (arith, nat_tests) in
      let low : nat_le value 18446744073709551615 ≡ true = grind (arith, nat_tests) in
      rw (some, short, value_digits, number, low) refl

-- a name
abbrev name_letter : ℕ → ℕ
name_letter name = cond (nat_lt name 10) 108 (cond (nat_lt name 20) 104 116)

name_text-is : (name : ℕ) → name_text name ≡ name_letter name ∷ (48 + name % 10) ∷ []
name_text-is name = rw (decimal_digit (name % 10) (omega arith)) (cases (nat_lt name 10) (nat_lt name 20))
  where
    cases : (a b : Bool) → cond a (codes "l") (cond b (codes "h") (codes "t")) ++ (48 + name % 10) ∷ [] ≡ cond a 108 (cond b 104 116) ∷ (48 + name % 10) ∷ []
    cases true b = refl
    cases false true = refl
    cases false false = refl

module _ (name : ℕ) where
  letter_visible : 33 ≤ name_letter name
  letter_visible = grind (arith, nat_tests)

  letter_plain : (name_letter name == 35) ≡ false
  letter_plain = grind (arith, nat_tests)

  name_plain : IsPlain (name_text name)
  name_plain = subst IsPlain (sym (name_text-is name)) (record {
    visible = All-cons (λ b. 33 ≤ b) (name_letter name) ((48 + name % 10) ∷ []) letter_visible
        (All-cons (λ b. 33 ≤ b) (48 + name % 10) [] (omega arith) (All-nil (λ b. 33 ≤ b)));
    word_is = refl;
    plain = rw letter_plain refl;
  })

  digit : is_ascii_digit (48 + name % 10) ≡ true
  digit = let h : name % 10 < 10 = omega arith in grind (arith, nat_tests)

  letter_back : name < 30 → name_of (name_letter name ∷ (48 + name % 10) ∷ []) ≡ Ok name
  letter_back few = elim (cases_lt name 10) [
    | inl low ↦
        let a : nat_lt name 10 ≡ true = grind (arith, nat_tests) in
        let back : 0 + (48 + name % 10 - 48) ≡ name = omega arith in
        rw (a, digit) (ap Ok back)
    | inr past ↦ elim (cases_lt name 20) [
      | inl low ↦
          let a : nat_lt name 10 ≡ false = grind (arith, nat_tests) in
          let b : nat_lt name 20 ≡ true = grind (arith, nat_tests) in
          let back : 10 + (48 + name % 10 - 48) ≡ name = omega arith in
          rw (a, b, digit) (ap Ok back)
      | inr high ↦
          let a : nat_lt name 10 ≡ false = grind (arith, nat_tests) in
          let b : nat_lt name 20 ≡ false = grind (arith, nat_tests) in
          let back : 20 + (48 + name % 10 - 48) ≡ name = omega arith in
          rw (a, b, digit) (ap Ok back)
    ]
  ]

  name_back : name < 30 → name_of (name_text name) ≡ Ok name
  name_back few = ap name_of (name_text-is name) ∙ letter_back few

-- the first word of a command's line
pub record IsVerb (word : List ℕ) : Type 0 where
  pub plain : IsPlain word
  pub other : is_format_word word ≡ false

pub verb : (word : List ℕ) → list_all (nat_le 33) word ≡ true → is_word word ≡ true → is_plain word ≡ true → is_format_word word ≡ false → IsVerb word
verb word visible word_is plain other = record {
  plain = record {
    visible = All-weaker (λ b. nat_le 33 b ≡ true) (λ b. 33 ≤ b) (λ b h. grind (arith, nat_tests)) word (AllPass-from_list_all (nat_le 33) word visible);
    word_is = word_is;
    plain = plain;
  };
  other = other;
}

-- A command's line is that of these words, of which a script of this format reads it back.
pub record LineOf (format : ℕ) (command : Command) : Type 0 where
  pub word : List ℕ
  pub words : List (List ℕ)
  pub text : line_text command ≡ spaced word words
  pub first : IsVerb word
  pub rest : AllByRecursion IsPlain words
  pub back : command_of format (word ∷ words) ≡ Ok (Some command)

line : (format : ℕ) (command : Command) (word : List ℕ) (words : List (List ℕ)) → line_text command ≡ spaced word words → IsVerb word
    → AllByRecursion IsPlain words → command_of format (word ∷ words) ≡ Ok (Some command) → LineOf format command
line format command word words text first rest back = record { word = word; words = words; text = text; first = first; rest = rest; back = back }

pub line_of : (format : ℕ) (command : Command) → MaySay format command → LineOf format command
unfolding command_of
line_of format (Add name key) ok =
    line format (Add name key) (codes "add") (name_text name ∷ decimal key ∷ []) refl (verb (codes "add") refl refl refl refl)
    (name_plain name, (key_plain key ok.0.1, tt))
    (rw (name_back name ok.0.0, key_back key ok.0.1) refl)
line_of format (Put name key value) ok =
    line format (Put name key value) (codes "put") (name_text name ∷ decimal key ∷ decimal value ∷ []) refl (verb (codes "put") refl refl refl refl)
    (name_plain name, (key_plain key ok.0.1, (value_plain value ok.0.2, tt)))
    (rw (ok.1, name_back name ok.0.0, key_back key ok.0.1, value_back value ok.0.2) refl)
line_of format (Del name key) ok =
    line format (Del name key) (codes "del") (name_text name ∷ decimal key ∷ []) refl (verb (codes "del") refl refl refl refl)
    (name_plain name, (key_plain key ok.0.1, tt))
    (rw (name_back name ok.0.0, key_back key ok.0.1) refl)
line_of format (Has name key) ok =
    line format (Has name key) (codes "has") (name_text name ∷ decimal key ∷ []) refl (verb (codes "has") refl refl refl refl)
    (name_plain name, (key_plain key ok.0.1, tt))
    (rw (name_back name ok.0.0, key_back key ok.0.1) refl)
line_of format (Get name key) ok =
    line format (Get name key) (codes "get") (name_text name ∷ decimal key ∷ []) refl (verb (codes "get") refl refl refl refl)
    (name_plain name, (key_plain key ok.0.1, tt))
    (rw (ok.1, name_back name ok.0.0, key_back key ok.0.1) refl)
line_of format (Move source target key) ok =
    let other : (source == target) ≡ false = let h = ok.1 in grind (arith, nat_tests) in
    line format (Move source target key) (codes "move") (name_text source ∷ name_text target ∷ decimal key ∷ []) refl (verb (codes "move") refl refl refl refl)
    (name_plain source, (name_plain target, (key_plain key ok.0.2, tt)))
    (rw (name_back source ok.0.0, name_back target ok.0.1, key_back key ok.0.2, other) refl)
line_of format (Pair first second key) ok =
    line format (Pair first second key) (codes "pair") (name_text first ∷ name_text second ∷ decimal key ∷ []) refl (verb (codes "pair") refl refl refl refl)
    (name_plain first, (name_plain second, (key_plain key ok.0.2, tt)))
    (rw (name_back first ok.0.0, name_back second ok.0.1, key_back key ok.0.2) refl)
line_of format (Size name) ok =
    line format (Size name) (codes "size") (name_text name ∷ []) refl (verb (codes "size") refl refl refl refl) (name_plain name, tt)
    (rw (name_back name ok.0) refl)
line_of format (Next name key) ok =
    line format (Next name key) (codes "next") (name_text name ∷ decimal key ∷ []) refl (verb (codes "next") refl refl refl refl)
    (name_plain name, (key_plain key ok.0.1, tt))
    (rw (name_back name ok.0.0, key_back key ok.0.1) refl)

-- the line's words
told_words : (format : ℕ) (command : Command) (l : LineOf format command) → words_of (line_text command) ≡ l.word ∷ l.words
told_words format command l = ap words_of l.text ∙ spaced_words l.word l.words l.first.plain l.rest

module _ (format : ℕ) (command : Command) (ok : MaySay format command) where
  pub line_printed : All (λ b. 32 ≤ b) (line_text command)
  line_printed = let l = line_of format command ok in subst (All (λ b. 32 ≤ b)) (sym l.text) (spaced_printed l.word l.words l.first.plain l.rest)

  pub line_back : line_read format (line_text command) ≡ Ok (Some command)
  line_back = let l = line_of format command ok in ap (command_of format) (told_words format command l) ∙ l.back

-- the same before any line with words, in format 1
module _ (command : Command) (ok : MaySay 1 command) where
  pub first_back : reading_in None (line_text command) ≡ Ok (Some command)
  first_back =
      let l = line_of 1 command ok in
      ap first_read (told_words 1 command l) ∙ ap (λ b. cond b (format_of l.words >>= λ format. Ok None) (command_of 1 (l.word ∷ l.words))) l.first.other
      ∙ l.back

  pub first_plain : format_after None (line_text command) ≡ Some 1
  first_plain =
      let l = line_of 1 command ok in
      ap first_format (told_words 1 command l) ∙ ap (λ b. Some (cond b (result_unwrap_or (format_of l.words) 1) 1)) l.first.other
