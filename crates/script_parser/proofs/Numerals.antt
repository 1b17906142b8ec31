-- The value of a numeral, digit by digit.
use Rattle.std.proofs.Common.{◌≡◌, ℕ, ◌+◌, ◌-◌, ◌*◌, ◌≤◌, ◌<◌, ◌^◌, true, List, length, take, get_or, arith, rules}
use Rattle.std.specs.Char.{is_ascii_digit}
use Rattle.std.specs.List.{list_all}
use Rattle.std.specs.Str.Parse.{digits_value}
use Rattle.std.proofs.lemmas.Bool.Decides.{nat_tests}
use Rattle.std.proofs.lemmas.Int.Digits.{digits_value_more}
use Rattle.std.proofs.lemmas.Str.{digit_value_digit}
use Rattle.std.proofs.lemmas.Str.Parse.{IsNumeralModel, numerals_by_value, digits_value_short, digits_value-take-le, digit_at}
use Rattle.script_parser.specs.Grammar.{is_numeral}

-- digits and their value, in std's words
pub own : IsNumeralModel (λ ds. list_all is_ascii_digit ds ≡ true) (digits_value 10)
own = numerals_by_value _ (search rules)

module _ (word : List ℕ) (numeral : is_numeral 20 word ≡ true) where
  short : length word ≤ 20
  short = grind (arith, nat_tests)

  digits : list_all is_ascii_digit word ≡ true
  digits = grind (arith, nat_tests)

  -- twenty digits at most
  pub small : (i : ℕ) → digits_value 10 (take i word) < 10 ^ 20
  small i = omega (arith, digits_value-take-le 10 word i (omega arith), digits_value_short own word 20 digits short)

  -- one digit more
  pub more : (i number digit : ℕ) → i < length word → number ≡ digits_value 10 (take i word) → digit ≡ get_or word i 0 - 48
      → number * 10 + digit ≡ digits_value 10 (take (i + 1) word)
  more i number digit lt e d =
      let is_digit = digit_at word i (own.to word digits) lt in
      omega (arith, digits_value_more 10 word i lt, digit_value_digit (get_or word i 0) is_digit)
