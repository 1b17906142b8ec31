-- What a list of words asks for. Words are lists of bytes.
use Rattle.std.specs.Prelude.{◌≡◌, ℕ, ◌≤◌, ◌<◌, ⊤, ◌==◌, nat_le, ◌&&◌, not, Bool, false, List, [], ◌∷◌, length, map, string_bytes}
use Rattle.std.specs.Prelude.{Option, None, Some, Result, Ok, Err, if◌then◌else◌, codes}
use Rattle.std.specs.List.{list_all}
use Rattle.std.specs.Str.{bytes_eq}
use Rattle.std.specs.Str.Parse.{digits_value}
use Rattle.script_parser.specs.Grammar.{◌>>=◌, is_numeral}
use Rattle.run_words.specs.declared.request.Options.{Options}
use Rattle.run_words.specs.declared.request.Request.{Request}
use Rattle.run_words.specs.declared.request.Request.TheVariants.{Run, Gen, Work, Block, Pool, Grow, Replay}
use Rattle.run_words.specs.declared.request.Limit.{Limit}
use Rattle.run_words.specs.declared.request.Limit.TheVariants as limits
use Rattle.run_words.specs.declared.request.BadWords.{BadWords}
use Rattle.run_words.specs.declared.request.BadWords.TheVariants.{Form, Beyond}
use Rattle.run_words.specs.declared.options.Flag.{Flag}
use Rattle.run_words.specs.declared.options.Flag.TheVariants.{Objects, Slots, Base}
use Rattle.run_words.specs.declared.options.GivenOptions.{GivenOptions}

-- what words ask for
pub data Asks : Type 0 where
  -- to run the scripts of the files of these names, with these numbers
  run : Options → List (List ℕ) → Asks
  -- for the generated script of a number and a seat
  gen : ℕ → ℕ → Asks
  -- to run the four generated scripts of a number
  work : ℕ → Asks
  -- to run the scripts of blocks of the files of these names
  block : List (List ℕ) → Asks
  -- to do the commands of the one file of these names on so many seats
  pool : ℕ → List (List ℕ) → Asks
  -- to run the scripts of a growing set of the files of these names
  grow : List (List ℕ) → Asks
  -- to replay the schedule of steps of the one file of these names
  replay : List (List ℕ) → Asks

-- the number of a word, where it is 1 to 20 decimal digits
abbrev pub number_of : List ℕ → Option ℕ
number_of word = if is_numeral 20 word then Some (digits_value 10 word) else None

-- the option that a word is
abbrev pub flag_of : List ℕ → Option Flag
flag_of word =
    if bytes_eq word (codes "--objects") then Some Objects
    else (if bytes_eq word (codes "--slots") then Some Slots
    else (if bytes_eq word (codes "--base") then Some Base
    else None))

-- a number that wasn't given yet is given
abbrev pub put : Option ℕ → ℕ → (Option ℕ → GivenOptions) → Option GivenOptions
put None number given = Some (given (Some number))
put (Some before) number given = None

-- the options with one more, where it wasn't given yet
abbrev pub add_option : Flag → ℕ → GivenOptions → Option GivenOptions
add_option Objects number given = put given.objects number (λ n. record given { objects = n })
add_option Slots number given = put given.slots number (λ n. record given { slots = n })
add_option Base number given = put given.base number (λ n. record given { base = n })

-- where there is a value, what follows of it
abbrev pub from : {A B : Type 0} → Option A → (A → Option B) → Option B
from None f = None
from (Some x) f = f x

-- what follows of an option, or of none
abbrev pub with_flag : {A : Type 0} → Option Flag → A → (Flag → A) → A
with_flag None a f = a
with_flag (Some flag) a f = f flag

-- The options that the words begin with, and the words behind them. An option comes at most once, and its number is the next word.
abbrev pub options_of : GivenOptions → List (List ℕ) → Option (GivenOptions × List (List ℕ))
options_of given (word ∷ value ∷ words) =
    with_flag (flag_of word) (Some (given, word ∷ value ∷ words))
    (λ flag. from (number_of value) (λ number. from (add_option flag number given) (λ next. options_of next words)))
options_of given words = Some (given, words)

-- the options before any is given
abbrev pub none_given : GivenOptions
none_given = record { objects = None; slots = None; base = None }

-- whether a word may be a FILE: it isn't empty and doesn't begin with `-`
abbrev pub is_file : List ℕ → Bool
is_file [] = false
is_file (b ∷ bs) = not (b == 45)

-- whether there is a word, and each may be a FILE
abbrev pub are_files : List (List ℕ) → Bool
are_files [] = false
are_files (word ∷ words) = list_all is_file (word ∷ words)

-- options with words behind them that are FILEs are in form
abbrev pub in_form : Option (GivenOptions × List (List ℕ)) → Result (GivenOptions × List (List ℕ)) BadWords
in_form None = Err Form
in_form (Some parts) = if are_files parts.1 then Ok parts else Err Form

-- a number that was read is in form
abbrev pub read : Option ℕ → Result ℕ BadWords
read None = Err Form
read (Some number) = Ok number

-- a number in its range
abbrev pub within : Limit → ℕ → ℕ → ℕ → Result ℕ BadWords
within limit least most number = if nat_le least number && nat_le number most then Ok number else Err (Beyond limit)

-- the number given, or the one that stands for none
abbrev pub given_or : ℕ → Option ℕ → ℕ
given_or default None = default
given_or default (Some number) = number

-- what the words behind `run` ask for: the form comes first, then the numbers in this order
abbrev pub run_asked : List (List ℕ) → Result Asks BadWords
run_asked words = do
  parts ← in_form (options_of none_given words)
  objects ← within limits.Objects 181 65535 (given_or 4096 parts.0.objects)
  slots ← within limits.Slots 64 4096 (given_or 1024 parts.0.slots)
  base ← within limits.Base 0 35184372088831 (given_or 0 parts.0.base)
  if nat_le (length parts.1) 64 then Ok (run (record { objects = objects; slots = slots; base = base }) parts.1) else Err (Beyond limits.Files)

-- what the words behind `gen` ask for
abbrev pub gen_asked : List (List ℕ) → Result Asks BadWords
gen_asked (first ∷ second ∷ []) = do
  number ← read (number_of first)
  seat ← read (number_of second)
  number ← within limits.Number 0 18446744073709551615 number
  seat ← within limits.Seat 0 3 seat
  Ok (gen number seat)
gen_asked words = Err Form

-- what the words behind `work` ask for
abbrev pub work_asked : List (List ℕ) → Result Asks BadWords
work_asked (first ∷ []) = do
  number ← read (number_of first)
  number ← within limits.Number 0 18446744073709551615 number
  Ok (work number)
work_asked words = Err Form

-- words that are the files of a run: the form comes first, then their number
abbrev pub few_files : List (List ℕ) → Result (List (List ℕ)) BadWords
few_files words = if are_files words then (if nat_le (length words) 64 then Ok words else Err (Beyond limits.Files)) else Err Form

-- what the words behind `block` ask for
abbrev pub block_asked : List (List ℕ) → Result Asks BadWords
block_asked words = do
  names ← few_files words
  Ok (block names)

-- a word that may be a FILE is in form
abbrev pub one_file : List ℕ → Result (List (List ℕ)) BadWords
one_file word = if is_file word then Ok (word ∷ []) else Err Form

-- what the words behind `pool` ask for
abbrev pub pool_asked : List (List ℕ) → Result Asks BadWords
pool_asked (first ∷ second ∷ []) = do
  seats ← read (number_of first)
  names ← one_file second
  seats ← within limits.Seats 1 8 seats
  Ok (pool seats names)
pool_asked words = Err Form

-- what the words behind `grow` ask for
abbrev pub grow_asked : List (List ℕ) → Result Asks BadWords
grow_asked words = do
  names ← few_files words
  Ok (grow names)

-- what the words behind `replay` ask for
abbrev pub replay_asked : List (List ℕ) → Result Asks BadWords
replay_asked (first ∷ []) = do
  names ← one_file first
  Ok (replay names)
replay_asked words = Err Form

-- What the words ask for, or the first reason why they ask for nothing.
abbrev pub asked : List (List ℕ) → Result Asks BadWords
asked [] = Err Form
asked (first ∷ words) =
    if bytes_eq first (codes "run") then run_asked words
    else (if bytes_eq first (codes "gen") then gen_asked words
    else (if bytes_eq first (codes "work") then work_asked words
    else (if bytes_eq first (codes "block") then block_asked words
    else (if bytes_eq first (codes "pool") then pool_asked words
    else (if bytes_eq first (codes "grow") then grow_asked words
    else (if bytes_eq first (codes "replay") then replay_asked words
    else Err Form))))))

-- what a request asks for
abbrev pub asks_of : Request → Asks
asks_of (Run options files) = run options (map string_bytes files.now)
asks_of (Gen number seat) = gen number seat
asks_of (Work number) = work number
asks_of (Block files) = block (map string_bytes files.now)
asks_of (Pool seats files) = pool seats (map string_bytes files.now)
asks_of (Grow files) = grow (map string_bytes files.now)
asks_of (Replay files) = replay (map string_bytes files.now)

-- The numbers of a run are in their ranges.
pub record FitOptions (o : Options) : Type 0 where
  pub objects : (181 ≤ o.objects) × (o.objects ≤ 65535)
  pub slots : (64 ≤ o.slots) × (o.slots ≤ 4096)
  pub base : o.base ≤ 35184372088831

-- the numbers of a request are in their ranges, the number of its files too
abbrev pub IsFit : Request → Type 0
IsFit (Run options files) = FitOptions options × (1 ≤ length files.now) × (length files.now ≤ 64)
IsFit (Gen number seat) = seat < 4
IsFit (Work number) = ⊤
IsFit (Block files) = (1 ≤ length files.now) × (length files.now ≤ 64)
IsFit (Pool seats files) = (1 ≤ seats) × (seats ≤ 8) × (length files.now ≡ 1)
IsFit (Grow files) = (1 ≤ length files.now) × (length files.now ≤ 64)
IsFit (Replay files) = length files.now ≡ 1
