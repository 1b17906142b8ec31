-- What a value of one field is as a word, and back.
use Rattle.std.specs.Prelude.{ℕ, zero, suc, ◌+◌, ◌*◌, ◌^◌, ◌/◌, ◌%◌, ◌<◌, ◌≤◌, ◌≡◌, true, false, Bool, Option, Some, None, refl, ⊤}
use Rattle.std.proofs.Common.{ap, arith}
use Rattle.std.proofs.Math.Nat.{mod-add-div'}
use Rattle.std.proofs.lemmas.Nat.{same_from_place}

-- 0 for false, and 1 for true
abbrev pub bool_word : Bool → ℕ
bool_word false = 0
bool_word true = 1

-- false for 0, and true for any other word
abbrev pub bool_of : ℕ → Bool
bool_of zero = false
bool_of (suc n) = true

-- 0 for no object, and else the object's number and 1
abbrev pub link_word : Option ℕ → ℕ
link_word None = 0
link_word (Some object) = suc object

-- no object for 0, and else the object whose number is 1 less
abbrev pub link_of : ℕ → Option ℕ
link_of zero = None
link_of (suc object) = Some object

-- the first number is the low half of the word, and the second one the high half
abbrev pub pair_word : ℕ × ℕ → ℕ
pair_word pair = pair.1 * 2 ^ 32 + pair.0

-- the low half of the word, and the high half
abbrev pub pair_of : ℕ → ℕ × ℕ
pair_of word = (word % 2 ^ 32, word / 2 ^ 32)

-- both numbers are of 32 bits
abbrev pub IsPair : ℕ × ℕ → Type 0
IsPair pair = (pair.0 < 2 ^ 32) × (pair.1 < 2 ^ 32)

-- an object's number is of 32 bits
abbrev pub IsLink : Option ℕ → Type 0
IsLink None = ⊤
IsLink (Some object) = object < 2 ^ 32

pub bool_words : (b : Bool) → bool_word b < 2
bool_words false = omega arith
bool_words true = omega arith

pub bool_reads_back : (b : Bool) → bool_of (bool_word b) ≡ b
bool_reads_back false = refl
bool_reads_back true = refl

pub bool_writes_back : (word : ℕ) → word < 2 → bool_word (bool_of word) ≡ word
bool_writes_back zero below = refl
bool_writes_back (suc zero) below = refl
bool_writes_back (suc (suc n)) below = absurd (omega (arith, below))

pub link_words : (link : Option ℕ) → IsLink link → link_word link ≤ 2 ^ 32
link_words None is = omega arith
link_words (Some object) is = is

pub link_reads_back : (link : Option ℕ) → link_of (link_word link) ≡ link
link_reads_back None = refl
link_reads_back (Some object) = refl

pub link_writes_back : (word : ℕ) → link_word (link_of word) ≡ word
link_writes_back zero = refl
link_writes_back (suc object) = refl

pub pair_words : (pair : ℕ × ℕ) → IsPair pair → pair_word pair < 2 ^ 64
pair_words pair is = omega (arith, is.0, is.1)

pub pair_writes_back : (word : ℕ) → pair_word (pair_of word) ≡ word
pair_writes_back word = omega arith

pub pair_reads_back : (pair : ℕ × ℕ) → IsPair pair → pair_of (pair_word pair) ≡ pair
pair_reads_back pair is =
    let same = same_from_place (pair_word pair / 2 ^ 32) (pair_word pair % 2 ^ 32) pair.1 pair.0 (2 ^ 32) (omega arith) is.0 (omega arith) in
    λ i. (same.1 i, same.0 i)
