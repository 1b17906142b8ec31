-- Mixing is a bijection of the numbers below 2^32.
use Rattle.std.specs.Int.Bits.{xor_assoc, xor_self, xor_zero_r}
use Rattle.std.proofs.lemmas.Nat.{xor_lt, xor_shr, shr-shr}
use Rattle.std.proofs.Common.{◌≡◌, ◌+◌, ◌/◌, ◌^◌, ◌<◌, ◌≤◌, ℕ, bit_xor, sym, ap, ◌∙◌, arith}
use Rattle.grow_hash.specs.Mixing.{folded, scaled, mixed}

-- what is exclusive-or'ed onto both may be taken away
xor_cancel : (a b c : ℕ) → bit_xor a c ≡ bit_xor b c → a ≡ b
xor_cancel a b c e = sym (back a) ∙ ap (λ n. bit_xor n c) e ∙ back b
  where
    back : (n : ℕ) → bit_xor (bit_xor n c) c ≡ n
    back n = xor_assoc n c c ∙ ap (bit_xor n) (xor_self c) ∙ xor_zero_r n

-- the upper part of a folded word
folded_shifted : (bit n word : ℕ) → folded bit word / 2 ^ n ≡ bit_xor (word / 2 ^ n) (word / 2 ^ (bit + n))
folded_shifted bit n word = xor_shr word (word / 2 ^ bit) n ∙ ap (bit_xor (word / 2 ^ n)) (shr-shr word bit n)

-- where the part that is folded onto it is none, it is as before
folded_top : (bit n word : ℕ) → word / 2 ^ (bit + n) ≡ 0 → folded bit word / 2 ^ n ≡ word / 2 ^ n
folded_top bit n word none = folded_shifted bit n word ∙ ap (bit_xor (word / 2 ^ n)) none ∙ xor_zero_r (word / 2 ^ n)

-- So words with equal upper parts are equal where the folded words are.
folded_apart : (bit x y : ℕ) → folded bit x ≡ folded bit y → x / 2 ^ bit ≡ y / 2 ^ bit → x ≡ y
folded_apart bit x y e top = xor_cancel x y (x / 2 ^ bit) (e ∙ ap (bit_xor y) (sym top))

folded_16 : (x y : ℕ) → x < 2 ^ 32 → y < 2 ^ 32 → folded 16 x ≡ folded 16 y → x ≡ y
folded_16 x y lx ly e =
    let top : x / 2 ^ 16 ≡ y / 2 ^ 16 =
    sym (folded_top 16 16 x (omega arith)) ∙ ap (λ n. n / 2 ^ 16) e ∙ folded_top 16 16 y (omega arith) in folded_apart 16 x y e top

folded_13 : (x y : ℕ) → x < 2 ^ 32 → y < 2 ^ 32 → folded 13 x ≡ folded 13 y → x ≡ y
folded_13 x y lx ly e =
    let top : x / 2 ^ 26 ≡ y / 2 ^ 26 =
    sym (folded_top 13 26 x (omega arith)) ∙ ap (λ n. n / 2 ^ 26) e ∙ folded_top 13 26 y (omega arith) in
    let both : bit_xor (x / 2 ^ 13) (x / 2 ^ 26) ≡ bit_xor (y / 2 ^ 13) (y / 2 ^ 26) =
    sym (folded_shifted 13 13 x) ∙ ap (λ n. n / 2 ^ 13) e ∙ folded_shifted 13 13 y in
    folded_apart 13 x y e (xor_cancel (x / 2 ^ 13) (y / 2 ^ 13) (x / 2 ^ 26) (both ∙ ap (bit_xor (y / 2 ^ 13)) (sym top)))

folded_low : (bit x : ℕ) → x < 2 ^ 32 → x / 2 ^ bit ≤ x → folded bit x < 2 ^ 32
folded_low bit x lx le = xor_lt 32 x (x / 2 ^ bit) lx (omega arith)

-- an odd factor has an inverse
scaled_first : (x y : ℕ) → x < 2 ^ 32 → y < 2 ^ 32 → scaled 0x85eb_ca6b x ≡ scaled 0x85eb_ca6b y → x ≡ y
scaled_first x y lx ly e = omega arith

scaled_second : (x y : ℕ) → x < 2 ^ 32 → y < 2 ^ 32 → scaled 0xc2b2_ae35 x ≡ scaled 0xc2b2_ae35 y → x ≡ y
scaled_second x y lx ly e = omega arith

scaled_low : (factor x : ℕ) → scaled factor x < 2 ^ 32
scaled_low factor x = omega arith

-- the key once it was folded and scaled, and once more
abbrev first : ℕ → ℕ
first key = scaled 0x85eb_ca6b (folded 16 key)

abbrev second : ℕ → ℕ
second key = scaled 0xc2b2_ae35 (folded 13 (first key))

-- a mixed key is a key
pub mixed_low : (key : ℕ) → key < 2 ^ 32 → mixed key < 2 ^ 32
unfolding mixed
mixed_low key lt = folded_low 16 (second key) (scaled_low 0xc2b2_ae35 (folded 13 (first key))) (omega arith)

-- and those of different keys differ.
pub mixed_apart : (a b : ℕ) → a < 2 ^ 32 → b < 2 ^ 32 → mixed a ≡ mixed b → a ≡ b
unfolding mixed
mixed_apart a b la lb e =
    let low : (k : ℕ) → first k < 2 ^ 32 = λ k. scaled_low 0x85eb_ca6b (folded 16 k) in
    let low2 : (k : ℕ) → second k < 2 ^ 32 = λ k. scaled_low 0xc2b2_ae35 (folded 13 (first k)) in
    let part : (k : ℕ) → folded 13 (first k) < 2 ^ 32 = λ k. folded_low 13 (first k) (low k) (omega arith) in
    let begun : (k : ℕ) → k < 2 ^ 32 → folded 16 k < 2 ^ 32 = λ k lk. folded_low 16 k lk (omega arith) in
    let third : second a ≡ second b = folded_16 (second a) (second b) (low2 a) (low2 b) e in
    let other : folded 13 (first a) ≡ folded 13 (first b) = scaled_second (folded 13 (first a)) (folded 13 (first b)) (part a) (part b) third in
    let one : first a ≡ first b = folded_13 (first a) (first b) (low a) (low b) other in
    folded_16 a b la lb (scaled_first (folded 16 a) (folded 16 b) (begun a la) (begun b lb) one)
