-- The order in which a large growing hash set mixes its keys.
use Rattle.std.specs.Prelude.{◌*◌, ◌/◌, ◌%◌, ◌^◌, ℕ, bit_xor}

-- the word with its upper part, from this bit on, exclusive-or'ed onto its lower one
abbrev pub folded : ℕ → ℕ → ℕ
folded bit word = bit_xor word (word / 2 ^ bit)

-- the last 32 bits of the word, times a factor, again the last 32 bits
abbrev pub scaled : ℕ → ℕ → ℕ
scaled factor word = word % 2 ^ 32 * factor % 2 ^ 32

-- The mixed key, by the finaliser of MurmurHash3: a bijection of the numbers below 2^32, in which each bit of the key moves about half of the others.
unfoldable pub mixed : ℕ → ℕ
mixed key = folded 16 (scaled 0xc2b2_ae35 (folded 13 (scaled 0x85eb_ca6b (folded 16 key))))
