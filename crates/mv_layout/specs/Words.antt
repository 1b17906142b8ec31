-- The packing of a clock word, a link and an unset stamp.
use Rattle.std.specs.Prelude.{ℕ, ◌+◌, ◌-◌, ◌*◌, ◌/◌, ◌%◌, ◌^◌, ◌<◌, ◌≤◌}

-- a clock word of a time, a seat and a slot
abbrev pub clock_of : ℕ → ℕ → ℕ → ℕ
clock_of time seat slot = time * 2 ^ 19 + seat * 2 ^ 13 + slot

-- the time of a clock word
abbrev pub clock_time_of : ℕ → ℕ
clock_time_of word = word / 2 ^ 19

-- the seat of a clock word
abbrev pub clock_seat_of : ℕ → ℕ
clock_seat_of word = word / 2 ^ 13 % 64

-- the slot of a clock word
abbrev pub clock_slot_of : ℕ → ℕ
clock_slot_of word = word % 2 ^ 13

-- a link to a position of a seat's log
abbrev pub link_of : ℕ → ℕ → ℕ
link_of seat position = (seat + 1) * 2 ^ 57 + position

-- the word is a packed link: of a seat below 64 and a position below 2^57
abbrev pub IsLink : ℕ → Type 0
IsLink word = (2 ^ 57 ≤ word) × (word < 65 * 2 ^ 57)

-- the seat of a packed link
abbrev pub link_seat_of : ℕ → ℕ
link_seat_of word = word / 2 ^ 57 - 1

-- the position of a packed link
abbrev pub link_position_of : ℕ → ℕ
link_position_of word = word % 2 ^ 57

-- the unset stamp of a write set with this first position
abbrev pub unset_of : ℕ → ℕ
unset_of position = 2 ^ 63 + position

-- the stamp is unset
abbrev pub IsUnset : ℕ → Type 0
IsUnset word = 2 ^ 63 ≤ word

-- the first position of an unset stamp
abbrev pub unset_position_of : ℕ → ℕ
unset_position_of word = word - 2 ^ 63
