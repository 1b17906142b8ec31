-- How many steps a call makes.
use Rattle.std.specs.Prelude.{ℕ, ◌+◌, ◌-◌, ◌*◌, ◌≤◌, length}
use Rattle.mv_history.specs.Meaning.{Seat, InSection}
use Rattle.mv_history.specs.Calls.{call_trail}

-- the call made at most so many steps
abbrev pub MakesAtMost : Seat → Seat → ℕ → Type 0
MakesAtMost old new most = length (call_trail old new) ≤ most

-- a read's steps: at most three for each entry after the snapshot that was seen, and 12
abbrev pub read_most : InSection → InSection → ℕ
read_most old new = 12 + 3 * (length new.seat.seen - old.at)

-- the steps of a read of two words: at most three for each entry after the snapshot that was seen, and 8
abbrev pub pair_most : InSection → InSection → ℕ
pair_most old new = 8 + 3 * (length new.seat.seen - old.at)

-- the steps of a read of four words: at most three for each entry after the snapshot that was seen, and 10
abbrev pub four_most : InSection → InSection → ℕ
four_most old new = 10 + 3 * (length new.seat.seen - old.at)
