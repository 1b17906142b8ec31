-- The order of a run's lines: by time, commits before reads, then by seat, then by number.
use Rattle.std.specs.Prelude.{ℕ, Bool, List}
use Rattle.std.specs.declared.cmp.Ordering.{Ordering}
use Rattle.std.specs.Ordering.{nat_cmp, ordering_then, is_lt}
use Rattle.std.specs.List.Sorted.{IsSortedBy}
use Rattle.section_work.specs.declared.place.Place.{Place}
use Rattle.section_work.specs.declared.place.Place.TheVariants.{Commit, Read}
use Rattle.run_report.specs.declared.line.Line.{Line}

-- the printed time of a place
abbrev pub time_of : Place → ℕ
time_of (Commit time) = time
time_of (Read time) = time

-- at one time a commit is first and reads are after it
abbrev pub rank_of : Place → ℕ
rank_of (Commit time) = 0
rank_of (Read time) = 1

-- what a line is ordered by: the time, commits before reads, the seat and the number
abbrev pub order_key : Line → ℕ × ℕ × ℕ × ℕ
order_key line = (time_of line.place, rank_of line.place, line.seat, line.number)

-- how two such keys compare: by the first part, then by the second, and so on
abbrev pub key_cmp : ℕ × ℕ × ℕ × ℕ → ℕ × ℕ × ℕ × ℕ → Ordering
key_cmp a b = ordering_then (ordering_then (ordering_then (nat_cmp a.0 b.0) (nat_cmp a.1 b.1)) (nat_cmp a.2 b.2)) (nat_cmp a.3 b.3)

-- whether the first line is ahead of the second
abbrev pub is_ahead : Line → Line → Bool
is_ahead a b = is_lt (key_cmp (order_key a) (order_key b))

-- no line is ahead of the one before it
abbrev pub IsOrdered : List Line → Type 0
IsOrdered lines = IsSortedBy is_ahead lines
