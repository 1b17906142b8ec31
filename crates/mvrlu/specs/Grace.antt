-- A time that no section of a domain is below, now or ever, and the scan that found it.
use Rattle.std.specs.Prelude.{◌≡◌, ℕ, ◌+◌, ◌≤◌, List, length}
use Rattle.mv_history.specs.State.{State, Writes}
use Rattle.mv_history.specs.Calls.{Prepares}
use Rattle.mv_layout.specs.declared.Config.{Config}
use Rattle.object_lock.specs.mv_core.declared.view.Knowledge.{Knowledge}
use Rattle.object_lock.specs.mv_core.Times.{NotAboveAny}
use Rattle.object_lock.specs.mv_core.Views.{parts_of}
use Rattle.object_lock.specs.mv_core.Moves.{Moment, Moves}
use Rattle.object_lock.specs.mv_core.MoveLaws.{Holds}
use Rattle.object_lock.specs.reader_marks.declared.scanning.Watermark.{Watermark}
use Rattle.object_lock.specs.reader_marks.Scans.{Scans}
use Rattle.mvrlu.specs.Placed.{Placed, seat_from}
use Rattle.mvrlu.specs.Holding.{steps_between}

-- the second state of a domain is the first, or came after it by moves of any seats
pub data IsSince (allows : List ℕ → State → Writes → Type 0) (c : Config) (s : Moment) : Moment → Type 0 where
  now : IsSince allows c s s
  later : (t u : Moment) → IsSince allows c s t → Moves allows c t u → IsSince allows c s u

-- no section has a time below this one, whichever seat it is of
abbrev pub NoSectionBelow : ℕ → Moment → Type 0
NoSectionBelow time s = NotAboveAny time (parts_of s.seats).time

-- It is so from now on: in each state of the rule in which the seat has this view, and in each that comes after.
abbrev pub NeverBelow : (State → Type 0) → (List ℕ → State → Writes → Type 0) → Config → Knowledge → ℕ → Type 0
NeverBelow starts allows c v time =
    (start : State) (s t : Moment) → Holds starts allows c start s → s.seats v.number ≡ v → IsSince allows c s t → NoSectionBelow time t

-- A call came from the first pass and log of a seat to the second, and told this time: it made one scan and nothing else, whose watermark
-- has the time, and no section is below it from then on. The log is as it was.
pub record TellsGrace (starts : State → Type 0) (allows : List ℕ → State → Writes → Type 0) (p q : Placed) (time : ℕ) : Type 0 where
  pub prepares : Prepares (seat_from p) (seat_from q)
  pub log : q.log ≡ p.log
  pub mark : Watermark
  pub clock : ℕ
  pub scans : Scans q.config p.view q.view mark clock 0 (length (steps_between p q))
  pub time_is : time ≡ mark.time
  pub never_below : NeverBelow starts allows q.config q.view time
  pub steps : length (steps_between p q) ≤ q.config.seats + 3
