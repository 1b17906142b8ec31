-- How a scan goes from mark to mark.
use Rattle.std.specs.Prelude.{◌≡◌, ℕ, zero, suc, ◌+◌, nat_lt, if◌then◌else◌, List, ◌∷◌, ◌++◌, length, Some}
use Rattle.mv_history.specs.declared.Entry.{Entry}
use Rattle.mv_layout.specs.declared.Config.{Config}
use Rattle.mv_layout.specs.Words.{clock_time_of}
use Rattle.commit_clock.specs.mv_core.declared.view.Knowledge.{Knowledge}
use Rattle.commit_clock.specs.mv_core.EnterSteps.{IsWhole}
use Rattle.commit_clock.specs.mv_core.ReclaimSteps.{other_from, scan_on, grace_on}
use Rattle.reader_marks.specs.declared.scanning.Lowest.{Lowest}
use Rattle.reader_marks.specs.Scans.{IsLowest, scan_step, mark_steps}

-- the least time with one mark more
abbrev pub lowered : Lowest → ℕ → ℕ → Lowest
lowered l seat zero = l
lowered l seat (suc low) = if nat_lt low l.low then record { low = low; seat = Some seat } else l

-- the view of a scan that has come to the seat n
abbrev pub looking : Config → Knowledge → ℕ → List Entry → (ℕ → ℕ) → ℕ → ℕ → Knowledge
looking c v word h marks n low = record v {
  past = record v.past { seen = h };
  scan = scan_on c (clock_time_of word) low (other_from v.number n);
  grace = grace_on c v.grace low (other_from v.number n);
  trail = v.trail ++ scan_step c word ∷ mark_steps c v.number marks n;
}

-- a scan has come to the seat n
pub record Looks (c : Config) (v w : Knowledge) (clock n : ℕ) (l : Lowest) (before after : ℕ) : Type 0 where
  pub word : ℕ
  pub clock_is : clock ≡ clock_time_of word
  pub h : List Entry
  pub whole : IsWhole c v word h
  pub marks : ℕ → ℕ
  pub own : marks v.number ≡ 0
  pub lowest : IsLowest clock marks n l.low l.seat
  pub view : w ≡ looking c v word h marks n l.low
  pub count : after ≡ before + length (scan_step c word ∷ mark_steps c v.number marks n)
