-- Scans of the marks: which time a scan finds, and what it leaves of a view.
use Rattle.std.specs.Prelude.{◌≡◌, ◌≢◌, ℕ, zero, suc, ◌+◌, ◌<◌, ◌≤◌, ◌==◌, max, if◌then◌else◌, false, List, []}
use Rattle.std.specs.Prelude.{◌∷◌, ◌++◌, length, Option, Some, None}
use Rattle.mv_history.specs.declared.Entry.{Entry}
use Rattle.mv_history.specs.declared.Step.{Step}
use Rattle.mv_history.specs.declared.StepKind.TheVariants.{LoadScan, LoadMark, RaiseGrace}
use Rattle.mv_layout.specs.declared.Config.{Config}
use Rattle.mv_layout.specs.declared.SharedWord.TheVariants.{Clock, Grace, Mark}
use Rattle.mv_layout.specs.Places.{place_of}
use Rattle.mv_layout.specs.Words.{clock_time_of}
use Rattle.commit_clock.specs.mv_core.declared.view.Knowledge.{Knowledge}
use Rattle.commit_clock.specs.mv_core.EnterSteps.{IsWhole}
use Rattle.reader_marks.specs.declared.scanning.Watermark.{Watermark}

-- this is the lowest seat below n with this mark
abbrev pub IsFirstWith : (ℕ → ℕ) → ℕ → ℕ → ℕ → Type 0
IsFirstWith marks n mark seat = (seat < n) × (marks seat ≡ mark) × ((s : ℕ) → s < seat → marks s ≢ mark)

-- who fixed a low time: the clock, or the lowest seat with that mark, which is below the clock's time
abbrev pub IsFixedBy : ℕ → (ℕ → ℕ) → ℕ → ℕ → Option ℕ → Type 0
IsFixedBy clock marks n low None = low ≡ clock
IsFixedBy clock marks n low (Some seat) = (low < clock) × IsFirstWith marks n (1 + low) seat

-- the least of the clock's time and of the low times of the marks of the seats below n, and who fixed it; a mark is 0 or one above its low time
pub record IsLowest (clock : ℕ) (marks : ℕ → ℕ) (n low : ℕ) (seat : Option ℕ) : Type 0 where
  pub least : (s : ℕ) → s < n → marks s ≢ 0 → low < marks s
  pub fixed : IsFixedBy clock marks n low seat

-- the seat that a watermark names
abbrev pub named_by : Watermark → Option ℕ
named_by mark = if mark.marked then Some mark.seat else None

-- a load of a mark
abbrev pub mark_step : Config → ℕ → ℕ → Step
mark_step c seat mark = record { kind = LoadMark; word = place_of c (Mark seat); found = Some mark; stored = None }

-- the loads of the marks of the seats below n, in order, but of the own
abbrev pub mark_steps : Config → ℕ → (ℕ → ℕ) → ℕ → List Step
mark_steps c own marks zero = []
mark_steps c own marks (suc n) = mark_steps c own marks n ++ (if n == own then [] else mark_step c n (marks n) ∷ [])

-- the load of CLOCK that begins a scan
abbrev pub scan_step : Config → ℕ → Step
scan_step c word = record { kind = LoadScan; word = place_of c Clock; found = Some word; stored = None }

-- the fetch_max of GRACE that ends it
abbrev pub grace_step : Config → ℕ → ℕ → Step
grace_step c low found = record { kind = RaiseGrace; word = place_of c Grace; found = Some found; stored = Some (max found low) }

-- all steps of a scan
abbrev pub scan_steps : Config → ℕ → ℕ → (ℕ → ℕ) → ℕ → ℕ → List Step
scan_steps c own word marks low found = scan_step c word ∷ mark_steps c own marks c.seats ++ grace_step c low found ∷ []

-- the view that a scan leaves
abbrev pub scanned : Config → Knowledge → ℕ → List Entry → (ℕ → ℕ) → ℕ → ℕ → Knowledge
scanned c v word h marks low found = record v {
  past = record v.past { seen = h };
  scan = None;
  grace = max (max v.grace low) found;
  trail = v.trail ++ scan_steps c v.number word marks low found;
}

-- A scan found this watermark, and this time in CLOCK: it loaded CLOCK and the mark of each other seat, and raised GRACE by the
-- least time of them. The whole history at its first step is seen. The counter of steps grew by as many as were made.
pub record Scans (c : Config) (v w : Knowledge) (mark : Watermark) (clock before after : ℕ) : Type 0 where
  pub word : ℕ
  pub clock_is : clock ≡ clock_time_of word
  pub h : List Entry
  pub whole : IsWhole c v word h
  pub marks : ℕ → ℕ
  pub own : marks v.number ≡ 0
  pub lowest : IsLowest clock marks c.seats mark.low (named_by mark)
  pub unmarked : mark.marked ≡ false → mark.seat ≡ 0
  pub found : ℕ
  pub time : mark.time ≡ max mark.low found
  pub view : w ≡ scanned c v word h marks mark.low found
  pub count : after ≡ before + length (scan_steps c v.number word marks mark.low found)

-- the mark is known: its time is not above the watermark of the pass
abbrev pub IsKnown : Knowledge → Watermark → Type 0
IsKnown v mark = mark.time ≤ v.grace
