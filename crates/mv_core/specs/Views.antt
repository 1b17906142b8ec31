-- Views as plain data, and what the facts of the rule read of them.
use Rattle.std.specs.Prelude.{◌≡◌, ◌⊎◌, Contains, ℕ, ◌==◌, Bool, true, false, cond, List, [], ◌∷◌, ◌++◌, Option, Some, None}
use Rattle.mv_history.specs.State.{State}
use Rattle.mv_history.specs.declared.Step.{Step}
use Rattle.mv_history.specs.declared.StepKind.{StepKind}
use Rattle.mv_layout.specs.declared.Config.{Config}
use Rattle.mv_layout.specs.declared.SharedWord.{SharedWord}
use Rattle.mv_layout.specs.Places.{place_of}
use Rattle.mv_layout.specs.Words.{clock_time_of, clock_slot_of}
use Rattle.mv_core.specs.declared.ring.Ring.{Ring}
use Rattle.mv_core.specs.declared.view.Knowledge.{Knowledge}
use Rattle.mv_core.specs.declared.view.Past.{Past}
use Rattle.mv_core.specs.declared.view.JoinedSeat.{JoinedSeat}
use Rattle.mv_core.specs.declared.view.Phase.{Phase}
use Rattle.mv_core.specs.declared.view.Phase.TheVariants.{Outside, Lowered, Marked, Inside}
use Rattle.mv_core.specs.declared.view.OwnSection.{OwnSection}
use Rattle.mv_core.specs.declared.view.Mode.{Mode}
use Rattle.mv_core.specs.declared.view.Mode.TheVariants.{Open, Aborting, Named}
use Rattle.mv_core.specs.declared.view.LoadedClocks.{LoadedClocks}
use Rattle.mv_core.specs.declared.view.WalkStage.{WalkStage}
use Rattle.mv_core.specs.declared.view.WalkStage.TheVariants.{Nowhere}
use Rattle.mv_core.specs.declared.view.EmptyHead.{EmptyHead}
use Rattle.mv_core.specs.declared.view.WriteBack.{WriteBack}
use Rattle.mv_core.specs.declared.view.Scan.{Scan}
use Rattle.mv_core.specs.Rings.{empty_ring}

-- no clock word was loaded
abbrev pub no_clocks : LoadedClocks
no_clocks = record { loaded = []; helped = []; found = None }

-- the view of the seat of this number, which has made no step
abbrev pub new_view : Config → State → ℕ → ℕ → Knowledge
new_view c start number made = record {
  number = number;
  start = start;
  base = c.base;
  trail = [];
  past = record { seen = []; mine = []; rests = 0 };
  phase = Outside;
  clocks = no_clocks;
  walk = Nowhere;
  empty = [];
  ring = empty_ring c;
  back = None;
  scan = None;
  grace = c.base;
  made = made;
  notes = [];
  spent = false;
}

-- the view that a joined seat leaves behind
abbrev pub spent_view : Knowledge
spent_view = record {
  number = 0;
  start = [];
  base = 0;
  trail = [];
  past = record { seen = []; mine = []; rests = 0 };
  phase = Outside;
  clocks = no_clocks;
  walk = Nowhere;
  empty = [];
  ring = record { slots = []; next = 0 };
  back = None;
  scan = None;
  grace = 0;
  made = 0;
  notes = [];
  spent = true;
}

-- the seat of this number is that of the view, or was joined to it
abbrev pub HasSeat : Knowledge → ℕ → Type 0
HasSeat v s = (v.number ≡ s) ⊎ ((n : JoinedSeat) × Contains v.notes n × (n.number ≡ s))

-- the section that a seat is in
abbrev pub section_of : Phase → Option OwnSection
section_of Outside = None
section_of (Lowered low) = None
section_of (Marked low) = None
section_of (Inside s) = Some s

-- the time of a section
abbrev pub time_in : OwnSection → ℕ
time_in s = clock_time_of s.word

-- the time of the section that a seat is in
abbrev pub time_of : Phase → Option ℕ
time_of Outside = None
time_of (Lowered low) = None
time_of (Marked low) = None
time_of (Inside s) = Some (time_in s)

-- the low time of a phase
abbrev pub low_of : Phase → ℕ
low_of Outside = 0
low_of (Lowered low) = low
low_of (Marked low) = low
low_of (Inside s) = s.low

-- a section that isn't past the naming of its commit
abbrev pub IsUnnamed : Mode → Type 0
IsUnnamed Open = Unit {0}
IsUnnamed Aborting = Unit {0}
IsUnnamed (Named n) = ⊥

-- whether a clock word names no commit
abbrev pub names_none : ℕ → Bool
names_none word = clock_slot_of word == 8191

-- the trail with one more step
abbrev pub with_step : Config → Knowledge → StepKind → SharedWord → Option ℕ → Option ℕ → List Step
with_step c v kind place found stored =
    v.trail ++ record { kind = kind; word = place_of c place; found = found; stored = stored } ∷ []

-- What the facts read of all views, each part by the number of its seat.
pub record ViewParts : Type 0 where
  pub past : ℕ → Past
  pub phase : ℕ → Phase
  pub section : ℕ → Option OwnSection
  pub time : ℕ → Option ℕ
  pub clocks : ℕ → LoadedClocks
  pub walk : ℕ → WalkStage
  pub empty : ℕ → List EmptyHead
  pub ring : ℕ → Ring
  pub back : ℕ → Option WriteBack
  pub scan : ℕ → Option Scan
  pub grace : ℕ → ℕ

-- the parts of these views
abbrev pub parts_of : (ℕ → Knowledge) → ViewParts
parts_of seats = record {
  past = λ s. (seats s).past;
  phase = λ s. (seats s).phase;
  section = λ s. section_of (seats s).phase;
  time = λ s. time_of (seats s).phase;
  clocks = λ s. (seats s).clocks;
  walk = λ s. (seats s).walk;
  empty = λ s. (seats s).empty;
  ring = λ s. (seats s).ring;
  back = λ s. (seats s).back;
  scan = λ s. (seats s).scan;
  grace = λ s. (seats s).grace;
}

-- what the seat s has becomes x, and all others stay
abbrev pub set_at : {A : Type 0} → (ℕ → A) → ℕ → A → ℕ → A
set_at f s x t = cond (t == s) x (f t)
