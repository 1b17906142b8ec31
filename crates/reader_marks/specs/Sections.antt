-- What entering a section leaves of a view, and what leaving one needs.
use Rattle.std.specs.Prelude.{◌≡◌, ℕ, ◌+◌, ◌≤◌, List, ◌++◌, length, take, All, Contains, Some, None}
use Rattle.mv_history.specs.declared.Step.{Step}
use Rattle.mv_history.specs.declared.StepKind.{StepKind}
use Rattle.mv_history.specs.declared.StepKind.TheVariants.{LoadLow, StoreMark, LoadTime}
use Rattle.mv_layout.specs.declared.Config.{Config}
use Rattle.mv_layout.specs.Words.{clock_time_of, clock_slot_of}
use Rattle.commit_clock.specs.mv_core.declared.view.Knowledge.{Knowledge}
use Rattle.commit_clock.specs.mv_core.declared.view.Phase.{Phase}
use Rattle.commit_clock.specs.mv_core.declared.view.Phase.TheVariants.{Inside}
use Rattle.commit_clock.specs.mv_core.declared.view.OwnSection.{OwnSection}
use Rattle.commit_clock.specs.mv_core.declared.view.Mode.TheVariants.{Open}
use Rattle.commit_clock.specs.mv_core.declared.view.WalkStage.TheVariants.{Nowhere}
use Rattle.commit_clock.specs.mv_core.Rings.{HoldsNothing}
use Rattle.commit_clock.specs.mv_core.HistoryFacts.{BeginsWith}
use Rattle.commit_clock.specs.mv_core.SectionFacts.{IsPastHelp}
use Rattle.commit_clock.specs.Helps.{IsHelpStep}

-- a step of entering: one of its own, or one of the help
abbrev pub IsEnterStep : StepKind → Type 0
IsEnterStep LoadLow = Unit {0}
IsEnterStep StoreMark = Unit {0}
IsEnterStep LoadTime = Unit {0}
IsEnterStep kind = IsHelpStep kind

-- the steps of an `enter`: at most six, one of which loads this word of CLOCK for the section's time, and just three where that word names no commit
pub record EntersBy (before after : List Step) (word : ℕ) : Type 0 where
  pub steps : List Step
  pub trail : after ≡ before ++ steps
  pub few : length steps ≤ 6
  pub three : clock_slot_of word ≡ 8191 → length steps ≡ 3
  pub kinds : All (λ s. IsEnterStep s.kind) steps
  pub takes : Contains steps (record { kind = LoadTime; word = 0; found = Some word; stored = None })

-- A section begins: it is open and past its help, holds nothing, walks nowhere and writes nothing back. Its time is base and the length of its
-- snapshot, which begins with all that was seen before and is the first part of what is seen now. Nothing else changes.
pub record Begins (c : Config) (v w : Knowledge) (time : ℕ) : Type 0 where
  pub inside : OwnSection
  pub phase : w.phase ≡ Inside inside
  pub open_is : inside.mode ≡ Open
  pub past_help : IsPastHelp w.clocks inside
  pub nothing : HoldsNothing w.ring
  pub no_back : w.back ≡ None
  pub at : ℕ
  pub time_is : time ≡ c.base + at
  pub word_is : clock_time_of inside.word ≡ time
  pub within : at ≤ length w.past.seen
  pub snapshot : BeginsWith (take at w.past.seen) v.past.seen
  pub entered : EntersBy v.trail w.trail inside.word
  pub rest : w ≡ record v { past = record v.past { seen = w.past.seen }; phase = w.phase; clocks = w.clocks; walk = Nowhere; back = None; trail = w.trail }

-- the section of a phase; it tells nothing of a phase outside one
abbrev pub inside_of : Phase → OwnSection
inside_of (Inside inside) = inside
inside_of _ = record { low = 0; word = 0; mode = Open }

-- the section that a view is in
abbrev pub section_in : Knowledge → OwnSection
section_in v = inside_of v.phase

-- an open section that holds nothing
pub record IsOpen (v : Knowledge) : Type 0 where
  pub inside : OwnSection
  pub phase : v.phase ≡ Inside inside
  pub open_is : inside.mode ≡ Open
  pub nothing : HoldsNothing v.ring
