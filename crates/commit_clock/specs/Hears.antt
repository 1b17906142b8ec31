-- Which words the loads of CLOCK among a call's steps found.
use Rattle.std.specs.Prelude.{◌≡◌, ℕ, ◌≤◌, List, ◌++◌, All, Option, Some, None}
use Rattle.mv_history.specs.declared.Step.{Step}
use Rattle.mv_history.specs.declared.StepKind.{StepKind}
use Rattle.mv_history.specs.declared.StepKind.TheVariants.{LoadTime, LoadCheck, LoadScan, LoadDeath}
use Rattle.mv_layout.specs.Words.{clock_time_of}
use Rattle.mv_core.specs.declared.view.Knowledge.{Knowledge}

-- A load of CLOCK whose time the pass takes for the present one. A load for a low time isn't: its time isn't above that which the load
-- of the section's time finds, without which no section begins or ends.
abbrev pub TellsTime : StepKind → Type 0
TellsTime LoadTime = Unit {0}
TellsTime LoadCheck = Unit {0}
TellsTime LoadScan = Unit {0}
TellsTime LoadDeath = Unit {0}
TellsTime _ = ⊥

-- a step that is such a load found this word; none is one, where there is no word
abbrev pub FindsJust : Option ℕ → Step → Type 0
FindsJust None s = TellsTime s.kind → ⊥
FindsJust (Some word) s = TellsTime s.kind → s.found ≡ Some word

-- each such load between the two views found this word, and there is none where there is no word
pub record HearsJust (v w : Knowledge) (word : Option ℕ) : Type 0 where
  pub made : List Step
  pub trail : w.trail ≡ v.trail ++ made
  pub just : All (λ s. FindsJust word s) made

-- a step that is such a load found a time not above this one
abbrev pub FindsUpTo : ℕ → Step → Type 0
FindsUpTo top s = TellsTime s.kind → (word : ℕ) → s.found ≡ Some word → clock_time_of word ≤ top

-- each such load between the two views found a time not above this one
pub record Hears (v w : Knowledge) (top : ℕ) : Type 0 where
  pub made : List Step
  pub trail : w.trail ≡ v.trail ++ made
  pub most : All (λ s. FindsUpTo top s) made
