-- What a help of a clock word needs of a view, and what it leaves.
use Rattle.std.specs.Prelude.{◌≡◌, ◌≢◌, ◌⊎◌, ℕ, ◌+◌, ◌<◌, ◌≤◌, ◌^◌, true, false, List, ◌++◌, length}
use Rattle.std.specs.Prelude.{Contains, All, Option, Some, None}
use Rattle.mv_history.specs.declared.Entry.{Entry}
use Rattle.mv_history.specs.declared.Step.{Step}
use Rattle.mv_history.specs.declared.StepKind.{StepKind}
use Rattle.mv_history.specs.declared.StepKind.TheVariants.{LoadNamed, LoadCheck, SwapStamp}
use Rattle.mv_layout.specs.declared.Config.{Config}
use Rattle.mv_layout.specs.Words.{clock_of, clock_slot_of}
use Rattle.mv_core.specs.declared.view.Knowledge.{Knowledge}
use Rattle.mv_core.specs.declared.view.Phase.TheVariants.{Inside}
use Rattle.mv_core.specs.declared.view.OwnSection.{OwnSection}
use Rattle.mv_core.specs.declared.view.Mode.TheVariants.{Named}
use Rattle.mv_core.specs.declared.view.Naming.{Naming}
use Rattle.mv_core.specs.Rings.{index_of}
use Rattle.mv_core.specs.HistoryFacts.{BeginsWith}
use Rattle.mv_core.specs.EnterSteps.{IsWhole, named_loaded, stamp_swapped}
use Rattle.commit_clock.specs.declared.helping.StartedHelp.{StartedHelp}
use Rattle.commit_clock.specs.declared.helping.CheckedHelp.{CheckedHelp}

-- the pass has loaded the word
abbrev pub HasLoaded : Knowledge → ℕ → Type 0
HasLoaded v word = Contains v.clocks.loaded word

-- a step of a help
abbrev pub IsHelpStep : StepKind → Type 0
IsHelpStep LoadNamed = Unit {0}
IsHelpStep LoadCheck = Unit {0}
IsHelpStep SwapStamp = Unit {0}
IsHelpStep _ = ⊥

-- the word is of the commit that the own section has named, and the own exchange of its stamp counts as made afterwards
pub record StampsOwn (c : Config) (v w : Knowledge) (word : ℕ) : Type 0 where
  pub inside : OwnSection
  pub naming : Naming
  pub phase : v.phase ≡ Inside inside
  pub mode : inside.mode ≡ Named naming
  pub word_is : word ≡ clock_of naming.time v.number (index_of c naming.first)
  pub after : w.phase ≡ Inside (record inside { mode = Named (record naming { stamped = true }) })

-- A help of a word leaves of a view: the word is helped, no loaded or helped word is forgotten, the phase stays but in a section
-- that has named this very commit, the trail has at most three steps more, more may have been seen, and nothing else changes.
pub record Helps (c : Config) (v w : Knowledge) (word : ℕ) : Type 0 where
  pub helped : Contains w.clocks.helped word
  pub still_helped : (x : ℕ) → Contains v.clocks.helped x → Contains w.clocks.helped x
  pub still_loaded : (x : ℕ) → Contains v.clocks.loaded x → Contains w.clocks.loaded x
  pub phase : (w.phase ≡ v.phase) ⊎ StampsOwn c v w word
  pub past : (h : List Entry) × BeginsWith h v.past.seen × (w.past ≡ record v.past { seen = h })
  pub trail : (steps : List Step) × (w.trail ≡ v.trail ++ steps) × (length steps ≤ 3) × All (λ s. IsHelpStep s.kind) steps
  pub rest : w ≡ record v { past = w.past; phase = w.phase; clocks = w.clocks; trail = w.trail }

-- the whole history is seen of the step that found this word in CLOCK, and what was seen stays where none did
abbrev pub FindsClock : Config → Knowledge → Knowledge → Option ℕ → Type 0
FindsClock c v w None = w.past ≡ v.past
FindsClock c v w (Some word) = (h : List Entry) × IsWhole c v word h × (w.past ≡ record v.past { seen = h })

-- the stamp was found unset for the word, which names a commit, and CLOCK wasn't loaded since
abbrev pub IsStarted : Knowledge → StartedHelp → Type 0
IsStarted v help = v.clocks.found ≡ Some (record { word = help.word; unset = help.unset; checked = false })

-- the stamp was loaded, and was unset
pub record StartsHelp (c : Config) (v w : Knowledge) (word : ℕ) (help : StartedHelp) : Type 0 where
  pub names : clock_slot_of word ≢ 8191
  pub word_is : help.word ≡ word
  pub unset : 2 ^ 63 ≤ help.unset
  pub view : w ≡ named_loaded c v word help.unset
  pub started : IsStarted w help

-- the stamp was loaded, and wasn't unset
pub record FindsStamped (c : Config) (v w : Knowledge) (word : ℕ) : Type 0 where
  pub names : clock_slot_of word ≢ 8191
  pub found : ℕ
  pub set : found < 2 ^ 63
  pub view : w ≡ named_loaded c v word found

-- A help has begun, by one step; or it is done, by no step where the word names no commit, and by one where the stamp wasn't unset.
abbrev pub HelpStarts : Config → Knowledge → Knowledge → ℕ → ℕ → ℕ → Option StartedHelp → Type 0
HelpStarts c v w word before after None =
    ((clock_slot_of word ≡ 8191) × (w ≡ v) × (after ≡ before)) ⊎ (FindsStamped c v w word × (after ≡ before + 1))
HelpStarts c v w word before after (Some help) = StartsHelp c v w word help × (after ≡ before + 1)

-- CLOCK was loaded since the stamp was found: the stamp is checked where CLOCK had the word, and else the word is helped
pub record IsChecked (v : Knowledge) (help : CheckedHelp) : Type 0 where
  pub due : help.clock ≡ help.word → v.clocks.found ≡ Some (record { word = help.word; unset = help.unset; checked = true })
  pub gone : help.clock ≢ help.word → Contains v.clocks.helped help.word

-- the stamp was exchanged where CLOCK had the word, by one step, and nothing was done where it hadn't; the word is helped
pub record EndsHelp (c : Config) (v w : Knowledge) (help : CheckedHelp) (before after : ℕ) : Type 0 where
  pub stamps : help.clock ≡ help.word → (found : ℕ) × (w ≡ stamp_swapped c v help.word help.unset found) × (after ≡ before + 1)
  pub none : help.clock ≢ help.word → (w ≡ v) × (after ≡ before)
  pub helped : Contains w.clocks.helped help.word
