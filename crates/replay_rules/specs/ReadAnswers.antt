-- What a read answers.
use Rattle.std.specs.Prelude.{◌≡◌, ℕ, List, ◌++◌, All}
use Rattle.mv_history.specs.declared.Step.{Step}
use Rattle.mv_history.specs.declared.StepKind.{StepKind}
use Rattle.mv_history.specs.declared.StepKind.TheVariants.{LoadHead, LoadFirst, LoadStamp, LoadPrev, LoadData, LoadMaster}
use Rattle.mv_layout.specs.declared.config.Config.{Config}
use Rattle.mv_core.specs.declared.view.Knowledge.{Knowledge}
use Rattle.mv_core.specs.HistoryFacts.{BeginsWith}
use Rattle.mv_core.specs.WalkSteps.{words_read}
use Rattle.reader_marks.specs.Sections.{section_in}

-- a step of a read: one of a walk, or a load of a word
abbrev pub IsReadStep : StepKind → Type 0
IsReadStep LoadHead = Unit {0}
IsReadStep LoadFirst = Unit {0}
IsReadStep LoadStamp = Unit {0}
IsReadStep LoadPrev = Unit {0}
IsReadStep LoadData = Unit {0}
IsReadStep LoadMaster = Unit {0}
IsReadStep _ = ⊥

-- A read answers the words of the object in the section's state. What was seen is only longer, and nothing else changes but where the walk
-- stands, which HEADs were found empty, and the trail, which has steps of a read more.
pub record ReadsSo (c : Config) (v w : Knowledge) (object : ℕ) (words : List ℕ) : Type 0 where
  pub words_are : words ≡ words_read c w (section_in w) object
  pub seen : BeginsWith w.past.seen v.past.seen
  pub trail : (steps : List Step) × (w.trail ≡ v.trail ++ steps) × All (λ s. IsReadStep s.kind) steps
  pub rest : w ≡ record v { past = record v.past { seen = w.past.seen }; walk = w.walk; empty = w.empty; trail = w.trail }
