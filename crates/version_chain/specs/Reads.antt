-- Reading the words of a version or of a master: what is read, and what the calls leave.
use Rattle.std.specs.Prelude.{◌≡◌, ℕ, List, ◌++◌, length, All}
use Rattle.mv_history.specs.declared.Step.{Step}
use Rattle.mv_history.specs.declared.StepKind.{StepKind}
use Rattle.mv_layout.specs.declared.Config.{Config}
use Rattle.mv_core.specs.declared.view.Knowledge.{Knowledge}
use Rattle.mv_core.specs.WalkSteps.{words_read}
use Rattle.version_chain.specs.Walks.{section_in}

-- the words of the object in the state of the section's time
abbrev pub words_in : Config → Knowledge → ℕ → List ℕ
words_in c v object = words_read c v (section_in v) object

-- What a reader of so many words leaves of a view: the trail has one load of this kind for each of them, and nothing else changes.
pub record ReadsSome (kind : StepKind) (n : ℕ) (v w : Knowledge) : Type 0 where
  pub trail : (steps : List Step) × (w.trail ≡ v.trail ++ steps) × (length steps ≡ n) × All (λ s. s.kind ≡ kind) steps
  pub rest : w ≡ record v { trail = w.trail }

-- what a reader of all six leaves
abbrev pub Reads : StepKind → Knowledge → Knowledge → Type 0
Reads kind v w = ReadsSome kind 6 v w
