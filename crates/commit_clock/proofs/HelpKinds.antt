-- What holds of each kind of step of a help holds of a step of one.
use Rattle.mv_history.specs.declared.StepKind.{StepKind}
use Rattle.mv_history.specs.declared.StepKind.TheVariants.{LoadNamed, LoadCheck, SwapStamp}
use Rattle.commit_clock.specs.Helps.{IsHelpStep}

pub help_kind : (P : StepKind → Type 0) → P LoadNamed → P LoadCheck → P SwapStamp → (k : StepKind) → IsHelpStep k → P k
help_kind P a b d LoadNamed h = a
help_kind P a b d LoadCheck h = b
help_kind P a b d SwapStamp h = d
help_kind P a b d _ h = absurd h
