-- What holds of each kind of step of entering a section holds of a step of it.
use Rattle.mv_history.specs.declared.StepKind.{StepKind}
use Rattle.mv_history.specs.declared.StepKind.TheVariants.{LoadLow, StoreMark, LoadTime, LoadNamed, LoadCheck, SwapStamp}
use Rattle.reader_marks.specs.Sections.{IsEnterStep}

pub enter_kind : (P : StepKind → Type 0) → P LoadLow → P StoreMark → P LoadTime → P LoadNamed → P LoadCheck → P SwapStamp
    → (k : StepKind) → IsEnterStep k → P k
enter_kind P low mark time named check swap LoadLow h = low
enter_kind P low mark time named check swap StoreMark h = mark
enter_kind P low mark time named check swap LoadTime h = time
enter_kind P low mark time named check swap LoadNamed h = named
enter_kind P low mark time named check swap LoadCheck h = check
enter_kind P low mark time named check swap SwapStamp h = swap
enter_kind P low mark time named check swap _ h = absurd h
