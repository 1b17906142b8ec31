use Rattle.std.proofs.Common.{List, map, ap, ◌∙◌}
use Rattle.run_report.specs.declared.line.Line.{Line}
use Rattle.run_report.specs.Summary.{summary}
use Rattle.script_workers.specs.Workers.{items_of}
use Rattle.script_run.proofs.WorkTexts.{text_of_work}
use Rattle.script_run.proofs.texts.work_text.Goals as goal

pub returns : goal.returns
returns g c =
    let told = c.in_ok-closing.field-0 in
    text_of_work c.args.number _ _ _ told.lines.items _ _ (ap (map items_of) c.deref.ensures.value ∙ c.in_ok-scripts.ensures.four) c.in_ok-closing.ensures
    c.order.ensures.permutation c.order.ensures.ordered
    (c.in_ok-text.ensures ∙ ap (λ (lines : List Line). summary c.args.number lines told.end) c.deref-2.ensures.value)
