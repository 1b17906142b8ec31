use Rattle.std.proofs.Common.{◌∙◌, map}
use Rattle.grow_report.specs.Text.{text_of_grown}
use Rattle.script_workers.specs.Workers.{items_of}
use Rattle.grow_run.proofs.growing.make_grown.Goals as goal

pub returns-clause-made : goal.returns-clause-made
returns-clause-made g c =
    let told = c.in_ok-closing.field-0 in
    record {
      read = map items_of c.in_ok-scripts.scripts.items;
      files = c.in_ok-scripts.ensures.stop;
      printed = record {
        lines = told.lines.items;
        end = told.end;
        left = rw c.deref.ensures.value at c.in_ok-closing.ensures.ran;
        ordered = c.in_ok-closing.ensures.ordered;
        is = c.in_ok-text.ensures ∙ (λ i. text_of_grown (c.deref-2.ensures.value i) told.end.set told.end.splits (c.tables.ensures i));
      };
    }
