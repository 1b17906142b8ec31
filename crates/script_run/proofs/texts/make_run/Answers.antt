use Rattle.std.proofs.Common.{length, map}
use Rattle.run_kinds.specs.Kinds.{config_of}
use Rattle.run_kinds.proofs.InOrder.{text_in_order}
use Rattle.run_report.specs.Whole.{RunOf}
use Rattle.run_report.proofs.history.OneRun.{run_permuted}
use Rattle.script_workers.specs.Workers.{items_of}
use Rattle.set_model.specs.Rules.{IsSetCommit}
use Rattle.script_run.specs.ScriptRuns.{chain_of}
use Rattle.script_run.proofs.texts.make_run.Goals as goal

pub returns-clause-made : goal.returns-clause-made
returns-clause-made g c =
    let scripts = map items_of c.in_ok-scripts.scripts.items in
    let told = c.in_ok-told.told in
    let left = rw c.deref.ensures.value at c.in_ok-told.ensures in
    record {
      read = scripts;
      files = c.in_ok-scripts.ensures.stop;
      printed = rw c.in_ok-tell.ensures.left (text_in_order IsSetCommit (chain_of scripts) (config_of c.args.options 16 (length scripts))
          (λ past. RunOf past scripts) (λ past. run_permuted past scripts) told.closing told.lines.items told.end _ left c.in_ok-tell.ensures.text);
    }
