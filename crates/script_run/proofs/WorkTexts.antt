-- The text of a run of generated scripts, by the lines and maps of that run.
use Rattle.std.proofs.Common.{◌≡◌, ℕ, ◌-◌, List, length, arith, ap, ◌∙◌, subst}
use Rattle.std.specs.List.Sorted.{IsPermutation}
use Rattle.std.proofs.lemmas.List.{length-replicate}
use Rattle.set_model.specs.Catalogue.{Maps}
use Rattle.set_model.specs.Objects.{no_words}
use Rattle.set_model.specs.Rules.{IsSetCommit, capacity}
use Rattle.set_model.specs.declared.commands.Command.{Command}
use Rattle.set_model.specs.declared.rules.SetRules.{SetRules}
use Rattle.run_report.specs.declared.line.Line.{Line}
use Rattle.run_report.specs.Order.{IsOrdered}
use Rattle.run_report.specs.Summary.{summary}
use Rattle.run_report.specs.Whole.{RunOf}
use Rattle.run_report.proofs.history.OneRun.{run_permuted}
use Rattle.generated_runs.specs.OneAfterAnother.{one_after_another, scripts_of, text_of_tally}
use Rattle.generated_runs.proofs.told.Whole.{scripts_generated, summary_as}
use Rattle.run_kinds.specs.mvrlu.Meant.{whole_of}
use Rattle.run_kinds.specs.mvrlu.declared.closing.Closing.{Closing}
use Rattle.run_kinds.specs.Kinds.{IsLeft, config_of}
use Rattle.run_kinds.proofs.InOrder.{left_permuted}
use Rattle.script_run.specs.ScriptRuns.{IsTextOfWork, chain_of, runs, work_options}

-- a run of the four scripts of a number is summed up by the summary of its lines in their order, and where no reply is worn so are the scripts one
-- after another
pub text_of_work : (number : ℕ) (scripts : List (List Command)) (closing : Closing SetRules) (text : List ℕ) (lines others : List Line) (end : Maps)
    → scripts ≡ scripts_of number → IsLeft (runs work_options scripts) lines end closing → IsPermutation lines others → IsOrdered others
    → text ≡ summary number others end → IsTextOfWork number closing text
text_of_work number scripts closing text lines others end four run same ordered is =
    let all = scripts_of number in
    let left = left_permuted IsSetCommit (chain_of all) (config_of work_options 16 (length all)) (λ past. RunOf past all) (λ past. run_permuted past all)
    closing lines others end same (subst (λ (s : List (List Command)). IsLeft (runs work_options s) lines end closing) four run) in
    let room = ap capacity left.start ∙ ap (λ (n : ℕ). n - 180) (length-replicate 16384 no_words) in
    record {
      printed = record { lines = others; end = end; left = left; ordered = ordered; is = is };
      replayed = λ none.
          is
          ∙ summary_as all others (whole_of closing).base (capacity (whole_of closing).start) end (scripts_generated number)
          (omega (arith, room)) left.run.run.run none number
          ∙ ap (λ (n : ℕ). text_of_tally number (one_after_another n all)) room;
    }
