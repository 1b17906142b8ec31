use Rattle.std.proofs.Common.{ap, ◌∙◌, w32, to_z, of_z}
use Rattle.crossbeam_utils.specs.Padded.{padded_value}
use Rattle.set_model.specs.Lawful.{IsOpening}
use Rattle.set_blocks.specs.BlockRules.{IsBlockCommit}
use Rattle.shared_domain.specs.Met.{gathering_of}
use Rattle.c_answers.specs.Closings.{status_of_close, last_told}
use Rattle.c_answers.specs.Statuses.{code_of}
use Rattle.c_answers.proofs.Numbers.{reads_back}
use Rattle.mvrlu_c.proofs.Closes.{tells_close}
use Rattle.mvrlu_c.proofs.closing.mvrlu_raw_sets_close.Goals as goal

pub returns : goal.returns
returns c =
    let made = c.close_by-answer in
    let told = c.tell_closed.ensures in
    let is = ap (λ z. to_z w32 (of_z w32 z)) (c.code.ensures ∙ ap code_of told.status) ∙ reads_back (status_of_close made.result) in
    record {
      closed = λ shut. let none = made.ensures.closed shut in
          (is ∙ ap (λ a. code_of (status_of_close a)) none.0, none.1, told.last ∙ ap (last_told c.args.last.now) none.0);
      «open» = λ opened. let met = made.ensures.open opened in
          (met.0, tells_close IsOpening IsBlockCommit (gathering_of (padded_value c.args.handle.now.state).share) made.result _ _ _ met.1 is told.last);
    }
