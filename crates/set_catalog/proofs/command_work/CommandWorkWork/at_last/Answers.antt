use Rattle.std.proofs.Common.{sym, ◌∙◌}
use Rattle.set_catalog.proofs.Deciding.{worn_at_last, unchanging_at_last}
use Rattle.set_catalog.proofs.command_work.CommandWorkWork.at_last.Goals as goal

pub returns : goal.returns
returns c = λ s tag ws changes p. record {
  answers = c.of.ensures.reply ∙ sym (worn_at_last c.args.self.now.command s changes);
  unchanging = unchanging_at_last c.args.self.now.command s;
}
