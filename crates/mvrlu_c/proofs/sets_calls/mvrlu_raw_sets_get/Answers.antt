use Rattle.set_model.specs.declared.commands.Command.TheVariants as command
use Rattle.c_answers.specs.declared.status.Status.TheVariants.{BadSet}
use Rattle.mvrlu_c.proofs.SetsTelling.{issued_back, refused_back}
use Rattle.mvrlu_c.proofs.sets_calls.mvrlu_raw_sets_get.Goals as goal

pub returns : goal.returns
returns c = record {
  bad = λ le. refused_back _ BadSet _ _ _ _ _ (c.get.ensures.bad le) c.attempt.ensures.refused;
  tells = λ lt. issued_back _ (command.Get c.args.set c.args.key) _ _ _ _ _ (c.get.ensures.issues lt) c.attempt.ensures.tells;
}
