use Rattle.set_model.specs.declared.commands.Command.TheVariants as command
use Rattle.c_answers.specs.declared.status.Status.TheVariants.{BadSet}
use Rattle.mvrlu_c.proofs.SetsTelling.{issued_back, refused_back}
use Rattle.mvrlu_c.proofs.sets_calls.mvrlu_raw_sets_put.Goals as goal

pub returns : goal.returns
returns c = record {
  bad = λ le. refused_back _ BadSet _ _ _ _ _ (c.put.ensures.bad le) c.attempt.ensures.refused;
  tells = λ lt. issued_back _ (command.Put c.args.set c.args.key c.args.value) _ _ _ _ _ (c.put.ensures.issues lt) c.attempt.ensures.tells;
}
