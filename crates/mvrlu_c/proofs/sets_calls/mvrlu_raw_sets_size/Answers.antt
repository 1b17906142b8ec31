use Rattle.set_model.specs.declared.commands.Command.TheVariants as command
use Rattle.c_answers.specs.declared.status.Status.TheVariants.{BadSet}
use Rattle.mvrlu_c.proofs.SetsTelling.{issued_back, refused_back}
use Rattle.mvrlu_c.proofs.sets_calls.mvrlu_raw_sets_size.Goals as goal

pub returns : goal.returns
returns c = record {
  bad = λ le. refused_back _ BadSet _ _ _ _ _ (c.size.ensures.bad le) c.attempt.ensures.refused;
  tells = λ lt. issued_back _ (command.Size c.args.set) _ _ _ _ _ (c.size.ensures.issues lt) c.attempt.ensures.tells;
}
