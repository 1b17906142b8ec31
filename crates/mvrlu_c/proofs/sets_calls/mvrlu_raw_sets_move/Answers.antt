use Rattle.set_model.specs.declared.commands.Command.TheVariants as command
use Rattle.c_answers.specs.declared.status.Status.TheVariants.{BadSet, SameSet}
use Rattle.mvrlu_c.proofs.SetsTelling.{issued_back, refused_back}
use Rattle.mvrlu_c.proofs.sets_calls.mvrlu_raw_sets_move.Goals as goal

pub returns : goal.returns
returns c = record {
  bad = λ le. refused_back _ BadSet _ _ _ _ _ (c.move_key.ensures.bad le) c.attempt.ensures.refused;
  same = λ lt is. refused_back _ SameSet _ _ _ _ _ (c.move_key.ensures.same lt is) c.attempt.ensures.refused;
  tells = λ lt lu other.
      issued_back _ (command.Move c.args.source c.args.target c.args.key) _ _ _ _ _ (c.move_key.ensures.issues lt lu other) c.attempt.ensures.tells;
}
