use Rattle.set_blocks.proofs.Planning.{plan_runs, plan_ran}
use Rattle.set_blocks.proofs.Stepping.{runs_fit}
use Rattle.set_blocks.proofs.laws.block_plans_are_fit.Goals as goal

pub returns : goal.returns
returns c = record {
  fit = λ from commands ws answers b plan l some few.
      runs_fit commands from ws answers b (plan_runs from commands ws answers b l plan) l some few;
  replies = λ from commands ws answers b plan l s d. (plan_ran from commands ws answers b plan l s d).answers_are;
  changes = λ from commands ws answers b plan l s d. (plan_ran from commands ws answers b plan l s d).changing_is;
  leaves = λ from commands ws answers b plan l s d. (plan_ran from commands ws answers b plan l s d).leaves;
}
