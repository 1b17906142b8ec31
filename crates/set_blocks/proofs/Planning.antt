-- What a block plans in a state, command by command, is what it does in every state that others may lead to.
use Rattle.set_blocks.proofs.Terms.{Bool, List, State, Writes, written, Drifts, Command, Reply, IsLawful, IsInRange, StepPlan, BlockPlan, changing, keeping}
use Rattle.set_blocks.proofs.Terms.{nothing_yet, one_more, IsBlockCommit}
use Rattle.set_blocks.proofs.Remaining.{remains_itself, remains_drifts}
use Rattle.set_blocks.proofs.Stepping.{StepAt, RunsAt, Ran, runs_none, runs_more}
use Rattle.set_blocks.proofs.Changing.{change_step}
use Rattle.set_blocks.proofs.HeldReplies.{hold_step}

-- one command
step_runs : (command : Command) (z : State) (ws : Writes) (answer : Reply) (c : Bool) → IsLawful z → IsInRange command → StepPlan command z ws answer c
    → StepAt command z ws answer c
step_runs command z ws answer c lz range (changing vs does plan) = change_step command z vs lz range does plan
step_runs command z ws answer c lz range (keeping os said plan) = hold_step z lz command os said range plan

-- all of them, by induction
pub plan_runs : (from : State) (commands : List Command) (ws : Writes) (answers : List Reply) (b : Bool) → IsLawful from
    → BlockPlan from commands ws answers b → RunsAt commands from ws answers b
plan_runs from commands ws answers b l nothing_yet = runs_none from
plan_runs from commands ws answers b l (one_more before own said c command more answer d plan range step) =
    let run = plan_runs from before own said c l plan in
    let at = (run.runs own from (λ o t. t) (remains_itself own from l)).remains.lawful in
    runs_more before from own said c command more answer d run (step_runs command (written from own) more answer d at range step)

-- What it does in a state to which others lead.
pub plan_ran : (from : State) (commands : List Command) (ws : Writes) (answers : List Reply) (b : Bool) → BlockPlan from commands ws answers b
    → IsLawful from → (s : State) → Drifts IsBlockCommit ws from s → Ran commands answers b ws from s ws
plan_ran from commands ws answers b plan l s d =
    (plan_runs from commands ws answers b l plan).runs ws s (λ o t. t) (remains_drifts ws from s l d)
