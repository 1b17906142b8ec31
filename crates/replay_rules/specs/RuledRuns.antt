-- The runs of plans: each of their steps is one of the core's, they are made in the order of the schedule, and each call that ends answers as the
-- contract of the same call of the runtime says.
use Rattle.std.specs.Prelude.{◌≡◌, ◌<◌, ℕ, List, [], ◌∷◌, ◌++◌, All, Option, Some, None}
use Rattle.mv_layout.specs.declared.config.Config.{Config}
use Rattle.mv_core.specs.declared.view.Knowledge.{Knowledge}
use Rattle.replay_rules.specs.declared.plan.Call.{Call}
use Rattle.replay_rules.specs.declared.seats.CallAnswer.{CallAnswer}
use Rattle.replay_rules.specs.declared.seats.NextStep.{NextStep}
use Rattle.replay_rules.specs.Plans.{PlanOf}
use Rattle.replay_rules.specs.FitPlans.{IsFitPlan}
use Rattle.replay_rules.specs.States.{Made, state_of}
use Rattle.replay_rules.specs.Tasks.{place_in_task}
use Rattle.replay_rules.specs.Lines.{idle_line, skip_line, answer_line}
use Rattle.replay_rules.specs.Runs.{TapeOf, Replay, with_line, tape_stepped, replay_begun, turn_taken}
use Rattle.replay_rules.specs.Behind.{IsRuledTape}
use Rattle.replay_rules.specs.NextSteps.{IsStepOf}
use Rattle.replay_rules.specs.InPlans.{Running, Calls, calls_before, with_call}
use Rattle.replay_rules.specs.Skips.{MayNotBegin}
use Rattle.replay_rules.specs.Kinds.{IsKindOf}
use Rattle.replay_rules.specs.CallTasks.{IsTaskOf}
use Rattle.replay_rules.specs.Answers.{AnswersSo}

-- what a seat knows behind these steps
abbrev pub view_behind : Config → List Made → ℕ → Knowledge
view_behind c made seat = (state_of c made).seats seat

-- calls that a seat looks at and that need no step, and their lines: each may not begin, or is answered by what the seat knows
pub data AreStepless (c : Config) (seat : ℕ) (v : Knowledge) : List Call → List ℕ → Type 0 where
  no_call : AreStepless c seat v [] []
  skips : (call : Call) (calls : List Call) (lines : List ℕ) → MayNotBegin c v call → AreStepless c seat v calls lines
      → AreStepless c seat v (call ∷ calls) (skip_line seat call ++ lines)
  answers : (call : Call) (answer : CallAnswer) (calls : List Call) (lines : List ℕ) → AnswersSo c call v v answer → AreStepless c seat v calls lines
      → AreStepless c seat v (call ∷ calls) (answer_line seat call answer ++ lines)

-- The call whose step is made, the calls behind it, and the lines before the step: it is the one that the seat is in; or it is of the calls that were
-- left, behind those that need no step, and begins here.
abbrev pub IsCallOf : Config → ℕ → List Made → Option Running → List Call → Running → List Call → List ℕ → Type 0
IsCallOf c seat made None calls call left lines =
    (call.before ≡ made) × (looked : List Call) × (calls ≡ looked ++ call.call ∷ left) × AreStepless c seat (view_behind c made seat) looked lines
IsCallOf c seat made (Some running) calls call left lines = (call ≡ running) × (left ≡ calls) × (lines ≡ [])

-- behind its step the call goes on; or it has ended, and its answer stands in the text
pub data GoesOrEnds (c : Config) (seat : ℕ) (call : Running) (w : Knowledge) (now : Option Running) (lines : List ℕ) : Type 0 where
  goes_on : now ≡ Some call → lines ≡ [] → GoesOrEnds c seat call w now lines
  has_ended : (answer : CallAnswer) → now ≡ None → lines ≡ answer_line seat call.call answer
      → AnswersSo c call.call (view_behind c call.before seat) w answer → GoesOrEnds c seat call w now lines

-- A turn of this seat leads from the steps made before it to those behind it. Either they are the same ones: the seat was in no call, none of those
-- left needs a step, and it is idle. Or they are one more, a step of the core by this seat, of the kind that a step of its call is: the turn makes
-- just this step, with lines of calls that need none before its own, and behind it the answer, where the call has ended.
pub data IsTurnOf (c : Config) (seat : ℕ) (made next : List Made) (calls after : Calls) (old new : TapeOf) : Type 0 where
  prints_only : (lines : List ℕ) → (calls seat).now ≡ None → AreStepless c seat (view_behind c made seat) (calls seat).left lines
      → new ≡ with_line old (lines ++ idle_line seat) → next ≡ made → after ≡ with_call calls seat (record { now = None; left = [] })
      → IsTurnOf c seat made next calls after old new
  makes_one : (step : Made) (task : NextStep) (call : Running) (left : List Call) (now : Option Running) (before behind : List ℕ)
      → IsCallOf c seat made (calls seat).now (calls seat).left call left before
      → IsTaskOf call.call task → IsStepOf c made step seat task → IsKindOf task step.kind → next ≡ step ∷ made
      → GoesOrEnds c seat call (view_behind c next seat) now behind → after ≡ with_call calls seat (record { now = now; left = left })
      → new ≡ with_line (tape_stepped c seat task (place_in_task c seat task) (with_line old before)) behind
      → IsTurnOf c seat made next calls after old new

-- The turns of a schedule, one after another, from a replay behind these steps: its tape is at a state of the rule, the first turn leads on to
-- the steps behind it, and the turns that are left go on from those.
abbrev pub AreTurns : Config → Replay → List Made → Calls → List ℕ → Type 0
AreTurns c r made calls [] = IsRuledTape c r.tape made
AreTurns c r made calls (seat ∷ turns) =
    IsRuledTape c r.tape made
    × ((next : List Made) × (after : Calls) × IsTurnOf c seat made next calls after r.tape (turn_taken c r seat).tape
    × AreTurns c (turn_taken c r seat) next after turns)

-- so are the turns of a plan from its start, where no step was made, whatever the schedule is
abbrev pub RunsAreRuled : Type 0
RunsAreRuled =
    (p : PlanOf) → IsFitPlan p → (turns : List ℕ) → All (λ seat. seat < p.config.seats) turns
    → AreTurns p.config (replay_begun p) [] (calls_before p) turns

-- and so are those of the plan's own schedule
abbrev pub IsRuledPlan : PlanOf → Type 0
IsRuledPlan p = AreTurns p.config (replay_begun p) [] (calls_before p) p.steps
