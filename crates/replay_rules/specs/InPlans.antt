-- Where the seats are in a plan: the calls that they are in, and those behind.
use Rattle.std.specs.Prelude.{◌==◌, ℕ, List, [], ◌∷◌, Option, None, if◌then◌else◌}
use Rattle.replay_rules.specs.declared.plan.Call.{Call}
use Rattle.replay_rules.specs.declared.plan.CallOf.{CallOf}
use Rattle.replay_rules.specs.Plans.{PlanOf}
use Rattle.replay_rules.specs.States.{Made}

-- the calls of a plan that are this seat's, in their order
abbrev pub calls_of : List CallOf → ℕ → List Call
calls_of [] seat = []
calls_of (one ∷ calls) seat = if one.seat == seat then one.call ∷ calls_of calls seat else calls_of calls seat

-- a call that a seat is in, and the steps that had been made when it began
pub record Running : Type 0 where
  pub call : Call
  pub before : List Made

-- where a seat is in its plan: the call that it is in, if it is in one, and the calls behind that
pub record InPlan : Type 0 where
  pub now : Option Running
  pub left : List Call

-- where each seat is
abbrev pub Calls : Type 0
Calls = ℕ → InPlan

-- before the first turn no seat is in a call
abbrev pub calls_before : PlanOf → Calls
calls_before p seat = record { now = None; left = calls_of p.calls seat }

-- one seat is here now
abbrev pub with_call : Calls → ℕ → InPlan → Calls
with_call calls seat here = λ other. if other == seat then here else calls other
