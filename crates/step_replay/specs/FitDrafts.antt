-- The ranges of the numbers of a plan's lines so far.
use Rattle.std.specs.Prelude.{◌≡◌, ℕ, List, [], All}
use Rattle.replay_text.specs.replay_rules.declared.plan.CallOf.{CallOf}
use Rattle.replay_text.specs.replay_rules.FitPlans.{AreSeats, AreObjects, AreSlots, IsFitConfig, IsFitCallOf, AreFitSteps}
use Rattle.step_replay.specs.declared.heads.Heads.{Heads}
use Rattle.step_replay.specs.declared.heads.Heads.TheVariants.{Seats, Objects, Slots, Base, Whole}
use Rattle.step_replay.specs.PlanTexts.{Said}

-- the numbers of the first four lines
abbrev pub AreFitHeads : Heads → Type 0
AreFitHeads Seats = Unit {0}
AreFitHeads (Objects seats) = AreSeats seats
AreFitHeads (Slots seats objects) = AreSeats seats × AreObjects objects
AreFitHeads (Base seats objects slots) = AreSeats seats × AreObjects objects × AreSlots slots
AreFitHeads (Whole config) = IsFitConfig config

-- what calls and steps are there before all four first lines are, and behind them
abbrev pub IsFitBody : Heads → List CallOf → List ℕ → Type 0
IsFitBody (Whole config) calls steps = All (IsFitCallOf config) calls × AreFitSteps config.seats steps
IsFitBody Seats calls steps = (calls ≡ []) × (steps ≡ [])
IsFitBody (Objects seats) calls steps = (calls ≡ []) × (steps ≡ [])
IsFitBody (Slots seats objects) calls steps = (calls ≡ []) × (steps ≡ [])
IsFitBody (Base seats objects slots) calls steps = (calls ≡ []) × (steps ≡ [])

-- the numbers that are said so far are in their ranges
pub record IsFitSaid (s : Said) : Type 0 where
  pub heads : AreFitHeads s.heads
  pub body : IsFitBody s.heads s.calls s.steps
