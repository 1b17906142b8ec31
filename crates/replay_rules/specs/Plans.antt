-- What a plan says: the numbers of its domain, its calls, and its schedule.
use Rattle.std.specs.Prelude.{ℕ, ◌-◌, ◌/◌, List}
use Rattle.mv_layout.specs.declared.config.Config.{Config}
use Rattle.replay_rules.specs.declared.plan.CallOf.{CallOf}
use Rattle.replay_rules.specs.declared.plan.Plan.{Plan}

-- the numbers of a domain with these seats, objects and slots and this opening time
abbrev pub config_of : ℕ → ℕ → ℕ → ℕ → Config
config_of seats objects slots base =
    record { seats = seats; objects = objects; slots = slots; write_max = 16; low = slots / 2; high = slots - 16; base = base }

-- the numbers of a domain, the calls in their order, and the schedule
pub record PlanOf : Type 0 where
  pub config : Config
  pub calls : List CallOf
  pub steps : List ℕ

-- what a plan says
abbrev pub plan_of : Plan → PlanOf
plan_of plan = record { config = plan.config; calls = plan.calls.items; steps = plan.steps.items }
