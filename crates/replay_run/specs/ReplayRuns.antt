-- The text of a replay.
use Rattle.std.specs.Prelude.{◌≡◌, ℕ, List, [], ◌∷◌, Option}
use Rattle.script_files.specs.replay_rules.Plans.{PlanOf}
use Rattle.script_files.specs.replay_rules.RuledRuns.{IsRuledPlan}
use Rattle.script_files.specs.replay_rules.Runs.{text_of_plan}
use Rattle.host_io.specs.Outside.{Texts}
use Rattle.script_files.specs.Scripts.{AllScripts}
use Rattle.script_files.specs.step_replay.PlanTexts.{planned}

-- The text of the replay of the plan that the file was read as, which is a function of the plan alone. The plan's turns make the steps of the
-- core alone, in the order of its schedule, at states of the core's rule.
pub record IsTextOfPlan (texts : Option Texts) (names : List (List ℕ)) (text : List ℕ) : Type 0 where
  pub plan : PlanOf
  pub files : AllScripts planned texts names (plan ∷ [])
  pub printed : text ≡ text_of_plan plan
  pub ruled : IsRuledPlan plan
