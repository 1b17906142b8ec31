-- Turns of a replay that is behind steps of the core: which step of the core comes next.
use Rattle.std.specs.Prelude.{◌≡◌, ℕ, List, ◌∷◌}
use Rattle.mv_layout.specs.declared.config.Config.{Config}
use Rattle.mv_layout.specs.Limits.{Checked}
use Rattle.mv_layout.specs.Places.{IsPlace}
use Rattle.replay_rules.specs.declared.seats.NextStep.{NextStep}
use Rattle.replay_rules.specs.States.{Made, MayMake, place_in, writes_in, state_of}
use Rattle.replay_rules.specs.Tasks.{place_in_task, access_in_task, written_by}
use Rattle.replay_rules.specs.Runs.{TapeOf, Scene, with_line, tape_stepped, turned}
use Rattle.replay_rules.specs.Behind.{IsTapeBehind}

-- A step of the core is the one that a seat comes to: it may be made, is of the same word, and writes the same of what it finds there.
pub record IsStepOf (c : Config) (made : List Made) (step : Made) (seat : ℕ) (task : NextStep) : Type 0 where
  pub seat_is : step.seat ≡ seat
  pub may : MayMake c (state_of c made) step
  pub place_is : place_in c (state_of c made) step ≡ place_in_task c seat task
  pub range : IsPlace c (place_in_task c seat task)
  pub writes_are : (found : ℕ) → writes_in c (state_of c made) step found ≡ written_by (access_in_task seat task) found

-- A turn makes no step, and the tape is behind the same steps; or it makes one, whose line stands in the text, and the tape is then behind
-- each step of the core that is this one.
pub data IsTurnBehind (c : Config) (made : List Made) (old new : TapeOf) : Type 0 where
  stays : IsTapeBehind c new made → IsTurnBehind c made old new
  moves_on : (seat : ℕ) (task : NextStep) (before behind : List ℕ)
      → new ≡ with_line (tape_stepped c seat task (place_in_task c seat task) (with_line old before)) behind
      → ((step : Made) → IsStepOf c made step seat task → IsTapeBehind c new (step ∷ made)) → IsTurnBehind c made old new

-- so is each turn of each seat
abbrev pub TurnsGoOn : Type 0
TurnsGoOn = (c : Config) → Checked c → (x : Scene) (made : List Made) → IsTapeBehind c x.tape made → IsTurnBehind c made x.tape (turned c x).tape
