-- What holds behind any steps of a replay.
use Rattle.std.specs.Prelude.{◌≡◌, ℕ, List, [], true}
use Rattle.mv_layout.specs.declared.Config.{Config}
use Rattle.mv_core.specs.declared.shared.Opening.{Opening}
use Rattle.mv_core.specs.Rule.{Ruled}
use Rattle.replay_rules.specs.States.{any_start, any_commit, Made, state_of, views_from}
use Rattle.replay_rules.specs.declared.seats.NextStep.{NextStep}
use Rattle.replay_rules.specs.Tasks.{place_in_task}
use Rattle.replay_rules.specs.Runs.{TapeOf, Scene, is_place, with_line, tape_stepped, turned}

-- The words, and the views of all seats behind these steps, are a table of the core's rule, with the words by name, the history and the
-- views of the state behind them.
pub record IsRuled (key : Opening) (c : Config) (words : List ℕ) (made : List Made) : Type 0 where
  pub rule : Ruled any_start any_commit key (record { words = words; homes = []; views = views_from (state_of c made).seats 0 c.seats })
  pub memory : rule.memory ≡ (state_of c made).memory
  pub history : rule.history ≡ (state_of c made).history
  pub seats : rule.seats ≡ (state_of c made).seats

-- A turn prints lines and makes no step; or it makes one, of a word of the domain, with lines before its own and behind it. The line of the
-- step has the word that is at its place just before, and the words after it are those with what the step writes there.
pub data IsTurn (c : Config) (old new : TapeOf) : Type 0 where
  no_step : (lines : List ℕ) → new ≡ with_line old lines → IsTurn c old new
  one_step : (seat : ℕ) (task : NextStep) (before behind : List ℕ) → is_place c (place_in_task c seat task) ≡ true
      → new ≡ with_line (tape_stepped c seat task (place_in_task c seat task) (with_line old before)) behind → IsTurn c old new

-- so is each turn of each seat
abbrev pub TurnsMakeOneStep : Type 0
TurnsMakeOneStep = (c : Config) (x : Scene) → IsTurn c x.tape (turned c x).tape
