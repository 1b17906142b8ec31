-- Where the tape of a replay is: behind steps of the core, at a state of its rule.
use Rattle.std.specs.Prelude.{◌≡◌, List, length}
use Rattle.mv_layout.specs.declared.config.Config.{Config}
use Rattle.mv_layout.specs.Cells.{Shows}
use Rattle.mv_core.specs.declared.shared.Opening.{Opening}
use Rattle.replay_rules.specs.States.{zeros, Made, state_of, AreMade}
use Rattle.replay_rules.specs.Runs.{TapeOf}
use Rattle.replay_rules.specs.ReplayLaws.{IsRuled}

-- The tape is behind these steps of the core, of which the last one comes first: each might be made where it was, the words are those of
-- the state after them, and as many lines are those of steps.
pub record IsTapeBehind (c : Config) (tape : TapeOf) (made : List Made) : Type 0 where
  pub each : AreMade c made
  pub shows : Shows c tape.words (state_of c made).memory
  pub count : tape.made ≡ length made

-- The tape is behind these steps of the core, and so is at a state of its rule, in a domain of its numbers whose objects were all zeros.
pub record IsRuledTape (c : Config) (tape : TapeOf) (made : List Made) : Type 0 where
  pub behind : IsTapeBehind c tape made
  pub ruled : (key : Opening) → key.config ≡ c → key.start.value.items ≡ zeros c → IsRuled key c tape.words made
