-- When a machine is behind the steps of a replay, and what comes next.
use Rattle.std.specs.Prelude.{◌≡◌, ◌<◌, ℕ, List, ◌∷◌, Option}
use Rattle.mv_layout.specs.declared.Config.{Config}
use Rattle.mv_layout.specs.declared.SharedWord.{SharedWord}
use Rattle.mv_layout.specs.Places.{IsPlace}
use Rattle.mv_layout.specs.Cells.{Shows}
use Rattle.step_replay.specs.declared.machine.Machine.{Machine}
use Rattle.replay_text.specs.replay_rules.States.{Made, Turn, may_in, place_in, writes_in, state_of, AreMade}

-- the numbers of the machine's domain
abbrev pub config_of : Machine → Config
config_of machine = machine.config

-- The machine is behind these steps, of which the last one comes first: each might be made where it was, and the machine's words are
-- those of the state after them.
pub record IsBehind (machine : Machine) (made : List Made) : Type 0 where
  pub each : AreMade machine.config made
  pub shows : Shows machine.config machine.words.items (state_of machine.config made).memory

-- The step that comes next may be made behind those before it, is of this word, and writes this of what it finds there.
pub record IsNext (machine : Machine) (turn : Turn) (place : SharedWord) (writes : ℕ → Option ℕ) : Type 0 where
  pub seat : turn.step.seat < machine.config.seats
  pub may : may_in machine.config (state_of machine.config turn.before) turn.step
  pub place_is : place_in machine.config (state_of machine.config turn.before) turn.step ≡ place
  pub range : IsPlace machine.config place
  pub writes_are : (found : ℕ) → writes_in machine.config (state_of machine.config turn.before) turn.step found ≡ writes found

-- An access to a word, which found this there and may write, is each step that comes next with that word and that write: the machine
-- is behind that step then, and what was found is the word that was there just before.
abbrev pub Makes : Machine → Machine → SharedWord → ℕ → (ℕ → Option ℕ) → Type 0
Makes machine then place found writes =
    (turn : Turn) → IsBehind machine turn.before → IsNext machine turn place writes
    → IsBehind then (turn.step ∷ turn.before) × (found ≡ (state_of machine.config turn.before).memory place)
