-- What a command of a block comes to at its turn.
use Rattle.std.specs.Prelude.{◌≡◌}
use Rattle.set_blocks.specs.Terms.{ℕ, false, List, Option, None, Some, State, Writes, Command, Reply, Full, merged, reply_in}
use Rattle.set_blocks.specs.BlockPlans.{HoldPlan, StepPlan, holding}
use Rattle.set_blocks.specs.declared.turns.TurnReply.{TurnReply}

-- Objects are held on which the reply of a command depends that changes nothing.
abbrev pub HoldsReply : Command → State → Reply → Writes → Writes → Type 0
HoldsReply command s answer own new = (os : List ℕ) × HoldPlan s command os answer × (new ≡ merged own (holding s os))

-- The command is full in this state, or this is its reply, and what it locks and writes there is planned too.
abbrev pub TurnsTo : Command → State → Option TurnReply → Writes → Writes → Type 0
TurnsTo command s None own new = reply_in command s false ≡ Full
TurnsTo command s (Some turn) own new = (ws : Writes) × StepPlan command s ws turn.reply turn.changes × (new ≡ merged own ws)
