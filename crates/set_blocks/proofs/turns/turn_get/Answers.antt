use Rattle.set_blocks.proofs.Turning.{get_turn}
use Rattle.set_blocks.proofs.turns.turn_get.Goals as goal

pub returns-clause-turn : goal.returns-clause-turn
returns-clause-turn g c = get_turn _ _ _ _ _ _ _ c.hold_value-value.ensures.told c.named.ensures
