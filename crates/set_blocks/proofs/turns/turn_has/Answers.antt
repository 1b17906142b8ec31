use Rattle.set_blocks.proofs.Turning.{has_turn}
use Rattle.set_blocks.proofs.turns.turn_has.Goals as goal

pub returns-clause-turn : goal.returns-clause-turn
returns-clause-turn g c = has_turn _ _ _ _ _ _ _ c.hold_key-has.ensures.told c.yes_or_no.ensures
