use Rattle.set_catalog.proofs.Hinting.{picked_taken}
use Rattle.set_catalog.proofs.finding.vacant_for.Goals as goal

pub returns-then-is_none-clause-hints : goal.returns-then-is_none-clause-hints
returns-then-is_none-clause-hints g c = picked_taken _ _ _ c.pick-picked.result
    c.pick-picked.ensures.hints c.pick-picked.ensures.none_left c.pick-picked.ensures.room

pub returns-else-is_none-clause-hints : goal.returns-else-is_none-clause-hints
returns-else-is_none-clause-hints g c = picked_taken _ _ _ c.pick-picked.result
    c.pick-picked.ensures.hints c.pick-picked.ensures.none_left c.pick-picked.ensures.room
