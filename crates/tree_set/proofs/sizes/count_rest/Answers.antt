use Rattle.std.proofs.Common.{refl}
use Rattle.tree_set.proofs.LeafWalks.{walk_longer, counted_over}
use Rattle.tree_set.proofs.sizes.count_rest.Goals as goal

pub count_on-count-requires-clause-walk : goal.count_on-count-requires-clause-walk
count_on-count-requires-clause-walk g c = (_, walk_longer _ _ _ _ _ _ _ c.copy_links.ensures.copied c.requires.walk.1)

pub returns-then-is_over-clause-counted : goal.returns-then-is_over-clause-counted
returns-then-is_over-clause-counted g c m w =
    counted_over _ c.requires.lawful _ _ _ _ _ (c.if-is_over.ensures.0 refl)
    (c.count_on-count.ensures.counted m (walk_longer _ _ _ _ _ _ _ c.copy_links.ensures.copied w))

pub count_on-count-requires-clause-lawful : goal.count_on-count-requires-clause-lawful
count_on-count-requires-clause-lawful g c = c.requires.lawful

pub returns-clause-as_before : goal.returns-clause-as_before
returns-clause-as_before g c = c.count_on-count.ensures.as_before
