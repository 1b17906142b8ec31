use Rattle.std.proofs.Common.{◌<◌, ℕ, subst, arith}
use Rattle.set_blocks.proofs.Turning.{del_held}
use Rattle.set_blocks.proofs.turns.hold_del.Goals as goal

pub returns-clause-held : goal.returns-clause-held
returns-clause-held g c =
    del_held _ c.requires.lawful _ _ (subst (λ (n : ℕ). n < 30) c.index.ensures.is c.index.ensures.few)
    (omega (arith, c.ranges.key.fits)) _ _ _ c.hold_key.ensures.told c.requires.nothing
