use Rattle.std.proofs.Common.{◌<◌, ℕ, subst, arith}
use Rattle.set_blocks.proofs.Turning.{add_held}
use Rattle.set_blocks.proofs.turns.hold_add.Goals as goal

pub returns-clause-held : goal.returns-clause-held
returns-clause-held g c =
    add_held _ c.requires.lawful _ _ (subst (λ (n : ℕ). n < 30) c.index.ensures.is c.index.ensures.few)
    (omega (arith, c.ranges.key.fits)) _ _ _ c.hold_key.ensures.told c.requires.nothing
