use Rattle.std.proofs.Common.{◌<◌, ℕ, subst, arith}
use Rattle.set_blocks.proofs.Turning.{put_held}
use Rattle.set_blocks.proofs.turns.hold_put.Goals as goal

pub returns-clause-held : goal.returns-clause-held
returns-clause-held g c =
    put_held _ c.requires.lawful _ _ (subst (λ (n : ℕ). n < 30) c.index.ensures.is c.index.ensures.few)
    (omega (arith, c.ranges.key.fits)) _ _ _ _ c.hold_value.ensures.told c.requires.nothing
