use Rattle.std.proofs.Common.{refl}
use Rattle.mvrlu_run.proofs.texts.make_text.Goals as goal

pub returns-in_ok-text-in-Run-clause-made : goal.returns-in_ok-text-in-Run-clause-made
returns-in_ok-text-in-Run-clause-made g c = rw c.in-Run.is (c.in_ok-text-in-Run.closing, refl, c.in_ok-text-in-Run.ensures.made)

pub returns-in_ok-text-in-Block-clause-made : goal.returns-in_ok-text-in-Block-clause-made
returns-in_ok-text-in-Block-clause-made g c = rw c.in-Block.is (c.in_ok-text-in-Block.closing, refl, c.in_ok-text-in-Block.ensures.made)

pub returns-in_ok-text-in-Pool-clause-made : goal.returns-in_ok-text-in-Pool-clause-made
returns-in_ok-text-in-Pool-clause-made g c = rw c.in-Pool.is (c.in_ok-text-in-Pool.closing, refl, c.in_ok-text-in-Pool.ensures.made)

pub returns-in_ok-text-in-Grow-clause-made : goal.returns-in_ok-text-in-Grow-clause-made
returns-in_ok-text-in-Grow-clause-made g c = rw c.in-Grow.is (c.in_ok-text-in-Grow.closing, refl, c.in_ok-text-in-Grow.ensures.made)

pub returns-in_ok-text-in-Work-clause-made : goal.returns-in_ok-text-in-Work-clause-made
returns-in_ok-text-in-Work-clause-made g c = rw c.in-Work.is (c.in_ok-text-in-Work.closing, refl, c.in_ok-text-in-Work.ensures)
