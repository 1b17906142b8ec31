use Rattle.set_blocks.proofs.Terms.{refl, ◌∙◌, arith, merged_next, merged_all}
use Rattle.set_blocks.proofs.overlay.Overlay.write.Goals as goal

pub loop-change-init : goal.loop-change-init
loop-change-init g c = record { view = refl; writes = refl; count = omega arith }

pub loop-change-preserved : goal.loop-change-preserved
loop-change-preserved g c = record {
  view = c.write_one.ensures.view ∙ c.loop-change.invariant.view;
  writes = merged_next _ _ _ _ _ _ c.loop-change-test.true c.loop-change.invariant.writes c.write_one.ensures.writes;
  count = omega (arith, c.write_one.ensures.count, c.loop-change.invariant.count);
}

pub returns-clause-writes : goal.returns-clause-writes
returns-clause-writes g c = merged_all _ _ _ _ c.loop-change-test.false c.loop-change.invariant.writes
