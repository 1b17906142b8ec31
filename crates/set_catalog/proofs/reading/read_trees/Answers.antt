use Rattle.std.proofs.Common.{arith}
use Rattle.set_catalog.proofs.HeadReads.{heads_are}
use Rattle.set_catalog.proofs.reading.read_trees.Goals as goal

pub read_tree-requires-clause-lawful : goal.read_tree-requires-clause-lawful
read_tree-requires-clause-lawful g c = rw (g.met.V.View.same_state _ _ c.loop-root.invariant.before) c.requires.lawful

pub read_tree-requires-clause-before : goal.read_tree-requires-clause-before
read_tree-requires-clause-before g c = rw (g.met.V.View.same_state _ _ c.loop-root.invariant.before) c.loop-root.invariant.read

pub loop-root-preserved : goal.loop-root-preserved
loop-root-preserved g c = record {
  before = g.met.V.View.as_long_before _ _ _ c.loop-root.invariant.before c.read_tree.ensures.as_before;
  places = omega (arith, c.read_tree.ensures.places, c.loop-root.invariant.places);
  read = rw (g.met.V.View.same_state _ _ c.loop-root.invariant.before) at c.in_ok-read_tree.ensures.read;
}

pub loop-root-init : goal.loop-root-init
loop-root-init g c = record { before = g.met.V.View.as_itself _; places = c.requires.places; read = c.requires.before }

pub returns-clause-read : goal.returns-clause-read
returns-clause-read g c =
    let end = c.loop-root.auto.root-end (omega arith) in let out = c.loop-root-test.false in
    heads_are _ _ _ _ (omega arith) c.loop-root.invariant.read
