use Rattle.std.proofs.Common.{arith, refl}
use Rattle.tree_balance.proofs.tree_set_lemmas.Walking.{read_at}
use Rattle.set_catalog.proofs.HeadReads.{part_start, part_puts, list_start, next_node}
use Rattle.set_catalog.proofs.reading.read_list.Goals as goal

pub loop-node-init : goal.loop-node-init
loop-node-init g c = record {
  before = c.read.ensures.as_before;
  left = (
    _,
    list_start _ _ _ c.requires.lawful c.requires.head_in c.read.ensures.words,
    part_start _ _ _ _ c.requires.lawful (let lt = c.requires.head_in in omega arith) refl c.requires.before,
  );
}

pub loop-node-smaller : goal.loop-node-smaller
loop-node-smaller g c =
    let words = read_at _ _ _ _ c.read-in-loop-node.ensures.words (g.met.V.View.same_state _ _ c.loop-node.invariant.before) in
    (next_node _ _ _ _ _ c.loop-node-test.true words c.loop-node.invariant.left.1).less

pub loop-node-preserved : goal.loop-node-preserved
loop-node-preserved g c =
    let words = read_at _ _ _ _ c.read-in-loop-node.ensures.words (g.met.V.View.same_state _ _ c.loop-node.invariant.before) in
    let step = next_node _ _ _ _ _ c.loop-node-test.true words c.loop-node.invariant.left.1 in
    record {
      before = g.met.V.View.as_long_before _ _ _ c.loop-node.invariant.before c.read-in-loop-node.ensures.as_before;
      left = (
        step.rest,
        step.next,
        part_puts _ _ _ _ _ _ _ _ _ c.requires.lawful (let lt = c.requires.head_in in omega arith) c.name_of-name.ensures.is step.first
            c.in_ok-insert.ensures.put c.loop-node.invariant.left.2,
      );
    }
