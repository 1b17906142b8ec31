use Rattle.std.proofs.Common.{arith}
use Rattle.set_model.proofs.TreeMaps.{map_of-root}
use Rattle.tree_balance.proofs.tree_set_lemmas.LeafWalks.{passed_there, fewer_left, stopped_there}
use Rattle.set_catalog.proofs.HeadReads.{part_start, part_puts, part_end}
use Rattle.set_catalog.proofs.reading.read_tree.Goals as goal

pub loop-leaf-init : goal.loop-leaf-init
loop-leaf-init g c =
    let map = map_of-root _ _ c.requires.root_from c.requires.root_in in
    record {
      before = c.of-leaves.ensures.as_before;
      places = c.requires.places;
      left = (_, c.of-leaves.ensures.walk _, part_start _ _ _ _ c.requires.lawful c.requires.root_in map c.requires.before);
    }

pub loop-leaf-smaller : goal.loop-leaf-smaller
loop-leaf-smaller g c =
    let same = g.met.V.View.same_state _ _ c.loop-leaf.invariant.before in
    fewer_left _ _ _ _ _ _ _ _ _ _ _ c.requires.lawful same c.loop-leaf.invariant.left.1 c.in-Some.ensures.next

pub loop-leaf-preserved : goal.loop-leaf-preserved
loop-leaf-preserved g c =
    let same = g.met.V.View.same_state _ _ c.loop-leaf.invariant.before in
    let step = passed_there _ _ _ _ _ _ _ _ _ _ _ same c.loop-leaf.invariant.left.1 c.in-Some.ensures.next in
    let kept = c.next.ensures.places in let places = c.loop-leaf.invariant.places in
    record {
      before = g.met.V.View.as_long_before _ _ _ c.loop-leaf.invariant.before c.next.ensures.as_before;
      places = omega arith;
      left = (
        step.rest,
        step.walk,
        part_puts _ _ _ _ _ _ _ _ _ c.requires.lawful c.requires.root_in c.name_of-name.ensures.is step.first c.in_ok-insert.ensures.put
            c.loop-leaf.invariant.left.2,
      );
    }

pub returns-clause-read : goal.returns-clause-read
returns-clause-read g c =
    let same = g.met.V.View.same_state _ _ c.loop-leaf.invariant.before in
    let kept = c.next.ensures.places in let places = c.loop-leaf.invariant.places in
    part_end _ _ _ _
    (stopped_there _ _ _ _ _ _ _ _ _ c.requires.lawful same (omega arith) c.loop-leaf.invariant.left.1 c.in_default.ensures.next)
    c.loop-leaf.invariant.left.2
