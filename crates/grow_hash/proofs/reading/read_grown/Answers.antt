use Rattle.grow_hash.proofs.Terms.{arith}
use Rattle.grow_hash.proofs.CatalogueReads.{reads_none, key_fits, reads_more, reads_past, reads_all}
use Rattle.grow_hash.proofs.reading.read_grown.Goals as goal

pub loop-object-init : goal.loop-object-init
loop-object-init g c = record {
  before = g.met.V.View.as_itself _;
  from = let some = c.requires.lawful.some in omega (arith, c.objects-object.ensures);
  read = reads_none _ _ _ c.objects-object.ensures c.in_ok-all.ensures;
}

pub overflow_cast-key : goal.overflow_cast-key
overflow_cast-key g c = record {
  fits = key_fits g.row.LEVELS _ _ _ _ c.requires.lawful (g.met.V.View.same_state _ _ c.loop-object.invariant.before)
      (omega (arith, c.first_node-first.ensures, c.loop-object-test.true))
      (omega (arith, c.loop-object.auto.object, c.objects-object.ensures)) c.read.ensures.words c.if-owner-ne0.true;
}

pub loop-object-preserved-in_ok-insert : goal.loop-object-preserved-in_ok-insert
loop-object-preserved-in_ok-insert g c = record {
  before = g.met.V.View.as_long_before _ _ _ c.loop-object.invariant.before c.read.ensures.as_before;
  from = omega (arith, c.first_node-first.ensures, c.loop-object-test.true);
  read = reads_more g.row.LEVELS _ _ _ _ c.requires.lawful (g.met.V.View.same_state _ _ c.loop-object.invariant.before)
      (omega (arith, c.first_node-first.ensures, c.loop-object-test.true))
      (omega (arith, c.loop-object.auto.object, c.objects-object.ensures)) c.read.ensures.words _ _ c.if-owner-ne0.true c.loop-object.invariant.read
      c.in_ok-insert.ensures.put;
}

pub loop-object-preserved : goal.loop-object-preserved
loop-object-preserved g c = record {
  before = g.met.V.View.as_long_before _ _ _ c.loop-object.invariant.before c.read.ensures.as_before;
  from = omega (arith, c.first_node-first.ensures, c.loop-object-test.true);
  read = reads_past g.row.LEVELS _ _ _ _ c.requires.lawful (g.met.V.View.same_state _ _ c.loop-object.invariant.before)
      (omega (arith, c.first_node-first.ensures, c.loop-object-test.true))
      (omega (arith, c.loop-object.auto.object, c.objects-object.ensures)) c.read.ensures.words _ c.if-owner-ne0.false c.loop-object.invariant.read;
}

pub returns-clause-catalogue : goal.returns-clause-catalogue
returns-clause-catalogue g c =
    reads_all g.row.LEVELS (g.V.View.state c.args.view.now) c.loop-object.object c.loop-object.all
    (omega (arith, c.first_node-first.ensures, c.loop-object.invariant.from, c.loop-object-test.false)) c.loop-object.invariant.read
