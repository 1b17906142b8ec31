use Rattle.std.proofs.Common.{refl, subst, sym, arith}
use Rattle.mv_history.specs.State.{State}
use Rattle.set_model.specs.Lawful.{IsLawful}
use Rattle.hash_set.proofs.Counting.{count_step, count_fits, count_end}
use Rattle.hash_set.proofs.tables.size_in.Goals as goal

pub loop-i-init : goal.loop-i-init
loop-i-init g c = record { before = g.met.V.View.as_itself _; count = refl; within = omega arith }

pub size_in-count-requires-clause-lawful : goal.size_in-count-requires-clause-lawful
size_in-count-requires-clause-lawful g c = subst (λ (s : State). IsLawful s) (sym (g.met.V.View.same_state _ _ c.loop-i.invariant.before)) c.requires.lawful

pub overflow_add-count : goal.overflow_add-count
overflow_add-count g c = record {
  fits = count_fits _ _ _ _ c.requires.lawful c.requires.set_in (omega (arith, c.loop-i-test.true))
      (count_step _ _ _ _ _ _ _ (g.met.V.View.same_state _ _ c.loop-i.invariant.before) c.loop-i.invariant.count c.bucket.ensures c.size_in-count.ensures.size);
}

pub loop-i-preserved : goal.loop-i-preserved
loop-i-preserved g c = record {
  before = g.met.V.View.as_long_before _ _ _ c.loop-i.invariant.before c.size_in-count.ensures.as_before;
  count = count_step _ _ _ _ _ _ _ (g.met.V.View.same_state _ _ c.loop-i.invariant.before) c.loop-i.invariant.count c.bucket.ensures
      c.size_in-count.ensures.size;
  within = omega (arith, c.loop-i-test.true);
}

pub returns-clause-size : goal.returns-clause-size
returns-clause-size g c = count_end _ _ _ _ c.requires.lawful c.requires.set_in c.loop-i-test.false c.loop-i.invariant.within c.loop-i.invariant.count

pub returns-clause-as_before : goal.returns-clause-as_before
returns-clause-as_before g c = c.loop-i.invariant.before
