use Rattle.std.proofs.Common.{◌≡◌, ◌+◌, ◌%◌, refl, subst, sym, ap, ◌∙◌, arith}
use Rattle.mv_history.specs.State.{State}
use Rattle.set_model.specs.Lawful.{IsLawful}
use Rattle.hash_set.specs.Buckets.{bucket_at}
use Rattle.hash_set.proofs.Least.{least_step, least_within, least_end}
use Rattle.hash_set.proofs.tables.next_near.Goals as goal

pub loop-i-init : goal.loop-i-init
loop-i-init g c = record { before = g.met.V.View.as_itself _; least = refl; within = omega arith }

pub next_near-next-requires-clause-lawful : goal.next_near-next-requires-clause-lawful
next_near-next-requires-clause-lawful g c = subst (λ (s : State). IsLawful s) (sym (g.met.V.View.same_state _ _ c.loop-i.invariant.before)) c.requires.lawful

pub loop-i-preserved : goal.loop-i-preserved
loop-i-preserved g c =
    let place : (c.args.key % 16 + c.loop-i.i) % 16 ≡ (c.args.key + c.loop-i.i) % 16 = omega arith in
    record {
      before = g.met.V.View.as_long_before _ _ _ c.loop-i.invariant.before c.next_near-next.ensures.as_before;
      least = least_step _ _ _ _ _ _ _ _ _ (g.met.V.View.same_state _ _ c.loop-i.invariant.before) c.loop-i.invariant.least
          (c.bucket-head.ensures ∙ ap (bucket_at c.args.set) place) c.next_near-next.ensures.next c.lesser-least.ensures;
      within = omega (arith, c.loop-i-test.true);
    }

pub returns-then-is_within-clause-next : goal.returns-then-is_within-clause-next
returns-then-is_within-clause-next g c =
    least_within _ _ _ _ _ c.requires.lawful c.requires.set_in (omega (arith, c.loop-i-test.true)) c.loop-i.invariant.least
    (sym c.is_within.ensures ∙ c.if-is_within.true)

pub returns-clause-next : goal.returns-clause-next
returns-clause-next g c = least_end _ _ _ _ _ c.requires.lawful c.requires.set_in c.loop-i-test.false c.loop-i.invariant.within c.loop-i.invariant.least

pub returns-clause-as_before : goal.returns-clause-as_before
returns-clause-as_before g c = c.loop-i.invariant.before
