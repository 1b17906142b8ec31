use Rattle.section_work.proofs.Terms.{refl, false_from_ne_true}
use Rattle.section_work.proofs.locking.hold.Goals as goal

pub returns-in-Busy-clause-refused : goal.returns-in-Busy-clause-refused
returns-in-Busy-clause-refused g c = record {
  unheld = false_from_ne_true _ (λ t. let held = (c.try_lock.ensures.again t).0 in cc (c.in-Busy.is));
  goes_on = c.try_lock.ensures.goes_on;
  as_before = c.try_lock.ensures.refused (λ e. cc (c.in-Busy.is));
  why = let r = c.try_lock.ensures.busy c.in-Busy.seat c.in-Busy.is in (refl, r.0, r.1, r.2);
}

pub returns-in-Stale-clause-refused : goal.returns-in-Stale-clause-refused
returns-in-Stale-clause-refused g c = record {
  unheld = false_from_ne_true _ (λ t. let held = (c.try_lock.ensures.again t).0 in cc (c.in-Stale.is));
  goes_on = c.try_lock.ensures.goes_on;
  as_before = c.try_lock.ensures.refused (λ e. cc (c.in-Stale.is));
  why = let r = c.try_lock.ensures.stale c.in-Stale.time c.in-Stale.is in (refl, r.0, r.1);
}
