use Rattle.section_work.proofs.Terms.{refl}
use Rattle.section_work.proofs.locking.hold_with.Goals as goal

pub returns-in-Held-clause-held : goal.returns-in-Held-clause-held
returns-in-Held-clause-held g c = c.try_lock_with.ensures.held c.in-Held.is c.requires.lacks

pub returns-in-Busy-clause-refused : goal.returns-in-Busy-clause-refused
returns-in-Busy-clause-refused g c = record {
  unheld = c.requires.lacks;
  goes_on = c.try_lock_with.ensures.goes_on;
  as_before = c.try_lock_with.ensures.refused (λ e. cc (c.in-Busy.is));
  why = let r = c.try_lock_with.ensures.busy c.in-Busy.seat c.in-Busy.is in (refl, r.0, r.1, r.2);
}

pub returns-in-Stale-clause-refused : goal.returns-in-Stale-clause-refused
returns-in-Stale-clause-refused g c = record {
  unheld = c.requires.lacks;
  goes_on = c.try_lock_with.ensures.goes_on;
  as_before = c.try_lock_with.ensures.refused (λ e. cc (c.in-Stale.is));
  why = let r = c.try_lock_with.ensures.stale c.in-Stale.time c.in-Stale.is in (refl, r.0, r.1);
}
