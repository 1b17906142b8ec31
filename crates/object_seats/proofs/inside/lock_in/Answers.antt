use Rattle.std.proofs.Common.{◌<◌, sym, subst, Ok}
use Rattle.mv_history.specs.Meaning.{InSection}
use Rattle.mvrlu.specs.Meant.{section_of, section_in}
use Rattle.object_seats.specs.Calls.{TriesLock, Locks, Has}
use Rattle.object_seats.specs.declared.position.Position.{Position}
use Rattle.object_seats.specs.declared.position.Position.TheVariants.{Inside}
use Rattle.object_seats.proofs.inside.lock_in.Goals as goal

-- what `try_lock` says of the session is said of the section before it was resumed and after it was parked
pub returns-else-object-objects-clause-locks : goal.returns-else-object-objects-clause-locks
returns-else-object-objects-clause-locks c =
    let old = section_of c.resume-session.result in
    let new = section_of c.try_lock-answer.new.self in
    let e = c.try_lock-answer.ensures in
    let tries : TriesLock old new c.args.object c.try_lock-answer.result = record {
      goes_on = e.goes_on;
      refused = e.refused;
      again = e.again;
      held = e.held;
      set_full = e.set_full;
      log_full = e.log_full;
      busy = λ seat is. ((e.busy seat is).1, (e.busy seat is).2);
      stale = λ time is. (e.stale time is).1;
    } in
    let there : Has old c.args.object = subst (λ n. c.args.object < n) c.objects.ensures c.if-object-objects.false in
    let met : Has (section_in c.in-Inside.section) c.args.object
    × TriesLock (section_in c.in-Inside.section) (section_in c.park-in-Inside.result) c.args.object c.try_lock-answer.result = (
      subst (λ (s : InSection). Has s c.args.object) c.resume-session.ensures.meant there,
      subst (λ (s : InSection). TriesLock s (section_in c.park-in-Inside.result) c.args.object c.try_lock-answer.result) c.resume-session.ensures.meant
          (subst (λ (s : InSection). TriesLock old s c.args.object c.try_lock-answer.result) (sym c.park-in-Inside.ensures.meant) tries),
    ) in
    subst (λ (p : Position). Locks p c.args.object (Inside c.park-in-Inside.result) (Ok c.try_lock-answer.result)) (sym c.in-Inside.is) met
