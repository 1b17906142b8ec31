use Rattle.std.proofs.Common.{refl, arith}
use Rattle.mvrlu.specs.Meant.{section_of}
use Rattle.object_seats.specs.Calls.{TriesLock}
use Rattle.object_seats.proofs.vacant.take_vacant.Goals as goal

-- it is one of the domain's objects, of which there are no more than 32 bits can tell
pub overflow_add-next : goal.overflow_add-next
overflow_add-next c =
    let there = c.in-Some.ensures.finds.0.there in let all = c.objects-objects.ensures in let small = c.objects-objects.type_inv in omega arith

-- what was found before the try, and what `try_lock` says of it
pub returns-in-Some-clause-takes : goal.returns-in-Some-clause-takes
returns-in-Some-clause-takes c =
    let looked = section_of c.find_vacant.new.session in
    let new = section_of c.try_lock-lock.new.self in
    let stays = c.find_vacant.ensures.stays in
    let e = c.try_lock-lock.ensures in
    let tries : TriesLock looked new c.in-Some.object c.try_lock-lock.result = record {
      goes_on = e.goes_on;
      refused = e.refused;
      again = e.again;
      held = e.held;
      set_full = e.set_full;
      log_full = e.log_full;
      busy = λ seat is. ((e.busy seat is).1, (e.busy seat is).2);
      stale = λ time is. (e.stale time is).1;
    } in
    (c.in-Some.ensures.finds, refl, (looked, stays.0, stays.1, tries))
