use Rattle.std.proofs.Common.{not, ap, sym}
use Rattle.set_model.proofs.KeyMaps.{place_found, gap_found, has_at_place, not_in_gap, put_at_place, put_in_gap, in_step_after_set, in_step_after_insert}
use Rattle.set_model.proofs.catalogue.KeyMap.insert.Goals as goal

-- the key is there, and its value is written
pub invariant_of-self : goal.invariant_of-self
invariant_of-self c =
    let place = place_found _ _ c.self.invariant _ _ _ c.deref.ensures.value c.in-Ok.ensures.bound c.in-Ok.ensures.position in
    in_step_after_set _ _ c.self.invariant _ _ _ place

pub returns-in-Ok-clause-put : goal.returns-in-Ok-clause-put
returns-in-Ok-clause-put c =
    let place = place_found _ _ c.self.invariant _ _ _ c.deref.ensures.value c.in-Ok.ensures.bound c.in-Ok.ensures.position in
    rw (← c.self.view_is) (sym (put_at_place _ _ _ _ _ c.self.invariant.0 place))

pub returns-in-Ok-clause-added : goal.returns-in-Ok-clause-added
returns-in-Ok-clause-added c =
    let place = place_found _ _ c.self.invariant _ _ _ c.deref.ensures.value c.in-Ok.ensures.bound c.in-Ok.ensures.position in
    rw (← c.self.view_is) (sym (ap not (has_at_place _ _ _ _ c.self.invariant.0 place)))

-- the key and its value go into the gap
pub invariant_of-self-in-Err : goal.invariant_of-self-in-Err
invariant_of-self-in-Err c =
    let gap = gap_found _ _ c.self.invariant _ _ _ c.deref.ensures.value c.in-Err.ensures.position in
    rw (c.in_ok-insert-in-Err.ensures.items, c.in_ok-insert-in-Err-2.ensures.items, c.in_ok-reserve-in-Err.ensures.items)
    (in_step_after_insert _ _ c.self.invariant _ _ _ gap)

pub returns-in_ok-insert-in-Err-2-clause-put : goal.returns-in_ok-insert-in-Err-2-clause-put
returns-in_ok-insert-in-Err-2-clause-put c =
    let gap = gap_found _ _ c.self.invariant _ _ _ c.deref.ensures.value c.in-Err.ensures.position in
    rw (c.in_ok-insert-in-Err.ensures.items, c.in_ok-insert-in-Err-2.ensures.items, c.in_ok-reserve-in-Err.ensures.items, ← c.self.view_is)
    (sym (put_in_gap _ _ _ _ _ c.self.invariant.0 gap))

pub returns-in_ok-insert-in-Err-2-clause-added : goal.returns-in_ok-insert-in-Err-2-clause-added
returns-in_ok-insert-in-Err-2-clause-added c =
    let gap = gap_found _ _ c.self.invariant _ _ _ c.deref.ensures.value c.in-Err.ensures.position in
    rw (← c.self.view_is) (sym (ap not (not_in_gap _ _ _ _ c.self.invariant.0 gap)))
