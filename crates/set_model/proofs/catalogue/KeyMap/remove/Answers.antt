use Rattle.std.proofs.Common.{sym}
use Rattle.set_model.proofs.KeyMaps.{place_found, gap_found, has_at_place, not_in_gap, take_out_at_place, take_out_absent, in_step_after_remove}
use Rattle.set_model.proofs.catalogue.KeyMap.remove.Goals as goal

-- the key is there, and goes with its value
pub invariant_of-self : goal.invariant_of-self
invariant_of-self c =
    let place = place_found _ _ c.self.invariant _ _ _ c.deref.ensures.value c.in-Ok.ensures.bound c.in-Ok.ensures.position in
    rw (c.remove.ensures.items, c.remove-in-Ok.ensures.items) (in_step_after_remove _ _ c.self.invariant _ _ place)

pub returns-in-Ok-clause-taken : goal.returns-in-Ok-clause-taken
returns-in-Ok-clause-taken c =
    let place = place_found _ _ c.self.invariant _ _ _ c.deref.ensures.value c.in-Ok.ensures.bound c.in-Ok.ensures.position in
    rw (c.remove.ensures.items, c.remove-in-Ok.ensures.items, ← c.self.view_is) (sym (take_out_at_place _ _ _ _ c.self.invariant.0 place))

pub returns-in-Ok-clause-found : goal.returns-in-Ok-clause-found
returns-in-Ok-clause-found c =
    let place = place_found _ _ c.self.invariant _ _ _ c.deref.ensures.value c.in-Ok.ensures.bound c.in-Ok.ensures.position in
    rw (← c.self.view_is) (sym (has_at_place _ _ _ _ c.self.invariant.0 place))

-- the key is not there
pub returns-in-Err-clause-taken : goal.returns-in-Err-clause-taken
returns-in-Err-clause-taken c =
    let gap = gap_found _ _ c.self.invariant _ _ _ c.deref.ensures.value c.in-Err.ensures.position in
    rw (← c.self.view_is) (sym (take_out_absent _ _ (not_in_gap _ _ _ _ c.self.invariant.0 gap)))

pub returns-in-Err-clause-found : goal.returns-in-Err-clause-found
returns-in-Err-clause-found c =
    let gap = gap_found _ _ c.self.invariant _ _ _ c.deref.ensures.value c.in-Err.ensures.position in
    rw (← c.self.view_is) (sym (not_in_gap _ _ _ _ c.self.invariant.0 gap))
