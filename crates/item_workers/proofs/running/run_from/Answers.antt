use Rattle.item_workers.proofs.Terms.{◌≡◌, ◌∙◌, Some, slice_get, arith, slice_get_within, get_or_from_slice_get}
use Rattle.item_workers.proofs.Serves.{serves_more}
use Rattle.item_workers.proofs.running.run_from.Goals as goal

-- the place that was given is one of the list's
pub offset_bounds-items-place : goal.offset_bounds-items-place
offset_bounds-items-place g c =
    let taken = c.in-Some-take.ensures.taken in
    omega (arith, slice_get_within c.items.result.now c.in-Some-take.field-0.place taken.0 (rw c.items.ensures taken.1))

pub bounds-items-place : goal.bounds-items-place
bounds-items-place g c =
    let taken = c.in-Some-take.ensures.taken in
    slice_get_within c.items.result.now c.in-Some-take.field-0.place taken.0 (rw c.items.ensures taken.1)

-- the item there is one that the runner does
pub run_item-done-requires-clause-does : goal.run_item-done-requires-clause-does
run_item-done-requires-clause-does g c =
    let taken = c.in-Some-take.ensures.taken in
    let items = c.items.result.now in
    let place = c.in-Some-take.field-0.place in
    let there : slice_get items place ≡ Some taken.0 = rw c.items.ensures taken.1 in
    rw (c.index-items-place.is ∙ get_or_from_slice_get items place taken.0 c.index-items-place.result there) taken.2

-- there is room for its answer
pub push_reserved-requires : goal.push_reserved-requires
push_reserved-requires g c = omega (arith, c.loop.answers.ok.0, c.loop.invariant.room, c.in-Some-take.ensures.taken.4)

pub loop-preserved : goal.loop-preserved
loop-preserved g c =
    let before = c.loop.invariant in
    let taken = c.in-Some-take.ensures.taken in
    let done = c.run_item-done.ensures in
    let item = c.index-items-place.result in
    let place = c.in-Some-take.field-0.place in
    let there : slice_get c.items.result.now place ≡ Some taken.0 = rw c.items.ensures taken.1 in
    let same : item ≡ taken.0 = c.index-items-place.is ∙ get_or_from_slice_get c.items.result.now place taken.0 item there in
    record {
      serves = rw c.push_reserved.ensures.items
          (serves_more g.W.Runner.link g.P.Source.gives _ _ _ (g.W.Runner.kept_of c.loop.runner) c.loop.source _ _ c.loop.answers.items _
          before.serves (record {
            item = taken.0;
            given = taken.3;
            by = c.seat-seat.ensures;
            linked = rw same at done.link;
          }));
      ready = done.ready;
      may = c.in-Some-take.ensures.may;
      room = omega (arith, before.room, c.push_reserved.ensures.len, c.push_reserved.ensures.capacity, taken.4);
    }

-- the source has none to give any more
pub returns-in-None-take-clause-served : goal.returns-in-None-take-clause-served
returns-in-None-take-clause-served g c = record {
  last = c.loop.source;
  serves = c.loop.invariant.serves;
  ended_is = c.in-None-take.ensures.taken;
}
