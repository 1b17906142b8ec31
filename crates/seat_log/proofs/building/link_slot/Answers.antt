use Rattle.reader_marks.specs.mv_core.Passes.{view, config_of}
use Rattle.std.proofs.Common.{◌==◌}
use Rattle.seat_log.proofs.OwnSlots.{own_still, of_still, same_on}
use Rattle.seat_log.proofs.MayBuild.{is_linked, link_cost}
use Rattle.seat_log.proofs.building.link_slot.Goals as goal

pub returns-clause-view : goal.returns-clause-view
returns-clause-view g c =
    is_linked (config_of c.args.shared.now) (view c.args.pass.now) (view c.begin_slot.new.pass) (view c.store_next.new.pass) (view c.store_next-2.new.pass)
    c.args.position c.args.first c.args.previous c.begin_slot.ensures.view c.store_next.ensures.view
    c.store_next-2.ensures.view

pub begin_slot-requires-clause-of : goal.begin_slot-requires-clause-of
begin_slot-requires-clause-of g c = c.requires.of

pub begin_slot-requires-clause-slot : goal.begin_slot-requires-clause-slot
begin_slot-requires-clause-slot g c = c.requires.slot

pub begin_slot-requires-clause-may : goal.begin_slot-requires-clause-may
begin_slot-requires-clause-may g c = c.requires.may

pub begin_slot-requires-clause-first : goal.begin_slot-requires-clause-first
begin_slot-requires-clause-first g c = c.requires.first

pub store_next-requires-clause-of : goal.store_next-requires-clause-of
store_next-requires-clause-of g c = of_still c.args.shared.now c.args.pass.now c.begin_slot.new.pass c.begin_slot.ensures.same c.requires.of

pub store_next-requires-clause-slot : goal.store_next-requires-clause-slot
store_next-requires-clause-slot g c =
    own_still (config_of c.args.shared.now) c.args.position c.args.slot c.args.pass.now c.begin_slot.new.pass c.begin_slot.ensures.same c.requires.slot

pub store_next-requires-clause-may : goal.store_next-requires-clause-may
store_next-requires-clause-may g c = c.begin_slot.ensures.may

pub store_next-requires-2-clause-of : goal.store_next-requires-2-clause-of
store_next-requires-2-clause-of g c =
    of_still c.args.shared.now c.args.pass.now c.store_next.new.pass
    (same_on c.args.pass.now c.begin_slot.new.pass c.store_next.new.pass c.begin_slot.ensures.same c.store_next.ensures.same) c.requires.of

pub store_next-requires-2-clause-slot : goal.store_next-requires-2-clause-slot
store_next-requires-2-clause-slot g c =
    own_still (config_of c.args.shared.now) c.args.position c.args.slot c.args.pass.now c.store_next.new.pass
    (same_on c.args.pass.now c.begin_slot.new.pass c.store_next.new.pass c.begin_slot.ensures.same c.store_next.ensures.same) c.requires.slot

pub store_next-requires-2-clause-may : goal.store_next-requires-2-clause-may
store_next-requires-2-clause-may g c = c.store_next.ensures.may

pub returns-clause-same : goal.returns-clause-same
returns-clause-same g c =
    same_on c.args.pass.now c.store_next.new.pass c.store_next-2.new.pass
    (same_on c.args.pass.now c.begin_slot.new.pass c.store_next.new.pass c.begin_slot.ensures.same c.store_next.ensures.same)
    c.store_next-2.ensures.same

pub returns-clause-may : goal.returns-clause-may
returns-clause-may g c = c.store_next-2.ensures.may

pub returns-clause-range : goal.returns-clause-range
returns-clause-range g c = c.begin_slot.ensures.range

pub returns-clause-cost : goal.returns-clause-cost
returns-clause-cost g c =
    link_cost (c.args.first == c.args.position) c.args.steps.now c.begin_slot.new.steps c.store_next.new.steps c.store_next-2.new.steps
    c.begin_slot.ensures.cost c.store_next.ensures.step c.store_next-2.ensures.step
