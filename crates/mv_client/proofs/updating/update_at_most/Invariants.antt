use Rattle.mv_client.specs.Closures.{Shows}
use Rattle.mv_client.specs.Updates.{UpdatedLast}
use Rattle.section_work.specs.Causes.{causes}
use Rattle.mv_client.proofs.updating.update_at_most.Given as goal

abbrev pub invariant-loop-nth : goal.invariant-loop-nth
invariant-loop-nth g l =
    UpdatedLast
    (causes g.S.Open.Section.may_refuse g.S.Open.Section.has_trail g.S.Store.took g.S.Store.holds_back g.S.Open.Section.found_held g.S.Open.Section.loaded)
    g.S.Open.Section.section (Shows g.F.Fn l.fill) (g.S.Store.seat_of l.fn.store) (g.S.Store.seat_of l.store) l.answer
