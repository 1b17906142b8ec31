use Rattle.std.proofs.Common.{false, refl, ap, length}
use Rattle.seat_log.specs.mv_core.Passes.{view, config_of}
use Rattle.log_reclaim.specs.Tidies.{HeldBy}
use Rattle.log_reclaim.proofs.Tidied.{held_by_none, held_by_some, table_left}
use Rattle.log_reclaim.proofs.tidying.tidy_left.Given.{Over}
use Rattle.seat_log.specs.Notes.{Noted}
use Rattle.seat_log.proofs.OwnSlots.{same_on, of_still}
use Rattle.log_reclaim.proofs.Reclaiming.{reclaims_may}
use Rattle.log_reclaim.proofs.Lengths.{tidied_bound}
use Rattle.log_reclaim.proofs.tidying.tidy_left.Goals as goal
use Rattle.log_reclaim.proofs.tidying.tidy_left.Goals.{in-Some, in-None}

held_by : (g : Over) (c : goal.After-live g)
    → HeldBy c.sweep-freed.new.log c.scan_and_free-first_freed.result.1 c.sweep-freed.result.1 c.scan_and_free-first_freed.new.found c.match-last.held
held_by g c =
    elim c.match-last.branch [
      | in-Some w ↦
          held_by_some c.sweep-freed.new.log c.scan_and_free-first_freed.result.1 c.sweep-freed.result.1 c.scan_and_free-first_freed.new.found
          c.match-last.held w.holder-held.result w.in-Some.last w.in-Some.is w.held-is w.holder-held.ensures
      | in-None w ↦ held_by_none c.sweep-freed.new.log c.scan_and_free-first_freed.result.1 c.sweep-freed.result.1
          c.scan_and_free-first_freed.new.found c.match-last.held w.in-None.is w.held-is
    ]

pub returns-clause-tidies : goal.returns-clause-tidies
returns-clause-tidies g c =
    let s = c.scan_and_free-first_freed in
    let r = c.rest_if_due in
    let a = c.sweep-freed in
    record {
      scan_steps = s.ensures.sweeps.0;
      scan_view = view s.new.pass;
      scan_log = s.new.log;
      first = s.result.1;
      found = s.new.found;
      first_freed = s.result.0;
      scan = s.ensures.sweeps.1;
      hears = s.ensures.hears;
      rest_steps = r.ensures.rests.0;
      rest_view = view r.new.pass;
      rest_log = r.new.log;
      rest = r.ensures.rests.1;
      stands = r.ensures.stands;
      known = r.new.pass.known;
      last_steps = a.ensures.sweeps.0;
      last = a.result.1;
      unused = a.new.found;
      last_freed = a.result.0;
      again = a.ensures.sweeps.1;
      freed_is = refl;
      held_by = held_by g c;
    }

pub rest_if_due-requires-clause-of : goal.rest_if_due-requires-clause-of
rest_if_due-requires-clause-of g c =
    of_still c.args.shared.now c.args.pass.now c.scan_and_free-first_freed.new.pass c.scan_and_free-first_freed.ensures.same c.requires.of

pub rest_if_due-requires-clause-may : goal.rest_if_due-requires-clause-may
rest_if_due-requires-clause-may g c =
    reclaims_may (view c.args.pass.now) (view c.scan_and_free-first_freed.new.pass) c.scan_and_free-first_freed.ensures.sweeps.0
    c.scan_and_free-first_freed.ensures.sweeps.1.reclaims

pub sweep-freed-requires-clause-of : goal.sweep-freed-requires-clause-of
sweep-freed-requires-clause-of g c =
    of_still c.args.shared.now c.args.pass.now c.rest_if_due.new.pass
    (same_on c.args.pass.now c.scan_and_free-first_freed.new.pass c.rest_if_due.new.pass c.scan_and_free-first_freed.ensures.same
    c.rest_if_due.ensures.same) c.requires.of

pub sweep-freed-requires-clause-may : goal.sweep-freed-requires-clause-may
sweep-freed-requires-clause-may g c =
    reclaims_may (view c.scan_and_free-first_freed.new.pass) (view c.rest_if_due.new.pass) c.rest_if_due.ensures.rests.0 c.rest_if_due.ensures.rests.1.reclaims

pub returns-clause-same : goal.returns-clause-same
returns-clause-same g c =
    same_on c.args.pass.now c.rest_if_due.new.pass c.sweep-freed.new.pass
    (same_on c.args.pass.now c.scan_and_free-first_freed.new.pass c.rest_if_due.new.pass c.scan_and_free-first_freed.ensures.same
    c.rest_if_due.ensures.same) c.sweep-freed.ensures.same

pub returns-clause-cost : goal.returns-clause-cost
returns-clause-cost g c =
    tidied_bound _ c.scan_and_free-first_freed.new.steps c.rest_if_due.new.steps _ _ _ (length c.scan_and_free-first_freed.new.log.live)
    (length c.rest_if_due.new.log.live) c.scan_and_free-first_freed.result.0 c.scan_and_free-first_freed.ensures.cost c.rest_if_due.ensures.cost
    c.sweep-freed.ensures.cost
    (ap (λ (l : Noted). length l.live) c.rest_if_due.ensures.rests.1.log) c.scan_and_free-first_freed.ensures.sweeps.1.shrinks.few

pub returns-clause-trail : goal.returns-clause-trail
returns-clause-trail g c =
    tidied_bound _ (length (view c.scan_and_free-first_freed.new.pass).trail) (length (view c.rest_if_due.new.pass).trail) _ _ _
    (length c.scan_and_free-first_freed.new.log.live)
    (length c.rest_if_due.new.log.live) c.scan_and_free-first_freed.result.0 c.scan_and_free-first_freed.ensures.trail c.rest_if_due.ensures.trail
    c.sweep-freed.ensures.trail
    (ap (λ (l : Noted). length l.live) c.rest_if_due.ensures.rests.1.log) c.scan_and_free-first_freed.ensures.sweeps.1.shrinks.few

pub holder-held-requires-clause-noted : goal.holder-held-requires-clause-noted
holder-held-requires-clause-noted g c = c.sweep-freed.ensures.stands.log

pub holder-held-requires-clause-table : goal.holder-held-requires-clause-table
holder-held-requires-clause-table g c =
    λ back. table_left (config_of c.args.shared.now) (view c.rest_if_due.new.pass) (view c.sweep-freed.new.pass) c.scan_and_free-first_freed.new.log
    c.rest_if_due.new.log c.sweep-freed.new.log
    c.sweep-freed.ensures.sweeps.0 false c.scan_and_free-first_freed.new.found c.sweep-freed.new.found c.sweep-freed.result.0 c.sweep-freed.result.1
    c.scan_and_free-first_freed.ensures.sweeps.1.table c.rest_if_due.ensures.rests.1.log c.sweep-freed.ensures.sweeps.1
