use Rattle.std.proofs.Common.{ℕ, ◌+◌, ◌<◌, ◌≤◌, List, sym, subst}
use Rattle.reader_marks.specs.mv_core.declared.view.Knowledge.{Knowledge}
use Rattle.reader_marks.specs.mv_core.ReclaimSteps.{MayStoreFree}
use Rattle.reader_marks.specs.mv_core.Passes.{view, config_of}
use Rattle.seat_log.specs.declared.version.Note.{Note}
use Rattle.seat_log.specs.Notes.{Noted, IsLog}
use Rattle.seat_log.specs.Stands.{Stands}
use Rattle.seat_log.specs.Frees.{FreesSet, freed_noted, slots_freed}
use Rattle.seat_log.specs.contracts.log.Log.{the_view}
use Rattle.seat_log.proofs.FreedLogs.{stands_freed, each_may_free}
use Rattle.seat_log.proofs.freeing.free_oldest.Goals as goal

pub returns-clause-frees : goal.returns-clause-frees
returns-clause-frees g c = c.oldest_dead-count.ensures

pub free_slots-requires-clause-may : goal.free_slots-requires-clause-may
free_slots-requires-clause-may g c =
    subst (λ (m : Noted). (j : ℕ) → j < c.oldest_dead-count.result
    → MayStoreFree (config_of c.args.shared.now) (slots_freed (config_of c.args.shared.now) (view c.args.pass.now) m.freed j) (m.freed + j))
    (sym c.log.view_is)
    (each_may_free (config_of c.args.shared.now) (view c.args.pass.now) c.args.log.now c.args.mark.now.time c.oldest_dead-count.result c.requires.stands
    c.requires.outside c.requires.known c.oldest_dead-count.ensures)

-- the log stands for the pass then
stands : (g : _) (c : goal.After-log-1 g)
    → Stands (config_of c.args.shared.now) (view c.free_slots.new.pass) (freed_noted (the_view c.log.inside) c.oldest_dead-count.result)
stands g c =
    let k : ℕ = c.oldest_dead-count.result in
    let l : Noted = the_view c.log.inside in
    let frees : FreesSet l c.args.mark.now.time k = subst (λ (m : Noted). FreesSet m c.args.mark.now.time k) (sym c.log.view_is) c.oldest_dead-count.ensures in
    let before : Stands (config_of c.args.shared.now) (view c.args.pass.now) l =
    subst (λ (m : Noted). Stands (config_of c.args.shared.now) (view c.args.pass.now) m) (sym c.log.view_is) c.requires.stands in
    subst (λ (u : Knowledge). Stands (config_of c.args.shared.now) u (freed_noted l k)) (sym c.free_slots.ensures.view)
    (stands_freed (config_of c.args.shared.now) (view c.args.pass.now) l c.args.mark.now.time k before frees)

pub invariant_of-log : goal.invariant_of-log
invariant_of-log g c = (
  subst (λ (n : ℕ). c.log.inside.slots ≤ n) (sym c.drop_front.ensures.capacity) c.log.invariant.0,
  subst (λ (ns : List Note). IsLog (record (freed_noted (the_view c.log.inside) c.oldest_dead-count.result) { live = ns })) (sym c.drop_front.ensures.items)
      (stands g c).log,
)

pub returns-clause-stands : goal.returns-clause-stands
returns-clause-stands g c =
    subst (λ (ns : List Note). Stands (config_of c.args.shared.now) (view c.free_slots.new.pass)
    (record (freed_noted (the_view c.log.inside) c.oldest_dead-count.result) { live = ns })) (sym c.drop_front.ensures.items)
    (stands g c)
