use Rattle.std.proofs.Common.{sym, subst, Option}
use Rattle.reader_marks.specs.mv_core.declared.view.Knowledge.{Knowledge}
use Rattle.reader_marks.specs.mv_core.Passes.{view, config_of}
use Rattle.seat_log.specs.declared.version.Note.{Note}
use Rattle.seat_log.specs.Notes.{Noted, IsBuilt, cleared}
use Rattle.seat_log.specs.Stands.{Stands}
use Rattle.seat_log.specs.contracts.log.Log.{the_view}
use Rattle.seat_log.specs.Builds.{ChangesLog}
use Rattle.seat_log.proofs.Changes.{next_changes}
use Rattle.seat_log.proofs.Rebuilding.{stands_cleared}
use Rattle.seat_log.proofs.building.clear_previous.Goals as goal

-- the log stands for the pass with what is noted as built then
stands : (g : _) (c : goal.After-log-1 g)
    → Stands (config_of c.args.shared.now) (view c.store_next.new.pass) (record (the_view c.log.inside) { built = c.clear_note_previous-log-inside.result })
stands g c =
    let b : IsBuilt c.args.log.now c.args.position = c.requires.built in
    subst (λ (o : Option Note). Stands (config_of c.args.shared.now) (view c.store_next.new.pass) (record (the_view c.log.inside) { built = o }))
    (sym c.clear_note_previous-log-inside.ensures)
    (subst (λ (m : Noted). Stands (config_of c.args.shared.now) (view c.store_next.new.pass) (cleared m)) (sym c.log.view_is)
    (stands_cleared (config_of c.args.shared.now) (view c.args.pass.now) (view c.store_next.new.pass) c.args.log.now b.0 c.args.position c.requires.stands b.1
    b.2 c.requires.open c.store_next.ensures.view))

pub invariant_of-log : goal.invariant_of-log
invariant_of-log g c = (c.log.invariant.0, (stands g c).log)

pub returns-clause-stands : goal.returns-clause-stands
returns-clause-stands g c = stands g c

pub returns-clause-rest : goal.returns-clause-rest
returns-clause-rest g c =
    subst (λ (w : Knowledge). ChangesLog (view c.args.pass.now) w) (sym c.store_next.ensures.view)
    (next_changes (config_of c.args.shared.now) (view c.args.pass.now) c.args.position 2 0)
