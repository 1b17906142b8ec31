use Rattle.std.proofs.Common.{◌≡◌, ℕ, ◌≤◌, List, ◌++◌, sym, ap, ◌∙◌, subst}
use Rattle.seat_log.specs.declared.version.Note.{Note}
use Rattle.seat_log.specs.Notes.{Noted, built_list, IsLog, held_noted}
use Rattle.seat_log.specs.contracts.log.Log.{the_view}
use Rattle.seat_log.proofs.Noting.{held_is_log}
use Rattle.seat_log.proofs.notes.note_held.Goals as goal

pub invariant_of-log : goal.invariant_of-log
invariant_of-log c =
    let l : Noted = the_view c.log.inside in
    let items : l.live ++ built_list l.built ≡ c.push_back_reserved.new.self.items =
    ap (λ o. l.live ++ built_list o) c.in-Some.is ∙ sym c.push_back_reserved.ensures.items in (
      subst (λ (n : ℕ). c.log.inside.slots ≤ n) (sym c.push_back_reserved.ensures.capacity) c.log.invariant.0,
      subst (λ (ns : List Note). IsLog (record (held_noted l) { live = ns })) items (held_is_log l c.in-Some.note c.in-Some.is c.log.invariant.1),
    )
