use Rattle.std.proofs.Common.{◌≡◌, ℕ, ◌-◌, ◌<◌, ◌≤◌, List, sym, ap, ◌∙◌, subst, arith, None}
use Rattle.seat_log.specs.declared.version.Note.{Note}
use Rattle.seat_log.specs.Notes.{Noted, held_from, from_place, IsLog, committed_noted}
use Rattle.seat_log.specs.contracts.log.Log.{the_view}
use Rattle.seat_log.proofs.Noting.{committed_is_log}
use Rattle.seat_log.proofs.notes.note_commit.Goals as goal

pub invariant_of-log : goal.invariant_of-log
invariant_of-log c =
    let l : Noted = the_view c.log.inside in
    let long = c.log.inside.live.ok.0 in
    let from : c.len.result - c.log.inside.held ≡ held_from l = (let e = c.len.ensures in omega arith) in
    let f : Note → Note = λ n. record n { time = c.args.time } in
    let items : from_place f (held_from l) l.live ≡ c.set_times.new.live.items = sym (c.set_times.ensures.items ∙ ap (λ k. from_place f k l.live) from) in
    let some_held : 0 < l.held = subst (λ (m : Noted). 0 < m.held) (sym c.log.view_is) c.requires.some_held in
    let unbuilt : l.built ≡ None = ap (λ (m : Noted). m.built) c.log.view_is ∙ c.requires.unbuilt in (
      subst (λ (n : ℕ). c.log.inside.slots ≤ n) (sym c.set_times.ensures.capacity) c.log.invariant.0,
      subst (λ (ns : List Note). IsLog (record (committed_noted l c.args.time) { live = ns })) items
          (committed_is_log l c.args.time some_held unbuilt c.log.invariant.1),
    )
