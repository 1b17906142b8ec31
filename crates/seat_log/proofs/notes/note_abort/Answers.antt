use Rattle.std.proofs.Common.{◌≡◌, ℕ, ◌-◌, ◌≤◌, List, sym, ap, ◌∙◌, subst, arith, None}
use Rattle.seat_log.specs.declared.version.Note.{Note}
use Rattle.seat_log.specs.Notes.{Noted, held_from, from_place, IsLog, aborted_noted}
use Rattle.seat_log.specs.contracts.log.Log.{the_view}
use Rattle.seat_log.proofs.Noting.{aborted_is_log, abort_counts, abort_of_nothing}
use Rattle.seat_log.proofs.notes.note_abort.Goals as goal

-- the notes afterwards
items : (c : goal.After-log-2-1)
    → c.set_deaths.new.live.items ≡ from_place (λ n. record n { dead = c.args.dead }) (held_from (the_view c.log.inside)) c.log.inside.live.items
items c =
    let long = c.log.inside.live.ok.0 in
    let from : c.len.result - c.log.inside.held ≡ held_from (the_view c.log.inside) = (let e = c.len.ensures in omega arith) in
    c.set_deaths.ensures.items ∙ ap (λ k. from_place (λ n. record n { dead = c.args.dead }) k c.log.inside.live.items) from

pub invariant_of-log : goal.invariant_of-log
invariant_of-log c =
    let l : Noted = the_view c.log.inside in
    let unbuilt : l.built ≡ None = ap (λ (m : Noted). m.built) c.log.view_is ∙ c.requires.unbuilt in
    let counts = abort_counts l c.if-log-eq0.false in (
      subst (λ (n : ℕ). c.log.inside.slots ≤ n) (sym c.set_deaths.ensures.capacity) c.log.invariant.0,
      subst (λ (n : ℕ). IsLog (record (aborted_noted l c.args.dead) { live = c.set_deaths.new.live.items; aborts = n })) counts
          (subst (λ (ns : List Note). IsLog (record (aborted_noted l c.args.dead) { live = ns })) (sym (items c))
          (aborted_is_log l c.args.dead unbuilt c.log.invariant.1)),
    )

pub returns-then-log-eq0 : goal.returns-then-log-eq0
returns-then-log-eq0 c = abort_of_nothing c.args.log.now c.args.dead (sym (ap (λ (m : Noted). m.held) c.log.view_is) ∙ c.if-log-eq0.true)

pub returns : goal.returns
returns c =
    let l : Noted = the_view c.log.inside in
    let counts = sym (abort_counts l c.if-log-eq0.false) in
    (λ i. record (aborted_noted l c.args.dead) { live = items c i; aborts = counts i }) ∙ ap (λ (m : Noted). aborted_noted m c.args.dead) c.log.view_is
