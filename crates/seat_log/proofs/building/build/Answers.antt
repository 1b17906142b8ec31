use Rattle.std.proofs.Common.{◌≡◌, ◌==◌, ℕ, ◌+◌, ◌-◌, ◌<◌, ◌^◌, length, sym, ap, ◌∙◌, subst, arith}
use Rattle.reader_marks.specs.mv_core.declared.view.Knowledge.{Knowledge}
use Rattle.reader_marks.specs.mv_core.Passes.{view, config_of}
use Rattle.seat_log.specs.Notes.{Noted, next_of, first_of, built_noted, next_note}
use Rattle.seat_log.proofs.OwnSlots.{of_still, same_on}
use Rattle.seat_log.specs.Stands.{Stands}
use Rattle.seat_log.specs.Builds.{slot_built, build_cost, ChangesLog}
use Rattle.seat_log.specs.contracts.log.Log.{the_view}
use Rattle.seat_log.proofs.MayBuild.{is_slot, first_there, cost_there}
use Rattle.seat_log.proofs.Changes.{slot_changes}
use Rattle.seat_log.proofs.Standing.{may_build, stands_built}
use Rattle.seat_log.proofs.building.build.Goals as goal

pub link_slot-requires-clause-may : goal.link_slot-requires-clause-may
link_slot-requires-clause-may g c =
    let next = c.requires.stands.next in
    let same = ap next_of c.log.view_is in
    let long = c.log.inside.live.ok.0 in
    let e = c.len.ensures in
    may_build (config_of c.args.shared.now) (view c.args.pass.now) c.args.log.now c.requires.stands (c.log.inside.freed + c.len.result) (omega arith)
    c.requires.open c.requires.room

pub returns-clause-stands : goal.returns-clause-stands
returns-clause-stands g c =
    let l : Noted = the_view c.log.inside in
    let long = c.log.inside.live.ok.0 in
    let e = c.len.ensures in
    let at : next_of l ≡ c.log.inside.freed + c.len.result = omega arith in
    let stands : Stands (config_of c.args.shared.now) (view c.args.pass.now) l =
    subst (λ (m : Noted). Stands (config_of c.args.shared.now) (view c.args.pass.now) m) (sym c.log.view_is) c.requires.stands in
    let room : length l.live < l.slots = subst (λ (m : Noted). length m.live < m.slots) (sym c.log.view_is) c.requires.room in
    let small : next_of l < 2 ^ 57 = subst (λ (n : ℕ). n < 2 ^ 57) (sym at) c.link_slot.ensures.range in
    let is = is_slot (config_of c.args.shared.now) (view c.args.pass.now) (view c.link_slot.new.pass) (view c.store_words.new.pass)
    (c.log.inside.freed + c.len.result) _ c.args.previous c.args.words c.link_slot.ensures.view c.store_words.ensures.view
    ∙ (λ i. slot_built (config_of c.args.shared.now) (view c.args.pass.now) (sym at i) (sym at i - c.log.inside.held) c.args.previous c.args.words) in
    subst (λ (m : Noted). Stands (config_of c.args.shared.now) (view c.store_words.new.pass) m)
    (λ i. built_noted l
    (record {
      position = at i;
      first = at i - c.log.inside.held;
      object = c.args.object;
      previous = c.args.previous;
      words = c.args.words;
      time = 0;
      dead = 0;
    }))
    (stands_built (config_of c.args.shared.now) (view c.args.pass.now) (view c.store_words.new.pass) l c.args.object c.args.previous c.args.words stands
    c.requires.open room c.store_words.ensures.wide small is)

-- the view after all stores
view_is : (g : _) (c : goal.After-log-1 g)
    → view c.store_words.new.pass ≡ slot_built (config_of c.args.shared.now) (view c.args.pass.now) (next_of c.args.log.now) (first_of c.args.log.now)
    c.args.previous c.args.words
view_is g c =
    let long = c.log.inside.live.ok.0 in
    let e = c.len.ensures in
    let at : c.log.inside.freed + c.len.result ≡ next_of (the_view c.log.inside) = omega arith in
    is_slot (config_of c.args.shared.now) (view c.args.pass.now) (view c.link_slot.new.pass) (view c.store_words.new.pass) (c.log.inside.freed + c.len.result)
    _ c.args.previous c.args.words c.link_slot.ensures.view c.store_words.ensures.view
    ∙ (λ i. slot_built (config_of c.args.shared.now) (view c.args.pass.now) (at i) (at i - c.log.inside.held) c.args.previous c.args.words)
    ∙ ap (λ (m : Noted). slot_built (config_of c.args.shared.now) (view c.args.pass.now) (next_of m) (first_of m) c.args.previous c.args.words) c.log.view_is

pub returns-clause-view : goal.returns-clause-view
returns-clause-view g c = view_is g c

pub returns-clause-rest : goal.returns-clause-rest
returns-clause-rest g c =
    subst (λ (w : Knowledge). ChangesLog (view c.args.pass.now) w) (sym (view_is g c))
    (slot_changes (config_of c.args.shared.now) (view c.args.pass.now) (next_of c.args.log.now) (first_of c.args.log.now) c.args.previous c.args.words)

pub link_slot-requires-clause-first : goal.link_slot-requires-clause-first
link_slot-requires-clause-first g c =
    let stands = c.requires.stands in
    let next = stands.next in
    let same = ap next_of c.log.view_is in
    let long = c.log.inside.live.ok.0 in
    let e = c.len.ensures in
    first_there (view c.args.pass.now) (c.log.inside.freed + c.len.result) c.log.inside.held (omega arith)
    (stands.held ∙ sym (ap (λ (m : Noted). m.held) c.log.view_is))

pub returns-clause-cost : goal.returns-clause-cost
returns-clause-cost g c =
    let long = c.log.inside.live.ok.0 in
    let e = c.len.ensures in
    let position : ℕ = c.log.inside.freed + c.len.result in
    let at : c.log.inside.freed + c.len.result ≡ next_of (the_view c.log.inside) = omega arith in
    cost_there (position - c.log.inside.held == position) c.args.steps.now c.link_slot.new.steps c.store_words.new.steps c.link_slot.ensures.cost
    c.store_words.ensures.cost
    ∙ (λ i. c.args.steps.now + build_cost (at i) (at i - c.log.inside.held))
    ∙ ap (λ (m : Noted). c.args.steps.now + build_cost (next_of m) (first_of m)) c.log.view_is

pub returns-clause-log : goal.returns-clause-log
returns-clause-log g c =
    let long = c.log.inside.live.ok.0 in
    let e = c.len.ensures in
    let at : c.log.inside.freed + c.len.result ≡ next_of (the_view c.log.inside) = omega arith in
    (λ i. built_noted (the_view c.log.inside)
    (record {
      position = at i;
      first = at i - c.log.inside.held;
      object = c.args.object;
      previous = c.args.previous;
      words = c.args.words;
      time = 0;
      dead = 0;
    }))
    ∙ ap (λ (m : Noted). built_noted m (next_note m c.args.object c.args.previous c.args.words)) c.log.view_is

pub link_slot-requires-clause-of : goal.link_slot-requires-clause-of
link_slot-requires-clause-of g c = c.requires.of

pub store_words-requires-clause-of : goal.store_words-requires-clause-of
store_words-requires-clause-of g c = of_still c.args.shared.now c.args.pass.now c.link_slot.new.pass c.link_slot.ensures.same c.requires.of

pub store_words-requires-clause-may : goal.store_words-requires-clause-may
store_words-requires-clause-may g c = c.link_slot.ensures.may

pub returns-clause-same : goal.returns-clause-same
returns-clause-same g c = same_on c.args.pass.now c.link_slot.new.pass c.store_words.new.pass c.link_slot.ensures.same c.store_words.ensures.same

pub returns-clause-range : goal.returns-clause-range
returns-clause-range g c = c.link_slot.ensures.range
