use Rattle.std.proofs.Common.{refl, ap, ◌∙◌}
use Rattle.seat_log.specs.mv_core.Passes.{view, config_of}
use Rattle.object_lock.proofs.Holding.{cleared_may, cleared_is, cleared_lock, again_won, again_may, again_stands, again_first, again_lost}
use Rattle.seat_log.specs.Notes.{Noted}
use Rattle.seat_log.proofs.OwnSlots.{same_on, of_still}
use Rattle.version_chain.specs.Walks.{section_in}
use Rattle.object_lock.proofs.Bounds.{cleared_won_bound, cleared_lost_bound, unheld_cleared, few_cleared}
use Rattle.object_lock.proofs.locking.hold_again.Goals as goal

pub exchange-requires-clause-may : goal.exchange-requires-clause-may
exchange-requires-clause-may g c =
    let r = c.requires in
    let d = c.clear_previous in
    cleared_may (config_of c.args.shared.now) (view c.args.pass.now) (view d.new.pass) (view d.new.pass) c.args.log.now d.new.log c.args.object r.built.0
    c.args.position r.may r.stands r.built.1 d.ensures.stands d.ensures.log d.ensures.view

pub exchange-requires-clause-built : goal.exchange-requires-clause-built
exchange-requires-clause-built g c =
    let r = c.requires in
    let d = c.clear_previous in
    cleared_is (config_of c.args.shared.now) (view c.args.pass.now) (view d.new.pass) (view d.new.pass) c.args.log.now d.new.log c.args.object r.built.0
    c.args.position r.may r.stands r.built.1 d.ensures.stands d.ensures.log d.ensures.view

pub exchange-requires-clause-lock : goal.exchange-requires-clause-lock
exchange-requires-clause-lock g c =
    let r = c.requires in
    let d = c.clear_previous in
    cleared_lock (config_of c.args.shared.now) (view c.args.pass.now) (view d.new.pass) (view d.new.pass) c.args.log.now d.new.log c.args.object r.built.0
    c.args.position r.may r.stands r.built.1 d.ensures.stands d.ensures.log d.ensures.view r.master

pub lost-requires-clause-may : goal.lost-requires-clause-may
lost-requires-clause-may g c =
    let r = c.requires in
    let d = c.clear_previous in
    again_may (config_of c.args.shared.now) (view c.args.pass.now) (view d.new.pass) (view c.exchange.new.pass) c.args.log.now d.new.log c.args.object
    r.built.0 c.args.position r.may r.stands r.built.1 d.ensures.stands d.ensures.log d.ensures.view c.in-Found.link
    (c.in-Found.ensures.told.1 c.in-Found.ensures.swap)

pub lost-requires-clause-stands : goal.lost-requires-clause-stands
lost-requires-clause-stands g c =
    let r = c.requires in
    let d = c.clear_previous in
    again_stands (config_of c.args.shared.now) (view c.args.pass.now) (view d.new.pass) (view c.exchange.new.pass) c.args.log.now d.new.log c.args.object
    r.built.0 c.args.position r.may r.stands r.built.1 d.ensures.stands d.ensures.log d.ensures.view c.in-Found.link
    (c.in-Found.ensures.told.1 c.in-Found.ensures.swap)

pub lost-requires-clause-first : goal.lost-requires-clause-first
lost-requires-clause-first g c =
    let r = c.requires in
    let d = c.clear_previous in
    let ne = c.in-Found.ensures.swap in
    again_first (config_of c.args.shared.now) (view c.args.pass.now) (view d.new.pass) (view c.exchange.new.pass) c.args.log.now d.new.log c.args.object
    r.built.0 c.args.position r.may r.stands r.built.1 d.ensures.stands d.ensures.log d.ensures.view c.in-Found.link
    (c.in-Found.ensures.told.1 ne) ne (c.in-Found.ensures.link ne) (c.in-Found.ensures.other ne ne)

pub returns-in-Won-clause-outcome : goal.returns-in-Won-clause-outcome
returns-in-Won-clause-outcome g c =
    let r = c.requires in
    let d = c.clear_previous in
    again_won (config_of c.args.shared.now) (view c.args.pass.now) (view d.new.pass) (view c.exchange.new.pass) c.args.log.now d.new.log c.args.object
    r.built.0 c.args.position r.may r.stands r.built.1 d.ensures.stands d.ensures.log d.ensures.view
    (c.in-Won.ensures.told.0 refl) (c.in-Won.ensures.own refl) c.note_held.new.log c.args.steps.now d.new.steps c.exchange.new.steps c.note_held.ensures
    d.ensures.step c.in-Won.ensures.step

pub returns-in-Found-clause-outcome : goal.returns-in-Found-clause-outcome
returns-in-Found-clause-outcome g c =
    let r = c.requires in
    let d = c.clear_previous in
    again_lost (config_of c.args.shared.now) (view c.args.pass.now) (view d.new.pass) (view c.exchange.new.pass) c.args.log.now d.new.log c.args.object
    r.built.0 c.args.position r.may r.stands r.built.1 d.ensures.stands d.ensures.log d.ensures.view c.in-Found.link
    (c.in-Found.ensures.told.1 c.in-Found.ensures.swap) (view c.lost.new.pass) c.lost.new.log c.lost.result c.args.steps.now d.new.steps c.exchange.new.steps
    c.lost.new.steps d.ensures.step c.in-Found.ensures.step c.lost.ensures.outcome

pub clear_previous-requires-clause-of : goal.clear_previous-requires-clause-of
clear_previous-requires-clause-of g c = c.requires.of

pub clear_previous-requires-clause-stands : goal.clear_previous-requires-clause-stands
clear_previous-requires-clause-stands g c = c.requires.stands

pub clear_previous-requires-clause-open : goal.clear_previous-requires-clause-open
clear_previous-requires-clause-open g c = let may = c.requires.may in (section_in (view c.args.pass.now), may.phase, may.open_is)

pub clear_previous-requires-clause-built : goal.clear_previous-requires-clause-built
clear_previous-requires-clause-built g c = let b = c.requires.built.1 in (b.0, b.1, b.2)

pub exchange-requires-clause-of : goal.exchange-requires-clause-of
exchange-requires-clause-of g c = of_still c.args.shared.now c.args.pass.now c.clear_previous.new.pass c.clear_previous.ensures.same c.requires.of

pub exchange-requires-clause-range : goal.exchange-requires-clause-range
exchange-requires-clause-range g c = c.requires.range

pub exchange-requires-clause-stands : goal.exchange-requires-clause-stands
exchange-requires-clause-stands g c = c.clear_previous.ensures.stands

pub exchange-requires-clause-unheld : goal.exchange-requires-clause-unheld
exchange-requires-clause-unheld g c =
    unheld_cleared c.args.log.now c.clear_previous.new.log c.args.object c.clear_previous.ensures.log c.requires.unheld

pub exchange-requires-clause-few : goal.exchange-requires-clause-few
exchange-requires-clause-few g c = few_cleared c.args.log.now c.clear_previous.new.log _ c.clear_previous.ensures.log c.requires.few

pub note_held-requires : goal.note_held-requires
note_held-requires g c =
    let r = c.requires in
    let d = c.clear_previous in
    let b = cleared_is (config_of c.args.shared.now) (view c.args.pass.now) (view d.new.pass) (view d.new.pass) c.args.log.now d.new.log c.args.object
    r.built.0 c.args.position r.may r.stands r.built.1 d.ensures.stands d.ensures.log d.ensures.view in
    record { built = (b.0, b.1, b.2) }

pub lost-requires-clause-of : goal.lost-requires-clause-of
lost-requires-clause-of g c =
    of_still c.args.shared.now c.args.pass.now c.exchange.new.pass
    (same_on c.args.pass.now c.clear_previous.new.pass c.exchange.new.pass c.clear_previous.ensures.same c.in-Found.ensures.same) c.requires.of

pub lost-requires-clause-built : goal.lost-requires-clause-built
lost-requires-clause-built g c =
    let r = c.requires in
    let d = c.clear_previous in
    let b = cleared_is (config_of c.args.shared.now) (view c.args.pass.now) (view d.new.pass) (view d.new.pass) c.args.log.now d.new.log c.args.object
    r.built.0 c.args.position r.may r.stands r.built.1 d.ensures.stands d.ensures.log d.ensures.view in
    (b.0, b.1, b.2)

pub returns-in-Won-clause-same : goal.returns-in-Won-clause-same
returns-in-Won-clause-same g c =
    same_on c.args.pass.now c.clear_previous.new.pass c.exchange.new.pass c.clear_previous.ensures.same c.in-Won.ensures.same

pub returns-in-Won-clause-aborts : goal.returns-in-Won-clause-aborts
returns-in-Won-clause-aborts g c = ap (λ (m : Noted). m.aborts) c.note_held.ensures ∙ ap (λ (m : Noted). m.aborts) c.clear_previous.ensures.log

pub returns-in-Won-clause-bound : goal.returns-in-Won-clause-bound
returns-in-Won-clause-bound g c =
    cleared_won_bound c.args.steps.now c.clear_previous.new.steps c.exchange.new.steps c.clear_previous.ensures.step c.in-Won.ensures.step

pub returns-in-Found-clause-same : goal.returns-in-Found-clause-same
returns-in-Found-clause-same g c =
    same_on c.args.pass.now c.exchange.new.pass c.lost.new.pass
    (same_on c.args.pass.now c.clear_previous.new.pass c.exchange.new.pass c.clear_previous.ensures.same c.in-Found.ensures.same) c.lost.ensures.same

pub returns-in-Found-clause-aborts : goal.returns-in-Found-clause-aborts
returns-in-Found-clause-aborts g c = c.lost.ensures.aborts ∙ ap (λ (m : Noted). m.aborts) c.clear_previous.ensures.log

pub returns-in-Found-clause-bound : goal.returns-in-Found-clause-bound
returns-in-Found-clause-bound g c =
    cleared_lost_bound c.args.steps.now c.clear_previous.new.steps c.exchange.new.steps c.lost.new.steps c.clear_previous.ensures.step
    c.in-Found.ensures.step c.lost.ensures.step
