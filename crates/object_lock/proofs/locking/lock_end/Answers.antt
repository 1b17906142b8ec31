use Rattle.std.proofs.Common.{refl, ap}
use Rattle.seat_log.specs.mv_core.Passes.{view, config_of}
use Rattle.object_lock.proofs.Built.{then_is, then_master, then_again, one_few}
use Rattle.object_lock.proofs.Holding.{won_outcome, lost_may, lost_stands, came_first, lost_all}
use Rattle.seat_log.specs.Notes.{Noted}
use Rattle.seat_log.proofs.OwnSlots.{same_on, of_still}
use Rattle.object_lock.proofs.Locked.{few_made}
use Rattle.object_lock.proofs.Bounds.{won_bound, again_bound, lost_bound, few_held}
use Rattle.object_lock.specs.Locks.{built_words}
use Rattle.object_lock.proofs.locking.lock_end.Goals as goal

pub returns-then-cut-clause-outcome : goal.returns-then-cut-clause-outcome
returns-then-cut-clause-outcome g c =
    let k = c.args.started in
    let r = c.requires.started in
    then_again (config_of c.args.shared.now) (view c.args.pass.now) (view c.exchange.new.pass) c.args.log.now k.object k.link k.position r.may r.stands r.built
    c.in-Found.link (c.in-Found.ensures.told.1 c.in-Found.ensures.swap) (view c.hold_again.new.pass) c.hold_again.new.log
    c.hold_again.result c.args.steps.now c.exchange.new.steps c.hold_again.new.steps c.in-Found.ensures.step c.if-cut.true
    c.hold_again.ensures.outcome

pub hold_again-requires-clause-master : goal.hold_again-requires-clause-master
hold_again-requires-clause-master g c =
    let k = c.args.started in
    let r = c.requires.started in
    then_master (config_of c.args.shared.now) (view c.args.pass.now) (view c.exchange.new.pass) c.args.log.now k.object k.link k.position r.may r.stands
    r.built c.in-Found.link (c.in-Found.ensures.told.1 c.in-Found.ensures.swap) c.if-cut.true

pub hold_again-requires-clause-may : goal.hold_again-requires-clause-may
hold_again-requires-clause-may g c =
    let k = c.args.started in
    let r = c.requires.started in
    lost_may (config_of c.args.shared.now) (view c.args.pass.now) (view c.exchange.new.pass) c.args.log.now k.object k.link k.position r.may r.stands r.built
    c.in-Found.link (c.in-Found.ensures.told.1 c.in-Found.ensures.swap)

pub hold_again-requires-clause-stands : goal.hold_again-requires-clause-stands
hold_again-requires-clause-stands g c =
    let k = c.args.started in
    let r = c.requires.started in
    lost_stands (config_of c.args.shared.now) (view c.args.pass.now) (view c.exchange.new.pass) c.args.log.now k.object k.link k.position r.may r.stands
    r.built c.in-Found.link (c.in-Found.ensures.told.1 c.in-Found.ensures.swap)

pub hold_again-requires-clause-built : goal.hold_again-requires-clause-built
hold_again-requires-clause-built g c =
    let k = c.args.started in
    let r = c.requires.started in
    then_is (config_of c.args.shared.now) (view c.args.pass.now) (view c.exchange.new.pass) c.args.log.now k.object k.link k.position r.may r.stands r.built
    c.in-Found.link (c.in-Found.ensures.told.1 c.in-Found.ensures.swap)

pub lost-requires-clause-may : goal.lost-requires-clause-may
lost-requires-clause-may g c =
    let k = c.args.started in
    let r = c.requires.started in
    lost_may (config_of c.args.shared.now) (view c.args.pass.now) (view c.exchange.new.pass) c.args.log.now k.object k.link k.position r.may r.stands r.built
    c.in-Found.link (c.in-Found.ensures.told.1 c.in-Found.ensures.swap)

pub lost-requires-clause-stands : goal.lost-requires-clause-stands
lost-requires-clause-stands g c =
    let k = c.args.started in
    let r = c.requires.started in
    lost_stands (config_of c.args.shared.now) (view c.args.pass.now) (view c.exchange.new.pass) c.args.log.now k.object k.link k.position r.may r.stands
    r.built c.in-Found.link (c.in-Found.ensures.told.1 c.in-Found.ensures.swap)

pub lost-requires-clause-first : goal.lost-requires-clause-first
lost-requires-clause-first g c =
    let k = c.args.started in
    let r = c.requires.started in
    let ne = c.in-Found.ensures.swap in
    came_first (config_of c.args.shared.now) (view c.args.pass.now) (view c.exchange.new.pass) c.args.log.now k.object k.link k.position r.may r.stands
    r.built c.in-Found.link (c.in-Found.ensures.told.1 ne) c.if-cut.false (c.in-Found.ensures.link ne)
    (c.in-Found.ensures.other ne c.if-cut.false)

pub returns-in-Won-clause-outcome : goal.returns-in-Won-clause-outcome
returns-in-Won-clause-outcome g c =
    let k = c.args.started in
    let r = c.requires.started in
    one_few (config_of c.args.shared.now) (view c.args.pass.now) (view c.exchange.new.pass) c.note_held.new.log k.object _ c.args.steps.now
    c.exchange.new.steps
    (won_outcome (config_of c.args.shared.now) (view c.args.pass.now) (view c.exchange.new.pass) c.args.log.now k.object k.link k.position r.may r.stands
    r.built (c.in-Won.ensures.told.0 refl) (c.in-Won.ensures.own refl) c.note_held.new.log c.args.steps.now c.exchange.new.steps c.note_held.ensures
    c.in-Won.ensures.step)

pub returns-else-cut-clause-outcome : goal.returns-else-cut-clause-outcome
returns-else-cut-clause-outcome g c =
    let k = c.args.started in
    let r = c.requires.started in
    one_few (config_of c.args.shared.now) (view c.args.pass.now) (view c.lost.new.pass) c.lost.new.log k.object c.lost.result c.args.steps.now
    c.lost.new.steps
    (lost_all (config_of c.args.shared.now) (view c.args.pass.now) (view c.exchange.new.pass) c.args.log.now k.object k.link k.position r.may r.stands r.built
    c.in-Found.link (c.in-Found.ensures.told.1 c.in-Found.ensures.swap) (view c.lost.new.pass) c.lost.new.log c.lost.result c.args.steps.now
    c.exchange.new.steps c.lost.new.steps c.in-Found.ensures.step c.lost.ensures.outcome)

pub returns-then-cut-clause-few : goal.returns-then-cut-clause-few
returns-then-cut-clause-few g c =
    let r = c.requires.started in
    let o = returns-then-cut-clause-outcome g c in
    few_made (config_of c.args.shared.now) (view c.args.pass.now) (view c.hold_again.new.pass) c.args.log.now c.hold_again.new.log c.args.started.object
    r.stands o.1.stands r.few (built_words c.args.log.now) c.hold_again.result o.1.makes o.1.keeps

pub returns-else-cut-clause-few : goal.returns-else-cut-clause-few
returns-else-cut-clause-few g c =
    let r = c.requires.started in
    let o = returns-else-cut-clause-outcome g c in
    few_made (config_of c.args.shared.now) (view c.args.pass.now) (view c.lost.new.pass) c.args.log.now c.lost.new.log c.args.started.object r.stands
    o.1.stands r.few (built_words c.args.log.now) c.lost.result o.1.makes o.1.keeps

pub exchange-requires-clause-of : goal.exchange-requires-clause-of
exchange-requires-clause-of g c = c.requires.of

pub exchange-requires-clause-may : goal.exchange-requires-clause-may
exchange-requires-clause-may g c = c.requires.started.may

pub exchange-requires-clause-range : goal.exchange-requires-clause-range
exchange-requires-clause-range g c = c.requires.started.range

pub exchange-requires-clause-stands : goal.exchange-requires-clause-stands
exchange-requires-clause-stands g c = c.requires.started.stands

pub exchange-requires-clause-built : goal.exchange-requires-clause-built
exchange-requires-clause-built g c = c.requires.started.built

pub exchange-requires-clause-lock : goal.exchange-requires-clause-lock
exchange-requires-clause-lock g c = c.requires.started.over

pub exchange-requires-clause-unheld : goal.exchange-requires-clause-unheld
exchange-requires-clause-unheld g c = c.requires.started.unheld

pub exchange-requires-clause-few : goal.exchange-requires-clause-few
exchange-requires-clause-few g c = c.requires.started.few

pub note_held-requires : goal.note_held-requires
note_held-requires g c = let b = c.requires.started.built in record { built = (b.0, b.1, b.2) }

pub hold_again-requires-clause-of : goal.hold_again-requires-clause-of
hold_again-requires-clause-of g c = of_still c.args.shared.now c.args.pass.now c.exchange.new.pass c.in-Found.ensures.same c.requires.of

pub hold_again-requires-clause-range : goal.hold_again-requires-clause-range
hold_again-requires-clause-range g c = c.requires.started.range

pub hold_again-requires-clause-unheld : goal.hold_again-requires-clause-unheld
hold_again-requires-clause-unheld g c = c.requires.started.unheld

pub hold_again-requires-clause-few : goal.hold_again-requires-clause-few
hold_again-requires-clause-few g c = c.requires.started.few

pub lost-requires-clause-of : goal.lost-requires-clause-of
lost-requires-clause-of g c = of_still c.args.shared.now c.args.pass.now c.exchange.new.pass c.in-Found.ensures.same c.requires.of

pub lost-requires-clause-built : goal.lost-requires-clause-built
lost-requires-clause-built g c = let b = c.requires.started.built in (b.0, b.1, b.2)

pub returns-in-Won-clause-same : goal.returns-in-Won-clause-same
returns-in-Won-clause-same g c = c.in-Won.ensures.same

pub returns-in-Won-clause-few : goal.returns-in-Won-clause-few
returns-in-Won-clause-few g c = few_held c.args.log.now c.note_held.new.log _ c.note_held.ensures c.requires.started.few

pub returns-in-Won-clause-aborts : goal.returns-in-Won-clause-aborts
returns-in-Won-clause-aborts g c = ap (λ (m : Noted). m.aborts) c.note_held.ensures

pub returns-in-Won-clause-bound : goal.returns-in-Won-clause-bound
returns-in-Won-clause-bound g c = won_bound c.args.steps.now c.exchange.new.steps c.in-Won.ensures.step

pub returns-then-cut-clause-same : goal.returns-then-cut-clause-same
returns-then-cut-clause-same g c = same_on c.args.pass.now c.exchange.new.pass c.hold_again.new.pass c.in-Found.ensures.same c.hold_again.ensures.same

pub returns-then-cut-clause-aborts : goal.returns-then-cut-clause-aborts
returns-then-cut-clause-aborts g c = c.hold_again.ensures.aborts

pub returns-then-cut-clause-bound : goal.returns-then-cut-clause-bound
returns-then-cut-clause-bound g c =
    again_bound c.args.steps.now c.exchange.new.steps c.hold_again.new.steps c.in-Found.ensures.step c.hold_again.ensures.bound

pub returns-else-cut-clause-same : goal.returns-else-cut-clause-same
returns-else-cut-clause-same g c = same_on c.args.pass.now c.exchange.new.pass c.lost.new.pass c.in-Found.ensures.same c.lost.ensures.same

pub returns-else-cut-clause-aborts : goal.returns-else-cut-clause-aborts
returns-else-cut-clause-aborts g c = c.lost.ensures.aborts

pub returns-else-cut-clause-bound : goal.returns-else-cut-clause-bound
returns-else-cut-clause-bound g c = lost_bound c.args.steps.now c.exchange.new.steps c.lost.new.steps c.in-Found.ensures.step c.lost.ensures.step
