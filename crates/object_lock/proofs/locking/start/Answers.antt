use Rattle.std.proofs.Common.{◌≡◌, ◌≢◌, ◌<◌, refl, sym, ap, ◌∙◌, arith}
use Rattle.std.specs.Prelude.{unwrap_or}
use Rattle.mv_layout.specs.declared.Config.{Config}
use Rattle.seat_log.specs.mv_core.Passes.{view, config_of}
use Rattle.object_lock.proofs.OwnNotes.{unheld_is}
use Rattle.object_lock.proofs.Looks.{none_tried}
use Rattle.object_lock.proofs.Outcomes.{tries_on}
use Rattle.object_lock.proofs.Built.{first_may, first_words, words_stay, first_carries, first_tries, first_is, first_lock, first_unheld, first_few, start_bound}
use Rattle.object_lock.proofs.Locked.{lacks_is, full_is, not_full, spare_is, top_stands, top_keeps, kept_too, top_answers}
use Rattle.version_chain.specs.Walks.{section_in}
use Rattle.seat_log.proofs.OwnSlots.{same_on, of_still}
use Rattle.object_lock.proofs.locking.start.Goals as goal

pub returns-then-held-config-clause-answers : goal.returns-then-held-config-clause-answers
returns-then-held-config-clause-answers g c =
    λ lacks. full_is (config_of c.args.shared.now) (view c.args.pass.now) c.args.log.now c.args.object c.requires.stands c.held.result c.held.ensures.held
    (c.if-held-config.true ∙ ap (λ (k : Config). k.write_max) c.config.ensures)

pub returns-then-room-eq0-clause-answers : goal.returns-then-room-eq0-clause-answers
returns-then-room-eq0-clause-answers g c =
    let r = c.requires in
    let config = config_of c.args.shared.now in
    let v = view c.args.pass.now in
    let l = c.args.log.now in
    let o = c.args.object in
    λ lacks. (
      not_full config v l o r.stands c.held.result c.held.ensures.held
          (λ e. c.if-held-config.false (e ∙ sym (ap (λ (k : Config). k.write_max) c.config.ensures))),
      spare_is config v l o r.stands c.room.result r.unbuilt c.room.ensures ∙ c.if-room-eq0.true,
    )

pub top_of-requires-clause-unheld : goal.top_of-requires-clause-unheld
top_of-requires-clause-unheld g c =
    unheld_is (config_of c.args.shared.now) (view c.args.pass.now) c.args.log.now c.requires.stands c.args.object (c.requires.unheld)

pub returns-in-Err-clause-stands : goal.returns-in-Err-clause-stands
returns-in-Err-clause-stands g c =
    top_stands (config_of c.args.shared.now) (view c.args.pass.now) (view c.top_of.new.pass) c.args.log.now c.args.object c.args.steps.now c.top_of.new.steps
    c.requires.stands c.in-Err.ensures.tries c.in-Err.ensures.ring

pub returns-in-Err-clause-answers : goal.returns-in-Err-clause-answers
returns-in-Err-clause-answers g c =
    let r = c.requires in
    let config = config_of c.args.shared.now in
    let v = view c.args.pass.now in
    let l = c.args.log.now in
    let o = c.args.object in
    top_answers config v (view c.top_of.new.pass) l o c.args.steps.now c.top_of.new.steps r.stands c.in-Err.ensures.tries c.in-Err.ensures.ring
    c.in-Err.answer (
      not_full config v l o r.stands c.held.result c.held.ensures.held
          (λ e. c.if-held-config.false (e ∙ sym (ap (λ (k : Config). k.write_max) c.config.ensures))),
      λ e. c.if-room-eq0.false (sym (spare_is config v l o r.stands c.room.result r.unbuilt c.room.ensures) ∙ e),
    ) c.in-Err.ensures.answers

pub build-position-requires-clause-stands : goal.build-position-requires-clause-stands
build-position-requires-clause-stands g c =
    top_stands (config_of c.args.shared.now) (view c.args.pass.now) (view c.top_of.new.pass) c.args.log.now c.args.object c.args.steps.now c.top_of.new.steps
    c.requires.stands c.in-Ok.ensures.tries c.in-Ok.ensures.ring

pub returns-clause-tries : goal.returns-clause-tries
returns-clause-tries g c =
    let config = config_of c.args.shared.now in
    let v = view c.args.pass.now in
    let x = view c.top_of.new.pass in
    let l = c.args.log.now in
    let t = c.in-Ok.ensures in
    let d = c.build-position in
    let s = top_stands config v x l c.args.object c.args.steps.now c.top_of.new.steps c.requires.stands t.tries t.ring in
    tries_on v x (view d.new.pass) c.args.steps.now c.top_of.new.steps d.new.steps t.tries
    (first_tries config x (view d.new.pass) l d.new.log c.args.object c.in-Ok.top.0 d.result c.in-Ok.top.1 t.may s d.ensures.stands d.ensures.log
    d.ensures.view d.ensures.position c.top_of.new.steps d.new.steps d.ensures.cost)

pub returns-clause-keeps : goal.returns-clause-keeps
returns-clause-keeps g c =
    let config = config_of c.args.shared.now in
    let v = view c.args.pass.now in
    let x = view c.top_of.new.pass in
    let l = c.args.log.now in
    let t = c.in-Ok.ensures in
    let d = c.build-position in
    let s = top_stands config v x l c.args.object c.args.steps.now c.top_of.new.steps c.requires.stands t.tries t.ring in
    let carries =
    first_carries config x (view d.new.pass) l d.new.log c.args.object c.in-Ok.top.0 d.result c.in-Ok.top.1 t.may s d.ensures.stands d.ensures.log
    d.ensures.view d.ensures.position in
    kept_too config v x (top_keeps config v x l c.args.object c.args.steps.now c.top_of.new.steps c.requires.stands t.tries t.ring)
    (view d.new.pass) carries.own

pub returns-clause-started : goal.returns-clause-started
returns-clause-started g c =
    let r = c.requires in
    let config = config_of c.args.shared.now in
    let v = view c.args.pass.now in
    let x = view c.top_of.new.pass in
    let y = view c.build-position.new.pass in
    let l = c.args.log.now in
    let o = c.args.object in
    let t = c.in-Ok.ensures in
    let p = c.in-Ok.top.0 in
    let w = c.in-Ok.top.1 in
    let d = c.build-position in
    let s = top_stands config v x l o c.args.steps.now c.top_of.new.steps r.stands t.tries t.ring in
    let none = c.requires.unheld in
    let begun = first_carries config x y l d.new.log o p d.result w t.may s d.ensures.stands d.ensures.log d.ensures.view d.ensures.position in
    let m = ap (λ (k : Config). k.write_max) c.config.ensures in
    let apart = λ (e : c.held.result ≡ config.write_max). c.if-held-config.false (e ∙ sym m) in
    let few : l.held < config.write_max = (let ne : l.held ≢ config.write_max = (λ e. apart (c.held.ensures.held ∙ e)) in let le = r.few in omega arith) in
    record {
      lacks = lacks_is config v l o r.stands none;
      room = (
        not_full config v l o r.stands c.held.result c.held.ensures.held apart,
        λ e. c.if-room-eq0.false (sym (spare_is config v l o r.stands c.room.result r.unbuilt c.room.ensures) ∙ e),
      );
      object_is = refl;
      words_are = first_words config x y l d.new.log o p d.result w t.may s d.ensures.stands d.ensures.log d.ensures.view d.ensures.position
          ∙ t.answers.1 ∙ ap (unwrap_or c.args.given) (sym (words_stay config x y o begun.start begun.seen begun.phase));
      started = record {
        may = first_may config x y l d.new.log o p d.result w t.may s d.ensures.stands d.ensures.log d.ensures.view d.ensures.position;
        range = r.range;
        stands = d.ensures.stands;
        built = first_is config x y l d.new.log o p d.result w t.may s d.ensures.stands d.ensures.log d.ensures.view d.ensures.position;
        over = first_lock config x y l d.new.log o p d.result w t.may s d.ensures.stands d.ensures.log d.ensures.view d.ensures.position
            t.answers.0;
        unheld = first_unheld config x y l d.new.log o p d.result w t.may s d.ensures.stands d.ensures.log d.ensures.view d.ensures.position none;
        few = first_few config x y l d.new.log o p d.result w t.may s d.ensures.stands d.ensures.log d.ensures.view d.ensures.position
            config.write_max few;
      };
    }

pub returns-then-held-config-clause-tries : goal.returns-then-held-config-clause-tries
returns-then-held-config-clause-tries g c = none_tried (view c.args.pass.now) c.args.steps.now

pub returns-then-room-eq0-clause-tries : goal.returns-then-room-eq0-clause-tries
returns-then-room-eq0-clause-tries g c = none_tried (view c.args.pass.now) c.args.steps.now

pub build-position-requires-clause-of : goal.build-position-requires-clause-of
build-position-requires-clause-of g c = of_still c.args.shared.now c.args.pass.now c.top_of.new.pass c.in-Ok.ensures.same c.requires.of

pub build-position-requires-clause-open : goal.build-position-requires-clause-open
build-position-requires-clause-open g c =
    let may = c.in-Ok.ensures.may in
    (section_in (view c.top_of.new.pass), may.phase, may.open_is)

pub returns-clause-same : goal.returns-clause-same
returns-clause-same g c = same_on c.args.pass.now c.top_of.new.pass c.build-position.new.pass c.in-Ok.ensures.same c.build-position.ensures.same

pub returns-clause-bound : goal.returns-clause-bound
returns-clause-bound g c = start_bound c.args.given _ c.top_of.new.steps _ _ _ c.in-Ok.ensures.bound c.build-position.ensures.cost

pub returns-clause-may : goal.returns-clause-may
returns-clause-may g c =
    let config = config_of c.args.shared.now in
    let x = view c.top_of.new.pass in
    let l = c.args.log.now in
    let t = c.in-Ok.ensures in
    let d = c.build-position in
    let s = top_stands config (view c.args.pass.now) x l c.args.object c.args.steps.now c.top_of.new.steps c.requires.stands t.tries t.ring in
    first_may config x (view d.new.pass) l d.new.log c.args.object c.in-Ok.top.0 d.result c.in-Ok.top.1 t.may s d.ensures.stands d.ensures.log
    d.ensures.view d.ensures.position
