use Rattle.std.proofs.Common.{ap, subst, sym}
use Rattle.seat_log.specs.mv_core.declared.view.Knowledge.{Knowledge}
use Rattle.seat_log.specs.mv_core.Passes.{view, config_of}
use Rattle.object_lock.specs.Writes.{Stores}
use Rattle.object_lock.proofs.Holding.{may_same}
use Rattle.object_lock.proofs.Locked.{touched_is}
use Rattle.object_lock.proofs.Rewriting.{puts_store, is_held, all_written, spare_stays}
use Rattle.object_lock.proofs.writing.write.Goals as goal

pub position_of-position-requires : goal.position_of-position-requires
position_of-position-requires g c =
    touched_is (config_of c.args.shared.now) (view c.args.pass.now) c.args.log.now c.args.object c.requires.stands c.requires.held

pub put_words-requires-clause-held : goal.put_words-requires-clause-held
put_words-requires-clause-held g c =
    is_held (config_of c.args.shared.now) (view c.args.pass.now) c.args.log.now _ c.position_of-position.result c.requires.stands
    c.position_of-position.ensures

pub returns-clause-may : goal.returns-clause-may
returns-clause-may g c =
    let r = c.put_words.ensures.rest in
    may_same (view c.args.pass.now) (view c.put_words.new.pass) (ap (λ (u : Knowledge). u.phase) r) (ap (λ (u : Knowledge). u.clocks) r)
    (ap (λ (u : Knowledge). u.back) r) c.requires.may

pub returns-clause-own : goal.returns-clause-own
returns-clause-own g c =
    all_written (config_of c.args.shared.now) (view c.args.pass.now) c.args.log.now c.args.object c.position_of-position.result
    c.requires.stands c.position_of-position.ensures (view c.put_words.new.pass) c.put_words.new.log c.args.words c.put_words.ensures.stands
    c.put_words.ensures.log

pub returns-clause-spare : goal.returns-clause-spare
returns-clause-spare g c =
    spare_stays (config_of c.args.shared.now) (view c.args.pass.now) (view c.put_words.new.pass) c.args.log.now c.put_words.new.log
    c.position_of-position.result c.args.words c.requires.stands c.put_words.ensures.stands c.put_words.ensures.log

pub returns-clause-stores : goal.returns-clause-stores
returns-clause-stores g c =
    subst (λ (w : Knowledge). Stores (view c.args.pass.now) w 6) (sym c.put_words.ensures.view)
    (puts_store (config_of c.args.shared.now) (view c.args.pass.now) c.position_of-position.result 6 c.args.words)

pub returns-clause-same : goal.returns-clause-same
returns-clause-same g c = c.put_words.ensures.same

pub returns-clause-stands : goal.returns-clause-stands
returns-clause-stands g c = c.put_words.ensures.stands

pub returns-clause-cost : goal.returns-clause-cost
returns-clause-cost g c = c.put_words.ensures.cost

pub put_words-requires-clause-of : goal.put_words-requires-clause-of
put_words-requires-clause-of g c = c.requires.of

pub put_words-requires-clause-stands : goal.put_words-requires-clause-stands
put_words-requires-clause-stands g c = c.requires.stands
