use Rattle.std.proofs.Common.{rules, ◌≡◌, ◌+◌, length, ap, ◌∙◌, arith}
use Rattle.std.proofs.lemmas.List.{length-append}
use Rattle.seat_log.specs.mv_core.declared.view.Knowledge.{Knowledge}
use Rattle.seat_log.specs.mv_core.Passes.{view, config_of}
use Rattle.seat_log.proofs.commit_clock_lemmas.Hearing.{hears_on}
use Rattle.log_reclaim.proofs.rests.Heard.{heard_stored}
use Rattle.log_reclaim.proofs.looks.StoringAll.{stored_more, stands_stored, stores_all}
use Rattle.log_reclaim.proofs.settling.store_all.Goals as goal

pub loop-preserved : goal.loop-preserved
loop-preserved g c =
    let a = c.loop.invariant.same in
    let b = c.back_word.ensures.same in
    let one : length (view c.back_word.new.pass).trail ≡ length (view c.loop.pass).trail + 1 =
    ap (λ (x : Knowledge). length x.trail) c.back_word.ensures.stores.view ∙ length-append (view c.loop.pass).trail _ in
    let before = c.loop.invariant.trail in
    record {
      of = search rules;
      same = (b.0 ∙ a.0, b.1 ∙ a.1, b.2 ∙ a.2, b.3 ∙ a.3, b.4 ∙ a.4, b.5 ∙ a.5);
      stores = stored_more (config_of c.args.shared.now) (view c.args.pass.now) (view c.loop.pass) c.args.back c.loop.back c.loop.counter c.args.steps.now
          c.loop.steps c.loop.invariant.stores (view c.back_word.new.pass) c.back_word.new.back c.back_word.new.steps c.back_word.ensures.writing
          c.back_word.ensures.stores c.back_word.ensures.step;
      trail = omega arith;
    }

pub finish_clock-requires-clause-stands : goal.finish_clock-requires-clause-stands
finish_clock-requires-clause-stands g c =
    stands_stored (config_of c.args.shared.now) (view c.args.pass.now) (view c.loop.pass) c.args.back c.loop.back c.loop.counter c.args.steps.now c.loop.steps
    c.loop.invariant.stores c.args.log.now c.requires.stands

pub returns-clause-stores : goal.returns-clause-stores
returns-clause-stores g c =
    stores_all (config_of c.args.shared.now) (view c.args.pass.now) (view c.loop.pass) c.args.back c.loop.back c.loop.counter c.args.steps.now c.loop.steps
    c.loop.invariant.stores (view c.finish_clock.new.pass) c.args.log.now c.finish_clock.new.log c.finish_clock.result.1 c.requires.of.2
    c.finish_clock.ensures.clock c.finish_clock.result.0 c.finish_clock.ensures.finishes c.finish_clock.ensures.cut

pub returns-clause-hears : goal.returns-clause-hears
returns-clause-hears g c =
    hears_on (view c.args.pass.now) (view c.loop.pass) (view c.finish_clock.new.pass) c.finish_clock.result.1
    (heard_stored (config_of c.args.shared.now) (view c.args.pass.now) (view c.loop.pass) c.args.back c.loop.back c.loop.counter c.args.steps.now c.loop.steps
    c.finish_clock.result.1 c.loop.invariant.stores) c.finish_clock.ensures.hears
