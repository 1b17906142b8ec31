use Rattle.std.proofs.Common.{◌≡◌, subst, arith}
use Rattle.seat_log.specs.mv_core.Passes.{view, config_of}
use Rattle.commit_abort.specs.Finishes.{IsFinishing}
use Rattle.seat_log.proofs.OwnSlots.{same_on, of_still}
use Rattle.commit_abort.proofs.FinishParts.{first_cost, next_cost, last_cost}
use Rattle.commit_abort.proofs.finishing.finish.Goals as goal

pub returns-clause-finishes : goal.returns-clause-finishes
returns-clause-finishes g c =
    let held = c.held-which-end.ensures.held in
    let most = c.loop-which.auto.which-end in
    let last = c.loop-which-test.false in
    let all : c.loop-which.which ≡ c.args.log.now.held = omega arith in
    c.finish_end.ensures.finishes (view c.args.pass.now)
    (subst (IsFinishing (config_of c.args.shared.now) (view c.args.pass.now) (view c.loop-which.pass) c.args.log.now c.args.time) all
    c.loop-which.invariant.finishing)

pub loop-which-init : goal.loop-which-init
loop-which-init g c =
    record {
      of = of_still c.args.shared.now c.args.pass.now c.finish_start.new.pass c.finish_start.ensures.same c.requires.of;
      same = c.finish_start.ensures.same;
      finishing = c.finish_start.ensures.finishing;
      cost = first_cost _ _ c.finish_start.ensures.step;
    }

pub finish_step-requires-clause-of : goal.finish_step-requires-clause-of
finish_step-requires-clause-of g c = c.loop-which.invariant.of

pub finish_step-requires-clause-finishing : goal.finish_step-requires-clause-finishing
finish_step-requires-clause-finishing g c = (view c.args.pass.now, c.loop-which.invariant.finishing)

pub loop-which-preserved : goal.loop-which-preserved
loop-which-preserved g c =
    record {
      of = of_still c.args.shared.now c.loop-which.pass c.finish_step.new.pass c.finish_step.ensures.same c.loop-which.invariant.of;
      same = same_on c.args.pass.now c.loop-which.pass c.finish_step.new.pass c.loop-which.invariant.same c.finish_step.ensures.same;
      finishing = c.finish_step.ensures.finishing (view c.args.pass.now) c.loop-which.invariant.finishing;
      cost = next_cost _ _ _ c.loop-which.which c.loop-which.invariant.cost c.finish_step.ensures.cost;
    }

pub finish_end-requires-clause-of : goal.finish_end-requires-clause-of
finish_end-requires-clause-of g c = c.loop-which.invariant.of

pub finish_end-requires-clause-finishing : goal.finish_end-requires-clause-finishing
finish_end-requires-clause-finishing g c =
    let held = c.held-which-end.ensures.held in
    let most = c.loop-which.auto.which-end in
    let last = c.loop-which-test.false in
    let all : c.loop-which.which ≡ c.args.log.now.held = omega arith in (
      view c.args.pass.now,
      subst (IsFinishing (config_of c.args.shared.now) (view c.args.pass.now) (view c.loop-which.pass) c.args.log.now c.args.time) all
          c.loop-which.invariant.finishing,
    )

pub returns-clause-same : goal.returns-clause-same
returns-clause-same g c = same_on c.args.pass.now c.loop-which.pass c.finish_end.new.pass c.loop-which.invariant.same c.finish_end.ensures.same

pub returns-clause-cost : goal.returns-clause-cost
returns-clause-cost g c =
    let held = c.held-which-end.ensures.held in
    let most = c.loop-which.auto.which-end in
    let last = c.loop-which-test.false in
    let all : c.loop-which.which ≡ c.args.log.now.held = omega arith in
    last_cost _ c.loop-which.steps _ c.loop-which.which _ c.loop-which.invariant.cost c.finish_end.ensures.step all
