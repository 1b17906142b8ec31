use Rattle.std.proofs.Common.{◌≡◌, subst, arith}
use Rattle.seat_log.specs.mv_core.Passes.{view, config_of}
use Rattle.commit_abort.specs.Aborts.{IsAborting}
use Rattle.seat_log.proofs.OwnSlots.{same_none, same_on, of_still}
use Rattle.commit_abort.proofs.AbortParts.{abort_begins, none_cost, given_cost, last_cost}
use Rattle.commit_abort.proofs.aborting.abort.Goals as goal

pub returns-clause-aborts : goal.returns-clause-aborts
returns-clause-aborts g c =
    let held = c.held-which-end.ensures.held in
    let most = c.loop-which.auto.which-end in
    let last = c.loop-which-test.false in
    let all : c.loop-which.which ≡ c.args.log.now.held = omega arith in
    let given =
    subst (IsAborting (config_of c.args.shared.now) (view c.args.pass.now) (view c.loop-which.pass) c.args.log.now) all c.loop-which.invariant.aborting in
    c.abort_end.ensures.aborts (view c.args.pass.now)
    (record {
      before = view c.loop-which.pass;
      aborting = given;
      at_first = c.loop-which.steps;
      at_last = c.abort_death-dead.new.steps;
      death = c.abort_death-dead.ensures.death;
    })

pub abort_step-requires-clause-of : goal.abort_step-requires-clause-of
abort_step-requires-clause-of g c = c.loop-which.invariant.of

pub abort_step-requires-clause-aborting : goal.abort_step-requires-clause-aborting
abort_step-requires-clause-aborting g c = (view c.args.pass.now, c.loop-which.invariant.aborting)

pub loop-which-preserved : goal.loop-which-preserved
loop-which-preserved g c =
    record {
      of = of_still c.args.shared.now c.loop-which.pass c.abort_step.new.pass c.abort_step.ensures.same c.loop-which.invariant.of;
      same = same_on c.args.pass.now c.loop-which.pass c.abort_step.new.pass c.loop-which.invariant.same c.abort_step.ensures.same;
      aborting = c.abort_step.ensures.aborting (view c.args.pass.now) c.loop-which.invariant.aborting;
      cost = given_cost _ _ _ c.loop-which.which c.loop-which.invariant.cost c.abort_step.ensures.step;
    }

pub abort_death-dead-requires-clause-of : goal.abort_death-dead-requires-clause-of
abort_death-dead-requires-clause-of g c = c.loop-which.invariant.of

pub abort_death-dead-requires-clause-aborting : goal.abort_death-dead-requires-clause-aborting
abort_death-dead-requires-clause-aborting g c =
    let held = c.held-which-end.ensures.held in
    let most = c.loop-which.auto.which-end in
    let last = c.loop-which-test.false in
    let all : c.loop-which.which ≡ c.args.log.now.held = omega arith in (
      view c.args.pass.now,
      subst (IsAborting (config_of c.args.shared.now) (view c.args.pass.now) (view c.loop-which.pass) c.args.log.now) all
          c.loop-which.invariant.aborting,
    )

pub abort_end-requires-clause-of : goal.abort_end-requires-clause-of
abort_end-requires-clause-of g c =
    of_still c.args.shared.now c.loop-which.pass c.abort_death-dead.new.pass c.abort_death-dead.ensures.same c.loop-which.invariant.of

pub abort_end-requires-clause-given_up : goal.abort_end-requires-clause-given_up
abort_end-requires-clause-given_up g c =
    let held = c.held-which-end.ensures.held in
    let most = c.loop-which.auto.which-end in
    let last = c.loop-which-test.false in
    let all : c.loop-which.which ≡ c.args.log.now.held = omega arith in
    let given = subst (IsAborting (config_of c.args.shared.now) (view c.args.pass.now) (view c.loop-which.pass) c.args.log.now) all
    c.loop-which.invariant.aborting in (
      view c.args.pass.now,
      record {
        before = view c.loop-which.pass;
        aborting = given;
        at_first = c.loop-which.steps;
        at_last = c.abort_death-dead.new.steps;
        death = c.abort_death-dead.ensures.death;
      },
    )

pub returns-clause-same : goal.returns-clause-same
returns-clause-same g c =
    same_on c.args.pass.now c.abort_death-dead.new.pass c.abort_end.new.pass
    (same_on c.args.pass.now c.loop-which.pass c.abort_death-dead.new.pass c.loop-which.invariant.same c.abort_death-dead.ensures.same)
    c.abort_end.ensures.same

pub loop-which-init : goal.loop-which-init
loop-which-init g c =
    record {
      of = c.requires.1.1.0;
      same = same_none c.args.pass.now;
      aborting = abort_begins (config_of c.args.shared.now) (view c.args.pass.now) c.args.log.now g.inside c.requires.1.1.1.0
          c.requires.1.1.1.1.0 c.requires.1.1.1.1.1;
      cost = none_cost c.args.steps.now;
    }

pub abort_step-requires-clause-range : goal.abort_step-requires-clause-range
abort_step-requires-clause-range g c =
    let held = c.held-which-end.ensures.held in
    let more = c.loop-which-test.true in
    omega arith

pub returns-clause-log : goal.returns-clause-log
returns-clause-log g c = (c.abort_death-dead.result, c.abort_end.ensures.log)

pub returns-clause-stands : goal.returns-clause-stands
returns-clause-stands g c = c.abort_end.ensures.stands

pub returns-clause-cost : goal.returns-clause-cost
returns-clause-cost g c =
    let held = c.held-which-end.ensures.held in
    let most = c.loop-which.auto.which-end in
    let last = c.loop-which-test.false in
    let all : c.loop-which.which ≡ c.args.log.now.held = omega arith in
    last_cost (config_of c.args.shared.now) (view c.loop-which.pass) (view c.abort_death-dead.new.pass) c.args.log.now.held c.abort_death-dead.result
    c.args.steps.now c.loop-which.steps c.abort_death-dead.new.steps c.abort_end.new.steps c.loop-which.which all c.loop-which.invariant.cost
    c.abort_death-dead.ensures.death c.abort_end.ensures.step
