use Rattle.std.proofs.Common.{◌<◌, refl, sym, ap, ◌∙◌, arith}
use Rattle.seat_log.specs.mv_core.declared.view.Knowledge.{Knowledge}
use Rattle.mv_layout.specs.Words.{clock_time_of}
use Rattle.seat_log.specs.mv_core.Passes.{view, config_of}
use Rattle.seat_log.proofs.OwnSlots.{same_on, of_still}
use Rattle.commit_abort.proofs.Tried.{may_load, end_cost, at_end, stands_first, may_name, just_named}
use Rattle.commit_abort.proofs.TriedEnds.{committed, overtaken, stands_lost}
use Rattle.commit_abort.proofs.committing.commit.Goals as goal

pub returns-then-at_end-clause-ends : goal.returns-then-at_end-clause-ends
returns-then-at_end-clause-ends g c =
    let may = c.requires.1.1.1.0 in
    let v = c.now-word.ensures.view in
    at_end (config_of c.args.shared.now) (view c.args.pass.now) (view c.now-word.new.pass) c.now-word.result v.0 v.1 v.2 g.inside may.phase may.past_help
    (sym c.clock_time-time.ensures ∙ c.if-at_end.true)

pub returns-then-at_end-clause-stands :
    goal.returns-then-at_end-clause-stands
returns-then-at_end-clause-stands g c =
    let may = c.requires.1.1.1.0 in
    let v = c.now-word.ensures.view in
    stands_first (config_of c.args.shared.now) (view c.args.pass.now) (view c.now-word.new.pass) c.now-word.result v.0 v.1 v.2 g.inside may.phase
    may.past_help c.args.log.now c.requires.1.1.1.1.0

pub name-requires : goal.name-requires
name-requires g c κs within =
    let may = c.requires.1.1.1.0 in
    let v = c.now-word.ensures.view in
    let time = c.clock_time-time.ensures in
    let fits = c.now-word.type_inv in
    let room : clock_time_of c.now-word.result < 35184372088831 = (let ne = c.if-at_end.false in omega arith) in (
      within.0,
      (
        within.1,
        (
          of_still c.args.shared.now c.args.pass.now c.help.new.pass
              (same_on c.args.pass.now c.now-word.new.pass c.help.new.pass c.now-word.ensures.same c.help.ensures.same) c.requires.1.1.0,
          may_name (config_of c.args.shared.now) (view c.args.pass.now) (view c.now-word.new.pass) c.now-word.result v.0 v.1 v.2 g.inside may.phase
              may.past_help (view c.help.new.pass) c.help.ensures.helps may.open_is _ _ c.args.tag may c.now-word.ensures.loaded room c.args.pass.now.known
              c.requires.1.1.0.2,
        ),
      ),
    )

pub finish-requires-clause-named : goal.finish-requires-clause-named
finish-requires-clause-named g c =
    let may = c.requires.1.1.1.0 in
    let v = c.now-word.ensures.view in
    just_named (config_of c.args.shared.now) (view c.args.pass.now) (view c.now-word.new.pass) c.now-word.result v.0 v.1 v.2 g.inside may.phase may.past_help
    (view c.help.new.pass) c.help.ensures.helps may.open_is c.args.log.now c.args.tag (view c.name.new.pass) c.in-Done.time c.requires.1.1.1.1.0
    c.requires.1.1.1.1.1 may.some_held c.in-Done.ensures.log c.in-Done.ensures.names

pub returns-in-Done-clause-ends : goal.returns-in-Done-clause-ends
returns-in-Done-clause-ends g c =
    let may = c.requires.1.1.1.0 in
    let v = c.now-word.ensures.view in
    let n = c.in-Done.ensures.names in
    committed (config_of c.args.shared.now) (view c.args.pass.now) (view c.now-word.new.pass) c.now-word.result v.0 v.1 v.2 g.inside may.phase may.past_help
    (view c.help.new.pass) c.help.ensures.helps may.open_is c.args.tag (view c.name.new.pass) (view c.finish.new.pass) c.in-Done.time c.args.log.now.held
    n.1.0 n.0 n.1.1 n.1.2 c.finish.ensures.finishes c.requires.1.1.1.1.0.held

pub returns-in-Lost-clause-ends : goal.returns-in-Lost-clause-ends
returns-in-Lost-clause-ends g c =
    let may = c.requires.1.1.1.0 in
    let v = c.now-word.ensures.view in
    let n = c.in-Lost.ensures.names in
    overtaken (config_of c.args.shared.now) (view c.args.pass.now) (view c.now-word.new.pass) c.now-word.result v.0 v.1 v.2 g.inside may.phase may.past_help
    (view c.help.new.pass) c.help.ensures.helps may.open_is (view c.name.new.pass) n.0 n.1 c.in-Lost.rival n.2 n.3 _ _ c.now-word.new.pass.known
    c.name.new.pass.known

pub returns-in-Lost-clause-stands : goal.returns-in-Lost-clause-stands
returns-in-Lost-clause-stands g c =
    let may = c.requires.1.1.1.0 in
    let v = c.now-word.ensures.view in
    let n = c.in-Lost.ensures.names in
    stands_lost (config_of c.args.shared.now) (view c.args.pass.now) (view c.now-word.new.pass) c.now-word.result v.0 v.1 v.2 g.inside may.phase may.past_help
    (view c.help.new.pass) c.help.ensures.helps may.open_is (view c.name.new.pass) n.0 n.1 c.in-Lost.rival n.2 n.3 c.args.log.now c.requires.1.1.1.1.0

pub now-word-requires-clause-of : goal.now-word-requires-clause-of
now-word-requires-clause-of g c = c.requires.1.1.0

pub now-word-requires-clause-may : goal.now-word-requires-clause-may
now-word-requires-clause-may g c = may_load (view c.args.pass.now) g.inside c.requires.1.1.1.0.phase

pub returns-then-at_end-clause-same : goal.returns-then-at_end-clause-same
returns-then-at_end-clause-same g c = c.now-word.ensures.same

pub returns-then-at_end-clause-log : goal.returns-then-at_end-clause-log
returns-then-at_end-clause-log g c = refl

pub returns-then-at_end-clause-cost : goal.returns-then-at_end-clause-cost
returns-then-at_end-clause-cost g c = end_cost c.args.steps.now c.now-word.new.steps c.args.log.now.held c.now-word.ensures.step

pub help-requires-clause-of : goal.help-requires-clause-of
help-requires-clause-of g c = of_still c.args.shared.now c.args.pass.now c.now-word.new.pass c.now-word.ensures.same c.requires.1.1.0

pub help-requires-clause-may : goal.help-requires-clause-may
help-requires-clause-may g c =
    may_load (view c.now-word.new.pass) g.inside (ap (λ (u : Knowledge). u.phase) c.now-word.ensures.view.2 ∙ c.requires.1.1.1.0.phase)

pub help-requires-clause-loaded : goal.help-requires-clause-loaded
help-requires-clause-loaded g c = c.now-word.ensures.loaded
