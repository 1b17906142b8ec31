use Rattle.std.proofs.Common.{◌<◌, arith}
use Rattle.seat_log.specs.mv_core.Passes.{view, config_of}
use Rattle.log_reclaim.proofs.looks.Supers.{may_super, may_retire, super_stands, super_stands_none, loads_none, loads_some, empty_is}
use Rattle.log_reclaim.proofs.settling.load_super.Goals as goal

pub load_super-time-requires : goal.load_super-time-requires
load_super-time-requires g c κs within = (
  within.0,
  (
    within.1,
    (
      c.requires.1.1.0,
      may_super (config_of c.args.shared.now) (view c.args.pass.now) c.args.log.now c.args.position g.at c.requires.1.1.1.1.0
          c.requires.1.1.1.1.1,
    ),
  ),
)

pub returns-then-time-eq0-clause-stands : goal.returns-then-time-eq0-clause-stands
returns-then-time-eq0-clause-stands g c =
    let d = c.load_super-time in
    super_stands_none (config_of c.args.shared.now) (view c.args.pass.now) c.args.log.now c.args.position g.at c.requires.1.1.1.1.0 c.requires.1.1.1.1.1
    (view d.new.pass) d.result d.ensures.view c.if-time-eq0.true

pub returns-then-time-eq0-clause-loads : goal.returns-then-time-eq0-clause-loads
returns-then-time-eq0-clause-loads g c =
    let d = c.load_super-time in
    loads_none (config_of c.args.shared.now) (view c.args.pass.now) c.args.log.now c.args.position g.at c.requires.1.1.1.1.0 c.requires.1.1.1.1.1
    (view d.new.pass) d.result d.ensures.view _ _ c.args.pass.now.known c.requires.1.1.1.0 c.requires.1.1.0.2 d.ensures.sees c.if-time-eq0.true

pub returns-then-time-eq0-clause-empty : goal.returns-then-time-eq0-clause-empty
returns-then-time-eq0-clause-empty g c = λ e.
    let d = c.load_super-time in
    absurd (d.ensures.empty
    (empty_is (config_of c.args.shared.now) (view c.args.pass.now) c.args.log.now c.args.position g.at c.requires.1.1.1.1.0 c.requires.1.1.1.1.1
    (view d.new.pass) d.result d.ensures.view e) c.if-time-eq0.true)

pub retire-requires : goal.retire-requires
retire-requires g c = record {
  live = may_retire (config_of c.args.shared.now) (view c.args.pass.now) c.args.log.now c.args.position g.at c.requires.1.1.1.1.0 c.requires.1.1.1.1.1;
}

pub returns-clause-stands : goal.returns-clause-stands
returns-clause-stands g c =
    let d = c.load_super-time in
    let some_time : 0 < d.result = let ne = c.if-time-eq0.false in omega arith in
    super_stands (config_of c.args.shared.now) (view c.args.pass.now) c.args.log.now c.args.position g.at c.requires.1.1.1.1.0 c.requires.1.1.1.1.1
    (view d.new.pass) d.result d.ensures.view c.retire.new.log some_time c.retire.ensures

pub returns-clause-loads : goal.returns-clause-loads
returns-clause-loads g c =
    let d = c.load_super-time in
    let some_time : 0 < d.result = let ne = c.if-time-eq0.false in omega arith in
    loads_some (config_of c.args.shared.now) (view c.args.pass.now) c.args.log.now c.args.position g.at c.requires.1.1.1.1.0 c.requires.1.1.1.1.1
    (view d.new.pass) d.result d.ensures.view _ _ c.args.pass.now.known c.requires.1.1.1.0 c.requires.1.1.0.2 d.ensures.sees c.retire.new.log
    some_time c.retire.ensures
