use Rattle.std.proofs.Common.{rules, ◌+◌, max, refl, sym, subst, arith, ◌++◌, []}
use Rattle.seat_log.specs.mv_core.Passes.{view, config_of}
use Rattle.seat_log.proofs.commit_clock_lemmas.Hearing.{hears_none, hears_on, hears_more}
use Rattle.log_reclaim.specs.Sweeps.{Settles}
use Rattle.log_reclaim.proofs.looks.EachLook.{settles_first, settles_next, settles_may, settles_table}
use Rattle.log_reclaim.proofs.settling.settle_all.Goals as goal

pub loop-index-init : goal.loop-index-init
loop-index-init g c =
    let r = c.requires in
    record {
      of = r.of;
      same = search rules;
      stands = r.stands;
      hears = hears_none _ _ c.args.clock refl;
      settles = (
        [],
        settles_first _ _ (config_of c.args.shared.now) (view c.args.pass.now) c.args.log.now c.args.mark.now c.args.clock c.args.back
            c.args.found.now c.args.pass.now.known r.may r.table,
      );
      cost = omega arith;
      trail = omega arith;
    }

pub settle-time-requires-clause-may : goal.settle-time-requires-clause-may
settle-time-requires-clause-may g c =
    let s = c.loop-index.invariant.settles in (
      c.args.clock,
      settles_may (config_of c.args.shared.now) (view c.args.pass.now) (view c.loop-index.pass) c.args.log.now c.loop-index.log s.0
          c.args.mark.now c.args.clock c.args.back c.loop-index.found c.loop-index.top c.loop-index.index c.requires.may s.1,
    )

pub settle-time-requires-clause-table : goal.settle-time-requires-clause-table
settle-time-requires-clause-table g c =
    let s = c.loop-index.invariant.settles in
    settles_table (config_of c.args.shared.now) (view c.args.pass.now) (view c.loop-index.pass) c.args.log.now c.loop-index.log s.0 c.args.mark.now
    c.args.clock c.args.back c.loop-index.found c.loop-index.top c.loop-index.index s.1

pub loop-index-preserved : goal.loop-index-preserved
loop-index-preserved g c =
    let i = c.loop-index.invariant in
    let s = i.settles in
    let may = settles_may (config_of c.args.shared.now) (view c.args.pass.now) (view c.loop-index.pass) c.args.log.now c.loop-index.log s.0 c.args.mark.now
    c.args.clock c.args.back c.loop-index.found c.loop-index.top c.loop-index.index c.requires.may s.1 in
    let one = c.settle-time.ensures.settles c.args.clock may in
    let cost = c.settle-time.ensures.cost in
    let before = i.cost in
    let grown = c.settle-time.ensures.trail in
    let long = i.trail in
    let m = c.max-top.ensures in
    let next = settles_next (config_of c.args.shared.now) (view c.args.pass.now) (view c.loop-index.pass) (view c.settle-time.new.pass) c.args.log.now
    c.loop-index.log c.settle-time.new.log s.0 one.0 c.args.mark.now c.args.clock c.args.back c.loop-index.found c.settle-time.new.found c.loop-index.top
    c.settle-time.result c.loop-index.index c.requires.may c.settle-time.ensures.stands s.1 one.1 in
    record {
      of = search rules;
      same = search rules;
      stands = c.settle-time.ensures.stands;
      hears = hears_on (view c.args.pass.now) (view c.loop-index.pass) (view c.settle-time.new.pass) c.max-top.result
          (hears_more (view c.args.pass.now) (view c.loop-index.pass) c.loop-index.top c.max-top.result (omega arith) i.hears)
          (hears_more (view c.loop-index.pass) (view c.settle-time.new.pass) c.settle-time.result c.max-top.result (omega arith) c.settle-time.ensures.hears);
      settles = (
        s.0 ++ one.0,
        subst (λ t. Settles (config_of c.args.shared.now) (view c.args.pass.now) (view c.settle-time.new.pass) c.args.log.now c.settle-time.new.log
            (s.0 ++ one.0) c.args.mark.now c.args.clock c.args.back c.settle-time.new.found t (c.loop-index.index + 1))
            (sym {a = c.max-top.result} {b = max c.loop-index.top c.settle-time.result} m) next,
      );
      cost = omega arith;
      trail = omega arith;
    }
