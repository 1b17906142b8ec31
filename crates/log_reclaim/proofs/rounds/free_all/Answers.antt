use Rattle.std.proofs.Common.{rules, [], arith}
use Rattle.seat_log.specs.mv_core.Passes.{view, config_of}
use Rattle.log_reclaim.proofs.Idle.{still_of}
use Rattle.log_reclaim.proofs.FreedAll.{frees_none, frees_more, frees_end}
use Rattle.log_reclaim.proofs.rounds.free_all.Goals as goal

pub sets-init : goal.sets-init
sets-init g c = record {
  of = c.requires.of;
  same = search rules;
  stands = c.requires.stands;
  frees = (
    [],
    frees_none (view c.args.pass.now) c.args.log.now c.requires.may (still_of _ _ (view c.args.pass.now) c.args.pass.now.known c.requires.may.outside),
  );
  step = omega arith;
}

pub returns-then-count-eq0-clause-frees : goal.returns-then-count-eq0-clause-frees
returns-then-count-eq0-clause-frees g c =
    let k = c.sets.invariant.frees in
    let f = c.free_oldest-count.ensures in
    frees_end (config_of c.args.shared.now) (view c.args.pass.now) (view c.sets.pass) c.args.log.now c.sets.log k.0 c.sets.freed c.args.mark.now.time
    c.free_oldest-count.result k.1 c.sets.invariant.stands.log f.frees c.if-count-eq0.true (view c.free_oldest-count.new.pass)
    c.free_oldest-count.new.log f.view
    f.log

pub sets-preserved : goal.sets-preserved
sets-preserved g c =
    let k = c.sets.invariant.frees in
    let f = c.free_oldest-count.ensures in
    let step = f.step in
    let so_far = c.sets.invariant.step in record {
      of = search rules;
      same = search rules;
      stands = f.stands;
      frees = frees_more (config_of c.args.shared.now) (view c.args.pass.now) (view c.sets.pass) c.args.log.now c.sets.log k.0 c.sets.freed k.1
          c.args.mark.now.time c.free_oldest-count.result f.frees (view c.free_oldest-count.new.pass) c.free_oldest-count.new.log f.view f.log;
      step = omega arith;
    }
