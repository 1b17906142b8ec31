use Rattle.std.proofs.Common.{rules, ◌-◌, arith}
use Rattle.seat_log.specs.mv_core.Passes.{view, config_of}
use Rattle.commit_abort.proofs.Finished.{first_is, may_stamp}
use Rattle.commit_abort.proofs.FinishParts.{finish_begins}
use Rattle.commit_abort.proofs.finishing.finish_start.Goals as goal

pub stamp_own-requires : goal.stamp_own-requires
stamp_own-requires g c κs within =
    let named = c.requires.named in
    let held = c.held.ensures.held in
    let all = c.live.ensures in
    let first = first_is (config_of c.args.shared.now) (view c.args.pass.now) c.args.log.now named.0 named.1 (c.live.result - c.held.result)
    c.note-first.result c.note-first.ensures (omega arith) in (
      search rules,
      (
        search rules,
        (
          search rules,
          may_stamp (config_of c.args.shared.now) (view c.args.pass.now) c.args.log.now named.0 named.1 c.args.time c.note-first.result.first named.2 first,
        ),
      ),
    )

pub returns-clause-finishing : goal.returns-clause-finishing
returns-clause-finishing g c =
    let named = c.requires.named in
    let held = c.held.ensures.held in
    let all = c.live.ensures in
    let first = first_is (config_of c.args.shared.now) (view c.args.pass.now) c.args.log.now named.0 named.1 (c.live.result - c.held.result)
    c.note-first.result c.note-first.ensures (omega arith) in
    finish_begins (config_of c.args.shared.now) (view c.args.pass.now) (view c.stamp_own.new.pass) c.args.log.now named.0 named.1 c.args.time
    c.note-first.result.first named.2 first c.stamp_own.ensures.stamps
