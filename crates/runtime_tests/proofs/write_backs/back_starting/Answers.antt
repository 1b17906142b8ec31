use Rattle.std.proofs.Common.{rules, ap, arith}
use Rattle.mv_core.specs.Passes.{view, config_of}
use Rattle.log_reclaim.specs.declared.writing_back.StartedWriteBack.{StartedWriteBack}
use Rattle.runtime_tests.proofs.Marked.{scanned}
use Rattle.runtime_tests.proofs.Reclaimed.{may_start, back_started, back_not_started}
use Rattle.runtime_tests.proofs.Stages.{at_outside, still_outside}
use Rattle.runtime_tests.proofs.write_backs.back_starting.Goals as goal

pub back_start-requires : goal.back_start-requires
back_start-requires g c κs within =
    let config = config_of c.args.shared.now in
    let v = view c.args.client.now.pass in
    let w = view c.scan-mark.new.pass in
    let l = c.args.client.now.log in
    let s = c.scan-mark.ensures.scans in
    let o = scanned config v w l c.scan-mark.result s.0 _ _ (at_outside c.args.shared.now c.args.client.now c.requires.ready.0 c.in-Outside.is) s.1 in
    let some = c.if-version-eq0.false in (
      search rules,
      (
        search rules,
        (
          search rules,
          (
            o.may,
            (
              o.stands,
              (may_start config w l c.args.index c.note-version.result o.stands c.note-version.ensures (omega arith), c.scan-mark.ensures.known),
            ),
          ),
        ),
      ),
    )

pub returns-in-Ok : goal.returns-in-Ok
returns-in-Ok g c =
    let config = config_of c.args.shared.now in
    let v = view c.args.client.now.pass in
    let w = view c.scan-mark.new.pass in
    let l = c.args.client.now.log in
    let s = c.scan-mark.ensures.scans in
    let o = scanned config v w l c.scan-mark.result s.0 _ _ (at_outside c.args.shared.now c.args.client.now c.requires.ready.0 c.in-Outside.is) s.1 in
    let a = c.in-Ok.ensures.starts in
    record {
      ready = (
        (search rules, back_started config w (view c.back_start.new.pass) l _ _ c.in-Ok.back o a.1 a.2),
        (a.2, ap (λ (b : StartedWriteBack). b.stored) a.3),
      );
    }

pub returns-in-Err : goal.returns-in-Err
returns-in-Err g c =
    let config = config_of c.args.shared.now in
    let v = view c.args.client.now.pass in
    let w = view c.scan-mark.new.pass in
    let x = view c.back_start.new.pass in
    let l = c.args.client.now.log in
    let s = c.scan-mark.ensures.scans in
    let o = scanned config v w l c.scan-mark.result s.0 _ _ (at_outside c.args.shared.now c.args.client.now c.requires.ready.0 c.in-Outside.is) s.1 in
    record {
      ready = (
        (
          search rules,
          still_outside config x l c.args.client.now.stage c.in-Outside.is
              (back_not_started config w x l _ c.scan-mark.result _ _ c.in-Err.cause o c.in-Err.ensures.starts),
        ),
        tt,
      );
    }
