use Rattle.seat_log.proofs.OwnSlots.{of_still}
use Rattle.runtime_tests.proofs.Marked.{lowered, scanned, known}
use Rattle.runtime_tests.proofs.Moved.{entered}
use Rattle.runtime_tests.proofs.Rested.{clock_taken}
use Rattle.runtime_tests.proofs.Stages.{at_outside, still_outside}
use Rattle.runtime_tests.proofs.outside.outside.Goals as goal

pub returns-in-Enter : goal.returns-in-Enter
returns-in-Enter g c =
    let o = at_outside c.args.shared.now c.args.client.now c.requires.ready c.in-Outside.is in
    let e = c.enter-time.ensures in
    record { ready = (of_still c.args.shared.now c.args.client.now.pass c.enter-time.new.pass e.same c.requires.ready.0, entered _ _ _ _ _ o e.begins) }

pub returns-in-LoadLow : goal.returns-in-LoadLow
returns-in-LoadLow g c =
    let o = at_outside c.args.shared.now c.args.client.now c.requires.ready c.in-Outside.is in
    let e = c.enter_low-low.ensures in
    record {
      ready = (
        of_still c.args.shared.now c.args.client.now.pass c.enter_low-low.new.pass e.same c.requires.ready.0,
        lowered _ _ _ _ e.view.0 _ o e.view.2 e.view.1,
      );
    }

pub returns-in-Now : goal.returns-in-Now
returns-in-Now g c =
    let o = at_outside c.args.shared.now c.args.client.now c.requires.ready c.in-Outside.is in
    let e = c.now-word.ensures in
    record {
      ready = (
        of_still c.args.shared.now c.args.client.now.pass c.now-word.new.pass e.same c.requires.ready.0,
        clock_taken _ _ _ _ _ e.view.0 o e.view.2 e.loaded,
      );
    }

pub returns-in-Scan : goal.returns-in-Scan
returns-in-Scan g c =
    let o = at_outside c.args.shared.now c.args.client.now c.requires.ready c.in-Outside.is in
    let e = c.scan.ensures in
    record {
      ready = (
        of_still c.args.shared.now c.args.client.now.pass c.scan.new.pass e.same c.requires.ready.0,
        still_outside _ _ _ _ c.in-Outside.is (scanned _ _ _ _ _ e.scans.0 _ _ o e.scans.1),
      );
    }

pub returns-in-Known : goal.returns-in-Known
returns-in-Known g c =
    let o = at_outside c.args.shared.now c.args.client.now c.requires.ready c.in-Outside.is in
    let e = c.known.ensures in
    record {
      ready = (
        of_still c.args.shared.now c.args.client.now.pass c.known.new.pass e.same c.requires.ready.0,
        still_outside _ _ _ _ c.in-Outside.is (known _ _ _ _ c.known.result.time o e.view),
      );
    }
