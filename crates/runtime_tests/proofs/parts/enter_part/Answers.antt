use Rattle.seat_log.proofs.OwnSlots.{of_still}
use Rattle.runtime_tests.proofs.Marked.{marked, taken, helped}
use Rattle.runtime_tests.proofs.Rested.{clock_helped}
use Rattle.runtime_tests.proofs.Stages.{at_lowered, at_marked, at_taken, at_loaded}
use Rattle.runtime_tests.proofs.parts.enter_part.Goals as goal

pub returns-in-Lowered-StoreMark : goal.returns-in-Lowered-StoreMark
returns-in-Lowered-StoreMark g c =
    let h = at_lowered c.args.shared.now c.args.client.now c.requires.ready _ c.in-Lowered-StoreMark.is-0 in
    let e = c.enter_mark.ensures in
    record {
      ready = (of_still c.args.shared.now c.args.client.now.pass c.enter_mark.new.pass e.same c.requires.ready.0, marked _ _ _ _ _ h e.view);
    }

pub returns-in-Marked-LoadTime : goal.returns-in-Marked-LoadTime
returns-in-Marked-LoadTime g c =
    let m = at_marked c.args.shared.now c.args.client.now c.requires.ready c.in-Marked-LoadTime.is-0 in
    let e = c.enter_time-word.ensures in
    record {
      ready = (
        of_still c.args.shared.now c.args.client.now.pass c.enter_time-word.new.pass e.same c.requires.ready.0,
        taken _ _ _ _ _ e.view.0 m e.view.2 e.loaded,
      );
    }

pub returns-in-Taken-Help : goal.returns-in-Taken-Help
returns-in-Taken-Help g c =
    let t = at_taken c.args.shared.now c.args.client.now c.requires.ready _ c.in-Taken-Help.is-0 in
    let e = c.help.ensures in
    record { ready = (of_still c.args.shared.now c.args.client.now.pass c.help.new.pass e.same c.requires.ready.0, helped _ _ _ _ _ t e.helps) }

pub returns-in-Loaded-Help : goal.returns-in-Loaded-Help
returns-in-Loaded-Help g c =
    let k = at_loaded c.args.shared.now c.args.client.now c.requires.ready _ c.in-Loaded-Help.is-0 in
    let e = c.help-in-Loaded-Help.ensures in
    record {
      ready = (of_still c.args.shared.now c.args.client.now.pass c.help-in-Loaded-Help.new.pass e.same c.requires.ready.0, clock_helped _ _ _ _ _ k e.helps);
    }
