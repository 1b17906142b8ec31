use Rattle.seat_log.proofs.OwnSlots.{of_still}
use Rattle.seat_log.proofs.Rested.{rests_room}
use Rattle.runtime_tests.proofs.NamedOnes.{finished}
use Rattle.runtime_tests.proofs.Moved.{has_ended}
use Rattle.runtime_tests.proofs.Reclaimed.{back_given_up}
use Rattle.runtime_tests.proofs.Rested.{rested, rest_was_lost}
use Rattle.runtime_tests.proofs.Stages.{at_named, at_locking, at_writing_back, at_helped}
use Rattle.runtime_tests.proofs.parts.last_part.Goals as goal

pub finish-requires-clause-named : goal.finish-requires-clause-named
finish-requires-clause-named g c =
    let n = at_named c.args.shared.now c.args.client.now c.requires.ready _ c.in-Named-Finish.is-0 in
    (n.won, n.named, n.time_is)

pub returns-in-Named-Finish : goal.returns-in-Named-Finish
returns-in-Named-Finish g c =
    let n = at_named c.args.shared.now c.args.client.now c.requires.ready _ c.in-Named-Finish.is-0 in
    let e = c.finish.ensures in
    record {
      ready = (
        of_still c.args.shared.now c.args.client.now.pass c.finish.new.pass e.same c.requires.ready.0,
        finished _ _ _ _ _ _ _ n e.finishes e.log e.stands,
      );
    }

pub lock_end-requires-clause-started : goal.lock_end-requires-clause-started
lock_end-requires-clause-started g c =
    (at_locking c.args.shared.now c.args.client.now c.requires.ready _ c.in-Locking-LockEnd.is-0).started

pub returns-in-Locking-LockEnd : goal.returns-in-Locking-LockEnd
returns-in-Locking-LockEnd g c =
    let k = at_locking c.args.shared.now c.args.client.now c.requires.ready _ c.in-Locking-LockEnd.is-0 in
    let e = c.lock_end.ensures in
    record {
      ready = (
        of_still c.args.shared.now c.args.client.now.pass c.lock_end.new.pass e.same c.requires.ready.0,
        has_ended _ _ _ _ _ _ _ _ _ _ k e.outcome.1,
      );
    }

pub returns-in-WritingBack-Leave : goal.returns-in-WritingBack-Leave
returns-in-WritingBack-Leave g c =
    let k = at_writing_back c.args.shared.now c.args.client.now c.requires.ready c.in-WritingBack-Leave.is-0 in
    let e = c.leave.ensures in
    record { ready = (of_still c.args.shared.now c.args.client.now.pass c.leave.new.pass e.same c.requires.ready.0, back_given_up _ _ _ _ k e.view) }

pub note_rest-requires : goal.note_rest-requires
note_rest-requires g c =
    let k = at_helped c.args.shared.now c.args.client.now c.requires.ready _ c.in-Helped-Rest.is-0 in
    rests_room _ _ _ _ _ k.outside.stands c.args.client.now.pass.known

pub returns-in-Done : goal.returns-in-Done
returns-in-Done g c =
    let k = at_helped c.args.shared.now c.args.client.now c.requires.ready _ c.in-Helped-Rest.is-0 in
    let room = rests_room _ _ _ _ _ k.outside.stands c.args.client.now.pass.known in
    let e = c.in-Done.ensures in
    record {
      ready = (
        of_still c.args.shared.now c.args.client.now.pass c.rest.new.pass e.same c.requires.ready.0,
        rested _ _ _ _ _ _ c.in-Done.time k e.names room c.note_rest.ensures,
      );
    }

pub returns-in-Lost : goal.returns-in-Lost
returns-in-Lost g c =
    let k = at_helped c.args.shared.now c.args.client.now c.requires.ready _ c.in-Helped-Rest.is-0 in
    let e = c.in-Lost.ensures in
    record {
      ready = (
        of_still c.args.shared.now c.args.client.now.pass c.rest.new.pass e.same c.requires.ready.0,
        rest_was_lost _ _ _ _ _ c.in-Lost.rival k e.names,
      );
    }
