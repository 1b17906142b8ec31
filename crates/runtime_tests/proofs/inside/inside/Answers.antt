use Rattle.seat_log.proofs.OwnSlots.{of_still}
use Rattle.object_lock.proofs.Locked.{noted_is}
use Rattle.runtime_tests.proofs.Moved.{walked, loaded, left}
use Rattle.runtime_tests.proofs.Stages.{at_inside, in_stage}
use Rattle.runtime_tests.proofs.inside.inside.Goals as goal

pub read_found-requires-clause-ready : goal.read_found-requires-clause-ready
read_found-requires-clause-ready g c =
    let i = at_inside c.args.shared.now c.args.client.now c.requires.ready _ c.in-Inside.is in
    let e = c.find-found.ensures in (
      of_still c.args.shared.now c.args.client.now.pass c.find-found.new.pass e.same c.requires.ready.0,
      in_stage _ _ _ _ _ c.in-Inside.is (walked _ _ _ _ _ _ _ i e.walks e.may),
    )

pub write-requires-clause-held : goal.write-requires-clause-held
write-requires-clause-held g c =
    let i = at_inside c.args.shared.now c.args.client.now c.requires.ready _ c.in-Inside.is in
    noted_is _ _ _ c.in-Write.object i.stands (c.holds.ensures.yes c.if-holds.true)

pub returns-in-Now : goal.returns-in-Now
returns-in-Now g c =
    let i = at_inside c.args.shared.now c.args.client.now c.requires.ready _ c.in-Inside.is in
    let n = c.now-word.ensures in
    let h = c.help.ensures in
    record {
      ready = (
        of_still c.args.shared.now c.now-word.new.pass c.help.new.pass h.same
            (of_still c.args.shared.now c.args.client.now.pass c.now-word.new.pass n.same c.requires.ready.0),
        loaded _ _ _ _ _ _ _ n.view.0 i n.view.1 n.view.2 n.loaded h.helps,
      );
    }

pub returns-in-Leave : goal.returns-in-Leave
returns-in-Leave g c =
    let i = at_inside c.args.shared.now c.args.client.now c.requires.ready _ c.in-Inside.is in
    let e = c.leave.ensures in
    record { ready = (of_still c.args.shared.now c.args.client.now.pass c.leave.new.pass e.same c.requires.ready.0, left _ _ _ _ _ i e.view) }
