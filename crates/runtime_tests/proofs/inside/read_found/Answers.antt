use Rattle.std.proofs.Common.{refl}
use Rattle.mv_history.specs.declared.StepKind.TheVariants.{LoadData, LoadMaster}
use Rattle.seat_log.proofs.OwnSlots.{of_still}
use Rattle.runtime_tests.proofs.Moved.{has_read}
use Rattle.runtime_tests.proofs.Stages.{at_inside, in_stage}
use Rattle.runtime_tests.proofs.inside.read_found.Goals as goal

pub returns-in-None-clause-ready : goal.returns-in-None-clause-ready
returns-in-None-clause-ready g c =
    let i = at_inside c.args.shared.now c.args.client.now c.requires.ready _ c.in-Inside.is in
    let e = c.read_master.ensures in (
      of_still c.args.shared.now c.args.client.now.pass c.read_master.new.pass e.same c.requires.ready.0,
      in_stage _ _ _ _ _ c.in-Inside.is (has_read _ LoadMaster (refl, refl) _ _ _ _ i e.reads e.may),
    )

pub returns-in-Some-clause-ready : goal.returns-in-Some-clause-ready
returns-in-Some-clause-ready g c =
    let i = at_inside c.args.shared.now c.args.client.now c.requires.ready _ c.in-Inside.is in
    let e = c.read_version.ensures in (
      of_still c.args.shared.now c.args.client.now.pass c.read_version.new.pass e.same c.requires.ready.0,
      in_stage _ _ _ _ _ c.in-Inside.is (has_read _ LoadData (refl, refl) _ _ _ _ i e.reads e.may),
    )
