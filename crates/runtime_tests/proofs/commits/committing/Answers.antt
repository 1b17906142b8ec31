use Rattle.std.proofs.Common.{arith, [], ◌∷◌, ap, ◌∙◌}
use Rattle.seat_log.proofs.OwnSlots.{of_still}
use Rattle.runtime_tests.specs.declared.clients.Stage.TheVariants.{Inside}
use Rattle.runtime_tests.proofs.NamedOnes.{just_named, name_lost}
use Rattle.runtime_tests.proofs.Stages.{at_inside}
use Rattle.runtime_tests.proofs.commits.committing.Goals as goal

pub returns-in-Done : goal.returns-in-Done
returns-in-Done g c =
    let i = at_inside c.args.shared.now c.args.client.now c.requires.ready _ (c.in-Inside.is ∙ ap Inside c.in-Name-Some.is-1) in
    let e = c.in-Done.ensures in
    record {
      ready = (
        of_still c.args.shared.now c.args.client.now.pass c.name.new.pass e.same c.requires.ready.0,
        just_named _ _ _ _ _ c.in-Done.time (1 ∷ 2 ∷ 3 ∷ 4 ∷ []) i (let h = c.held.ensures.held in let some = c.if-held-eq0.false in omega arith)
            (let t = c.clock_time.ensures in let lt = c.if-clock_time-lt-LAST.true in omega arith) e.names e.log,
      );
    }

pub returns-in-Lost : goal.returns-in-Lost
returns-in-Lost g c =
    let i = at_inside c.args.shared.now c.args.client.now c.requires.ready _ (c.in-Inside.is ∙ ap Inside c.in-Name-Some.is-1) in
    let e = c.in-Lost.ensures in
    record {
      ready = (
        of_still c.args.shared.now c.args.client.now.pass c.name.new.pass e.same c.requires.ready.0,
        name_lost _ _ _ _ _ (1 ∷ 2 ∷ 3 ∷ 4 ∷ []) c.in-Lost.rival i e.names,
      );
    }
