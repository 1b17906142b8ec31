use Rattle.section_work.proofs.Terms.{◌∙◌, take_all}
use Rattle.section_work.proofs.Holding.{IfErr-told}
use Rattle.section_work.proofs.Planned.{planned_none, planned_lacks, planned_within, planned_room, planned_refused, planned_held, planned_all}
use Rattle.section_work.proofs.locking.hold_planned.Goals as goal

pub loop-change-init : goal.loop-change-init
loop-change-init g c = planned_none _ c.requires.space.own

pub hold_with-requires : goal.hold_with-requires
hold_with-requires g c = record {
  in_range = planned_within _ _ _ _ _ c.loop-change-test.true c.requires.distinct c.requires.space c.loop-change.invariant c.requires.within;
  room = planned_room _ _ _ _ _ c.loop-change-test.true c.requires.distinct c.requires.space c.loop-change.invariant;
  lacks = planned_lacks _ _ _ _ _ c.loop-change-test.true c.requires.distinct c.requires.space c.loop-change.invariant;
}

pub returns-in_err-hold_with-clause-refused : goal.returns-in_err-hold_with-clause-refused
returns-in_err-hold_with-clause-refused g c =
    IfErr-told _ _ _ c.from_residual.ensures.1
    (planned_refused _ _ _ _ _ c.loop-change-test.true c.requires.distinct c.requires.space c.loop-change.invariant _ _ _ _
    c.in_err-hold_with.ensures.refused)

pub loop-change-preserved : goal.loop-change-preserved
loop-change-preserved g c =
    planned_held _ _ _ _ _ c.loop-change-test.true c.requires.distinct c.requires.space c.loop-change.invariant _ (g.met.S.Section.lawful _).at
    c.in_ok-hold_with.ensures.goes_on c.in_ok-hold_with.ensures.held

pub returns-clause-held : goal.returns-clause-held
returns-clause-held g c = planned_all _ _ _ _ c.loop-change-test.false c.requires.distinct c.requires.space.own c.loop-change.invariant

pub returns-clause-own : goal.returns-clause-own
returns-clause-own g c = c.loop-change.invariant.own ∙ take_all _ _ c.loop-change-test.false
