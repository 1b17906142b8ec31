use Rattle.section_work.proofs.Terms.{Writes, state_of, objects_of, with_locks, HoldsMore, Rewritten}
use Rattle.section_work.proofs.Holding.{holds_nothing, IfErr-told, writing_none, place_within, place_room, place_refused, place_held, place_touches}
use Rattle.section_work.proofs.Holding.{place_written, all_taken}
use Rattle.section_work.proofs.locking.rewrite.Goals as goal

pub loop-lock-init : goal.loop-lock-init
loop-lock-init g c = holds_nothing _

pub hold-requires : goal.hold-requires
hold-requires g c = record {
  in_range = place_within _ _ _ _ _ c.loop-lock-test.true c.requires.distinct c.loop-lock.invariant c.requires.within;
  room = place_room _ _ _ _ _ c.loop-lock-test.true c.requires.distinct c.loop-lock.invariant c.requires.room;
}

pub returns-in_err-hold-clause-refused : goal.returns-in_err-hold-clause-refused
returns-in_err-hold-clause-refused g c =
    IfErr-told _ _ _ c.from_residual.ensures.1
    (place_refused _ _ _ _ _ c.loop-lock-test.true c.requires.distinct c.loop-lock.invariant _ _ _ _ (g.met.S.Section.lawful _).at
    c.in_err-hold.ensures.refused)

pub loop-lock-preserved : goal.loop-lock-preserved
loop-lock-preserved g c = place_held _ _ _ _ _ c.loop-lock-test.true c.requires.distinct c.loop-lock.invariant _ c.in_ok-hold.ensures.held

pub loop-change-init : goal.loop-change-init
loop-change-init g c =
    writing_none _ _ _
    (all_taken (λ (u : Writes). HoldsMore (g.S.Section.section c.args.section.now) (g.S.Section.section c.loop-lock.section) (objects_of u)
    (with_locks (state_of (g.S.Section.section c.args.section.now)) (g.S.Section.section c.args.section.now).own (objects_of u))) _ _ c.loop-lock-test.false
    c.loop-lock.invariant)

pub write-requires : goal.write-requires
write-requires g c = place_touches _ _ _ _ _ c.loop-change-test.true c.loop-change.invariant

pub loop-change-preserved : goal.loop-change-preserved
loop-change-preserved g c =
    place_written _ _ _ _ _ c.loop-change-test.true c.loop-change.invariant _ (g.met.S.Section.lawful _).at (g.met.S.Section.lawful _).distinct
    c.write.ensures.goes_on c.write.ensures.rewrites

pub returns-clause-written : goal.returns-clause-written
returns-clause-written g c =
    all_taken (λ (u : Writes). Rewritten (g.S.Section.section c.args.section.now) (g.S.Section.section c.loop-change.section) (objects_of c.args.changes.now) u)
    _ _ c.loop-change-test.false c.loop-change.invariant
