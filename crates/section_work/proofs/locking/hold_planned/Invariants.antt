use Rattle.section_work.proofs.Terms.{take, objects_of, HoldsMore}
use Rattle.section_work.proofs.locking.hold_planned.Given as goal

abbrev pub invariant-loop-change : goal.invariant-loop-change
invariant-loop-change g l =
    HoldsMore (g.S.Section.section l.fn.section) (g.S.Section.section l.section) (objects_of (take l.change-index l.changes))
    (take l.change-index l.changes)
