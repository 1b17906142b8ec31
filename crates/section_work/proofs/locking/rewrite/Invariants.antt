use Rattle.section_work.proofs.Terms.{take, state_of, objects_of, with_locks, HoldsMore, Rewritten}
use Rattle.section_work.proofs.locking.rewrite.Given as goal

abbrev pub invariant-loop-lock : goal.invariant-loop-lock
invariant-loop-lock g l =
    HoldsMore (g.S.Section.section l.fn.section) (g.S.Section.section l.section) (objects_of (take l.lock-index l.changes))
    (with_locks (state_of (g.S.Section.section l.fn.section)) (g.S.Section.section l.fn.section).own (objects_of (take l.lock-index l.changes)))

abbrev pub invariant-loop-change : goal.invariant-loop-change
invariant-loop-change g l =
    Rewritten (g.S.Section.section l.fn.section) (g.S.Section.section l.section) (objects_of l.changes) (take l.change-index l.changes)
