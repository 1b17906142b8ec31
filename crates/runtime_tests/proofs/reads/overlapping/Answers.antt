use Rattle.mv_core.specs.Passes.{view, config_of}
use Rattle.seat_log.proofs.OwnSlots.{of_still}
use Rattle.runtime_tests.proofs.Begun.{may_walk}
use Rattle.runtime_tests.proofs.ReadSections.{open_after}
use Rattle.runtime_tests.proofs.reads.overlapping.Goals as goal

pub read_by_find-words-requires-clause-of : goal.read_by_find-words-requires-clause-of
read_by_find-words-requires-clause-of g c = of_still c.args.shared.now c.args.one.now c.enter-time.new.pass c.enter-time.ensures.same c.requires.one.0

pub read_by_find-words-requires-clause-may : goal.read_by_find-words-requires-clause-may
read_by_find-words-requires-clause-may g c = may_walk (config_of c.args.shared.now) _ _ _ c.enter-time.ensures.begins

pub leave-requires-clause-of : goal.leave-requires-clause-of
leave-requires-clause-of g c =
    of_still c.args.shared.now c.enter-time.new.pass c.read_by_find-words.new.pass c.read_by_find-words.ensures.same
    (of_still c.args.shared.now c.args.one.now c.enter-time.new.pass c.enter-time.ensures.same c.requires.one.0)

pub leave-requires-clause-open : goal.leave-requires-clause-open
leave-requires-clause-open g c =
    open_after (config_of c.args.shared.now) (view c.args.one.now) (view c.enter-time.new.pass) (view c.read_by_find-words.new.pass) _
    c.enter-time.ensures.begins c.read_by_find-words.ensures.keeps
