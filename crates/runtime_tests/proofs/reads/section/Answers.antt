use Rattle.mv_core.specs.Passes.{view, config_of}
use Rattle.seat_log.proofs.OwnSlots.{of_still}
use Rattle.runtime_tests.proofs.Begun.{may_walk}
use Rattle.runtime_tests.proofs.Same.{same_twice}
use Rattle.runtime_tests.proofs.ReadSections.{open_after, may_enter_again}
use Rattle.runtime_tests.proofs.reads.section.Goals as goal

pub read_by_find-words-requires-clause-of : goal.read_by_find-words-requires-clause-of
read_by_find-words-requires-clause-of g c = of_still c.args.shared.now c.args.pass.now c.enter-time.new.pass c.enter-time.ensures.same c.requires.of

pub read_by_find-words-requires-clause-may : goal.read_by_find-words-requires-clause-may
read_by_find-words-requires-clause-may g c = may_walk (config_of c.args.shared.now) _ _ _ c.enter-time.ensures.begins

pub leave-requires-clause-of : goal.leave-requires-clause-of
leave-requires-clause-of g c =
    of_still c.args.shared.now c.enter-time.new.pass c.read_by_find-words.new.pass c.read_by_find-words.ensures.same
    (of_still c.args.shared.now c.args.pass.now c.enter-time.new.pass c.enter-time.ensures.same c.requires.of)

pub leave-requires-clause-open : goal.leave-requires-clause-open
leave-requires-clause-open g c =
    open_after (config_of c.args.shared.now) (view c.args.pass.now) (view c.enter-time.new.pass) (view c.read_by_find-words.new.pass) _
    c.enter-time.ensures.begins c.read_by_find-words.ensures.keeps

pub returns-clause-same : goal.returns-clause-same
returns-clause-same g c =
    same_twice c.args.pass.now c.enter-time.new.pass c.leave.new.pass c.enter-time.ensures.same
    (same_twice c.enter-time.new.pass c.read_by_find-words.new.pass c.leave.new.pass c.read_by_find-words.ensures.same c.leave.ensures.same)

pub returns-clause-may : goal.returns-clause-may
returns-clause-may g c =
    may_enter_again (config_of c.args.shared.now) (view c.args.pass.now) (view c.enter-time.new.pass) (view c.read_by_find-words.new.pass)
    (view c.leave.new.pass) _ c.requires.may c.enter-time.ensures.begins c.read_by_find-words.ensures.keeps c.leave.ensures.view
