use Rattle.std.proofs.Common.{sym, subst}
use Rattle.mv_core.specs.declared.view.Knowledge.{Knowledge}
use Rattle.mv_core.specs.EnterSteps.{MayLoadCheck}
use Rattle.seat_log.proofs.OwnSlots.{of_still}
use Rattle.runtime_tests.proofs.first_rests.first_clock.Goals as goal

pub now-word-requires-clause-may : goal.now-word-requires-clause-may
now-word-requires-clause-may g c = subst MayLoadCheck (sym c.in_ok-shared.ensures.other.1.outside) tt

pub help_clock-loaded-requires-clause-of : goal.help_clock-loaded-requires-clause-of
help_clock-loaded-requires-clause-of g c =
    of_still c.in_ok-shared.shared c.in_ok-shared.other c.now-word.new.pass c.now-word.ensures.same c.in_ok-shared.ensures.other.0

pub help_clock-loaded-requires-clause-may : goal.help_clock-loaded-requires-clause-may
help_clock-loaded-requires-clause-may g c =
    subst (λ (v : Knowledge). MayLoadCheck v.phase) (sym c.now-word.ensures.view.2) (subst MayLoadCheck (sym c.in_ok-shared.ensures.other.1.outside) tt)
