use Rattle.std.proofs.Common.{arith}
use Rattle.set_catalog.proofs.Hinting.{tries_twice}
use Rattle.set_catalog.proofs.Vacancies.{none_for_first, none_for_second, some_vacant_node, two_found}
use Rattle.set_catalog.proofs.picks.pick.Goals as goal

pub returns-in_err-first-clause-none : goal.returns-in_err-first-clause-none
returns-in_err-first-clause-none g c =
    none_for_first _ _ _ _ c.requires.want c.from_residual.ensures c.in_err-first.ensures.found

pub returns-then-want-eq1-clause-none : goal.returns-then-want-eq1-clause-none
returns-then-want-eq1-clause-none g c =
    omega (arith, some_vacant_node _ _ c.in_ok-first.ensures.found.0)

pub returns-in_err-second-clause-none : goal.returns-in_err-second-clause-none
returns-in_err-second-clause-none g c =
    none_for_second _ _ _ _ _ _ c.requires.want c.if-want-eq1.false (g.met.V.View.same_state _ _ c.another.ensures.as_before)
    c.from_residual-in_err-second.ensures c.in_err-second.ensures.found

pub returns-clause-none : goal.returns-clause-none
returns-clause-none g c =
    two_found _ _ _ _ _ c.requires.want (g.met.V.View.same_state _ _ c.another.ensures.as_before) c.in_ok-first.ensures.found.0 c.in_ok-second.ensures.found.0
    c.in_ok-second.ensures.found.1

pub returns-clause-hints : goal.returns-clause-hints
returns-clause-hints g c =
    tries_twice _ _ _ _ _ _ _ _ (omega arith) c.in_ok-first.ensures.hints (g.met.V.View.same_state _ _ c.another.ensures.as_before) c.in_ok-second.ensures.hints
