use Rattle.std.proofs.Common.{arith, ap, ◌∙◌}
use Rattle.atomic_table.proofs.Lists.{at_index}
use Rattle.mv_core.specs.declared.view.Knowledge.{Knowledge}
use Rattle.runtime_tests.proofs.first_domains.two_seats.Goals as goal

pub returns-clause-one : goal.returns-clause-one
returns-clause-one c =
    let p = c.swap_remove-one.result in
    let n = c.in_ok-shared.ensures.count in
    let l = c.in_ok-shared.passes.ok.0 in
    let at = c.swap_remove-one.ensures.value ∙ c.swap_remove-other.ensures.by_index.1 0 p (λ e. absurd (omega arith)) (omega arith) in
    let new = c.in_ok-shared.ensures.each 0 p (at_index c.in_ok-shared.passes.items 0 p (omega arith) at) in
    (new.0, record { outside = ap (λ (v : Knowledge). v.phase) new.2; no_scan = ap (λ (v : Knowledge). v.scan) new.2 })

pub returns-clause-other : goal.returns-clause-other
returns-clause-other c =
    let p = c.swap_remove-other.result in
    let n = c.in_ok-shared.ensures.count in
    let l = c.in_ok-shared.passes.ok.0 in
    let new = c.in_ok-shared.ensures.each 1 p (at_index c.in_ok-shared.passes.items 1 p (omega arith) c.swap_remove-other.ensures.value) in
    (new.0, record { outside = ap (λ (v : Knowledge). v.phase) new.2; no_scan = ap (λ (v : Knowledge). v.scan) new.2 })
