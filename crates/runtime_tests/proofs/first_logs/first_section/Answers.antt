use Rattle.std.proofs.Common.{◌≡◌, sym, ◌∙◌, subst, arith, ap}
use Rattle.mv_core.specs.declared.view.Knowledge.{Knowledge}
use Rattle.mv_core.specs.Passes.{view, config_of, start_of}
use Rattle.mv_core.proofs.kinds.opening.NewPasses.{new_is_of, new_view_is, new_may_enter}
use Rattle.mv_layout.specs.declared.Config.{Config}
use Rattle.mv_layout.specs.Limits.{Checked}
use Rattle.seat_log.specs.Notes.{Noted, nothing_noted}
use Rattle.seat_log.specs.Stands.{Stands}
use Rattle.seat_log.proofs.Beginning.{stands_new}
use Rattle.runtime_tests.proofs.first_logs.first_section.Goals as goal

pub build_again-built-requires-clause-of : goal.build_again-built-requires-clause-of
build_again-built-requires-clause-of g c =
    let n = c.in_ok-shared.ensures.count in
    let l = c.in_ok-shared.passes.ok.0 in
    new_is_of c.in_ok-shared.shared _ c.in_ok-shared.ensures.each 0 c.index_mut.result.now (omega arith) c.index_mut.ensures.value

pub build_again-built-requires-clause-may : goal.build_again-built-requires-clause-may
build_again-built-requires-clause-may g c =
    let n = c.in_ok-shared.ensures.count in
    let l = c.in_ok-shared.passes.ok.0 in
    new_may_enter c.in_ok-shared.shared _ c.in_ok-shared.ensures.each 0 c.index_mut.result.now (omega arith) c.index_mut.ensures.value

pub build_again-built-requires-clause-stands : goal.build_again-built-requires-clause-stands
build_again-built-requires-clause-stands g c =
    let p = c.index_mut.result.now in
    let n = c.in_ok-shared.ensures.count in
    let l = c.in_ok-shared.passes.ok.0 in
    let d : Config = config_of c.in_ok-shared.shared in
    let is = new_view_is c.in_ok-shared.shared _ c.in_ok-shared.ensures.each 0 p (omega arith) c.index_mut.ensures.value in
    let about = c.in_ok-shared.ensures.about.0 in
    let checked : Checked d = subst Checked (sym c.in_ok-shared.shared.about) c.in_ok-shared.shared.checked in
    let some_seats = checked.seats.0 in
    let slots : d.slots ≡ 64 = ap (λ (e : Config). e.slots) about in
    let log : c.in_ok-log.log ≡ nothing_noted 0 64 = c.in_ok-log.ensures in
    subst (λ (m : Noted). Stands d (view p) m) (ap (nothing_noted 0) slots ∙ sym log)
    (subst (λ (v : Knowledge). Stands d v (nothing_noted 0 d.slots)) (sym is) (stands_new d (start_of c.in_ok-shared.shared) 0 checked (omega arith)))
