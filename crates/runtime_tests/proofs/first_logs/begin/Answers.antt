use Rattle.std.proofs.Common.{refl, sym, subst}
use Rattle.mv_core.specs.declared.view.Knowledge.{Knowledge}
use Rattle.mv_core.specs.Passes.{view, config_of}
use Rattle.mv_core.specs.EnterSteps.{low_loaded, mark_stored, time_loaded}
use Rattle.seat_log.specs.Stands.{is_free, is_won_cut, Stands}
use Rattle.seat_log.proofs.BuildsOn.{unpassed}
use Rattle.seat_log.proofs.StepCounts.{keeps_one}
use Rattle.seat_log.proofs.Stays.{stands_same}
use Rattle.runtime_tests.proofs.first_logs.begin.Goals as goal

pub returns-clause-stands : goal.returns-clause-stands
returns-clause-stands g c =
    let d = config_of c.args.shared.now in
    let l = c.args.log.now in
    let u : Knowledge = view c.args.pass.now in
    let v : Knowledge = view c.load_low-low.new.pass in
    let w : Knowledge = view c.store_mark.new.pass in
    let time = c.load_time.ensures.view in
    let one : Stands d v l =
    subst (λ (x : Knowledge). Stands d x l) (sym c.load_low-low.ensures.view)
    (stands_same d u (low_loaded d u c.load_low-low.result) l refl refl refl refl (unpassed is_free u.trail _ refl) (unpassed is_won_cut u.trail _ refl)
    (keeps_one u.trail _ refl refl)
    c.requires.stands) in
    let two : Stands d w l =
    subst (λ (x : Knowledge). Stands d x l) (sym c.store_mark.ensures.view)
    (stands_same d v (mark_stored d v c.clock_time.result) l refl refl refl refl (unpassed is_free v.trail _ refl)
    (unpassed is_won_cut v.trail _ refl) (keeps_one v.trail _ refl refl) one) in
    subst (λ (x : Knowledge). Stands d x l) (sym time.2)
    (stands_same d w (time_loaded d w c.load_time.result time.0) l refl refl refl refl (unpassed is_free w.trail _ refl)
    (unpassed is_won_cut w.trail _ refl) (keeps_one w.trail _ refl refl) two)
