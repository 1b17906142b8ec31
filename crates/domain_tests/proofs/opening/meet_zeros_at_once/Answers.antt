use Rattle.std.proofs.Common.{◌<◌, ℕ, length, sym, ap, ◌∙◌, subst}
use Rattle.std.proofs.lemmas.List.{length-replicate}
use Rattle.mv_history.proofs.Writing.{length-state_after}
use Rattle.mvrlu.proofs.AllSeats.{opened_all}
use Rattle.domain_tests.proofs.opening.meet_zeros_at_once.Goals as goal

pub meet-closing-requires : goal.meet-closing-requires
meet-closing-requires c = record { all = opened_all c.in-Ok.domain c.in-Ok.seats.items c.args.config _ c.in-Ok.ensures.opened.1 }

pub read-requires : goal.read-requires
read-requires c =
    let w = c.meet-closing.result.last in
    subst (λ (n : ℕ). 0 < n)
    (sym (length-state_after w.start w.history ∙ ap length c.meet-closing.ensures.opening.0
    ∙ ap length c.in-Ok.ensures.opened.1.opening ∙ length-replicate c.args.config.objects _))
    c.requires.some
