use Rattle.std.proofs.Common.{◌≡◌, ◌∙◌, ◌≤◌, sym, subst, ap, length, replicate, arith}
use Rattle.std.proofs.lemmas.List.{length-replicate}
use Rattle.mv_history.specs.State.{State}
use Rattle.mv_history.specs.Meaning.{Seat}
use Rattle.set_model.specs.Lawful.{IsOpening}
use Rattle.set_model.specs.Objects.{no_words}
use Rattle.set_model.proofs.Opening.{opening_zeros}
use Rattle.tree_set.proofs.Filling.{filled_none}
use Rattle.set_tests.proofs.opening.open_trees.Goals as goal

pub returns : goal.returns
returns c =
    let e = c.in_ok-store.ensures.opens in
    let count = c.args.count in
    let z : c.deref.result.now ≡ replicate count no_words = c.deref.ensures.value ∙ c.in_ok-objects.ensures in
    let zeros : IsOpening (replicate count no_words) = opening_zeros count (omega arith) (omega arith) in
    filled_none _ _ 171 (omega arith) c.enter.ensures.enters c.enter.ensures.took (ap (λ (s : Seat). s.seen) e)
    (subst (λ (s : Seat). IsOpening s.start) (sym e) (subst (λ (s : State). IsOpening s) (sym z) zeros))
    (ap (λ (s : Seat). length s.start) e ∙ ap length z ∙ length-replicate count no_words ∙ c.requires.count)
    (subst (λ (s : Seat). 16 ≤ s.spare) (sym e) (omega arith))
    (subst (λ (s : Seat). 16 ≤ s.write_max) (sym e) (omega arith))
