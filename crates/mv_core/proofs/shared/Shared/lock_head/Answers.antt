use Rattle.std.proofs.Common.{ℕ, ◌<◌, ◌^◌, sym, refl, ap, ◌∙◌, subst}
use Rattle.std.proofs.Math.Logic.{∥∥₁_elim}
use Rattle.std.proofs.Math.Bridge.{le_prop}
use Rattle.mv_core.proofs.Terms.{Head, Knowledge, link_of, view}
use Rattle.mv_core.specs.EnterSteps.{stored_if}
use Rattle.mv_core.specs.Moves.{history_after}
use Rattle.mv_core.proofs.moves.LaterHistory.{stays}
use Rattle.mv_core.proofs.moves.Calls.{won_is, lost_is, no_made}
use Rattle.mv_core.proofs.kinds.locking.lock_head.LockHead.{lock_swaps}
use Rattle.mv_core.proofs.shared.Shared.lock_head.Goals as goal

pub link_word-link-requires-clause-position : goal.link_word-link-requires-clause-position
link_word-link-requires-clause-position g c =
    let may = c.requires.1.1.1.0 in
    ∥∥₁_elim c.args.pass.now.known le_prop (λ a. subst (λ (n : ℕ). n < 2 ^ 57) (sym may.next) (a.next _ g.what.1 may.build))

pub swap_alone-found-requires-clause-rule : goal.swap_alone-found-requires-clause-rule
swap_alone-found-requires-clause-rule g c =
    lock_swaps _ _ _ _ (view c.args.pass.now) _ c.args.object c.args.previous c.args.position g.what.0 g.what.1 g.what.2 c.requires.1.1.1.0 _
    (c.link_word-link.ensures.word ∙ ap (λ s. link_of s c.args.position) c.args.pass.now.numbered)

pub swap_alone-found-requires-clause-moves : goal.swap_alone-found-requires-clause-moves
swap_alone-found-requires-clause-moves g c = record {
  may = c.requires.1.1.1.0;
  place = refl;
  writes = λ x. ap (stored_if x c.args.previous) (sym (c.link_word-link.ensures.word ∙ ap (λ s. link_of s c.args.position) c.args.pass.now.numbered));
  entry = λ x ne. no_made _ x;
  won = λ m h longer seats w k is hit l t. let e =
      t.0.0 refl in (
        e ∙ sym (won_is c.args.previous _ _ _ refl),
        stays seats (view c.args.pass.now) w is k l (ap (λ (u : Knowledge). u.past) e)
            ∙ sym (ap (history_after h) (no_made c.args.previous _)),
      );
  lost = λ m h seats w miss l t. t.0.1 miss ∙ sym (lost_is c.args.previous (m (Head c.args.object)) _ _ miss);
}
