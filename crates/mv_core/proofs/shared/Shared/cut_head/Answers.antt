use Rattle.std.proofs.Common.{◌≢◌, ℕ, sym, refl, ◌≡◌, ap, subst, ◌∙◌}
use Rattle.mv_core.proofs.Terms.{Head, Knowledge, link_of, view, config_of}
use Rattle.mv_core.specs.EnterSteps.{stored_if}
use Rattle.mv_core.specs.Moves.{history_after}
use Rattle.mv_core.proofs.moves.LaterHistory.{stays}
use Rattle.mv_core.proofs.moves.Calls.{won_is, lost_is, no_made}
use Rattle.std.proofs.Math.Logic.{∥∥₁_elim}
use Rattle.std.proofs.Math.Bridge.{le_prop}
use Rattle.mv_core.specs.Swaps.{found_by}
use Rattle.mv_core.specs.Tops.{NamesNewer}
use Rattle.mv_core.proofs.kinds.reclaiming.cut_head.CutHead.{cut_swaps}
use Rattle.mv_core.proofs.shared.Shared.cut_head.Goals as goal

pub link_word-link-requires-clause-position : goal.link_word-link-requires-clause-position
link_word-link-requires-clause-position g c = ∥∥₁_elim c.args.pass.now.known le_prop (λ a. a.back _ c.requires.1.1.1.1.back)

pub swap_as-found-requires-clause-rule : goal.swap_as-found-requires-clause-rule
swap_as-found-requires-clause-rule g c =
    cut_swaps _ _ _ _ (view c.args.pass.now) c.args.object c.args.position g.back.0 g.back.1 c.requires.1.1.1.1 _
    (c.link_word-link.ensures.word ∙ ap (λ s. link_of s c.args.position) c.args.pass.now.numbered)

pub swap_as-found-requires-clause-moves : goal.swap_as-found-requires-clause-moves
swap_as-found-requires-clause-moves g c = record {
  may = c.requires.1.1.1.1;
  place = refl;
  writes = λ x. ap (λ (o : ℕ). stored_if x o 0) (sym (c.link_word-link.ensures.word ∙ ap (λ s. link_of s c.args.position) c.args.pass.now.numbered));
  entry = λ x ne. no_made _ x;
  won = λ m h longer seats w k is hit l t. let e =
      t.0.0 (c.link_word-link.ensures.word ∙ ap (λ s. link_of s c.args.position) c.args.pass.now.numbered) in (
        e ∙ sym (won_is (link_of (view c.args.pass.now).number c.args.position) _ _ _
            (c.link_word-link.ensures.word ∙ ap (λ s. link_of s c.args.position) c.args.pass.now.numbered)),
        stays seats (view c.args.pass.now) w is k l (ap (λ (u : Knowledge). u.past) e)
            ∙ sym (ap (history_after h) (no_made (link_of (view c.args.pass.now).number c.args.position) _)),
      );
  lost = λ m h seats w miss l t. let ne : m (Head c.args.object) ≢ (link_of (view c.args.pass.now).number c.args.position) =
      λ e. miss (e ∙ sym (c.link_word-link.ensures.word ∙ ap (λ s. link_of s c.args.position) c.args.pass.now.numbered)) in t.0.1 ne
      ∙ sym (lost_is (link_of (view c.args.pass.now).number c.args.position) (m (Head c.args.object)) _ _ ne);
}

pub returns-clause-newer : goal.returns-clause-newer
returns-clause-newer g c lost =
    let own = c.link_word-link.ensures.word ∙ ap (λ s. link_of s c.args.position) c.args.pass.now.numbered in
    let found : found_by (link_of (view c.args.pass.now).number c.args.position) c.swap_of.result ≡ c.swap_as-found.result =
    ap (λ l. found_by l c.swap_of.result) (sym own) ∙ c.swap_of.ensures.found in
    subst (NamesNewer (config_of c.args.self.now) (view c.args.pass.now) c.args.object) (sym found)
    (c.swap_as-found.ensures.tells.3 (λ e. lost (found ∙ e)))
