use Rattle.std.proofs.Common.{ℕ, ◌<◌, sym, refl, ap, ◌∙◌, subst}
use Rattle.std.proofs.Math.Logic.{∥∥₁_elim}
use Rattle.mv_core.proofs.Terms.{Checked, Config, Knowledge, config_of}
use Rattle.mv_core.specs.SectionFacts.{IsWord}
use Rattle.mv_core.specs.EnterSteps.{stamp_place, stored_if}
use Rattle.mv_core.specs.Moves.{history_after}
use Rattle.mv_core.proofs.moves.LaterHistory.{stays}
use Rattle.mv_core.proofs.moves.Calls.{won_is, lost_is, no_made}
use Rattle.mv_core.specs.Passes.{view}
use Rattle.mv_core.proofs.kinds.helping.stamp.SwapStamp.{names_commit, is_packed, stamp_swaps}
use Rattle.mv_core.proofs.shared.Shared.stamp.Goals as goal

pub named_cell-cell-requires-clause-names : goal.named_cell-cell-requires-clause-names
named_cell-cell-requires-clause-names g c e =
    let config = config_of c.args.self.now in
    let pass = c.args.pass.now in
    ∥∥₁_elim pass.known (λ a b. absurd a)
    (λ k. names_commit config (view pass) c.args.word c.args.unset (subst Checked (sym c.args.self.now.about) c.args.self.now.checked)
    (subst (λ (n : ℕ). n < config.seats) pass.numbered c.requires.of.1) k.found c.requires.may e)

pub named_cell-cell-requires-clause-word : goal.named_cell-cell-requires-clause-word
named_cell-cell-requires-clause-word g c =
    let config = config_of c.args.self.now in
    let pass = c.args.pass.now in
    is_packed config (view pass) c.args.word c.args.unset (subst Checked (sym c.args.self.now.about) c.args.self.now.checked)
    (subst (λ (n : ℕ). n < config.seats) pass.numbered c.requires.of.1)
    (λ f e. subst (λ (d : Config). IsWord d f.word) c.requires.of.4 (pass.in_domain.1 f e)) c.requires.may

pub swap_as-found-requires-clause-rule : goal.swap_as-found-requires-clause-rule
swap_as-found-requires-clause-rule g c = stamp_swaps _ _ _ _ (view c.args.pass.now) c.args.word c.args.unset c.requires.may _ c.clock_time-time.ensures

pub swap_as-found-requires-clause-moves : goal.swap_as-found-requires-clause-moves
swap_as-found-requires-clause-moves g c = record {
  may = c.requires.may;
  place = refl;
  writes = λ x. ap (stored_if x c.args.unset) (sym c.clock_time-time.ensures);
  entry = λ x ne. no_made _ x;
  won = λ m h longer seats w k is hit l t. let e =
      t in (
        e ∙ sym (won_is c.args.unset _ _ _ refl),
        stays seats (view c.args.pass.now) w is k l (ap (λ (u : Knowledge). u.past) e)
            ∙ sym (ap (history_after h) (no_made c.args.unset _)),
      );
  lost = λ m h seats w miss l t. t ∙ sym (lost_is c.args.unset (m (stamp_place c.args.word)) _ _ miss);
}
