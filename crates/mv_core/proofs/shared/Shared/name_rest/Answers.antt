use Rattle.std.proofs.Common.{ℕ, sym, refl, ap, subst, ◌+◌, ◌∙◌}
use Rattle.mv_core.proofs.Terms.{Rest, Clock, Knowledge, clock_of, view}
use Rattle.mv_core.specs.Passes.{config_of}
use Rattle.mv_core.specs.EnterSteps.{IsWhole, stored_if}
use Rattle.mv_core.specs.NameSteps.{rest_named, rest_lost}
use Rattle.mv_core.specs.Moves.{history_after}
use Rattle.mv_core.proofs.moves.LaterHistory.{was, longer_is, whole_is}
use Rattle.mv_core.proofs.moves.Calls.{won_is, lost_is}
use Rattle.mv_core.proofs.kinds.naming.NameRest.{rest_swaps}
use Rattle.mv_core.proofs.shared.Shared.name_rest.Goals as goal

pub swap_as-found-requires-clause-rule : goal.swap_as-found-requires-clause-rule
swap_as-found-requires-clause-rule g c =
    let time_is = c.clock_time.ensures in
    let number_is = c.args.pass.now.numbered in
    rest_swaps _ _ _ _ (view c.args.pass.now) c.args.word c.requires.may _
    (c.clock_word-named.ensures.word ∙ (λ i. clock_of (time_is i + 1) (number_is i) 8191))

pub swap_as-found-requires-clause-moves : goal.swap_as-found-requires-clause-moves
swap_as-found-requires-clause-moves g c = record {
  may = c.requires.may;
  place = refl;
  writes = λ x. ap (stored_if x c.args.word)
      (sym (c.clock_word-named.ensures.word ∙ (λ i. clock_of (c.clock_time.ensures i + 1) (c.args.pass.now.numbered i) 8191)));
  entry = λ x ne. lost_is c.args.word x _ _ ne;
  won = λ m h longer seats w k is hit l t.
      let r = t.0.0 refl in
      let whole : IsWhole (config_of c.args.self.now) (view c.args.pass.now) (m Clock) r.0 =
      subst (λ (n : ℕ). IsWhole (config_of c.args.self.now) (view c.args.pass.now) n r.0) (sym hit) r.1 in
      let seen = ap (λ (u : Knowledge). u.past.seen) r.2 in (
        r.2 ∙ ap (rest_named (config_of c.args.self.now) (view c.args.pass.now) c.args.word)
            (was seats (view c.args.pass.now) w is k l r.0 (Rest (view c.args.pass.now).number) whole seen) ∙ sym (won_is c.args.word c.args.word _ _ refl),
        longer_is seats (view c.args.pass.now) w is k l r.0 (Rest (view c.args.pass.now).number) whole seen
            ∙ sym (ap (history_after h) (won_is c.args.word c.args.word _ _ refl)),
      );
  lost = λ m h seats w miss l t. let r =
      t.0.1 miss in r.2 ∙ ap (rest_lost (config_of c.args.self.now) (view c.args.pass.now) (m Clock))
      (whole_is seats (view c.args.pass.now) w r.0 l r.1 (ap (λ (u : Knowledge). u.past.seen) r.2)) ∙ sym (lost_is c.args.word (m Clock) _ _ miss);
}
