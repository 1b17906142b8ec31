use Rattle.std.proofs.Common.{ℕ, ◌+◌, refl, subst, sym, ap, ◌∙◌}
use Rattle.mv_core.proofs.Terms.{Change, Clock, Knowledge, Config, clock_of, view, config_of}
use Rattle.mv_core.specs.EnterSteps.{IsWhole, stored_if}
use Rattle.mv_core.specs.NameSteps.{commit_of, commit_named, commit_lost}
use Rattle.mv_core.specs.Moves.{history_after}
use Rattle.mv_core.proofs.moves.LaterHistory.{was, longer_is, whole_is}
use Rattle.mv_core.proofs.moves.Calls.{won_is, lost_is}
use Rattle.mv_core.proofs.kinds.naming.name_commit.NameCommit.{commit_swaps, named_word}
use Rattle.mv_core.proofs.shared.Shared.name_commit.Goals as goal

pub swap_as-found-requires-clause-rule : goal.swap_as-found-requires-clause-rule
swap_as-found-requires-clause-rule g c =
    let may = c.requires.1.1.1 in
    let v = view c.args.pass.now in
    let slots = ap (λ (d : Config). d.slots) (sym c.args.self.now.about) in
    commit_swaps _ _ _ _ v c.args.word c.args.tag g.inside may _
    (c.clock_word-named.ensures.word ∙ ap (clock_of (c.clock_time.result + 1) c.args.pass.now.number) c.slot_of_position-slot.ensures.value
    ∙ named_word (config_of c.args.self.now) v c.args.word c.clock_time.result c.args.pass.now.number c.args.pass.now.first _
    _ c.args.tag g.inside may c.clock_time.ensures c.args.pass.now.numbered slots c.args.pass.now.begun)

pub swap_as-found-requires-clause-moves : goal.swap_as-found-requires-clause-moves
swap_as-found-requires-clause-moves g c = record {
  may = c.requires.1.1.1;
  place = refl;
  writes = λ x. ap (stored_if x c.args.word)
      (sym (c.clock_word-named.ensures.word ∙ ap (clock_of (c.clock_time.result + 1) c.args.pass.now.number) c.slot_of_position-slot.ensures.value
      ∙ named_word (config_of c.args.self.now) (view c.args.pass.now) c.args.word c.clock_time.result
      c.args.pass.now.number c.args.pass.now.first _ _ c.args.tag g.inside c.requires.1.1.1 c.clock_time.ensures c.args.pass.now.numbered
      (ap (λ (d : Config). d.slots) (sym c.args.self.now.about)) c.args.pass.now.begun));
  entry = λ x ne. lost_is c.args.word x _ _ ne;
  won = λ m h longer seats w k is hit l t.
      let r = t.0.0 refl in
      let whole : IsWhole (config_of c.args.self.now) (view c.args.pass.now) (m Clock) r.0 =
      subst (λ (n : ℕ). IsWhole (config_of c.args.self.now) (view c.args.pass.now) n r.0) (sym hit) r.1 in
      let seen = ap (λ (u : Knowledge). u.past.seen) r.2 in (
        r.2 ∙ ap (commit_named (config_of c.args.self.now) (view c.args.pass.now) g.inside c.args.tag c.args.word)
            (was seats (view c.args.pass.now) w is k l r.0 (Change (commit_of (config_of c.args.self.now) (view c.args.pass.now) g.inside c.args.tag)) whole
            seen) ∙ sym (won_is c.args.word c.args.word _ _ refl),
        longer_is seats (view c.args.pass.now) w is k l r.0 (Change (commit_of (config_of c.args.self.now) (view c.args.pass.now) g.inside c.args.tag))
            whole seen ∙ sym (ap (history_after h) (won_is c.args.word c.args.word _ _ refl)),
      );
  lost = λ m h seats w miss l t. let r =
      t.0.1 miss in r.2 ∙ ap (commit_lost (config_of c.args.self.now) (view c.args.pass.now) (m Clock))
      (whole_is seats (view c.args.pass.now) w r.0 l r.1 (ap (λ (u : Knowledge). u.past.seen) r.2)) ∙ sym (lost_is c.args.word (m Clock) _ _ miss);
}
