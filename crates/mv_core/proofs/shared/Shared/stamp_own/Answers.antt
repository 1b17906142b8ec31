use Rattle.std.proofs.Common.{◌≡◌, ℕ, ◌<◌, sym, refl, ap, ◌∙◌, subst, inr, arith}
use Rattle.std.proofs.Math.Logic.{∥∥₁_elim}
use Rattle.std.proofs.Math.Bridge.{le_prop}
use Rattle.mv_core.proofs.Terms.{Checked, SharedWord, Stamp, Knowledge, index_of, config_of, start_of}
use Rattle.mv_core.specs.EnterSteps.{IsOwnNaming, own_word, stamp_swapped, stored_if}
use Rattle.mv_core.specs.Moves.{history_after}
use Rattle.mv_core.specs.Passes.{view}
use Rattle.mv_core.specs.Rule.{Swaps, IsKept}
use Rattle.mv_core.specs.Known.{RunsOn}
use Rattle.mv_core.proofs.moves.LaterHistory.{stays}
use Rattle.mv_core.proofs.moves.Calls.{won_is, lost_is, no_made}
use Rattle.mv_core.proofs.kinds.helping.stamp.OwnPlace.{own_place, own_time}
use Rattle.mv_core.proofs.kinds.helping.stamp.SwapStamp.{stamp_swaps}
use Rattle.mv_core.proofs.shared.Shared.stamp_own.Goals as goal

pub unset_stamp-unset-requires : goal.unset_stamp-unset-requires
unset_stamp-unset-requires g c =
    let own = c.requires.may in
    ∥∥₁_elim c.args.pass.now.known le_prop (λ known. let small = known.named own.0 own.1 own.2 own.3 in let same = own.5 in omega arith)

pub swap_as-found-requires-clause-rule : goal.swap_as-found-requires-clause-rule
swap_as-found-requires-clause-rule g c =
    let config = config_of c.args.self.now in
    let v = view c.args.pass.now in
    let unset = c.unset_stamp-unset.result in
    let word = own_word config v c.args.first c.args.time in
    let checked : Checked config = subst Checked (sym c.args.self.now.about) c.args.self.now.checked in
    let range = subst (λ (n : ℕ). n < config.seats) c.args.pass.now.numbered c.requires.of.1 in
    let own = subst (IsOwnNaming config v word) (sym c.unset_stamp-unset.ensures.word) c.requires.may in
    subst
    (λ (p : SharedWord).
    Swaps g.P.Protocol.start g.P.Protocol.allowed config (start_of c.args.self.now) v p unset c.args.time
    (λ n w. ((w ≡ stamp_swapped config v word unset n) × RunsOn v w) × IsKept v w))
    (own_place config v c.args.first c.args.time checked range)
    (stamp_swaps _ _ config _ v word unset (inr own) c.args.time (sym (own_time config v c.args.first c.args.time checked range)))

pub swap_as-found-requires-clause-moves : goal.swap_as-found-requires-clause-moves
swap_as-found-requires-clause-moves g c =
    let config = config_of c.args.self.now in
    let v = view c.args.pass.now in
    let unset = c.unset_stamp-unset.result in
    let word = own_word config v c.args.first c.args.time in
    let checked : Checked config = subst Checked (sym c.args.self.now.about) c.args.self.now.checked in
    let range = subst (λ (n : ℕ). n < config.seats) c.args.pass.now.numbered c.requires.of.1 in
    record {
      may = inr (subst (IsOwnNaming config v word) (sym c.unset_stamp-unset.ensures.word) c.requires.may);
      place = own_place config v c.args.first c.args.time checked range;
      writes = λ x. ap (stored_if x unset) (own_time config v c.args.first c.args.time checked range);
      entry = λ x ne. no_made _ x;
      won = λ m h longer seats w k is hit l t. let e =
          t in (
            e ∙ sym (won_is unset _ _ _ refl),
            stays seats v w is k l (ap (λ (u : Knowledge). u.past) e)
                ∙ sym (ap (history_after h) (no_made unset _)),
          );
      lost = λ m h seats w miss l t. t ∙ sym (lost_is unset (m (Stamp v.number (index_of config c.args.first))) _ _ miss);
    }
