use Rattle.std.proofs.Common.{◌≡◌, ◌+◌, ◌<◌, ◌≤◌, suc, length, set, ◌∙◌, sym, ap, arith, length-set}
use Rattle.replay_text.proofs.replay_rules_lemmas.SeatNotes.{edited_behind, one_edited, all_edited}
use Rattle.step_replay.proofs.notes.edit_all.Goals as goal

pub loop-at-preserved : goal.loop-at-preserved
loop-at-preserved c =
    let next : suc c.loop-at.at ≡ c.loop-at.at + 1 = omega arith in
    let lt : c.loop-at.at < length c.loop-at.log.items =
    (let was = c.args.log.now.ok.0 in let now = c.loop-at.log.ok.0 in let end_is = c.len-at-end.ensures in let test = c.loop-at-test.true in
    let same = c.loop-at.invariant.long in omega arith) in
    record {
      long = length-set c.loop-at.log.items c.loop-at.at c.edited.result ∙ c.loop-at.invariant.long;
      rest = ap (λ n. edited_behind c.args.edit n 0 (set c.loop-at.log.items c.loop-at.at c.edited.result)) (sym next)
          ∙ ap (λ v. edited_behind c.args.edit (suc c.loop-at.at) 0 (set c.loop-at.log.items c.loop-at.at v)) c.edited.ensures
          ∙ sym (one_edited c.args.edit c.loop-at.at 0 c.loop-at.at c.loop-at.log.items c.index.result.now (omega arith) lt (sym c.index.ensures))
          ∙ c.loop-at.invariant.rest;
    }

pub returns : goal.returns
returns c =
    let late : length c.loop-at.log.items ≤ c.loop-at.at =
    (let was = c.args.log.now.ok.0 in let now = c.loop-at.log.ok.0 in let end_is = c.len-at-end.ensures in let test = c.loop-at-test.false in
    let same = c.loop-at.invariant.long in omega arith) in
    sym (all_edited c.args.edit c.loop-at.at 0 c.loop-at.log.items late) ∙ c.loop-at.invariant.rest
