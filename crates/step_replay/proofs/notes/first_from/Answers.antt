use Rattle.std.proofs.Common.{suc, ◌+◌, ◌≡◌, ◌∙◌, sym, ap, arith}
use Rattle.replay_text.specs.replay_rules.SeatNotes.{first_from}
use Rattle.replay_text.proofs.replay_rules_lemmas.SeatNotes.{none_left, passed_by, stopped_at}
use Rattle.step_replay.proofs.notes.first_from.Goals as goal

pub returns-then-passes : goal.returns-then-passes
returns-then-passes c =
    sym (c.loop-at.invariant
    ∙ stopped_at c.args.log.now c.loop-at.at c.args.test _ c.loop-at-test.true (sym c.passes.ensures ∙ c.if-passes.true))

pub loop-at-preserved : goal.loop-at-preserved
loop-at-preserved c =
    let next : suc c.loop-at.at ≡ c.loop-at.at + 1 = omega arith in
    c.loop-at.invariant
    ∙ passed_by c.args.log.now c.loop-at.at c.args.test _ c.loop-at-test.true (sym c.passes.ensures ∙ c.if-passes.false)
    ∙ ap (λ n. first_from c.args.log.now n c.args.test) next

pub returns : goal.returns
returns c = sym (c.loop-at.invariant ∙ none_left c.args.log.now c.loop-at.at c.args.test c.loop-at-test.false)
