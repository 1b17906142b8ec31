use Rattle.std.proofs.Common.{length, ap, ◌∙◌, rules, arith}
use Rattle.std.proofs.lemmas.Iterator.Splits.{YieldsList-from_slice_split}
use Rattle.std.proofs.lemmas.List.{length_push}
use Rattle.std.proofs.lemmas.Result.{err_from_is_err_and}
use Rattle.std.specs.Slice.Iter.{split_rest, split_done, split_callee}
use Rattle.script_parser.specs.Grammar.{is_line_end}
use Rattle.script_parser.proofs.Lines.{item, no_item}
use Rattle.step_replay.specs.PlanTexts.{said_of, last_line, finished, at_line}
use Rattle.step_replay.proofs.PlanLines.{taken, refused, done, unfinished}
use Rattle.step_replay.proofs.drafts.parse_plan.Goals as goal
use borrow.Author.Tests.{tests}

pub loop-line-preserved : goal.loop-line-preserved
loop-line-preserved c =
    let items = c.split-line-items.ensures in
    let same = c.into_iter-line-iterator.ensures.into_iter_gives in
    let turn = item (λ x. x.now) c.loop-line.yielded _ c.loop-line.yielded_by _ _ c.in-Some.line c.in-Some.is c.next.ensures.steps
    (YieldsList-from_slice_split _ is_line_end c.args.bytes.now (ap split_rest same ∙ items.rest) (ap split_done same ∙ items.done)
    (ap split_callee same ∙ items.closure) (λ x b q k. search (rules, tests))) in
    let pushed = length_push c.loop-line.yielded c.in-Some.line in
    record {
      counted = omega arith;
      rest = taken c.args.bytes.now (said_of c.loop-line.draft) c.loop-line.number c.loop-line.invariant.rest (length c.loop-line.yielded)
          c.in-Some.line.now (said_of c.take_line.new.self) c.loop-line.invariant.counted turn c.in_ok-take_line.ensures.is;
      fit = c.in_ok-take_line.ensures.fit;
    }

pub returns-in_err-take_line-clause-exact : goal.returns-in_err-take_line-clause-exact
returns-in_err-take_line-clause-exact c =
    let items = c.split-line-items.ensures in
    let same = c.into_iter-line-iterator.ensures.into_iter_gives in
    let turn = item (λ x. x.now) c.loop-line.yielded _ c.loop-line.yielded_by _ _ c.in-Some.line c.in-Some.is c.next.ensures.steps
    (YieldsList-from_slice_split _ is_line_end c.args.bytes.now (ap split_rest same ∙ items.rest) (ap split_done same ∙ items.done)
    (ap split_callee same ∙ items.closure) (λ x b q k. search (rules, tests))) in
    let p = err_from_is_err_and c.from_residual.result c.from_residual.ensures.1 in
    rw (p.1, p.2)
    (refused c.args.bytes.now (said_of c.loop-line.draft) c.loop-line.number c.loop-line.invariant.rest (length c.loop-line.yielded)
    c.in-Some.line.now c.in_err-take_line.field-0.0 c.loop-line.invariant.counted turn c.in_err-take_line.ensures.is)

pub last_line-requires : goal.last_line-requires
last_line-requires c =
    let items = c.split-line-items.ensures in
    let same = c.into_iter-line-iterator.ensures.into_iter_gives in
    let all = no_item (λ x. x.now) c.loop-line.yielded _ c.loop-line.yielded_by _ _ c.in-None.is c.next.ensures.steps
    (YieldsList-from_slice_split _ is_line_end c.args.bytes.now (ap split_rest same ∙ items.rest) (ap split_done same ∙ items.done)
    (ap split_callee same ∙ items.closure) (λ x b q k. search (rules, tests))) in
    omega (arith, all, c.loop-line.invariant.counted)

pub returns-in_default : goal.returns-in_default
returns-in_default c =
    let items = c.split-line-items.ensures in
    let same = c.into_iter-line-iterator.ensures.into_iter_gives in
    let all = no_item (λ x. x.now) c.loop-line.yielded _ c.loop-line.yielded_by _ _ c.in-None.is c.next.ensures.steps
    (YieldsList-from_slice_split _ is_line_end c.args.bytes.now (ap split_rest same ∙ items.rest) (ap split_done same ∙ items.done)
    (ap split_callee same ∙ items.closure) (λ x b q k. search (rules, tests))) in
    let exact = done c.args.bytes.now (said_of c.loop-line.draft) c.loop-line.number c.loop-line.invariant.rest (omega arith) in
    record {
      exact = rw c.last_line.ensures
          (exact ∙ ap (at_line (last_line c.args.bytes.now))
          (unfinished c.loop-line.draft.heads (said_of c.loop-line.draft) (λ config is. c.in_default.not-Whole config is)));
      fit = tt;
    }

pub returns-clause-exact : goal.returns-clause-exact
returns-clause-exact c =
    let items = c.split-line-items.ensures in
    let same = c.into_iter-line-iterator.ensures.into_iter_gives in
    let all = no_item (λ x. x.now) c.loop-line.yielded _ c.loop-line.yielded_by _ _ c.in-None.is c.next.ensures.steps
    (YieldsList-from_slice_split _ is_line_end c.args.bytes.now (ap split_rest same ∙ items.rest) (ap split_done same ∙ items.done)
    (ap split_callee same ∙ items.closure) (λ x b q k. search (rules, tests))) in
    let exact = done c.args.bytes.now (said_of c.loop-line.draft) c.loop-line.number c.loop-line.invariant.rest (omega arith) in
    exact ∙ ap (λ heads. at_line (last_line c.args.bytes.now) (finished heads (said_of c.loop-line.draft))) c.in-Whole.is
