use Rattle.std.proofs.Common.{◌≡◌, ℕ, List, length, Result, Ok, MatchResult, ap, sym, ◌∙◌, subst, refl, rules, arith}
use Rattle.std.proofs.lemmas.Iterator.Splits.{YieldsList-from_slice_split}
use Rattle.std.proofs.lemmas.List.{length_push}
use Rattle.std.proofs.lemmas.Result.{err_from_is_err_and}
use Rattle.std.specs.Slice.Iter.{split_rest, split_done, split_callee}
use Rattle.script_parser.specs.Grammar.{is_line_end}
use Rattle.script_parser.proofs.Lines.{item, no_item}
use Rattle.set_model.specs.declared.commands.Command.{Command}
use Rattle.block_parser.specs.declared.faults.BlockKind.{BlockKind}
use Rattle.block_parser.specs.BlockGrammar.{closed, Refuses}
use Rattle.block_parser.proofs.Lines.{taken, refused, done}
use Rattle.block_parser.proofs.parsing.parse_blocks.Goals as goal
use borrow.Author.Tests.{tests}

pub loop-line-init : goal.loop-line-init
loop-line-init c = record { counted = refl; rest = rw c.new-progress.ensures refl }

pub loop-line-preserved : goal.loop-line-preserved
loop-line-preserved c =
    let items = c.split-line-items.ensures in
    let same = c.into_iter-line-iterator.ensures.into_iter_gives in
    let turn = item (λ x. x.now) c.loop-line.yielded _ c.loop-line.yielded_by _ _ c.in-Some.line c.in-Some.is c.next.ensures.steps
    (YieldsList-from_slice_split _ is_line_end c.args.bytes.now (ap split_rest same ∙ items.rest) (ap split_done same ∙ items.done)
    (ap split_callee same ∙ items.closure) (λ x b q k. search (rules, tests))) in
    let pushed = length_push c.loop-line.yielded c.in-Some.line in
    record {
      counted = omega arith;
      rest = taken c.args.bytes.now c.loop-line.progress c.loop-line.format c.loop-line.number c.loop-line.invariant.rest (length c.loop-line.yielded)
          c.in-Some.line.now c.in_ok-progress.progress c.take_line.new.format c.loop-line.invariant.counted turn c.in_ok-progress.ensures.read
          c.in_ok-progress.ensures.format;
    }

pub returns-in_err-progress : goal.returns-in_err-progress
returns-in_err-progress c =
    let items = c.split-line-items.ensures in
    let same = c.into_iter-line-iterator.ensures.into_iter_gives in
    let turn = item (λ x. x.now) c.loop-line.yielded _ c.loop-line.yielded_by _ _ c.in-Some.line c.in-Some.is c.next.ensures.steps
    (YieldsList-from_slice_split _ is_line_end c.args.bytes.now (ap split_rest same ∙ items.rest) (ap split_done same ∙ items.done)
    (ap split_callee same ∙ items.closure) (λ x b q k. search (rules, tests))) in
    let p = err_from_is_err_and c.from_residual.result c.from_residual.ensures.1 in
    let faulty =
    refused c.args.bytes.now c.loop-line.progress c.loop-line.format c.loop-line.number c.loop-line.invariant.rest (length c.loop-line.yielded)
    c.in-Some.line.now c.in_err-progress.field-0.0 c.loop-line.invariant.counted turn c.in_err-progress.ensures.read in
    rw (p.1, p.2) faulty

pub last_line-requires : goal.last_line-requires
last_line-requires c =
    let items = c.split-line-items.ensures in
    let same = c.into_iter-line-iterator.ensures.into_iter_gives in
    let all = no_item (λ x. x.now) c.loop-line.yielded _ c.loop-line.yielded_by _ _ c.in-None.is c.next.ensures.steps
    (YieldsList-from_slice_split _ is_line_end c.args.bytes.now (ap split_rest same ∙ items.rest) (ap split_done same ∙ items.done)
    (ap split_callee same ∙ items.closure) (λ x b q k. search (rules, tests))) in
    c.loop-line.invariant.counted ∙ all

pub returns : goal.returns
returns c =
    let items = c.split-line-items.ensures in
    let same = c.into_iter-line-iterator.ensures.into_iter_gives in
    let all = no_item (λ x. x.now) c.loop-line.yielded _ c.loop-line.yielded_by _ _ c.in-None.is c.next.ensures.steps
    (YieldsList-from_slice_split _ is_line_end c.args.bytes.now (ap split_rest same ∙ items.rest) (ap split_done same ∙ items.done)
    (ap split_callee same ∙ items.closure) (λ x b q k. search (rules, tests))) in
    let whole = done c.args.bytes.now c.loop-line.progress c.loop-line.format c.loop-line.number c.loop-line.invariant.rest (omega arith) in
    subst (λ (r : Result (List (List Command)) (ℕ × BlockKind)). MatchResult c.finish.result (λ blocks. r ≡ Ok blocks.items) (Refuses r)) (sym whole)
    (subst (λ (n : ℕ). MatchResult c.finish.result (λ blocks. closed c.loop-line.progress n ≡ Ok blocks.items) (Refuses (closed c.loop-line.progress n)))
    c.last_line.ensures c.finish.ensures)
