use Rattle.std.proofs.Common.{length, ap, ◌∙◌, refl, rules, arith}
use Rattle.std.proofs.lemmas.Iterator.Splits.{YieldsList-from_slice_split}
use Rattle.std.proofs.lemmas.List.{length_push}
use Rattle.std.proofs.lemmas.Result.{err_from_is_err_and}
use Rattle.std.specs.Slice.Iter.{split_rest, split_done, split_callee}
use Rattle.script_parser.specs.Grammar.{is_line_end}
use Rattle.script_parser.proofs.Lines.{item, no_item, taken, refused, done}
use Rattle.script_parser.proofs.Scripts.{script-from_parsed}
use Rattle.script_parser.proofs.script.parse.Goals as goal
use borrow.Author.Tests.{tests}

pub loop-line-init : goal.loop-line-init
loop-line-init c = record { counted = refl; rest = rw c.new-commands.ensures.items refl }

pub loop-line-preserved : goal.loop-line-preserved
loop-line-preserved c =
    let items = c.split-line-items.ensures in
    let same = c.into_iter-line-iterator.ensures.into_iter_gives in
    let turn = item (λ x. x.now) c.loop-line.yielded _ c.loop-line.yielded_by _ _ c.in-Some.line c.in-Some.is c.next.ensures.steps
    (YieldsList-from_slice_split _ is_line_end c.args.bytes.now (ap split_rest same ∙ items.rest) (ap split_done same ∙ items.done)
    (ap split_callee same ∙ items.closure) (λ x b q k. search (rules, tests))) in
    let pushed = length_push c.loop-line.yielded c.in-Some.line in
    record {
      counted = omega arith;
      rest = taken c.args.bytes.now c.loop-line.commands.items c.loop-line.format c.loop-line.number c.loop-line.invariant.rest (length c.loop-line.yielded)
          c.in-Some.line.now c.take_line.new.commands.items c.take_line.new.format c.loop-line.invariant.counted turn c.in_ok-take_line.ensures.read
          c.in_ok-take_line.ensures.format;
    }

pub returns-in_err-take_line : goal.returns-in_err-take_line
returns-in_err-take_line c =
    let items = c.split-line-items.ensures in
    let same = c.into_iter-line-iterator.ensures.into_iter_gives in
    let turn = item (λ x. x.now) c.loop-line.yielded _ c.loop-line.yielded_by _ _ c.in-Some.line c.in-Some.is c.next.ensures.steps
    (YieldsList-from_slice_split _ is_line_end c.args.bytes.now (ap split_rest same ∙ items.rest) (ap split_done same ∙ items.done)
    (ap split_callee same ∙ items.closure) (λ x b q k. search (rules, tests))) in
    let p = err_from_is_err_and c.from_residual.result c.from_residual.ensures.1 in
    let faulty =
    refused c.args.bytes.now c.loop-line.commands.items c.loop-line.format c.loop-line.number c.loop-line.invariant.rest (length c.loop-line.yielded)
    c.in-Some.line.now c.in_err-take_line.field-0.0 c.loop-line.invariant.counted turn c.in_err-take_line.ensures.read in
    record { exact = rw (p.1, p.2) faulty; few = rw p.1 tt }

pub returns : goal.returns
returns c =
    let items = c.split-line-items.ensures in
    let same = c.into_iter-line-iterator.ensures.into_iter_gives in
    let all = no_item (λ x. x.now) c.loop-line.yielded _ c.loop-line.yielded_by _ _ c.in-None.is c.next.ensures.steps
    (YieldsList-from_slice_split _ is_line_end c.args.bytes.now (ap split_rest same ∙ items.rest) (ap split_done same ∙ items.done)
    (ap split_callee same ∙ items.closure) (λ x b q k. search (rules, tests))) in
    let exact = done c.args.bytes.now c.loop-line.commands.items c.loop-line.format c.loop-line.number c.loop-line.invariant.rest (omega arith) in
    record { exact = exact; few = (script-from_parsed c.args.bytes.now c.loop-line.commands.items exact).few }
