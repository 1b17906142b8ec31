use Rattle.std.proofs.Common.{◌≡◌, ◌+◌, ◌-◌, Bool, true, false, cond, ap, sym, ◌∙◌, nat_eq, arith, codes}
use Rattle.std.specs.Prelude.{count_by}
use Rattle.std.specs.List.{ends_with}
use Rattle.std.proofs.lemmas.List.Splits.{length-slice_split}
use Rattle.script_parser.specs.Grammar.{is_line_end}
use Rattle.block_parser.proofs.parsing.last_line.Goals as goal

pub returns-then-ends_with : goal.returns-then-ends_with
returns-then-ends_with c =
    let parts = length-slice_split is_line_end c.args.bytes.now in
    let ends : ends_with nat_eq c.args.bytes.now (codes "\n") ≡ true = sym c.ends_with.ensures.value ∙ c.if-ends_with.true in
    let less : c.args.parts - 1 ≡ count_by is_line_end c.args.bytes.now = omega (arith, parts, c.requires) in
    less
    ∙ sym (ap (λ (b : Bool). cond b (count_by is_line_end c.args.bytes.now) (count_by is_line_end c.args.bytes.now + 1)) ends)

pub returns-else-ends_with : goal.returns-else-ends_with
returns-else-ends_with c =
    let parts = length-slice_split is_line_end c.args.bytes.now in
    let ends : ends_with nat_eq c.args.bytes.now (codes "\n") ≡ false = sym c.ends_with.ensures.value ∙ c.if-ends_with.false in
    c.requires ∙ parts
    ∙ sym (ap (λ (b : Bool). cond b (count_by is_line_end c.args.bytes.now) (count_by is_line_end c.args.bytes.now + 1)) ends)
