use Rattle.std.proofs.Common.{◌+◌, arith}
use Rattle.script_parser.proofs.Numerals.{small, more}
use Rattle.script_parser.proofs.numbers.number_of.Goals as goal

pub overflow_mul-number : goal.overflow_mul-number
overflow_mul-number c = omega (arith, small c.args.word.now c.requires c.loop-digit.digit-index)

pub overflow_add-number : goal.overflow_add-number
overflow_add-number c =
    omega (
      arith,
      small c.args.word.now c.requires (c.loop-digit.digit-index + 1),
      more c.args.word.now c.requires c.loop-digit.digit-index c.loop-digit.number c.from.result c.loop-digit-test.true c.loop-digit.invariant c.from.ensures,
    )

pub loop-digit-preserved : goal.loop-digit-preserved
loop-digit-preserved c =
    more c.args.word.now c.requires c.loop-digit.digit-index c.loop-digit.number c.from.result c.loop-digit-test.true c.loop-digit.invariant c.from.ensures
