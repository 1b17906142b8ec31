use Rattle.std.proofs.Common.{arith}
use Rattle.run_report.specs.Summary.{is_no}
use Rattle.run_report.proofs.Counted.{counted_low}
use Rattle.run_report.proofs.counts.count_no.Goals as goal

pub overflow_add-count : goal.overflow_add-count
overflow_add-count c =
    let low = counted_low is_no c.args.lines.now c.loop-line.line-index c.loop-line-test.true in
    omega (arith, low, c.loop-line.invariant, c.loop-line-test.true)
