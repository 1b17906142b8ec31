use Rattle.run_report.proofs.Stretches.{cut_more}
use Rattle.run_report.proofs.cuts.cut.Goals as goal

pub loop-stretch-preserved : goal.loop-stretch-preserved
loop-stretch-preserved c =
    rw (c.in_ok-push.ensures.items, c.in_ok-push-2.ensures.items)
    (cut_more c.args.stretches.now c.loop-stretch.stretch-index _ c.loop-stretch.fronts.items c.loop-stretch.backs.items c.split_at.result.0
    c.split_at.result.1 c.loop-stretch-test.true c.split_at.ensures.by_index.0 c.loop-stretch.invariant)
