use Rattle.grow_report.proofs.OneRun.{run_permuted}
use Rattle.grow_report.proofs.line.order_grown.Goals as goal

pub returns-clause-whole : goal.returns-clause-whole
returns-clause-whole c = λ p scripts end splits tables run.
    run_permuted p scripts c.args.lines.now.items c.order.new.lines.items end splits tables c.order.ensures.permutation run
