use Rattle.run_report.proofs.Runs.{legal_permuted}
use Rattle.run_report.proofs.history.OneRun.{run_permuted}
use Rattle.run_report.proofs.line.order.Goals as goal

pub returns-clause-legal : goal.returns-clause-legal
returns-clause-legal c scripts base capacity end legal = legal_permuted scripts _ _ base capacity end c.sort.ensures.permutation legal

pub returns-clause-whole : goal.returns-clause-whole
returns-clause-whole c p scripts end tables run = run_permuted p scripts _ _ end tables c.sort.ensures.permutation run
