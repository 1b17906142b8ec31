use Rattle.std.proofs.Common.{length, ap, ◌∙◌}
use Rattle.mv_history.proofs.Writing.{length-state_after}
use Rattle.mvrlu.specs.Meant.{whole_of}
use Rattle.domain_loan.proofs.Rows.{if_ok}
use Rattle.work_tests.proofs.counter.count_together.Goals as goal

pub returns : goal.returns
returns g c =
    if_ok c.run.result (λ done ran. let w = whole_of done.0 in length-state_after w.start w.history ∙ ap length ran.2.opening) c.run.ensures.ran
