use Rattle.std.proofs.Common.{refl, arith}
use Rattle.mv_client.proofs.Rewriting.{next_raises}
use Rattle.client_run.proofs.Told.{then_ok, raised_by_all, each_told}
use Rattle.counter.specs.Counting.{count, asked_of, done_of}
use Rattle.counter.proofs.run_counters.Goals as goal

pub returns-clause-last : goal.returns-clause-last
returns-clause-last g c = then_ok c.run_over.result c.run_over.ensures.ran
    (λ done ran. raised_by_all ran.2 count (next_raises 0 (λ w. refl)) done_of (λ a b o n did. did.mine) (omega (arith, c.args.counters.ok.0)))

pub returns-clause-each : goal.returns-clause-each
returns-clause-each g c = then_ok c.run_over.result c.run_over.ensures.ran (λ done ran. each_told ran.2 asked_of done_of (λ a b o n did. did))
