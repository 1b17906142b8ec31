use Rattle.std.proofs.Common.{sym, subst}
use Rattle.domain_run.proofs.Working.{each_zip}
use Rattle.domain_run.proofs.workers.run_all.Goals as goal

pub for_each_mut-requires-clause-accepts : goal.for_each_mut-requires-clause-accepts
for_each_mut-requires-clause-accepts g c κs within = λ i p lt is.
    subst (λ w. g.T.Task.ready (g.S.Store.seat_of w.store) w.task) (sym is) (c.requires i p.now lt)

pub returns : goal.returns
returns g c =
    each_zip _ c.args.workers.now c.for_each_mut.new.s c.for_each_mut.auto.s
    (λ i d lt. let h = c.for_each_mut.ensures i d lt in rw (← h.1.argument_is, ← h.1.left) h.1.call)
