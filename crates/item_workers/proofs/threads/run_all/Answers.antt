use Rattle.item_workers.proofs.Terms.{RanBy}
use Rattle.item_workers.proofs.Links.{each_zip}
use Rattle.item_workers.proofs.threads.run_all.Goals as goal

pub returns : goal.returns
returns g c =
    each_zip (RanBy g.W.Runner.kept_of g.W.Runner.seat_of g.W.Runner.link g.P.Source.gives g.P.Source.ended) c.args.workers.now c.for_each_mut.new.s
    c.for_each_mut.auto.s (λ i d lt. let h = c.for_each_mut.ensures i d lt in rw (← h.1.argument_is, ← h.1.left) h.1.call)
