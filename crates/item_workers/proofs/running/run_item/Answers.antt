use Rattle.item_workers.proofs.running.run_item.Goals as goal

-- an item that was begun is not done yet
pub loop-init : goal.loop-init
loop-init g c = g.met.W.Runner.begins c.args.runner.now c.args.item.now c.requires.ready c.requires.does

pub try_item-requires : goal.try_item-requires
try_item-requires g c = record { does = c.requires.does; under = (g.W.Runner.kept_of c.args.runner.now, c.loop.invariant) }

pub loop-preserved : goal.loop-preserved
loop-preserved g c = c.in-Again.ensures (g.W.Runner.kept_of c.args.runner.now) c.loop.invariant

pub returns-in-Done : goal.returns-in-Done
returns-in-Done g c = let done = c.in-Done.ensures (g.W.Runner.kept_of c.args.runner.now) c.loop.invariant in record { link = done.0; ready = done.1 }
