use Rattle.std.proofs.Common.{◌∙◌, map}
use Rattle.std.proofs.lemmas.List.{length-map}
use Rattle.domain_run.proofs.Working.{workers_ready, workers_went_on, workers_did, written_back, zip_long}
use Rattle.domain_run.proofs.workers.run_each.Goals as goal

-- there is a task for each store
pub pair_up-requires-clause-as_many : goal.pair_up-requires-clause-as_many
pair_up-requires-clause-as_many g c =
    zip_long g.T.Task.ready (map g.S.Store.seat_of c.args.stores.items) c.args.tasks.items c.requires.ready
    ∙ length-map c.args.stores.items g.S.Store.seat_of

pub run_all-requires-after_bounds : goal.run_all-requires-after_bounds
run_all-requires-after_bounds g c κs within =
    rw c.as_mut_slice.ensures.value
    (workers_ready (λ w. w.store) (λ w. w.task) g.S.Store.seat_of g.T.Task.ready c.pair_up.new.workers.items
    (rw (c.pair_up.ensures.stores, c.pair_up.ensures.tasks) c.requires.ready))

pub returns-clause-gone_on : goal.returns-clause-gone_on
returns-clause-gone_on g c =
    let ws = c.pair_up.new.workers.items in
    let ns = c.run_all.new.workers in
    let whole = c.pair_up.new.workers.ok.0 in
    let back = written_back ns ws c.pair_up.new.workers.len whole (c.run_all.auto.workers ∙ c.as_mut_slice.ensures.len ∙ whole) in
    rw (c.part.ensures.stores, back, ← c.pair_up.ensures.stores)
    (workers_went_on (λ w. w.store) (λ w. w.task) g.S.Store.seat_of (g.T.Task.did g.S.Store.took) ws ns (rw (← c.as_mut_slice.ensures.value) c.run_all.ensures))

pub returns-clause-did : goal.returns-clause-did
returns-clause-did g c =
    let ws = c.pair_up.new.workers.items in
    let ns = c.run_all.new.workers in
    let whole = c.pair_up.new.workers.ok.0 in
    let back = written_back ns ws c.pair_up.new.workers.len whole (c.run_all.auto.workers ∙ c.as_mut_slice.ensures.len ∙ whole) in
    rw (c.part.ensures.stores, c.part.ensures.tasks, back, ← c.pair_up.ensures.stores, ← c.pair_up.ensures.tasks)
    (workers_did (λ w. w.store) (λ w. w.task) g.S.Store.seat_of (g.T.Task.did g.S.Store.took) ws ns (rw (← c.as_mut_slice.ensures.value) c.run_all.ensures))
