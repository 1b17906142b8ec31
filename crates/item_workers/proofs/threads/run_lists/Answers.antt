use Rattle.std.proofs.lemmas.Slice.Zip.{AllZip-long}
use Rattle.item_workers.proofs.Terms.{◌∙◌, map, length-map, items_of}
use Rattle.item_workers.proofs.Serves.{own_did}
use Rattle.item_workers.proofs.threads.run_lists.Goals as goal

-- there is a source for each list
pub run_sources-requires-clause-as_many : goal.run_sources-requires-clause-as_many
run_sources-requires-clause-as_many g c κs within =
    AllZip-long _ (map items_of c.args.lists.now) c.in-Ok.sources.items c.in-Ok.ensures.own ∙ length-map c.args.lists.now items_of ∙ c.requires.as_many

pub returns-in-Ok-run_sources-clause-did : goal.returns-in-Ok-run_sources-clause-did
returns-in-Ok-run_sources-clause-did g c =
    own_did g.W.Runner.seat_of g.W.Runner.link g.W.Runner.width_of (map g.W.Runner.first c.args.stores.items) (map items_of c.args.lists.now)
    c.in-Ok.sources.items (map g.W.Runner.seat_in c.in-Ok-run_sources.stores.items) _ c.in-Ok-run_sources.answers.items c.in-Ok.ensures.own
    c.in-Ok-run_sources.ensures.served
