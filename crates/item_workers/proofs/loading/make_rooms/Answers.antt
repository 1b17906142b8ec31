use Rattle.item_workers.proofs.Terms.{arith, sym, subst, take, take_more, take_all}
use Rattle.item_workers.proofs.Links.{zip_more}
use Rattle.item_workers.proofs.loading.make_rooms.Goals as goal

pub loop-source-preserved : goal.loop-source-preserved
loop-source-preserved g c =
    let i = c.loop-source.source-index in
    let sources = c.args.sources.now in
    let source = c.source-item.result in
    let answers = c.in_ok-answers.ensures in
    rw (take_more sources i source c.loop-source-test.true, c.in_ok-push.ensures.items)
    (rw (← c.source-item.is)
    (zip_more _ (take i sources) c.loop-source.rooms.items source _ c.loop-source.invariant
    (answers.items, omega (arith, answers.capacity, c.most.ensures))))

-- the memory of all sources is there, and each may be asked how much it gives
pub loop-source-init : goal.loop-source-init
loop-source-init g c = rw c.new-rooms.ensures.items tt

pub most-requires : goal.most-requires
most-requires g c = subst g.P.Source.may (sym c.source-item.is) (c.requires c.loop-source.source-index c.source-item.result c.loop-source-test.true)

pub returns : goal.returns
returns g c = rw (← take_all c.loop-source.source-index c.args.sources.now c.loop-source-test.false) c.loop-source.invariant
