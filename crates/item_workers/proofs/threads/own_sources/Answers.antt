use Rattle.item_workers.proofs.Terms.{◌∙◌, map, take, take_more, map-append, All-push, IsAt, items_of}
use Rattle.item_workers.proofs.Serves.{at_first}
use Rattle.item_workers.proofs.Links.{zip_more}
use Rattle.item_workers.proofs.threads.own_sources.Goals as goal

pub loop-list-preserved : goal.loop-list-preserved
loop-list-preserved g c =
    let i = c.loop-list.list-index in
    let lists = c.args.lists.now in
    let list = c.list-item.result in
    let own = c.new.result in
    let items = c.new.ensures.items ∙ c.deref.ensures.value in
    let may = rw (← c.list-item.is) at (c.requires i list c.loop-list-test.true) in
    record {
      own = rw (take_more lists i list c.loop-list-test.true, map-append items_of (take i lists), c.in_ok-push.ensures.items)
          (rw (← c.list-item.is) (zip_more _ (map items_of (take i lists)) c.loop-list.sources.items list.items own c.loop-list.invariant.own
          (items, c.new.ensures.first.0, c.new.ensures.first.1)));
      may = rw c.in_ok-push.ensures.items (All-push (IsAt g.W.Runner.does g.W.Runner.width_of) c.loop-list.sources.items own c.loop-list.invariant.may
          (at_first g.W.Runner.does g.W.Runner.width_of own (rw items may) c.new.ensures.first.0 c.new.ensures.first.1));
    }
