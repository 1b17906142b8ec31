use Rattle.item_workers.proofs.Terms.{All, map, take, IsAt, AreOwn, items_of}
use Rattle.item_workers.proofs.threads.own_sources.Given as goal

abbrev pub invariant-loop-list : goal.invariant-loop-list
invariant-loop-list g l = record {
  own : AreOwn (map items_of (take l.list-index l.lists)) l.sources.items;
  may : All (IsAt g.W.Runner.does g.W.Runner.width_of) l.sources.items;
}
