use Rattle.item_workers.proofs.Terms.{◌≡◌, ◌≤◌, ◌+◌, ◌++◌, map, length, All, vec_len, vec_capacity, AreRooms, IsReady, keeps, source_of}
use Rattle.item_workers.proofs.loading.load.Given as goal

abbrev pub invariant-loop-stores : goal.invariant-loop-stores
invariant-loop-stores g l = record {
  kept : map (keeps g.W.Runner.kept_of) l.workers.items ++ map g.W.Runner.first l.stores.items ≡ map g.W.Runner.first l.initial.stores.items;
  sources : map source_of l.workers.items ++ l.sources.items ≡ l.initial.sources.items;
  ready : All (IsReady g.W.Runner.ready g.P.Source.may g.P.Source.left) l.workers.items;
  as_many : length l.sources.items ≡ length l.stores.items;
  fit : All g.W.Runner.fits l.stores.items;
  may : All g.P.Source.may l.sources.items;
  rooms : AreRooms g.P.Source.left l.sources.items l.rooms.items;
  places : length l.workers.items + length l.stores.items ≤ vec_capacity l.workers;
  capacity : (vec_capacity l.stores ≡ vec_capacity l.initial.stores) × (vec_capacity l.sources ≡ vec_capacity l.initial.sources);
}

abbrev pub decreases-loop-stores : goal.decreases-loop-stores
decreases-loop-stores g l = vec_len l.stores
