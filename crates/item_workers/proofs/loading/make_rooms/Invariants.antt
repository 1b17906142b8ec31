use Rattle.item_workers.proofs.Terms.{take, AreRooms}
use Rattle.item_workers.proofs.loading.make_rooms.Given as goal

abbrev pub invariant-loop-source : goal.invariant-loop-source
invariant-loop-source g l = AreRooms g.P.Source.left (take l.source-index l.sources) l.rooms.items
