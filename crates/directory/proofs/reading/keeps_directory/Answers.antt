use Rattle.directory.proofs.Seeing.{placed_at, details_at}
use Rattle.directory.proofs.reading.keeps_directory.Goals as goal

pub returns : goal.returns
returns g c = record {
  placed = placed_at (g.S.Store.seat_of c.args.store.now) (g.met.S.Store.lawful c.args.store.now);
  details = details_at (g.S.Store.seat_of c.args.store.now) (g.met.S.Store.lawful c.args.store.now);
}
