use Rattle.accounts.proofs.Totals.{total-state_at}
use Rattle.accounts.proofs.reading.keeps_total.Goals as goal

pub returns : goal.returns
returns g c = total-state_at (g.S.Store.seat_of c.args.store.now) (g.met.S.Store.lawful c.args.store.now)
