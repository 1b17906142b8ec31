use Rattle.std.proofs.Common.{arith}
use Rattle.set_seats.proofs.SetEntries.{none_above}
use Rattle.set_seats.proofs.walk.entry_after.Goals as goal

pub returns-then-key-eq4294967295-clause-entry : goal.returns-then-key-eq4294967295-clause-entry
returns-then-key-eq4294967295-clause-entry g c =
    let is = c.if-key-eq4294967295.true in
    none_above (g.V.View.state c.args.view.now) c.args.name c.args.key c.requires.lawful (omega (arith, is))
