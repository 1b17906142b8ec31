use Rattle.std.proofs.Common.{arith, ap}
use Rattle.plain_store.proofs.Seats.{opens}
use Rattle.plain_store.proofs.store.PlainStore.new.Goals as goal

pub invariant_of-result-clause-lawful : goal.invariant_of-result-clause-lawful
invariant_of-result-clause-lawful g c =
    rw (c.of-2.ensures, ap (λ v. v.items) c.of.ensures, c.in_ok-words.ensures.items)
    (opens g.P.Protocol.start g.P.Protocol.allowed c.args.start.now c.args.base _ c.requires.lawful c.have_width.ensures (omega arith) (omega arith))
