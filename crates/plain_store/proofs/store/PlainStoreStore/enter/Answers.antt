use Rattle.std.proofs.Common.{refl, [], arith}
use Rattle.std.proofs.lemmas.List.Elements.{All-nil}
use Rattle.plain_store.specs.declared.history.TheConstants.{WRITE_MAX}
use Rattle.plain_store.specs.Meaning.{commits_in}
use Rattle.plain_store.proofs.Seats.{section_is}
use Rattle.plain_store.proofs.store.PlainStoreStore.enter.Goals as goal

pub invariant_of-result-clause-lawful : goal.invariant_of-result-clause-lawful
invariant_of-result-clause-lawful g c =
    let s = c.args.self in
    section_is g.P.Protocol.start g.P.Protocol.allowed s.start.value.items (commits_in s) s.base s.last [] WRITE_MAX s.lawful refl (λ o t. absurd (cc))
    (All-nil _) (omega arith)
