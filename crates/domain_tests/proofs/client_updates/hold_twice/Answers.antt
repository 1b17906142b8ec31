use Rattle.std.proofs.Common.{length, ap, inl, inr, arith}
use Rattle.domain_tests.proofs.client_updates.hold_twice.Goals as goal

pub lock_all-requires-clause-within : goal.lock_all-requires-clause-within
lock_all-requires-clause-within g c o i =
    let long = ap length (g.met.S.Open.Section.reads c.begin-section.result) in
    elim i [
      | inl e ↦ omega (arith, e, long, c.begin-section.ensures.objects, c.requires.object)
      | inr j ↦ elim j [ inl e ↦ omega (arith, e, long, c.begin-section.ensures.objects, c.requires.object) | inr none ↦ absurd none ]
    ]
