use Rattle.std.proofs.Common.{take}
use Rattle.plain_store.specs.Meaning.{commits_in}
use Rattle.plain_store.proofs.Held.{own_rewritten}
use Rattle.plain_store.proofs.Seats.{section_rewritten, rewrites}
use Rattle.plain_store.proofs.section.PlainSectionSection.write.Goals as goal

pub invariant_of-self-clause-lawful : goal.invariant_of-self-clause-lawful
invariant_of-self-clause-lawful g c =
    let s = c.args.self.now in
    let found = c.in-Some.ensures.found in
    let own = own_rewritten s.own s.held c.in-Some.i c.args.object c.args.words found.0 found.1 found.2 in
    rw own (section_rewritten g.P.Protocol.start g.P.Protocol.allowed s.store.start.value.items (commits_in s.store) s.store.base s.store.last
    (take s.held s.own) c.args.object c.args.words c.has_width.ensures s.lawful)

pub returns-in-Some-clause-rewrites : goal.returns-in-Some-clause-rewrites
returns-in-Some-clause-rewrites g c =
    let s = c.args.self.now in
    let found = c.in-Some.ensures.found in
    let own = own_rewritten s.own s.held c.in-Some.i c.args.object c.args.words found.0 found.1 found.2 in
    rw own (rewrites s.store.start.value.items (commits_in s.store) s.store.base s.store.last (take s.held s.own) c.args.object c.args.words)
