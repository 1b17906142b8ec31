use Rattle.std.proofs.Common.{◌≡◌, [], length, take, get_or, refl, arith, sym, ap, subst, length-take-le}
use Rattle.std.proofs.lemmas.List.{get_or-take}
use Rattle.mv_history.specs.State.{written}
use Rattle.mv_history.specs.Calls.{commit_by}
use Rattle.plain_store.specs.Plain.{plain_section}
use Rattle.plain_store.specs.Meaning.{commits_in}
use Rattle.mv_history.proofs.Writing.{length-written, touches_at}
use Rattle.plain_store.proofs.Held.{written_more}
use Rattle.plain_store.proofs.Seats.{clock_pushed, current_pushed, seat_pushed, length-current}
use Rattle.plain_store.proofs.store.PlainStore.add.Goals as goal

pub index_mut-requires : goal.index_mut-requires
index_mut-requires g c =
    let s = c.args.self in
    let i = c.loop-i.i in
    let held = c.args.held in
    let few : length (take held c.args.own) ≡ held = length-take-le held c.args.own (omega arith) in
    let within = c.requires.lawful.within (get_or c.args.own i (0, [])).0
    (touches_at (take held c.args.own) i _ (0, []) (omega arith) (ap (λ w. w.0) (get_or-take held c.args.own i (0, []) c.loop-i-test.true))) in
    omega (
      arith,
      within,
      c.loop-i.words.ok.0,
      ap length c.loop-i.invariant,
      length-written s.words.items (take i c.args.own),
      length-current s.start.value.items s.words.items (commits_in s) s.current,
    )

pub loop-i-preserved : goal.loop-i-preserved
loop-i-preserved g c =
    rw (c.loop-i.invariant) (sym (written_more c.args.self.words.items c.args.own c.loop-i.i (0, []) (omega arith)))

pub invariant_of-result-clause-current : goal.invariant_of-result-clause-current
invariant_of-result-clause-current g c =
    let s = c.args.self in
    let last : c.loop-i.i ≡ c.args.held = omega arith in
    let done = subst (λ n. c.loop-i.words.items ≡ written s.words.items (take n c.args.own)) last c.loop-i.invariant in
    rw (c.of.ensures) (current_pushed s.start.value.items s.words.items c.loop-i.words.items (commits_in s) _ s.current done)

pub invariant_of-result-clause-lawful : goal.invariant_of-result-clause-lawful
invariant_of-result-clause-lawful g c =
    let s = c.args.self in
    let few : length (take c.args.held c.args.own) ≡ c.args.held = length-take-le c.args.held c.args.own (omega arith) in
    rw (c.of.ensures)
    (seat_pushed g.P.Protocol.start g.P.Protocol.allowed s.start.value.items (commits_in s) s.base s.last c.args.tag
    (take c.args.held c.args.own) c.requires.lawful (omega arith) (omega (arith, c.requires.time, s.clock))
    (subst (λ z. g.P.Protocol.allowed c.args.tag z (take c.args.held c.args.own)) s.current c.requires.allowed))

pub invariant_of-result-clause-clock : goal.invariant_of-result-clause-clock
invariant_of-result-clause-clock g c =
    let s = c.args.self in
    let more = commit_by (plain_section s.start.value.items (commits_in s) s.base s.last (take c.args.held c.args.own)) c.args.tag in
    rw (c.of.ensures) (clock_pushed s.time s.base (commits_in s) more s.clock)

pub returns-clause-commits : goal.returns-clause-commits
returns-clause-commits g c = rw (c.of.ensures) refl
