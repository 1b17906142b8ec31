use Rattle.std.proofs.Common.{List, sym, ap, subst}
use Rattle.mv_core.proofs.Terms.{Shows}
use Rattle.mv_core.specs.Start.{opening_memory}
use Rattle.mv_core.proofs.kinds.opening.KnownPasses.{first_begins}
use Rattle.mv_core.proofs.kinds.opening.MakeSeat.{opened}
use Rattle.mv_core.proofs.shared.Shared.open.Goals as goal

pub of_words-requires : goal.of_words-requires
of_words-requires g c =
    let shows : Shows c.args.config.now c.as_slice.result.now (opening_memory c.args.config.now c.args.start.value.items) =
    subst (λ (ws : List _). Shows c.args.config.now ws (opening_memory c.args.config.now c.args.start.value.items)) (sym c.as_slice.ensures.value)
    c.requires.shows.1 in
    opened _ _ _ c.as_slice.result.now c.requires.checked c.requires.sized c.requires.shows.0 c.requires.lawful shows

pub invariant_of-first : goal.invariant_of-first
invariant_of-first g c =
    let r = first_begins g.P.Protocol.start g.P.Protocol.allowed c.args.config.now c.args.start.value.items c.in_ok-table.seat.me.0
    c.requires.checked c.requires.shows.0 c.requires.lawful (ap (λ m. m.0) c.in_ok-table.ensures.4) in
    record { numbered = sym r.0; timed = r.1; begun = r.2; known = r.3; in_domain = r.4 c.args.config.now; taken = ap (λ m. m.1) c.in_ok-table.ensures.4 }
