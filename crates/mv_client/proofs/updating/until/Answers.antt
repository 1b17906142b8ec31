use Rattle.std.proofs.Common.{refl}
use Rattle.mv_history.specs.CallLaws.{Continues-itself}
use Rattle.mv_client.proofs.Filled.{opened_before, updated_as, last_by, last_continues, last_commits, last_mine, last_worn}
use Rattle.mv_client.proofs.updating.until.Goals as goal

pub loop-init : goal.loop-init
loop-init g c = record { continues = Continues-itself _; mine = refl }

pub attempt-next-requires-clause-callable : goal.attempt-next-requires-clause-callable
attempt-next-requires-clause-callable g c s o =
    c.requires.callable s (opened_before _ _ _ _ c.loop.invariant.continues o)

pub attempt-next-requires-clause-fills : goal.attempt-next-requires-clause-fills
attempt-next-requires-clause-fills g c s t r o shows =
    c.requires.fills s t r (opened_before _ _ _ _ c.loop.invariant.continues o) shows

pub loop-preserved : goal.loop-preserved
loop-preserved g c =
    let l = last_by _ _ _ _ _ _ _ c.loop.invariant.continues c.loop.invariant.mine c.attempt-next.ensures in
    record { continues = last_continues _ _ _ _ _ _ l; mine = last_mine _ _ _ _ _ _ l _ c.in-Again.is }

pub returns-in-Done : goal.returns-in-Done
returns-in-Done g c =
    let u = updated_as _ _ _ _ _ _ _ c.in-Done.is c.attempt-next.ensures in
    let l = last_by _ _ _ _ _ _ _ c.loop.invariant.continues c.loop.invariant.mine u in
    record { continues = last_continues _ _ _ _ _ _ l; commits = last_commits _ _ _ _ _ _ l; worn = λ e. absurd (cc); updated = l }

pub returns-in-End : goal.returns-in-End
returns-in-End g c =
    let u = updated_as _ _ _ _ _ _ _ c.in-End.is c.attempt-next.ensures in
    let l = last_by _ _ _ _ _ _ _ c.loop.invariant.continues c.loop.invariant.mine u in
    record {
      continues = last_continues _ _ _ _ _ _ l;
      commits = last_commits _ _ _ _ _ _ l;
      worn = λ e. last_worn _ _ _ _ _ _ l (g.met.S.Store.lawful _).time refl;
      updated = l;
    }
