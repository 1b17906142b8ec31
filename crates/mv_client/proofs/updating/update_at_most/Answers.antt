use Rattle.std.proofs.Common.{refl}
use Rattle.mv_history.specs.CallLaws.{Continues-itself}
use Rattle.mv_client.proofs.Filled.{opened_before, last_by, last_continues, last_commits, last_mine, last_worn}
use Rattle.mv_client.proofs.updating.update_at_most.Goals.{in-Again, in_default}
use Rattle.mv_client.proofs.updating.update_at_most.Goals as goal

pub loop-nth-init : goal.loop-nth-init
loop-nth-init g c = last_by _ _ _ _ _ _ _ (Continues-itself _) refl c.attempt-store.ensures

pub attempt-next-requires-clause-callable : goal.attempt-next-requires-clause-callable
attempt-next-requires-clause-callable g c s o =
    let i = c.loop-nth.invariant in
    c.requires.callable s (opened_before _ _ _ _ (last_continues _ _ _ _ _ _ i) o)

pub attempt-next-requires-clause-fills : goal.attempt-next-requires-clause-fills
attempt-next-requires-clause-fills g c s t r o shows =
    let i = c.loop-nth.invariant in
    c.requires.fills s t r (opened_before _ _ _ _ (last_continues _ _ _ _ _ _ i) o) shows

pub loop-nth-preserved : goal.loop-nth-preserved
loop-nth-preserved g c =
    let i = c.loop-nth.invariant in
    elim c.match-answer.branch [
      | in-Again w ↦ rw (w.store-is, w.answer-is)
          (last_by _ _ _ _ _ _ _ (last_continues _ _ _ _ _ _ i) (last_mine _ _ _ _ _ _ i _ w.in-Again.is) w.attempt-next.ensures)
      | in_default w ↦ rw (w.store-is, w.answer-is) i
    ]

pub returns : goal.returns
returns g c =
    let i = c.loop-nth.invariant in
    record {
      continues = last_continues _ _ _ _ _ _ i;
      commits = last_commits _ _ _ _ _ _ i;
      worn = λ e. last_worn _ _ _ _ _ _ i (g.met.S.Store.lawful _).time e;
      updated = i;
    }
