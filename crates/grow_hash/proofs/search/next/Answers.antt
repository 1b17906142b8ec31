use Rattle.grow_hash.proofs.Terms.{arith, sym, subst}
use Rattle.grow_hash.proofs.Finding.{buckets_read, linked_bucket, few_found, next_found}
use Rattle.grow_hash.proofs.NextKeys.{LeastOf, least_start, least_same, least_less, least_end}
use Rattle.grow_hash.proofs.search.next.Goals.{then-window-ne0, else-window-ne0}
use Rattle.grow_hash.proofs.search.next.Goals as goal

pub loop-bucket-init : goal.loop-bucket-init
loop-bucket-init g c = record { before = c.table_of-level.ensures.as_before; least = least_start g.row.LEVELS _ _; within = omega arith }

pub find_linked-window-requires-clause-linked : goal.find_linked-window-requires-clause-linked
find_linked-window-requires-clause-linked g c =
    let all = buckets_read g.row.LEVELS _ _ _ c.requires.lawful c.table_of-level.ensures.level c.table_of-level.ensures.place _ c.buckets-bucket-end.ensures in
    linked_bucket g.row.LEVELS _ _ _ c.requires.lawful (g.met.V.View.same_state _ _ c.loop-bucket.invariant.before) (omega (arith, c.loop-bucket-test.true))

pub find_linked-window-requires-clause-few : goal.find_linked-window-requires-clause-few
find_linked-window-requires-clause-few g c = few_found g.row.LEVELS _ _ c.requires.lawful (g.met.V.View.same_state _ _ c.loop-bucket.invariant.before)

pub loop-bucket-preserved : goal.loop-bucket-preserved
loop-bucket-preserved g c =
    let all = buckets_read g.row.LEVELS _ _ _ c.requires.lawful c.table_of-level.ensures.level c.table_of-level.ensures.place _ c.buckets-bucket-end.ensures in
    let found = next_found _ _ _ _ _ (g.met.V.View.same_state _ _ c.loop-bucket.invariant.before) c.find_linked-window.ensures.window.least in
    record {
      before = g.met.V.View.as_long_before _ _ _ c.loop-bucket.invariant.before c.find_linked-window.ensures.as_before;
      least = elim c.if-window-ne0.branch [
        | then-window-ne0 w ↦ subst (LeastOf g.row.LEVELS (g.V.View.state c.args.view.now) c.args.key _) (sym w.least-is)
            (least_less g.row.LEVELS _ _ _ _ c.find_linked-window.result.node_words c.requires.lawful _ c.loop-bucket.invariant.least
            found _ w.if-window-ne0.true w.lesser.ensures)
        | else-window-ne0 w ↦ subst (LeastOf g.row.LEVELS (g.V.View.state c.args.view.now) c.args.key _) (sym w.least-is)
            (least_same g.row.LEVELS _ _ _ _ c.find_linked-window.result.node_words c.requires.lawful _ c.loop-bucket.invariant.least found
            w.if-window-ne0.false)
      ];
      within = omega (arith, c.loop-bucket-test.true);
    }

pub returns-clause-next : goal.returns-clause-next
returns-clause-next g c =
    let all = buckets_read g.row.LEVELS _ _ _ c.requires.lawful c.table_of-level.ensures.level c.table_of-level.ensures.place _ c.buckets-bucket-end.ensures in
    least_end g.row.LEVELS _ _ _ _ c.requires.lawful (omega (arith, c.loop-bucket-test.false, c.loop-bucket.invariant.within)) c.loop-bucket.invariant.least
