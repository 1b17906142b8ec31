use Rattle.grow_hash.proofs.Terms.{arith}
use Rattle.grow_hash.proofs.Finding.{buckets_read, buckets_low, linked_bucket, few_found}
use Rattle.grow_hash.proofs.Sizes.{first_start, first_step, first_fits, first_end}
use Rattle.grow_hash.proofs.search.size.Goals as goal

pub loop-bucket-init : goal.loop-bucket-init
loop-bucket-init g c = record { before = c.table_of-level.ensures.as_before; count = first_start g.row.LEVELS _ c.requires.lawful; within = omega arith }

pub size_linked-count-requires-clause-linked : goal.size_linked-count-requires-clause-linked
size_linked-count-requires-clause-linked g c =
    let all = buckets_read g.row.LEVELS _ _ _ c.requires.lawful c.table_of-level.ensures.level c.table_of-level.ensures.place _ c.buckets-bucket-end.ensures in
    linked_bucket g.row.LEVELS _ _ _ c.requires.lawful (g.met.V.View.same_state _ _ c.loop-bucket.invariant.before) (omega (arith, c.loop-bucket-test.true))

pub size_linked-count-requires-clause-few : goal.size_linked-count-requires-clause-few
size_linked-count-requires-clause-few g c = few_found g.row.LEVELS _ _ c.requires.lawful (g.met.V.View.same_state _ _ c.loop-bucket.invariant.before)

pub overflow_add-count : goal.overflow_add-count
overflow_add-count g c =
    let all = buckets_read g.row.LEVELS _ _ _ c.requires.lawful c.table_of-level.ensures.level c.table_of-level.ensures.place _ c.buckets-bucket-end.ensures in
    let low = buckets_low g.row.LEVELS _ c.requires.lawful in
    let more = first_step g.row.LEVELS _ c.requires.lawful _ _ _ _ (omega (arith, c.loop-bucket-test.true))
    (g.met.V.View.same_state _ _ c.loop-bucket.invariant.before)
    c.loop-bucket.invariant.count c.size_linked-count.ensures.size in
    record { fits = (let few = first_fits g.row.LEVELS _ c.requires.lawful _ _ more in omega arith) }

pub loop-bucket-preserved : goal.loop-bucket-preserved
loop-bucket-preserved g c =
    let all = buckets_read g.row.LEVELS _ _ _ c.requires.lawful c.table_of-level.ensures.level c.table_of-level.ensures.place _ c.buckets-bucket-end.ensures in
    let low = buckets_low g.row.LEVELS _ c.requires.lawful in
    record {
      before = g.met.V.View.as_long_before _ _ _ c.loop-bucket.invariant.before c.size_linked-count.ensures.as_before;
      count = first_step g.row.LEVELS _ c.requires.lawful _ _ _ _ (omega (arith, c.loop-bucket-test.true))
          (g.met.V.View.same_state _ _ c.loop-bucket.invariant.before)
          c.loop-bucket.invariant.count c.size_linked-count.ensures.size;
      within = omega (arith, c.loop-bucket-test.true);
    }

pub returns-clause-size : goal.returns-clause-size
returns-clause-size g c =
    let all = buckets_read g.row.LEVELS _ _ _ c.requires.lawful c.table_of-level.ensures.level c.table_of-level.ensures.place _ c.buckets-bucket-end.ensures in
    first_end g.row.LEVELS _ c.requires.lawful _ _ (omega (arith, c.loop-bucket-test.false, c.loop-bucket.invariant.within)) c.loop-bucket.invariant.count
