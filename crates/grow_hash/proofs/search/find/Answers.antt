use Rattle.grow_hash.proofs.Terms.{arith}
use Rattle.grow_hash.proofs.Buckets.{few_heads}
use Rattle.grow_hash.proofs.Finding.{head_read, level_low, linked_found, few_found, window_found}
use Rattle.grow_hash.proofs.GrownStates.{bucket_low}
use Rattle.grow_hash.proofs.search.find.Goals as goal

pub bucket_of-head-requires : goal.bucket_of-head-requires
bucket_of-head-requires g c = record { level = level_low _ _ _ _ c.requires.lawful c.table_of-level.ensures.level c.table_of-level.ensures.place }

pub overflow_add-head : goal.overflow_add-head
overflow_add-head g c =
    omega (
      arith,
      few_heads _ c.requires.lawful.least c.requires.lawful.most,
      bucket_low g.row.LEVELS _ c.requires.lawful c.args.key,
      head_read g.row.LEVELS _ _ _ c.requires.lawful c.table_of-level.ensures.level c.table_of-level.ensures.place _ _ _ c.hash-number.ensures
          c.bucket_of-head.ensures,
    )

pub find_linked-window-requires-clause-linked : goal.find_linked-window-requires-clause-linked
find_linked-window-requires-clause-linked g c =
    linked_found g.row.LEVELS _ _ _ _ c.requires.lawful (g.met.V.View.same_state _ _ c.table_of-level.ensures.as_before)
    (head_read g.row.LEVELS _ _ _ c.requires.lawful c.table_of-level.ensures.level c.table_of-level.ensures.place _ _ _ c.hash-number.ensures
    c.bucket_of-head.ensures)

pub returns-clause-window : goal.returns-clause-window
returns-clause-window g c =
    window_found g.row.LEVELS _ _ _ _ _ _ _ _ (g.met.V.View.same_state _ _ c.table_of-level.ensures.as_before)
    (head_read g.row.LEVELS _ _ _ c.requires.lawful c.table_of-level.ensures.level c.table_of-level.ensures.place _ _ _ c.hash-number.ensures
    c.bucket_of-head.ensures)
    c.find_linked-window.ensures.window

pub find_linked-window-requires-clause-few : goal.find_linked-window-requires-clause-few
find_linked-window-requires-clause-few g c = few_found g.row.LEVELS _ _ c.requires.lawful (g.met.V.View.same_state _ _ c.table_of-level.ensures.as_before)

pub returns-clause-head : goal.returns-clause-head
returns-clause-head g c =
    head_read g.row.LEVELS _ _ _ c.requires.lawful c.table_of-level.ensures.level c.table_of-level.ensures.place _ _ _ c.hash-number.ensures
    c.bucket_of-head.ensures

pub returns-clause-as_before : goal.returns-clause-as_before
returns-clause-as_before g c = g.met.V.View.as_long_before _ _ _ c.table_of-level.ensures.as_before c.find_linked-window.ensures.as_before
