use Rattle.std.proofs.Common.{◌≡◌, ◌≤◌}
use Rattle.grow_hash.proofs.Terms.{ap, ◌∙◌, arith, buckets_at, most_level, most_buckets}
use Rattle.grow_hash.proofs.Buckets.{last_buckets, few_heads}
use Rattle.grow_hash.proofs.table.first_node.Goals as goal

pub returns : goal.returns
returns c =
    let most : c.buckets_at-heads.result ≡ buckets_at (most_level c.args.levels) = c.buckets_at-heads.ensures ∙ ap buckets_at c.most_level-most.ensures in
    let last : most_buckets c.args.levels ≡ buckets_at (most_level c.args.levels) = last_buckets c.args.levels c.requires.least in
    omega arith

pub overflow_add-result : goal.overflow_add-result
overflow_add-result c =
    let most : c.buckets_at-heads.result ≡ buckets_at (most_level c.args.levels) = c.buckets_at-heads.ensures ∙ ap buckets_at c.most_level-most.ensures in
    let last : most_buckets c.args.levels ≡ buckets_at (most_level c.args.levels) = last_buckets c.args.levels c.requires.least in
    let few : most_buckets c.args.levels ≤ 1048576 = few_heads c.args.levels c.requires.least c.requires.most in
    record { fits = omega arith }
