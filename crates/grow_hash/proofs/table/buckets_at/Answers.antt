use Rattle.grow_hash.proofs.Terms.{arith, buckets_at, ◌≤◌}
use Rattle.grow_hash.proofs.Buckets.{few_buckets}
use Rattle.grow_hash.proofs.table.buckets_at.Goals as goal

pub returns : goal.returns
returns c = let few : buckets_at c.args.level ≤ 1048576 = few_buckets 20 c.args.level (omega arith) (omega arith) in omega arith
