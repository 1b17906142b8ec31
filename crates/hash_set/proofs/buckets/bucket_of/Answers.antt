use Rattle.hash_set.proofs.buckets.bucket_of.Goals as goal

pub returns : goal.returns
returns c = c.bucket.ensures
