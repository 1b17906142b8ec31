use Rattle.std.proofs.Common.{◌*◌, ◌%◌, ◌≡◌, ◌≤◌, ◌<◌, ◌-◌}
use Rattle.grow_hash.proofs.Terms.{ℕ, suc, [], take, slice_index_or, refl, sym, ap, ◌∙◌, subst, arith, length-set, mod-lt, hash, buckets_at, most_levels}
use Rattle.grow_hash.proofs.Buckets.{some_buckets, more_buckets, twice_buckets}
use Rattle.grow_hash.proofs.split.PartedReads.{Reads, PartedFrom, parted_none, parted_more, parted_whole}
use Rattle.grow_hash.proofs.bucket.part.Goals as goal

pub moved-requires : goal.moved-requires
moved-requires c =
    let same = c.buckets_at-buckets.ensures in
    let some : 16 ≤ buckets_at c.args.level = some_buckets c.args.level in
    let most : buckets_at (suc c.args.level) ≤ 1048576 = more_buckets most_levels c.args.level (omega arith)
    (omega (arith, c.requires.level, c.requires.most)) in
    let twice = twice_buckets c.args.level in
    let lt : c.hash-number.result % (2 * c.buckets_at-buckets.result) < 2 * c.buckets_at-buckets.result = mod-lt c.hash-number.result (omega arith) in
    record { bucket = omega arith }

pub loop-index-init : goal.loop-index-init
loop-index-init c = record {
  few = omega arith;
  whole = refl;
  parted = λ s r. parted_none c.args.levels _ _ _ _ _ _ refl c.requires.few;
}

pub loop-index-preserved : goal.loop-index-preserved
loop-index-preserved c = record {
  few = omega (arith, c.loop-index.invariant.few);
  whole = length-set c.loop-index.writes _ _ ∙ c.loop-index.invariant.whole;
  parted = λ s r.
      (let one : suc (c.loop-index.index - 1) ≡ c.loop-index.index = omega (arith, c.loop-index-test.true) in
      let h = c.loop-index.invariant.parted s r in
      let same = c.buckets_at-buckets.ensures in
      let twice : 2 * c.buckets_at-buckets.result ≡ buckets_at (suc c.args.level) = omega (arith, twice_buckets c.args.level) in
      parted_more c.args.levels s c.args.level c.args.place c.args.bucket.now.nodes c.args.bucket.now.keys (c.loop-index.index - 1) (0, []) r
      (omega (arith, c.loop-index.invariant.few, c.loop-index-test.true)) (omega (arith, c.requires.few, c.args.bucket.now.whole))
      c.loop-index.writes c.loop-index.firsts.stay c.loop-index.firsts.go _ _ _ _ _ c.loop-index.invariant.whole c.requires.few
      (subst (λ (i : ℕ). PartedFrom c.args.levels s c.args.level c.args.place (take c.args.bucket.now.keys c.args.bucket.now.nodes) c.loop-index.writes
      c.args.bucket.now.keys i c.loop-index.firsts.stay c.loop-index.firsts.go) (sym one) h)
      (ap (λ (n : ℕ). n % (2 * c.buckets_at-buckets.result)) c.hash-number.ensures
      ∙ ap (λ (m : ℕ). hash c.args.levels (slice_index_or (slice_index_or c.args.bucket.now.nodes (c.loop-index.index - 1) (0, [])).1 2 0) % m) twice)
      c.put-next.ensures.first c.put-next.ensures.stay c.put-next.ensures.go c.moved.ensures);
}

pub returns-clause-writes : goal.returns-clause-writes
returns-clause-writes c = λ s l e f r.
    (let reads : Reads c.args.levels s c.args.level c.args.place (take c.args.bucket.now.keys c.args.bucket.now.nodes) =
    record { lawful = l; level_is = e; place_is = f; read = r } in
    let z : c.loop-index.index ≡ 0 = omega (arith, c.loop-index-test.false) in
    parted_whole c.args.levels s c.args.level c.args.place _ _ _ _ _ _ _ _ reads c.loop-index.invariant.whole
    (subst (λ (i : ℕ). PartedFrom c.args.levels s c.args.level c.args.place (take c.args.bucket.now.keys c.args.bucket.now.nodes) c.loop-index.writes
    c.args.bucket.now.keys i c.loop-index.firsts.stay c.loop-index.firsts.go) z (c.loop-index.invariant.parted s reads))
    c.next_table.ensures (omega arith) (omega (arith, c.buckets_at-buckets.ensures)))
