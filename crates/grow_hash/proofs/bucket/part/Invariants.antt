use Rattle.std.proofs.Common.{◌≡◌, ◌≤◌}
use Rattle.grow_hash.proofs.Terms.{length, take, State}
use Rattle.grow_hash.proofs.split.PartedReads.{Reads, PartedFrom}
use Rattle.grow_hash.proofs.bucket.part.Given as goal

abbrev pub invariant-loop-index : goal.invariant-loop-index
invariant-loop-index l = record {
  few : l.index ≤ l.bucket.keys;
  whole : length l.writes ≡ 64;
  parted : (s : State) → Reads l.levels s l.level l.place (take l.bucket.keys l.bucket.nodes)
      → PartedFrom l.levels s l.level l.place (take l.bucket.keys l.bucket.nodes) l.writes l.bucket.keys l.index l.firsts.stay l.firsts.go;
}

abbrev pub decreases-loop-index : goal.decreases-loop-index
decreases-loop-index l = l.index
