use Rattle.std.proofs.Common.{◌≡◌, ◌++◌, take, vec_capacity}
use Rattle.memory_io.proofs.memory.put_all.Given as goal

abbrev pub invariant-loop-byte : goal.invariant-loop-byte
invariant-loop-byte l = (l.into.items ≡ l.initial.into.items ++ take l.byte-index l.bytes) × (vec_capacity l.into ≡ vec_capacity l.initial.into)
