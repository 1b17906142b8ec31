use Rattle.std.proofs.Common.{◌≡◌, map, drop}
use Rattle.memory_io.specs.Memory.{named, text_of}
use Rattle.memory_io.proofs.memory.find_text.Given as goal

abbrev pub invariant-loop-place : goal.invariant-loop-place
invariant-loop-place l = text_of (map named l.texts) l.name ≡ text_of (map named (drop l.place l.texts)) l.name
