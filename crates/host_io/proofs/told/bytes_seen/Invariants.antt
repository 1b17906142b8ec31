use Rattle.std.proofs.Common.{◌≡◌, take}
use Rattle.host_io.specs.Told.{letters_of}
use Rattle.host_io.proofs.told.bytes_seen.Given as goal

abbrev pub invariant-loop-letter : goal.invariant-loop-letter
invariant-loop-letter l = letters_of l.letters.value ≡ take l.letter-index l.fn.name
