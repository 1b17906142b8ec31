-- What was written of some bytes.
use Rattle.std.specs.Prelude.{◌≤◌, ◌<◌, ℕ, List, length, take, Option}
use Rattle.std.specs.Io.KnownBytes.{Appends}
use Rattle.host_io.specs.Outside.{Rose}

-- a sink took these bytes, or the first of them where its faults rose
pub record Sent (old new : Option (List ℕ)) (before now : ℕ) (bytes : List ℕ) : Type 0 where
  pub count : ℕ
  pub within : count ≤ length bytes
  pub grows : Appends old new (take count bytes)
  pub later : before ≤ now
  pub short : count < length bytes → Rose before now
