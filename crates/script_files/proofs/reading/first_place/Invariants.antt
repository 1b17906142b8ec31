use Rattle.std.proofs.Common.{◌≡◌, ◌<◌, ℕ, Some, map, slice_get, string_bytes}
use Rattle.script_files.proofs.reading.first_place.Given as goal

abbrev pub invariant-loop-place : goal.invariant-loop-place
invariant-loop-place l = (earlier : ℕ) → earlier < l.place → ¬ (slice_get (map string_bytes l.names) earlier ≡ Some l.name)
