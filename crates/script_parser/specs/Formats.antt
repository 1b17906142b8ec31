-- The formats of scripts.
use Rattle.std.specs.Prelude.{ℕ, ◌≤◌}

-- a format is 1 or 2
abbrev pub IsFormat : ℕ → Type 0
IsFormat number = (1 ≤ number) × (number ≤ 2)
