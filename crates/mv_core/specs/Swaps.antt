-- What an exchange tells.
use Rattle.std.specs.Prelude.{◌≢◌, ℕ}
use Rattle.mv_core.specs.declared.swap.Swap.{Swap}
use Rattle.mv_core.specs.declared.swap.Swap.TheVariants.{Won, Found}

-- what an exchange found that expected `old`
abbrev pub found_by : ℕ → Swap → ℕ
found_by old Won = old
found_by old (Found n) = n

-- a lost one found another word
abbrev pub IsSwap : ℕ → Swap → Type 0
IsSwap old Won = Unit {0}
IsSwap old (Found n) = n ≢ old
