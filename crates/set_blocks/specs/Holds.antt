-- What is held of a set for a key, over what is planned.
use Rattle.std.specs.Prelude.{◌≡◌}
use Rattle.set_blocks.specs.Terms.{ℕ, Bool, List, Option, None, Some, State, Writes, merged}
use Rattle.set_blocks.specs.BlockPlans.{LacksAt, ValueAt, TellsAt, holding}

-- Objects are held, with the words that they have, that show whether the set of the name has the key.
abbrev pub HoldsKey : State → ℕ → ℕ → Bool → Writes → Writes → Type 0
HoldsKey s name k b own new = (os : List ℕ) × TellsAt s name k b os × (new ≡ merged own (holding s os))

-- Objects are held that show whether the set of the name has the key, and with which value.
abbrev pub HoldsValue : State → ℕ → ℕ → Option ℕ → Writes → Writes → Type 0
HoldsValue s name k None own new = (os : List ℕ) × LacksAt s name k os × (new ≡ merged own (holding s os))
HoldsValue s name k (Some v) own new = (os : List ℕ) × ValueAt s name k v os × (new ≡ merged own (holding s os))
