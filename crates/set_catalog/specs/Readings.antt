-- Reading a catalogue head by head.
use Rattle.std.specs.Prelude.{ℕ, ◌≡◌, ◌<◌, nat_lt, if◌then◌else◌, length, Option, None}
use Rattle.mv_history.specs.State.{State}
use Rattle.set_model.specs.Catalogue.{Maps, IsMap, map_of, names, value_of}
use Rattle.set_model.specs.CatalogueOf.{map_at}
use Rattle.set_catalog.specs.Plans.{head_of}

-- the value of a key of a name where it stands under one of so many heads, else none
abbrev pub value_under : State → ℕ → ℕ → ℕ → Option ℕ
value_under s heads name k = if nat_lt (head_of name k) heads then value_of k (map_at s (head_of name k)) else None

-- The catalogue has the keys under so many heads, with their values, and no others.
pub record HasHeads (s : State) (heads : ℕ) (all : Maps) : Type 0 where
  pub whole : length all ≡ names
  pub rising : (name : ℕ) → name < names → IsMap (map_of name all)
  pub values : (name k : ℕ) → name < names → value_of k (map_of name all) ≡ value_under s heads name k
