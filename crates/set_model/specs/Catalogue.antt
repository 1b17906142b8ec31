-- A catalogue: for each name a map, as the list of its keys, rising, each with its value.
use Rattle.std.specs.Prelude.{ℕ, suc, ◌+◌, ◌-◌, ◌*◌, ◌<◌, ◌^◌, ◌==◌, ◌≡◌, All, nat_lt, Bool, true, false, List, []}
use Rattle.std.specs.Prelude.{◌∷◌, length, replicate, set, slice_index_or, ⊤, Option, None, Some, if◌then◌else◌}

-- keys with their values
abbrev pub Map : Type 0
Map = List (ℕ × ℕ)

-- a map for each name, in the order of the names
abbrev pub Maps : Type 0
Maps = List Map

-- every key is above this one
abbrev pub IsAboveKey : ℕ → Map → Type 0
IsAboveKey k [] = ⊤
IsAboveKey k (e ∷ m) = (k < e.0) × IsAboveKey k m

-- the keys rise
abbrev pub IsMap : Map → Type 0
IsMap [] = ⊤
IsMap (e ∷ m) = IsAboveKey e.0 m × IsMap m

-- whether the key is there
abbrev pub has_key : ℕ → Map → Bool
has_key k [] = false
has_key k (e ∷ m) = if e.0 == k then true else has_key k m

-- the value of the key, or none where it is not there
abbrev pub value_of : ℕ → Map → Option ℕ
value_of k [] = None
value_of k (e ∷ m) = if e.0 == k then Some e.1 else value_of k m

-- whether the key is there with this value
abbrev pub has_entry : ℕ → ℕ → Map → Bool
has_entry k v [] = false
has_entry k v (e ∷ m) = if e.0 == k then e.1 == v else has_entry k v m

-- the first key that is not below this one, or none; keys rise, so it is the least
abbrev pub next_key : ℕ → Map → Option ℕ
next_key k [] = None
next_key k (e ∷ m) = if nat_lt e.0 k then next_key k m else Some e.0

-- the map with the key at this value
abbrev pub put : ℕ → ℕ → Map → Map
put k v [] = (k, v) ∷ []
put k v (e ∷ m) = if nat_lt k e.0 then (k, v) ∷ e ∷ m else (if e.0 == k then (k, v) ∷ m else e ∷ put k v m)

-- the map without the key
abbrev pub take_out : ℕ → Map → Map
take_out k [] = []
take_out k (e ∷ m) = if e.0 == k then m else e ∷ take_out k m

-- how many names there are
abbrev pub names : ℕ
names = 30

-- the catalogue of empty maps
abbrev pub empty : Maps
empty = replicate names []

-- the map of a name
abbrev pub map_of : ℕ → Maps → Map
map_of name c = slice_index_or c name []

-- the catalogue with the key at this value in the map of a name
abbrev pub with_key : ℕ → ℕ → ℕ → Maps → Maps
with_key name k v c = set c name (put k v (map_of name c))

-- the catalogue without the key in the map of a name
abbrev pub without_key : ℕ → ℕ → Maps → Maps
without_key name k c = set c name (take_out k (map_of name c))

-- how many nodes a name's map takes: one for each key, and in a tree one more between two neighbours
abbrev pub cost_of : ℕ → Map → ℕ
cost_of name m = if nat_lt name 20 then length m else 2 * length m - 1

-- how many nodes the maps take, the first of which is that of this name
abbrev pub cost_from : ℕ → Maps → ℕ
cost_from name [] = 0
cost_from name (m ∷ c) = cost_of name m + cost_from (suc name) c

-- how many nodes a catalogue takes
unfoldable pub cost : Maps → ℕ
cost c = cost_from 0 c

-- the keys and the values fit their types
abbrev pub FitsTypes : Map → Type 0
FitsTypes [] = ⊤
FitsTypes (e ∷ m) = (e.0 < 2 ^ 32) × (e.1 < 2 ^ 64) × FitsTypes m

-- What is true of every catalogue: it has a map for each name, whose keys rise, and keys and values fit their types.
pub record IsCatalogue (c : Maps) : Type 0 where
  pub whole : length c ≡ names
  pub rising : All IsMap c
  pub fits : All FitsTypes c
