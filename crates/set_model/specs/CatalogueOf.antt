-- The catalogue for which a state stands.
use Rattle.std.specs.Prelude.{ℕ, zero, suc, ◌+◌, ◌-◌, ◌/◌, nat_lt, Bool, ◌==◌, not, ◌&&◌, if◌then◌else◌, List, []}
use Rattle.std.specs.Prelude.{◌∷◌, map, drop, slice_index_or}
use Rattle.mv_history.specs.State.{State}
use Rattle.set_model.specs.Catalogue.{Map, Maps, put, names}
use Rattle.set_model.specs.Objects.{first_node}

-- the name to which a head belongs: of a list, a bucket or a tree
abbrev pub name_of : ℕ → ℕ
name_of head = if nat_lt head 10 then head else (if nat_lt head 170 then 10 + (head - 10) / 16 else head - 150)

-- whether these are the words of a node that holds a key of this name; the inner nodes of trees hold none
abbrev pub is_key_of : ℕ → List ℕ → Bool
is_key_of name w =
    not (slice_index_or w 0 0 == 0) && not (slice_index_or w 1 0 == 2) && (name_of (slice_index_or w 0 0 - 1) == name)

-- whether these are the words of a node that holds a key in the list or tree of this head
abbrev pub is_key_at : ℕ → List ℕ → Bool
is_key_at head w = (slice_index_or w 0 0 == suc head) && not (slice_index_or w 1 0 == 2)

-- the keys, with their values, of those nodes whose words the test picks
unfoldable pub map_among : (List ℕ → Bool) → State → Map
map_among test [] = []
map_among test (w ∷ ws) =
    if test w then put (slice_index_or w 2 0) (slice_index_or w 5 0) (map_among test ws) else map_among test ws

-- the map of a name
abbrev pub map_in : State → ℕ → Map
map_in s name = map_among (is_key_of name) (drop first_node s)

-- the map of a head alone: of one list, one bucket or one tree
abbrev pub map_at : State → ℕ → Map
map_at s head = map_among (is_key_at head) (drop first_node s)

-- the numbers from n on
abbrev pub numbers : ℕ → ℕ → List ℕ
numbers zero n = []
numbers (suc count) n = n ∷ numbers count (suc n)

-- The keys of all nodes, by their names.
unfoldable pub catalogue_of : State → Maps
catalogue_of s = map (λ name. map_in s name) (numbers names 0)

-- how many of these nodes are not vacant
abbrev pub count_used : State → ℕ
count_used [] = 0
count_used (w ∷ ws) = (if slice_index_or w 0 0 == 0 then 0 else 1) + count_used ws

-- how many nodes of a state are not vacant
abbrev pub used : State → ℕ
used s = count_used (drop first_node s)
