-- The states that stand for a growing hash set, and the set for which they stand.
use Rattle.set_model.specs.Catalogue.{Map, Maps, empty}
use Rattle.std.specs.Prelude.{◌≡◌, ◌≢◌, ◌-◌, ◌^◌, ◌<◌, ◌≤◌, ◌==◌, ℕ, suc, Bool, not, List, length, drop, set, slice_index_or}
use Rattle.grow_hash.specs.Terms.{State, words_at, map_among, owner, key, link, value, head_words, list_words, no_words, IsLinked}
use Rattle.grow_hash.specs.Tables.{grow_levels, most_levels, bucket, IsTable}
use Rattle.set_model.specs.Objects.{most_objects}

-- how many buckets there are at most
abbrev pub most_buckets : ℕ → ℕ
most_buckets levels = 2 ^ levels

-- the first object that is a node; object 0 is the table, and the others are heads of buckets
abbrev pub first_grown : ℕ → ℕ
first_grown levels = suc (most_buckets levels)

-- the head of a bucket
abbrev pub head_at : ℕ → ℕ
head_at b = suc b

-- The levels are 10 to 20; the table is in range; each head of a bucket has its list; and each node is vacant or in the list of its key's bucket.
pub record IsGrown (levels : ℕ) (s : State) : Type 0 where
  pub least : grow_levels ≤ levels
  pub most : levels ≤ most_levels
  pub some : first_grown levels < length s
  pub few : length s ≤ most_objects
  pub table : IsTable levels s
  pub heads : (b : ℕ) → b < most_buckets levels → words_at s (head_at b) ≡ head_words (link s (head_at b))
  pub lists : (b : ℕ) → b < most_buckets levels → IsLinked s (head_at b)
  pub nodes : (o : ℕ) → first_grown levels ≤ o → owner s o ≢ 0
      → words_at s o ≡ list_words (head_at (bucket levels s (key s o))) (key s o) (value s o) (link s o)

-- the states with which the set begins: all words are 0
pub record IsGrownOpening (levels : ℕ) (s : State) : Type 0 where
  pub least : grow_levels ≤ levels
  pub most : levels ≤ most_levels
  pub some : first_grown levels < length s
  pub few : length s ≤ most_objects
  pub zeros : (o : ℕ) → o < length s → words_at s o ≡ no_words

-- whether these are the words of a node that is not vacant
abbrev pub is_used : List ℕ → Bool
is_used w = not (slice_index_or w 0 0 == 0)

-- the keys of the nodes, with their values
abbrev pub grown_map : ℕ → State → Map
grown_map levels s = map_among is_used (drop (first_grown levels) s)

-- the number of the name `h0`
abbrev pub grown_name : ℕ
grown_name = 10

-- The catalogue has the keys in `h0`, and nothing else.
abbrev pub grown_catalogue : ℕ → State → Maps
grown_catalogue levels s = set empty grown_name (grown_map levels s)

-- how many nodes a state has
abbrev pub grown_capacity : ℕ → State → ℕ
grown_capacity levels s = length s - first_grown levels
