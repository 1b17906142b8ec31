-- The buckets of hash tables, and what is gathered over them.
use Rattle.std.specs.Prelude.{ℕ, zero, suc, ◌+◌, ◌*◌, ◌%◌, nat_lt, if◌then◌else◌, length, Bool, false, not, Option, Some, None}
use Rattle.mv_history.specs.State.{State}
use Rattle.set_model.specs.Catalogue.{next_key}
use Rattle.set_model.specs.CatalogueOf.{map_at}

-- the head of this bucket of a set
abbrev pub bucket_at : ℕ → ℕ → ℕ
bucket_at set bucket = 10 + 16 * set + bucket

-- the head of the bucket in which the key of a set stands
abbrev pub head_of : ℕ → ℕ → ℕ
head_of set key = bucket_at set (key % 16)

-- the lesser of two keys, or the one that is there
abbrev pub lesser_of : Option ℕ → Option ℕ → Option ℕ
lesser_of None right = right
lesser_of (Some left) None = Some left
lesser_of (Some left) (Some right) = Some (if nat_lt right left then right else left)

-- whether there is a key, and it is at most this number
abbrev pub is_within : Option ℕ → ℕ → Bool
is_within None most = false
is_within (Some key) most = not (nat_lt most key)

-- the bucket that is asked so many buckets after the one in which the key stands
abbrev pub asked : ℕ → ℕ → ℕ → ℕ
asked set key n = bucket_at set ((key + n) % 16)

-- the least key not below this one in the first n buckets that are asked
abbrev pub least_in : State → ℕ → ℕ → ℕ → Option ℕ
least_in s set key zero = None
least_in s set key (suc n) = lesser_of (least_in s set key n) (next_key key (map_at s (asked set key n)))

-- how many keys the first n buckets of a set have
abbrev pub count_in : State → ℕ → ℕ → ℕ
count_in s set zero = 0
count_in s set (suc n) = count_in s set n + length (map_at s (bucket_at set n))
