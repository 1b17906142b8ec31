-- What is read of a bucket, and what its split makes of that.
use Rattle.section_work.specs.OwnWrites.{objects_of}
use Rattle.std.specs.Prelude.{◌≡◌, ◌≢◌, ◌∷◌}
use Rattle.grow_hash.specs.Terms.{ℕ, List, [], State, Writes, words_at, link, list_words}
use Rattle.grow_hash.specs.Tables.{level, split_place}
use Rattle.grow_hash.specs.Grown.{IsGrown, head_at}
use Rattle.grow_hash.specs.SplitPlans.{split_writes}

-- the links lead from the object through exactly these nodes, which have these words, to the last object
abbrev pub IsRead : State → ℕ → Writes → ℕ → Type 0
IsRead s o [] to = link s o ≡ to
IsRead s o (w ∷ ws) to = (link s o ≡ w.0) × (w.0 ≢ 0) × (w.1 ≡ words_at s w.0) × IsRead s w.0 ws to

-- wherever these are the words of a node, those are its words in the list of this bucket, where it leads to this node
abbrev pub IsMoved : List ℕ → ℕ → ℕ → List ℕ → Type 0
IsMoved words bucket next moved =
    (head key value to : ℕ) → words ≡ list_words head key value to → moved ≡ list_words (head_at bucket) key value next

-- wherever this is the table, and these nodes were read of the bucket at the split place, these are the writes of its split
abbrev pub ArePartedWrites : ℕ → ℕ → ℕ → Writes → Writes → Type 0
ArePartedWrites levels at place nodes writes =
    (s : State) → IsGrown levels s → level s ≡ at → split_place s ≡ place → IsRead s (head_at place) nodes 0
    → writes ≡ split_writes levels s (objects_of nodes)
