-- Which commits a growing hash set allows.
use Rattle.std.specs.Prelude.{◌≡◌, ◌≢◌, ◌+◌, ◌<◌, ◌==◌, ◌&&◌, if◌then◌else◌, ◌∷◌, ℕ, true, false, List, [], Option, Some, None}
use Rattle.grow_hash.specs.Terms.{State, Writes, written, touches, words_at, Command, Add, Del, Yes, owner, key, reply, next, IsNodeOf}
use Rattle.grow_hash.specs.Tables.{level, split_place, most_level, buckets_at, next_table}
use Rattle.grow_hash.specs.Grown.{IsGrown, head_at, grown_name, grown_catalogue, grown_capacity}

-- what a commit does: a command, or a split of this bucket
pub data Growing : Type 0 where
  makes : Command → Growing
  splits : ℕ → Growing

-- what these four numbers stand for: 1 is an add to `h0`, 2 a del from it, and 7 a split
abbrev pub growing_by : ℕ → ℕ → ℕ → ℕ → Option Growing
growing_by code first second third =
    if code == 1 && (first == grown_name && (second == 0)) then Some (makes (Add grown_name third))
    else (if code == 2 && (first == grown_name && (second == 0)) then Some (makes (Del grown_name third))
    else (if code == 7 && (second == 0 && (third == 0)) then Some (splits first)
    else None))

-- What a tag stands for.
abbrev pub growing_of : List ℕ → Option Growing
growing_of (code ∷ first ∷ second ∷ third ∷ []) = growing_by code first second third
growing_of tag = None

-- the tag of a split of this bucket
abbrev pub split_tag : ℕ → List ℕ
split_tag place = 7 ∷ place ∷ 0 ∷ 0 ∷ []

-- What each commit keeps: both states are lawful, and an object that stays in its list keeps its key.
pub record KeepsGrown (levels : ℕ) (before after : State) : Type 0 where
  pub lawful_before : IsGrown levels before
  pub lawful_after : IsGrown levels after
  pub keys : (o : ℕ) → owner before o ≢ 0 → owner after o ≡ owner before o → key after o ≡ key before o

-- The command replies yes on the catalogue of the state before, and leaves that of the state after. The table is as before.
pub record MakesGrown (levels : ℕ) (command : Command) (before after : State) : Type 0 where
  pub answer : reply command (grown_catalogue levels before) (grown_capacity levels before) false ≡ Yes
  pub leaves : grown_catalogue levels after ≡ next command (grown_catalogue levels before) (grown_capacity levels before) false
  pub table : words_at after 0 ≡ words_at before 0

-- The bucket is the next to be split, and is split: the catalogue is as before, the table goes on by one place, and the table, the heads
-- of both halves and every node of the bucket are written.
pub record SplitsGrown (levels place : ℕ) (before after : State) (writes : Writes) : Type 0 where
  pub here : place ≡ split_place before
  pub below : level before < most_level levels
  pub leaves : grown_catalogue levels after ≡ grown_catalogue levels before
  pub table : words_at after 0 ≡ next_table (level before) (split_place before)
  pub writes_table : touches writes 0 ≡ true
  pub writes_old : touches writes (head_at place) ≡ true
  pub writes_new : touches writes (head_at (place + buckets_at (level before))) ≡ true
  pub writes_nodes : (o : ℕ) → IsNodeOf before (head_at place) o → touches writes o ≡ true

-- it does so
abbrev pub Grows : ℕ → Option Growing → State → State → Writes → Type 0
Grows levels None before after writes = ⊥
Grows levels (Some (makes command)) before after writes = MakesGrown levels command before after
Grows levels (Some (splits place)) before after writes = SplitsGrown levels place before after writes

-- A commit of a growing hash set with this tag and these writes, on the state before it.
pub record IsGrowCommit (levels : ℕ) (tag : List ℕ) (before : State) (writes : Writes) : Type 0 where
  pub keeps : KeepsGrown levels before (written before writes)
  pub grows : Grows levels (growing_of tag) before (written before writes) writes
