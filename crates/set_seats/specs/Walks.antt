-- What a walk over a set finds.
use Rattle.std.specs.Prelude.{ℕ, nat_lt, ◌≡◌, min, List, [], ◌∷◌, ◌++◌, map, take, drop, length, Option, None, Some, if◌then◌else◌}
use Rattle.mv_history.specs.State.{State}
use Rattle.mv_history.specs.Calls.{NamesNoCommit}
use Rattle.mv_history.specs.Meaning.{Seat}
use Rattle.section_work.specs.Attempts.{IsReadAt}
use Rattle.section_work.specs.Causes.{Causes}
use Rattle.section_work.specs.Works.{Meaning}
use Rattle.set_model.specs.Catalogue.{Map, map_of}
use Rattle.set_model.specs.CatalogueOf.{catalogue_of}
use Rattle.set_seats.specs.declared.walk.KeyValue.{KeyValue}
use Rattle.set_seats.specs.declared.walk.Walked.{Walked}

-- the entries of a map whose key is not below this one; its keys rise
abbrev pub entries_from : ℕ → Map → Map
entries_from k [] = []
entries_from k (e ∷ m) = if nat_lt e.0 k then entries_from k m else e ∷ m

-- those of the set of a name in a state
abbrev pub entries_in : State → ℕ → ℕ → Map
entries_in s name from = entries_from from (map_of name (catalogue_of s))

-- a key with its value, as an entry
abbrev pub as_entry : ℕ × ℕ → KeyValue
as_entry e = record { key = e.0; value = e.1 }

-- the first of some entries, or none
abbrev pub first_entry : Map → Option KeyValue
first_entry [] = None
first_entry (e ∷ m) = Some (as_entry e)

-- and its key
abbrev pub first_key : Map → Option ℕ
first_key [] = None
first_key (e ∷ m) = Some e.0

-- These entries were written into the room, in their order: all of them, or as many as there was room for. What is left of the room is as
-- before, and the first entry for which there was none is told.
pub record Writes (m : Map) (before after : List KeyValue) (wrote : ℕ) (left : Option ℕ) : Type 0 where
  pub written : after ≡ map as_entry (take (length before) m) ++ drop (length m) before
  pub count : wrote ≡ min (length before) (length m)
  pub more : left ≡ first_key (drop (length before) m)

-- a walk as a work: it changes nothing, and writes the entries of the state
abbrev pub walk_meaning : ℕ → ℕ → List KeyValue → List KeyValue → Meaning Walked
walk_meaning name from before after = record {
  most = 0;
  changes = λ s. ⊥;
  plans = λ s tag ws w. ⊥;
  settles = λ s last w. Writes (entries_in s name from) before after w.count w.more;
  makes = λ s t w. ⊥;
}

-- A walk over the set of a name from a key on: it wrote the entries of the state of the told time, which is that of a section that the call
-- entered. No commit and no rest was made, and none was tried.
pub record IsWalk (k : Causes) (name from : ℕ) (before after : List KeyValue) (old new : Seat) (w : Walked) : Type 0 where
  pub read : IsReadAt k (walk_meaning name from before after) old new w w.time
  pub rests : new.rests ≡ old.rests
  pub none : NamesNoCommit old new
