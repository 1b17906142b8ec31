-- What the calls of stores and sections do to a seat and a section.
use Rattle.std.specs.Prelude.{◌≡◌, ◌≢◌, ℕ, ◌+◌, ◌-◌, ◌<◌, ◌≤◌, true, List, [], ◌∷◌, ◌++◌, length, take}
use Rattle.std.specs.Prelude.{drop, Some, slice_get}
use Rattle.mv_history.specs.State.{Commit, Entry, Change, touches, maker_of, rewritten}
use Rattle.mv_history.specs.Trail.{Step, commit_exchanges, clock_exchanges}
use Rattle.mv_history.specs.Meaning.{Seat, InSection, state_of, words_at}

-- the steps that a call appended to the trail
abbrev pub call_trail : Seat → Seat → List Step
call_trail old new = drop (length old.trail) new.trail

-- no exchange on CLOCK for a commit is among the steps of the call
abbrev pub NamesNoCommit : Seat → Seat → Type 0
NamesNoCommit old new = commit_exchanges (call_trail old new) ≡ []

-- no exchange on CLOCK is among the steps of the call
abbrev pub NamesNothing : Seat → Seat → Type 0
NamesNothing old new = clock_exchanges (call_trail old new) ≡ []

-- no call changes these, and what was seen and done stays
pub record Continues (old new : Seat) : Type 0 where
  pub number : new.number ≡ old.number
  pub home : new.home ≡ old.home
  pub write_max : new.write_max ≡ old.write_max
  pub start : new.start ≡ old.start
  pub base : new.base ≡ old.base
  pub last : new.last ≡ old.last
  pub seen : take (length old.seen) new.seen ≡ old.seen
  pub trail : take (length old.trail) new.trail ≡ old.trail

-- and no entry was made, and no room was used
pub record Waits (old new : Seat) : Type 0 where
  pub continues : Continues old new
  pub mine : new.mine ≡ old.mine
  pub rests : new.rests ≡ old.rests
  pub spare : new.spare ≡ old.spare

-- the section is as before, but that more may have been seen and done
pub record IsAsBefore (old new : InSection) : Type 0 where
  pub seat : Waits old.seat new.seat
  pub at : new.at ≡ old.at
  pub own : new.own ≡ old.own

-- what each call does that stays in its section: no entry is made or tried, and the snapshot stays
pub record GoesOn (old new : InSection) : Type 0 where
  pub continues : Continues old.seat new.seat
  pub mine : new.seat.mine ≡ old.seat.mine
  pub rests : new.seat.rests ≡ old.seat.rests
  pub at : new.at ≡ old.at
  pub names_no_commit : NamesNoCommit old.seat new.seat

-- what `prepare` does: room is made, perhaps by rests of its own
pub record Prepares (old new : Seat) : Type 0 where
  pub continues : Continues old new
  pub mine : new.mine ≡ old.mine
  pub names_no_commit : NamesNoCommit old new

-- what `enter` does: all that was seen is in the snapshot, and nothing is held
pub record Enters (old : Seat) (new : InSection) : Type 0 where
  pub seat : Waits old new.seat
  pub at : length old.seen ≤ new.at
  pub own : new.own ≡ []
  pub names_no_commit : NamesNoCommit old new.seat

-- the section holds as many objects as it may
abbrev pub IsSetFull : InSection → Type 0
IsSetFull s = length s.own ≡ s.seat.write_max

-- the seat's log has no free slot
abbrev pub IsLogFull : InSection → Type 0
IsLogFull s = s.seat.spare ≡ 0

-- the object joins those that are held, with these words
pub record LocksWith (old new : InSection) (object : ℕ) (words : List ℕ) : Type 0 where
  pub continues : Continues old.seat new.seat
  pub mine : new.seat.mine ≡ old.seat.mine
  pub rests : new.seat.rests ≡ old.seat.rests
  pub spare : new.seat.spare + 1 ≡ old.seat.spare
  pub at : new.at ≡ old.at
  pub own : new.own ≡ old.own ++ (object, words) ∷ []

-- with the words that the section reads
abbrev pub Locks : InSection → InSection → ℕ → Type 0
Locks old new object = LocksWith old new object (words_at (state_of old) object)

-- the held object gets these words
pub record Rewrites (old new : InSection) (object : ℕ) (words : List ℕ) : Type 0 where
  pub seat : Waits old.seat new.seat
  pub at : new.at ≡ old.at
  pub own : new.own ≡ rewritten old.own object words

-- the seat is outside again, and neither made an entry nor tried to
pub record Leaves (old : InSection) (new : Seat) : Type 0 where
  pub continues : Continues old.seat new
  pub mine : new.mine ≡ old.seat.mine
  pub rests : new.rests ≡ old.seat.rests
  pub names_nothing : NamesNothing old.seat new

-- the history that was seen has this entry, at this printed time
pub record IsEntryAt (s : Seat) (time : ℕ) (e : Entry) : Type 0 where
  pub later : s.base < time
  pub there : slice_get s.seen (time - (s.base + 1)) ≡ Some e

-- the commit that the section makes
abbrev pub commit_by : InSection → List ℕ → Commit
commit_by s tag =
    record { seat = s.seat.number; number = length s.seat.mine + 1; snapshot = s.at; tag = tag; writes = s.own }

-- the entry of this time, later than all that was seen, is the section's, and its seat is outside again
pub record Commits (old : InSection) (tag : List ℕ) (new : Seat) (time : ℕ) : Type 0 where
  pub continues : Continues old.seat new
  pub entry : IsEntryAt new time (Change (commit_by old tag))
  pub later : old.seat.base + length old.seat.seen < time
  pub mine : new.mine ≡ old.seat.mine ++ commit_by old tag ∷ []
  pub rests : new.rests ≡ old.seat.rests

-- a commit of this time, after the snapshot, writes the object
pub record IsStale (s : InSection) (object time : ℕ) : Type 0 where
  pub later : s.seat.base + s.at < time
  pub commit : Commit
  pub entry : IsEntryAt s.seat time (Change commit)
  pub writes : touches commit.writes object ≡ true

-- another seat made the entry of this time, after the call had loaded the clock
pub record Overtakes (old new : InSection) (seat time : ℕ) (loaded : ℕ → Type 0) : Type 0 where
  pub other : seat ≢ old.seat.number
  pub made : Entry
  pub entry : IsEntryAt new.seat time made
  pub maker : maker_of made ≡ seat
  pub clock : ℕ
  pub was_loaded : loaded clock
  pub seen : old.seat.base + length old.seat.seen ≤ clock
  pub later : clock < time
