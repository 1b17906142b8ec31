-- Which calls of its store an attempt makes, one after another, by its answer.
use Rattle.std.specs.Prelude.{◌≡◌, ◌+◌, ◌-◌, ◌<◌, ◌≤◌, ◌⊎◌}
use Rattle.section_work.specs.Terms.{RivalEntry, ℕ, List, length, Writes, Holder, Seat, InSection, IsWorn, call_trail, IsAsBefore}
use Rattle.section_work.specs.Terms.{GoesOn, Prepares, Enters, Leaves, Commits, Overtakes, AtCommit, Read, Refusal, Lock, Rival, LogFull, Attempt, Done, Again}
use Rattle.section_work.specs.OwnWrites.{objects_of}
use Rattle.section_work.specs.Locking.{Rewritten, RefusesWith}
use Rattle.section_work.specs.Causes.{Causes}

-- One `prepare` led from the one seat to the other: there is room for a write set, or it found what holds the oldest one.
pub record IsPrepared (k : Causes) (old new : Seat) : Type 0 where
  pub prepares : Prepares old new
  pub room : (new.write_max ≤ new.spare) ⊎ ((holder : Holder) × k.may_refuse × (new.spare < new.write_max) × k.holds_back old new holder)

-- The calls on sections of this type, whose `as_before` only reading gives.
module _ {Open : Type 0} (section : Open → InSection) (as_before : Open → Open → Type 0) (k : Causes) where
  -- one `enter` led from the seat to a section, which then was only read
  pub record LooksInto (before : Seat) (entered found : Open) : Type 0 where
    pub enters : Enters before (section entered)
    pub took : k.took before (section entered)
    pub only_read : as_before entered found

  -- one look from the seat: a section was entered, and then only read; this is its printed time
  pub record Looks (before : Seat) (found : Open) (time : ℕ) : Type 0 where
    pub entered : Open
    pub into : LooksInto before entered found
    pub at : (section entered).at ≤ length (section entered).seat.seen
    pub same : IsAsBefore (section entered) (section found)
    pub goes_on : GoesOn (section entered) (section found)
    pub time_is : time ≡ (section entered).seat.base + (section entered).at

  -- it was left, as it was found; this is its printed time
  pub record LeavesAt (found : Open) (new : Seat) (time : ℕ) : Type 0 where
    pub leaves : Leaves (section found) new
    -- by one step at most, where the trail tells the steps: none stands between what was found and how it was left
    pub one_step : k.has_trail → length (call_trail (section found).seat new) ≤ 1
    pub time_is : time ≡ (section found).seat.base + (section found).at

  -- some objects were locked in it, each with the words to be committed
  pub record Holds (found locked : Open) : Type 0 where
    pub writes : Writes
    pub rewritten : Rewritten (section found) (section locked) (objects_of writes) writes

  -- and committed
  pub record CommitsAt (found : Open) (new : Seat) (time : ℕ) : Type 0 where
    pub locked : Open
    pub holds : Holds found locked
    pub tag : List ℕ
    pub commits : Commits (section locked) tag new time
    pub loaded : k.loaded (section locked) new (time - 1)

  -- or the commit met another seat's entry, and the section was given up
  pub record LosesTo (found : Open) (new : Seat) (rival : RivalEntry) : Type 0 where
    pub locked : Open
    pub holds : Holds found locked
    pub left : Open
    pub stays : IsAsBefore (section locked) (section left)
    pub overtakes : Overtakes (section locked) (section left) rival.seat rival.time (k.loaded (section locked) (section left).seat)
    pub leaves : Leaves (section left) new

  -- or it found no time left, and the section was given up
  pub record EndsWorn (found : Open) (new : Seat) : Type 0 where
    pub locked : Open
    pub holds : Holds found locked
    pub left : Open
    pub stays : IsAsBefore (section locked) (section left)
    pub worn : IsWorn (section left).seat
    pub loaded : k.loaded (section locked) (section left).seat (section left).seat.last
    pub leaves : Leaves (section left) new

  -- a lock in it was refused, and the section was given up
  pub record StopsAt (found : Open) (new : Seat) (refusal : Refusal) : Type 0 where
    pub writes : Writes
    pub left : Open
    pub refuses : RefusesWith k.may_refuse k.found_held (section found) (section left) writes refusal
    pub leaves : Leaves (section left) new

  -- another section was entered, only read, and left
  pub record LooksOnce (before new : Seat) (time : ℕ) : Type 0 where
    pub entered : Open
    pub found : Open
    pub looks : LooksInto before entered found
    pub there : LeavesAt found new time

  -- no time was left for the commit, and a second look answered, at the last time
  pub record LooksAgain (found : Open) (new : Seat) (time : ℕ) : Type 0 where
    pub between : Seat
    pub ends : EndsWorn found between
    pub looks : LooksOnce between new time
    pub last : time ≡ new.last

  -- what followed the look, by the answer
  abbrev pub Follows : {R : Type 0} → Open → Seat → Attempt R → Type 0
  Follows found new (Done reply (AtCommit time)) = CommitsAt found new time
  Follows found new (Done reply (Read time)) = LeavesAt found new time ⊎ LooksAgain found new time
  Follows found new (Again (Lock refusal)) = StopsAt found new refusal
  Follows found new (Again (Rival rival)) = LosesTo found new rival
  Follows found new (Again (LogFull holder)) = Leaves (section found) new

  -- An attempt calls `prepare`, `enter` once, and reads. Then it leaves; or it locks with the words to be committed and tries to commit, and looks once
  -- more only where no time is left.
  pub record IsStepped {R : Type 0} (old new : Seat) (answer : Attempt R) : Type 0 where
    pub prepared : Seat
    pub prepares : IsPrepared k old prepared
    pub entered : Open
    pub found : Open
    pub looks : LooksInto prepared entered found
    pub follows : Follows found new answer
