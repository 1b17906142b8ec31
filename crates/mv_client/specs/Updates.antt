-- What updates and reads leave, by their answers.
use Rattle.std.specs.Prelude.{◌≡◌, ℕ, ◌+◌, ◌-◌, ◌<◌, ◌≤◌, List, length, Result, Ok, Err, Option, Some, None, ⊤}
use Rattle.mv_history.specs.State.{State, Writes}
use Rattle.mv_history.specs.Drift.{IsFit}
use Rattle.mv_history.specs.declared.answers.Holder.{Holder}
use Rattle.mv_history.specs.Meaning.{Seat, InSection, IsWorn, snapshot_of}
use Rattle.mv_history.specs.Trail.{commit_exchanges, IsOneWon, IsOneLost}
use Rattle.mv_history.specs.Calls.{call_trail, NamesNoCommit, Continues, Enters, GoesOn, Prepares, IsAsBefore, Leaves, Commits, Overtakes}
use Rattle.section_work.specs.Causes.{Causes}
use Rattle.section_work.specs.Attempts.{HasSpace}
use Rattle.section_work.specs.declared.causes.Refusal.{Refusal}
use Rattle.section_work.specs.declared.causes.Cause.TheVariants.{Lock, Rival, LogFull}
use Rattle.section_work.specs.declared.place.Place.{Place}
use Rattle.section_work.specs.declared.place.Place.TheVariants.{Commit as AtCommit, Read}
use Rattle.section_work.specs.declared.work.Decision.{Decision}
use Rattle.section_work.specs.declared.work.Decision.TheVariants.{Settled, Change}
use Rattle.mv_client.specs.declared.updating.Outcome.{Outcome}
use Rattle.mv_client.specs.declared.updating.Outcome.TheVariants.{Done, Again, End}

-- what a closure answers that fills a section
abbrev pub Answer : Type 0 → Type 0
Answer T = Result (Decision T (List ℕ)) Refusal

-- A section was begun from a seat that went on to it: it reads its snapshot, holds nothing, and has room for a write set.
pub record Opened (old : Seat) (state : State) (s : InSection) : Type 0 where
  pub continues : Continues old s.seat
  pub space : HasSpace s.seat.write_max s
  pub reads : state ≡ snapshot_of s
  pub objects : length state ≡ length old.start

-- what holds where a change was decided
abbrev pub OnChange : {T WriteSet E : Type 0} → Result (Decision T WriteSet) E → (WriteSet → Type 0) → Type 0
OnChange (Ok (Settled reply)) P = ⊤
OnChange (Ok (Change plan reply)) P = P plan
OnChange (Err e) P = ⊤

-- the closure has something to commit, or a lock was refused
abbrev pub IsForCommit : {T : Type 0} → Answer T → Type 0
IsForCommit (Ok (Settled reply)) = ⊥
IsForCommit (Ok (Change tag reply)) = ⊤
IsForCommit (Err refusal) = ⊤

-- What an update asks of the closure: it stays in its section, and what it leaves there for a commit is some, and fit.
pub record Filled {T : Type 0} (allowed : List ℕ → State → Writes → Type 0) (old new : InSection) (r : Answer T) : Type 0 where
  pub goes_on : GoesOn old new
  pub fit : OnChange r (λ tag. (0 < length new.own) × IsFit allowed (snapshot_of new) tag new.own)

-- Sections of this type, and what a closure answers and leaves of one that it is shown.
module _ {Open R : Type 0} (took : Seat → InSection → Type 0) (section : Open → InSection) (as_before : Open → Open → Type 0)
    (gives : Open → R → Open → Type 0) where
  -- One section was entered, the closure read in it, and it was left.
  pub record IsRead (old new : Seat) (r : R) : Type 0 where
    pub entered : Open
    pub enters : Enters old (section entered)
    pub took_is : took old (section entered)
    pub left : Open
    pub gives_is : gives entered r left
    pub only_read : as_before entered left
    pub leaves : Leaves (section left) new

-- There was no room for a write set, because of this holder.
pub record IsShort (k : Causes) (old new : Seat) (holder : Holder) : Type 0 where
  pub may : k.may_refuse
  pub prepares : Prepares old new
  pub short : new.spare < new.write_max
  pub why : k.holds_back old new holder

module _ {Open T : Type 0} (k : Causes) (section : Open → InSection) (gives : Open → Answer T → Open → Type 0) where
  -- The closure was shown a section that holds nothing, which was entered once there was room, and it answered this and left that.
  pub record IsFilled (old : Seat) (r : Answer T) (left : Open) : Type 0 where
    pub prepared : Seat
    pub prepares : Prepares old prepared
    pub entered : Open
    pub enters : Enters prepared (section entered)
    pub took : k.took prepared (section entered)
    pub gives_is : gives entered r left
    pub goes_on : GoesOn (section entered) (section left)

  -- what the closure left is the commit of this time
  pub record IsCommitted (old new : Seat) (reply : T) (time : ℕ) : Type 0 where
    pub tag : List ℕ
    pub left : Open
    pub filled : IsFilled old (Ok (Change tag reply)) left
    pub commits : Commits (section left) tag new time
    pub loaded : k.loaded (section left) new (time - 1)
    pub won : k.has_trail → IsOneWon (commit_exchanges (call_trail (section left).seat new))

  -- the closure had nothing to commit, in a section of this time
  pub record IsSettled (old new : Seat) (reply : T) (time : ℕ) : Type 0 where
    pub left : Open
    pub filled : IsFilled old (Ok (Settled reply)) left
    pub time_is : time ≡ (section left).seat.base + (section left).at
    pub leaves : Leaves (section left) new

  -- the closure answered that a lock was refused
  pub record IsRefusedBy (old new : Seat) (refusal : Refusal) : Type 0 where
    pub left : Open
    pub filled : IsFilled old (Err refusal) left
    pub leaves : Leaves (section left) new

  -- another seat's entry came before the commit
  pub record IsOvertaken (old new : Seat) (seat time : ℕ) : Type 0 where
    pub tag : List ℕ
    pub reply : T
    pub left : Open
    pub filled : IsFilled old (Ok (Change tag reply)) left
    pub after : Open
    pub as_before : IsAsBefore (section left) (section after)
    pub overtakes : Overtakes (section left) (section after) seat time (k.loaded (section left) (section after).seat)
    pub lost : k.has_trail → IsOneLost (commit_exchanges (call_trail (section left).seat (section after).seat))
    pub leaves : Leaves (section after) new

  -- no time was left for the commit
  pub record IsLate (old new : Seat) : Type 0 where
    pub tag : List ℕ
    pub reply : T
    pub left : Open
    pub filled : IsFilled old (Ok (Change tag reply)) left
    pub after : Open
    pub as_before : IsAsBefore (section left) (section after)
    pub worn : IsWorn (section after).seat
    pub leaves : Leaves (section after) new

  -- What an update leaves, by its answer.
  abbrev pub Updated : Seat → Seat → Outcome T → Type 0
  Updated old new (Done reply (AtCommit time)) = IsCommitted old new reply time
  Updated old new (Done reply (Read time)) = IsSettled old new reply time
  Updated old new (Again (Lock refusal)) = IsRefusedBy old new refusal
  Updated old new (Again (Rival rival)) = k.may_refuse × IsOvertaken old new rival.seat rival.time
  Updated old new (Again (LogFull holder)) = IsShort k old new holder
  Updated old new End = IsLate old new

  -- What the last of several updates leaves, of which each that came before found something in the way.
  pub record UpdatedLast (old new : Seat) (answer : Outcome T) : Type 0 where
    pub before : Seat
    pub comes : Continues old before
    pub mine : before.mine ≡ old.mine
    pub updated : Updated before new answer

-- The exchanges on CLOCK for a commit in the steps of an update, where the store tells its trail: one that was won where it made a commit, one
-- that was lost where another seat's entry came first, and else none, but that the last time may have been met by one.
abbrev pub Exchanged : {T : Type 0} → Type 0 → Seat → Seat → Outcome T → Type 0
Exchanged told old new (Done reply (AtCommit time)) = told → IsOneWon (commit_exchanges (call_trail old new))
Exchanged told old new (Done reply (Read time)) = NamesNoCommit old new
Exchanged told old new (Again (Lock refusal)) = NamesNoCommit old new
Exchanged told old new (Again (Rival rival)) = told → IsOneLost (commit_exchanges (call_trail old new))
Exchanged told old new (Again (LogFull holder)) = NamesNoCommit old new
Exchanged told old new End = ⊤

-- how many commits were made
abbrev pub commits_in : {T : Type 0} → Outcome T → ℕ
commits_in (Done reply (AtCommit time)) = 1
commits_in (Done reply (Read time)) = 0
commits_in (Again cause) = 0
commits_in End = 0

-- what is answered where nothing is told to try again
abbrev pub outcome_of : {T : Type 0} → Option (T × Place) → Outcome T
outcome_of None = End
outcome_of (Some done) = Done done.0 done.1

-- The seat made so many commits of those asked for: all, or as many as came before the last time.
pub record Repeated (old new : Seat) (asked done : ℕ) : Type 0 where
  pub continues : Continues old new
  pub mine : length new.mine ≡ length old.mine + done
  pub most : done ≤ asked
  pub all : done < asked → IsWorn new
