-- What an attempt of a work leaves, by its answer.
use Rattle.mv_history.specs.declared.history.Commit.{Commit}
use Rattle.mv_history.specs.declared.history.Entry.TheVariants.{Change}
use Rattle.std.specs.Prelude.{◌≡◌, ◌+◌, ◌-◌, ◌<◌, ◌≤◌, ◌⊎◌, ◌==◌, ◌∷◌, ◌++◌}
use Rattle.section_work.specs.Terms.{ℕ, true, List, [], length, State, Writes, touches, state_at, Holder, Seat}
use Rattle.section_work.specs.Terms.{InSection, Holds, snapshot_of, state_of_time, commit_exchanges, IsOneLost, call_trail, Continues, IsAsBefore, GoesOn}
use Rattle.section_work.specs.Terms.{Prepares, Leaves, IsEntryAt, Overtakes, AtCommit, Read, Refusal, Lock, Rival, LogFull, Attempt, Done, Again, Cause}
use Rattle.section_work.specs.Causes.{Causes}
use Rattle.section_work.specs.Sections.{IsEntered}
use Rattle.section_work.specs.Locking.{Stops}
use Rattle.section_work.specs.Works.{Meaning}

-- The call entered this section from a seat to which the old one came without a commit: its snapshot holds all that the seat had seen.
pub record Enters (k : Causes) (old : Seat) (entered : InSection) (new : Seat) : Type 0 where
  pub before : Seat
  pub comes : Continues old before
  pub mine : before.mine ≡ old.mine
  pub enters : IsEntered k before entered new

module _ {R : Type 0} (k : Causes) (m : Meaning R) where
  -- The work is the seat's last commit, at this printed time. Its tag and its writes are what is planned in its snapshot, with this reply, and
  -- made of the state just before what it should.
  pub record IsDone (old new : Seat) (reply : R) (time : ℕ) : Type 0 where
    pub continues : Continues old new
    pub commit : Commit
    pub entry : IsEntryAt new time (Change commit)
    pub later : old.base + length old.seen < time
    pub mine : new.mine ≡ old.mine ++ commit ∷ []
    pub plan : m.plans (state_at new.start new.seen commit.snapshot) commit.tag commit.writes reply
    pub makes : m.makes (state_of_time new (time - 1)) (state_of_time new time) reply

  -- The call entered a section from the old seat, and that section made that commit.
  pub record IsDoneAt (old new : Seat) (reply : R) (time : ℕ) : Type 0 where
    pub done : IsDone old new reply time
    pub entered : InSection
    pub enters : Enters k old entered new
    pub snapshot : done.commit.snapshot ≡ entered.at

  -- The work changes nothing in the state of this printed time, which is that of a section that the call entered, and this is its
  -- reply there. No commit was made.
  pub record IsReadAt (old new : Seat) (reply : R) (time : ℕ) : Type 0 where
    pub mine : new.mine ≡ old.mine
    pub entered : InSection
    pub enters : Enters k old entered new
    pub time_is : time ≡ entered.seat.base + entered.at
    pub settles : m.settles (state_of_time new time) (time == new.last) reply

  -- The commit of what is planned was tried, and another seat's entry came first, after the call had loaded the clock; the section was then
  -- given up.
  pub record IsOvertaken (entered : InSection) (new : Seat) (seat time : ℕ) : Type 0 where
    pub before : InSection
    pub goes_on : GoesOn entered before
    pub tag : List ℕ
    pub reply : R
    pub plan : m.plans (snapshot_of entered) tag before.own reply
    pub after : InSection
    pub as_before : IsAsBefore before after
    pub overtakes : Overtakes before after seat time (k.loaded before after.seat)
    pub lost : k.has_trail → IsOneLost (commit_exchanges (call_trail before.seat after.seat))
    pub leaves : Leaves after new

  -- One lock was refused. Its object, and all that were locked before it, are of what is planned in the section's snapshot; the section was then
  -- given up.
  pub record IsStopped (entered : InSection) (new : Seat) (refusal : Refusal) : Type 0 where
    pub tag : List ℕ
    pub writes : Writes
    pub reply : R
    pub plan : m.plans (snapshot_of entered) tag writes reply
    pub left : InSection
    pub stops : Stops k.may_refuse k.found_held (λ o. touches writes o ≡ true) entered left refusal
    pub held : (o : ℕ) → Holds left o → touches writes o ≡ true
    pub leaves : Leaves left new

  -- why the change that a section was to make was given up
  abbrev pub IsWhy : (Holder → Type 0) → InSection → Seat → Cause → Type 0
  IsWhy held_back entered new (Lock refusal) = IsStopped entered new refusal
  IsWhy held_back entered new (Rival rival) = k.may_refuse × IsOvertaken entered new rival.seat rival.time
  IsWhy held_back entered new (LogFull holder) = k.may_refuse × held_back holder

  -- The work would change something in the state of the section that the call entered, which is not at the last time; this is why it
  -- did not, and no commit was made.
  pub record GivesUp (old new : Seat) (cause : Cause) : Type 0 where
    pub mine : new.mine ≡ old.mine
    pub prepared : Seat
    pub prepares : Prepares old prepared
    pub entered : InSection
    pub enters : IsEntered k prepared entered new
    pub early : entered.seat.base + entered.at < entered.seat.last
    pub changing : m.changes (snapshot_of entered)
    pub why : IsWhy (λ holder. (prepared.spare < prepared.write_max) × k.holds_back old prepared holder) entered new cause

  -- what an attempt leaves, by its answer
  abbrev pub Attempted : Seat → Seat → Attempt R → Type 0
  Attempted old new (Done reply (AtCommit time)) = IsDoneAt old new reply time
  Attempted old new (Done reply (Read time)) = IsReadAt old new reply time
  Attempted old new (Again cause) = GivesUp old new cause

-- the section holds nothing, and may hold so many objects
pub record HasSpace (most : ℕ) (s : InSection) : Type 0 where
  pub own : s.own ≡ []
  pub spare : most ≤ s.seat.spare
  pub held : most ≤ s.seat.write_max

-- one look did this to what is remembered, into the state of a time that came in the call
pub record NotedOnce {Memo : Type 0} (notes : Memo → Memo → State → Type 0) (old new : Seat) (before after : Memo) : Type 0 where
  pub at : ℕ
  pub from : length old.seen ≤ at
  pub seen : at ≤ length new.seen
  pub notes_is : notes before after (state_at new.start new.seen at)

-- one look, or none
abbrev pub MayNote : {Memo : Type 0} → (Memo → Memo → State → Type 0) → Seat → Seat → Memo → Memo → Type 0
MayNote notes old new before after = (after ≡ before) ⊎ NotedOnce notes old new before after

-- one look, or two
abbrev pub Noted : {Memo : Type 0} → (Memo → Memo → State → Type 0) → Seat → Seat → Memo → Memo → Type 0
Noted {Memo} notes old new before after = (between : Memo) × NotedOnce notes old new before between × MayNote notes old new between after
