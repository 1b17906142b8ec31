-- What an attempt of a transfer leaves, by its answer.
use Rattle.mv_history.specs.declared.history.Commit.{Commit}
use Rattle.mv_history.specs.declared.history.Entry.TheVariants.{Change}
use Rattle.section_work.specs.declared.place.Place.{Place}
use Rattle.section_work.specs.declared.place.Place.TheVariants.{Commit as AtCommit, Read}
use Rattle.section_work.specs.Causes.{Causes}
use Rattle.section_work.specs.Sections.{TriesOne}
use Rattle.section_work.specs.Attempts.{Enters, GivesUp}
use Rattle.std.specs.Prelude.{◌≡◌, ◌+◌, ◌-◌, ◌<◌, ◌≤◌, ◌∷◌, ◌++◌}
use Rattle.accounts.specs.Terms.{ℕ, List, [], length, state_at, Seat, InSection, IsWorn, Continues, IsEntryAt, Funds, Enough, TooLittle, Late}
use Rattle.accounts.specs.declared.attempt.TransferAttempt.{TransferAttempt}
use Rattle.accounts.specs.declared.attempt.TransferAttempt.TheVariants.{Done, Short, Refused, End}
use Rattle.accounts.specs.Rules.{balance, from_of, amount_of, IsTransfer}
use Rattle.accounts.specs.Transfers.{transfer_meaning}

-- what is answered of a transfer that was found so at its place
abbrev pub attempt_of : Funds → Place → TransferAttempt
attempt_of found (AtCommit time) = Done time
attempt_of (TooLittle had) (Read time) = Short time had
attempt_of Enough (Read time) = End
attempt_of Late (Read time) = End

-- The seat's last commit, at this printed time, is the transfer of the tag, on the state just before. Its snapshot is that of a section which
-- the call entered.
pub record IsDone (k : Causes) (old new : Seat) (tag : List ℕ) (time : ℕ) : Type 0 where
  pub commit : Commit
  pub tagged : commit.tag ≡ tag
  pub entry : IsEntryAt new time (Change commit)
  pub later : old.base + length old.seen < time
  pub mine : new.mine ≡ old.mine ++ commit ∷ []
  pub moves : IsTransfer tag (state_at new.start new.seen (time - (new.base + 1))) commit.writes
  pub entered : InSection
  pub enters : Enters k old entered new
  pub snapshot : commit.snapshot ≡ entered.at

-- At this printed time, which is that of a section that the call entered, the account had this balance, and it is less than the amount.
pub record IsShort (k : Causes) (old new : Seat) (tag : List ℕ) (time had : ℕ) : Type 0 where
  pub mine : new.mine ≡ old.mine
  pub entered : InSection
  pub enters : Enters k old entered new
  pub at : ℕ
  pub at_is : at ≡ entered.at
  pub after : length old.seen ≤ at
  pub seen : at ≤ length new.seen
  pub time_is : time ≡ new.base + at
  pub had_is : had ≡ balance (state_at new.start new.seen at) (from_of tag)
  pub less : had < amount_of tag

-- what an attempt leaves of the seat's own commits, and why
abbrev pub Answers : Causes → Seat → Seat → List ℕ → TransferAttempt → Type 0
Answers k old new tag (Done time) = IsDone k old new tag time
Answers k old new tag (Short time had) = IsShort k old new tag time had
Answers k old new tag (Refused cause) = GivesUp k (transfer_meaning tag) old new cause
Answers k old new tag End = (new.mine ≡ old.mine) × IsWorn new

-- What an attempt leaves: all that was seen is still seen, it tried one commit at most, and this stands behind its answer.
pub record Attempted (k : Causes) (old new : Seat) (tag : List ℕ) (attempt : TransferAttempt) : Type 0 where
  pub continues : Continues old new
  pub tries : TriesOne old new
  pub answers : Answers k old new tag attempt
