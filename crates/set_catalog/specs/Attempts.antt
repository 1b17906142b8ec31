-- What an attempt of a command leaves, by its answer.
use Rattle.std.specs.Prelude.{ℕ, ◌≡◌, ◌≤◌, ◌⊎◌, All, Contains, length}
use Rattle.mv_history.specs.State.{state_at}
use Rattle.mv_history.specs.declared.history.Commit.{Commit}
use Rattle.mv_history.specs.declared.history.Entry.TheVariants.{Change}
use Rattle.mv_history.specs.Meaning.{Seat}
use Rattle.mv_history.specs.Calls.{IsEntryAt}
use Rattle.set_model.specs.declared.commands.Command.{Command}
use Rattle.set_model.specs.declared.commands.Reply.{Reply}
use Rattle.section_work.specs.declared.place.Place.TheVariants.{Commit as AtCommit, Read}
use Rattle.set_catalog.specs.declared.answer.CommandAttempt.{CommandAttempt}
use Rattle.set_catalog.specs.declared.answer.CommandAttempt.TheVariants.{Done, Again}
use Rattle.section_work.specs.declared.attempting.Attempt.{Attempt}
use Rattle.section_work.specs.declared.attempting.Attempt.TheVariants.{Done as WorkDone, Again as WorkAgain}
use Rattle.section_work.specs.Attempts.{GivesUp, Attempted as WorkAttempted}
use Rattle.section_work.specs.Causes.{Causes}
use Rattle.set_model.specs.declared.commands.Command.TheVariants.{Del}
use Rattle.set_catalog.specs.Hinted.{Hinted, gone_noted}
use Rattle.set_catalog.specs.Picks.{IsVacant}
use Rattle.set_catalog.specs.CommandMeaning.{command_meaning}
use Rattle.set_catalog.specs.declared.plan.Vacated.{Vacated}
use Rattle.set_catalog.specs.Plans.{DelPlan}
use Rattle.set_catalog.specs.Steps.{most_beside}

-- What an attempt leaves, by its answer: what it leaves as a work, whose commit left some objects vacant. A commit has the command's tag and
-- the reply of the state just before, which is not at the last time. It wrote what it must lock in its snapshot, and nothing else: five objects
-- at most, and of an add to a tree in which its search passes more than 8 inner nodes its own four and those of the steps after it, for which a
-- section has room. It is allowed on its snapshot, and on each state to which others could have led meanwhile. A read has the reply of a state
-- that the command leaves as it is. What was given up would change something.
abbrev pub Attempted : Causes → Seat → Seat → Command → CommandAttempt → Type 0
Attempted k old new command (Done answer place) = (gone : Vacated)
    × WorkAttempted k (command_meaning (most_beside old.write_max) command) old new (WorkDone (record { reply = answer; gone = gone }) place)
Attempted k old new command (Again cause) = GivesUp k (command_meaning (most_beside old.write_max) command) old new cause

-- the object is vacant in the state of a time that came in the call
abbrev pub WasVacant : Seat → Seat → ℕ → Type 0
WasVacant old new object =
    (t : ℕ) × (length old.seen ≤ t) × (t ≤ length new.seen) × IsVacant (state_at new.start new.seen t) object

-- each hint was one before, or its object was vacant in the call
pub record KeepsHints (hints after : Hinted) (old new : Seat) : Type 0 where
  pub room : after.room ≡ hints.room
  pub each : All (λ object. Contains hints.objects object ⊎ WasVacant old new object) after.objects

-- where a del was done, the objects that it left vacant were noted, and nothing else changed
abbrev pub NotesGone : Command → Hinted → Hinted → Seat → Seat → ℕ → Type 0
NotesGone (Del name key) hints after old new time =
    (c : Commit) × (node : ℕ) × (inner : ℕ) × IsEntryAt new time (Change c)
    × DelPlan (state_at new.start new.seen c.snapshot) name key node inner c.writes
    × (after ≡ gone_noted hints node inner)
NotesGone command hints after old new time = KeepsHints hints after old new

-- What an attempt leaves of the hints.
abbrev pub HintsAfter : Command → Hinted → Hinted → Seat → Seat → CommandAttempt → Type 0
HintsAfter command hints after old new (Done answer (AtCommit time)) = NotesGone command hints after old new time
HintsAfter command hints after old new (Done answer (Read time)) = KeepsHints hints after old new
HintsAfter command hints after old new (Again cause) = KeepsHints hints after old new

-- the answer, as that of a work
abbrev pub as_work : CommandAttempt → Attempt Reply
as_work (Done answer place) = WorkDone answer place
as_work (Again cause) = WorkAgain cause
