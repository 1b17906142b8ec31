-- What a run over a domain of the directory comes to.
use Rattle.std.specs.Prelude.{◌≡◌, ℕ, ◌+◌, ◌<◌, ◌≤◌, List, length}
use mathlib.Core.Option.{some}
use lib.ListN.{get_elem?}
use Rattle.mv_history.specs.declared.Entry.{Entry}
use Rattle.mv_history.specs.State.{state_at, commits_of}
use Rattle.mv_history.specs.Meaning.{Seat, InSection}
use Rattle.mv_core.specs.HistoryFacts.{BeginsWith}
use Rattle.mv_client.specs.Updates.{Repeated}
use Rattle.client_run.specs.Over.{IsOver}
use Rattle.directory.specs.declared.rules.TheConstants.{OBJECTS}
use Rattle.directory.specs.Ring.{node_at, IsUser, IsOn, IsPlaced}
use Rattle.directory.specs.Reads.{IsSeen}
use Rattle.directory_run.specs.declared.clerk.Clerk.{Clerk}
use Rattle.domain_run.specs.Numbers.{numbers_for}
use Rattle.mvrlu.specs.Causes.{Took}
use Rattle.mvrlu.specs.Opened.{new_seat}
use Rattle.mvrlu.specs.Whole.{Whole, IsMetSeat, AreApart}

-- a clerk is asked for a user
abbrev pub AsksForUser : Clerk → Type 0
AsksForUser clerk = IsUser clerk.asked.user × (clerk.asked.user < OBJECTS)

-- and its seat may hold three objects
abbrev pub IsReady : Seat → Clerk → Type 0
IsReady seat clerk = (3 ≤ seat.write_max) × AsksForUser clerk

-- The clerk made its moves on the seat, and then looked the user up in a section of its own.
pub record Served (took : Seat → InSection → Type 0) (before after : Seat) (old new : Clerk) : Type 0 where
  pub asked : new.asked ≡ old.asked
  pub between : Seat
  pub moves : Repeated before between old.asked.moves new.moved
  pub looks : IsSeen took between after old.asked.user new.seen

-- What a clerk did, from the new seat of its number to the one that met, of which the closing tells, and by the whole history. Its moves are the
-- commits of its number, and it made all that it was asked for, unless the last time came. In the state of the time that it tells, the user is
-- on the shelf that it tells, with that id, and on no other.
pub record IsServed (home : List ℕ) (w : Whole) (k : ℕ) (old new : Clerk) : Type 0 where
  pub met : Seat
  pub named : IsMetSeat w met
  pub seen : (before : List Entry) → BeginsWith met.seen before → BeginsWith w.history before
  pub served : Served Took (new_seat home w.config w.start k) met old new
  pub asked : new.asked ≡ old.asked
  pub made : new.moved ≡ length (commits_of k w.history)
  pub most : new.moved ≤ old.asked.moves
  pub all : new.moved < old.asked.moves → IsOver w
  pub at : ℕ
  pub within : at ≤ length w.history
  pub time_is : new.seen.time ≡ w.base + at
  pub on : IsOn (state_at w.start w.history at) new.seen.shelf old.asked.user
  pub placed : IsPlaced (state_at w.start w.history at) old.asked.user
  pub id_is : new.seen.id ≡ (node_at (state_at w.start w.history at) old.asked.user).id

-- each clerk did its work, in a domain of the directory's objects with a seat for each clerk; the closing tells of one seat of each number
pub record EachServed (olds news : List Clerk) (w : Whole) : Type 0 where
  pub config : w.config ≡ numbers_for (length olds) OBJECTS 3
  pub numbered : AreApart w
  pub home : List ℕ
  pub many : length news ≡ length olds
  pub each : (k : ℕ) (n : Clerk) → get_elem? news k ≡ some n → (o : Clerk) × (get_elem? olds k ≡ some o) × IsServed home w k o n
