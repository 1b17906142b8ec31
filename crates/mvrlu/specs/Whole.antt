-- What a domain means whose seats have met: its one history, and the state after it.
use Rattle.std.specs.Prelude.{◌≡◌, ◌≢◌, ◌⊎◌, ℕ, ◌+◌, ◌-◌, ◌≤◌, List, ◌++◌, length, take, map, All, AllPairs, Contains}
use Rattle.mv_history.specs.declared.Entry.{Entry}
use Rattle.mv_history.specs.declared.Step.{Step}
use Rattle.mv_history.specs.declared.answers.LogTable.{LogTable}
use Rattle.mv_history.specs.State.{State, state_after}
use Rattle.mv_history.specs.Legal.{AreWords, IsLegal}
use Rattle.mv_history.specs.Meaning.{Seat}
use Rattle.mv_history.specs.declared.history.TheConstants.{LAST}
use Rattle.mv_layout.specs.declared.Config.{Config}
use Rattle.object_lock.specs.mv_core.declared.view.Knowledge.{Knowledge}
use Rattle.object_lock.specs.mv_core.declared.shared.Shared.{Shared}
use Rattle.object_lock.specs.mv_core.declared.shared.Pass.{Pass}
use Rattle.mv_history.specs.declared.Protocol.{Ghosts}
use Rattle.object_lock.specs.mv_core.Passes.{view, IsOf}
use Rattle.object_lock.specs.version_chain.Walks.{time_at, MayWalk}
use Rattle.mvrlu.specs.MetSeats.{MetSeat, met_seat, noted_seat, IsLookStep, MeetsBy}

-- The numbers with which the domain was opened, its opening state with its printed time, its history, the number and the steps of the seat that
-- is left, the other seats that met, each as it was then, and the tables of the logs of all seats that met.
pub record Whole : Type 0 where
  pub config : Config
  pub start : State
  pub base : ℕ
  pub history : List Entry
  pub number : ℕ
  pub trail : List Step
  pub others : List MetSeat
  pub tables : List LogTable

-- the state after the whole history
abbrev pub last_state : Whole → State
last_state w = state_after w.start w.history

-- the seat that is left was this one: it has its number, and has made the steps of the meeting since
pub record IsLeftSeat (w : Whole) (s : Seat) : Type 0 where
  pub number : s.number ≡ w.number
  pub steps : MeetsBy w.config.seats s.trail w.trail

-- The seat is one of those that met: either one of the others was just it, with its number, all that it had seen, its commits and rests, and its
-- steps; or it is the one that is left.
abbrev pub IsMetSeat : Whole → Seat → Type 0
IsMetSeat w s = Contains w.others (met_seat s) ⊎ IsLeftSeat w s

-- of each number one trail is that of a seat that met
abbrev pub TellsTrails : Whole → Type 0
TellsTrails w = (s t : Seat) → IsMetSeat w s → IsMetSeat w t → s.number ≡ t.number → s.trail ≡ t.trail

-- no two of the seats that met have one number
pub record AreApart (w : Whole) : Type 0 where
  pub left : All (λ m. m.number ≢ w.number) w.others
  pub others : AllPairs (λ m n. m.number ≢ n.number) w.others

-- the later value has the same numbers, history, seats and tables; only the trail may have grown, by steps of reading
pub record IsStill (v w : Whole) : Type 0 where
  pub config : w.config ≡ v.config
  pub start : w.start ≡ v.start
  pub base : w.base ≡ v.base
  pub history : w.history ≡ v.history
  pub number : w.number ≡ v.number
  pub trail : (steps : List Step) × (w.trail ≡ v.trail ++ steps) × All (λ s. IsLookStep s.kind) steps
  pub others : w.others ≡ v.others
  pub tables : w.tables ≡ v.tables

-- each object has its words, the history is legal, and its last time is in range
pub record IsSound (w : Whole) : Type 0 where
  pub words : AreWords w.start
  pub legal : IsLegal (length w.start) w.history
  pub time : w.base + length w.history ≤ LAST

-- What the view of a seat in a section means, in a domain of these numbers, where its section reads the state after the whole history, and
-- these are the tables of the seats that met.
abbrev pub whole_from : Config → List LogTable → Knowledge → Whole
whole_from c tables v = record {
  config = c;
  start = v.start;
  base = v.base;
  history = take (time_at v - v.base) v.past.seen;
  number = v.number;
  trail = v.trail;
  others = map noted_seat v.notes;
  tables = tables;
}

-- the pass is of this domain, in a section in which it may read, of a time that was seen
pub record IsReading {P : Type 0} {g : Ghosts P} (s : Shared P) (p : Pass P g) : Type 0 where
  pub of : IsOf s p
  pub may : MayWalk (view p)
  pub after : (view p).base ≤ time_at (view p)
  pub seen : time_at (view p) ≤ (view p).base + length (view p).past.seen
