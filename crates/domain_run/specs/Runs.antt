-- What a run of tasks over a domain comes to.
use Rattle.std.specs.Prelude.{◌≡◌, ℕ, ◌+◌, ◌<◌, ◌≤◌, List, [], ◌∷◌, length, All, ⊤}
use mathlib.Core.Option.{some}
use lib.ListN.{get_elem?}
use Rattle.mv_history.specs.declared.Entry.{Entry}
use Rattle.mv_history.specs.declared.history.TheConstants.{LAST}
use Rattle.mv_history.specs.Legal.{IsLegal, IsAllowed}
use Rattle.mv_history.specs.State.{State, Writes, maker_of, commits_of, rests_of}
use Rattle.mv_history.specs.Meaning.{Seat}
use Rattle.mv_history.specs.Calls.{Continues}
use Rattle.mv_layout.specs.declared.Config.{Config}
use Rattle.mv_core.specs.HistoryFacts.{BeginsWith}
use Rattle.mvrlu.specs.Holding.{AreTablesOf}
use Rattle.mvrlu.specs.Opened.{new_seat}
use Rattle.mvrlu.specs.Whole.{Whole, IsMetSeat, AreApart}

-- each task has what it needs of the seat of its number
abbrev pub AreReady : {T : Type 0} → (Seat → T → Type 0) → (ℕ → Seat) → List T → Type 0
AreReady {T} ready first tasks = (k : ℕ) (t : T) → get_elem? tasks k ≡ some t → ready (first k) t

-- a task ran, from the seat and the task as they were to the seat and the task as they are
abbrev pub HasRun : {T : Type 0} → (Seat → Seat → T → T → Type 0) → Seat → Seat → T → T → Type 0
HasRun does f s o n = Continues f s × does f s o n

-- each task did what it says, once, from the first seat of its place to the last
abbrev pub AllDid : {T : Type 0} → (Seat → Seat → T → T → Type 0) → List Seat → List Seat → List T → List T → Type 0
AllDid does [] [] [] [] = ⊤
AllDid does (f ∷ firsts) (s ∷ lasts) (o ∷ olds) (n ∷ news) = does f s o n × AllDid does firsts lasts olds news
AllDid does _ _ _ _ = ⊥

-- What a task did, from the new seat of its number to the seat that met, of which the closing tells, and how that seat stands in the whole
-- history.
pub record RanOn {T : Type 0} (does : Seat → Seat → T → T → Type 0) (first met : Seat) (w : Whole) (old new : T) : Type 0 where
  pub continues : Continues first met
  pub did : does first met old new
  pub seen : (before : List Entry) → BeginsWith met.seen before → BeginsWith w.history before
  pub mine : met.mine ≡ commits_of first.number w.history
  pub rests : met.rests ≡ rests_of first.number w.history
  pub named : IsMetSeat w met

-- The run of tasks on the seats of a new domain of this name, up to the whole history of the seats that met.
pub record IsRun {T : Type 0} (does : Seat → Seat → T → T → Type 0) (allows : List ℕ → State → Writes → Type 0)
    (home : List ℕ) (c : Config) (start : State) (olds news : List T) (met : List Seat) (w : Whole) : Type 0 where
  -- one history, legal and allowed from the opening state on, in a domain of these numbers
  pub config : w.config ≡ c
  pub opening : w.start ≡ start
  pub base : w.base ≡ c.base
  pub legal : IsLegal (length w.start) w.history
  pub allowed : IsAllowed allows w.start w.history
  pub time : w.base + length w.history ≤ LAST
  -- each entry is of one of the seats
  pub makers : All (λ e. maker_of e < c.seats) w.history
  -- the closing tells of one seat of each number
  pub numbered : AreApart w
  -- the tables are those of the seats that met
  pub tables : AreTablesOf met w.tables
  -- each task ran once, on the seat of its number
  pub many : length news ≡ length olds
  pub seats : length met ≡ length olds
  pub each : (k : ℕ) (n : T) (s : Seat) → get_elem? news k ≡ some n → get_elem? met k ≡ some s
      → (o : T) × (get_elem? olds k ≡ some o) × RanOn does (new_seat home c start k) s w o n
