-- The seats of a domain that have met, its whole history, and the tables of their logs.
use Rattle.std.specs.Prelude.{◌≡◌, ℕ, ◌+◌, ◌<◌, ◌≤◌, List, length, All}
use Rattle.std.specs.List.{AllZip}
use Rattle.mv_history.specs.declared.Entry.{Entry}
use Rattle.mv_history.specs.State.{State, Writes, maker_of, commits_of, rests_of}
use Rattle.mv_history.specs.Legal.{IsLegal, IsAllowed}
use Rattle.mv_history.specs.Meaning.{Seat}
use Rattle.mv_history.specs.Calls.{Continues}
use Rattle.mv_history.specs.declared.history.TheConstants.{LAST}
use Rattle.mv_layout.specs.declared.Config.{Config}
use Rattle.mv_core.specs.HistoryFacts.{BeginsWith}
use Rattle.mvrlu.specs.Holding.{AreTablesOf}
use Rattle.mvrlu.specs.Whole.{Whole, IsMetSeat, AreApart}

-- each seat went on as the one of its place
abbrev pub AllContinue : List Seat → List Seat → Type 0
AllContinue olds news = AllZip Continues olds news

-- A seat went on from its first to the one that met, of which the closing tells, and stands in the whole history: whatever it had seen at any
-- time is a beginning of that, and its commits and rests are those of its number in it.
pub record HasMet (w : Whole) (first met : Seat) : Type 0 where
  pub continues : Continues first met
  pub seen : (before : List Entry) → BeginsWith met.seen before → BeginsWith w.history before
  pub mine : met.mine ≡ commits_of first.number w.history
  pub rests : met.rests ≡ rests_of first.number w.history
  pub named : IsMetSeat w met

-- All seats of a domain of these numbers and this opening state have met. There is one history of it all: it begins with the opening state, is
-- legal and allowed from there on, and each entry of it is of one of the seats. The closing tells of one seat of each number; the tables that
-- the meeting took are those of the seats that met, one for each, in their order.
pub record HaveMet (allows : List ℕ → State → Writes → Type 0) (c : Config) (start : State) (firsts met : List Seat) (w : Whole) : Type 0 where
  pub config : w.config ≡ c
  pub opening : w.start ≡ start
  pub base : w.base ≡ c.base
  pub legal : IsLegal (length w.start) w.history
  pub allowed : IsAllowed allows w.start w.history
  pub time : w.base + length w.history ≤ LAST
  pub makers : All (λ e. maker_of e < c.seats) w.history
  pub each : AllZip (HasMet w) firsts met
  pub numbered : AreApart w
  pub tables : AreTablesOf met w.tables

-- All seats of a domain have met, and along this chain each went from its first seat to the one that met.
pub record MetAlong (chain : List Seat → List Seat → Type 0) (allows : List ℕ → State → Writes → Type 0) (c : Config) (start : State)
    (firsts : List Seat) (w : Whole) : Type 0 where
  pub met : List Seat
  pub whole : HaveMet allows c start firsts met w
  pub along : chain firsts met
