-- What a run over a domain of accounts comes to.
use Rattle.std.specs.Prelude.{◌≡◌, ℕ, ◌+◌, ◌<◌, ◌≤◌, List, [], length, All, vec_capacity}
use mathlib.Core.Option.{some}
use lib.ListN.{get_elem?}
use Rattle.mv_history.specs.State.{state_at, maker_of, commits_of}
use Rattle.mv_history.specs.Legal.{IsAllowed}
use Rattle.mv_history.specs.Meaning.{Seat, InSection}
use Rattle.mv_history.specs.declared.history.TheConstants.{LAST}
use Rattle.mv_history.specs.declared.Entry.{Entry}
use Rattle.mv_core.specs.HistoryFacts.{BeginsWith}
use Rattle.accounts.specs.declared.reading.SumAt.{SumAt}
use Rattle.accounts.specs.declared.rules.TheConstants.{ACCOUNTS}
use Rattle.accounts.specs.Rules.{total, IsTransfer}
use Rattle.accounts.specs.Repeats.{Moves, Reads}
use Rattle.accounts_run.specs.declared.teller.TellerOrder.{TellerOrder}
use Rattle.accounts_run.specs.declared.teller.Teller.{Teller}
use Rattle.mvrlu.specs.Causes.{Took}
use Rattle.domain_run.specs.Numbers.{numbers_for}
use Rattle.mvrlu.specs.Opened.{new_seat}
use Rattle.mvrlu.specs.Whole.{Whole, IsMetSeat, AreApart}

-- what a teller is asked for
abbrev pub asked_of : Teller → TellerOrder
asked_of teller = teller.asked

-- the teller has read nothing, and has room for its sums
pub record HasRoom (teller : Teller) : Type 0 where
  pub empty : teller.read.items ≡ []
  pub room : teller.asked.sums ≤ vec_capacity teller.read

-- it is asked for this
abbrev pub IsNew : TellerOrder → Teller → Type 0
IsNew asked teller = (teller.asked ≡ asked) × HasRoom teller

-- and its seat may hold two accounts
abbrev pub IsReady : Seat → Teller → Type 0
IsReady seat teller = (2 ≤ seat.write_max) × HasRoom teller

-- The teller made its transfers on the seat, and then read its sums, each in a section of its own.
pub record Served (took : Seat → InSection → Type 0) (before after : Seat) (old new : Teller) : Type 0 where
  pub asked : new.asked ≡ old.asked
  pub between : Seat
  pub moves : Moves before between old.asked.transfers new.moved.transfers
  pub reads : Reads took between after old.asked.sums new.read.items

-- the sum is that of the state of the history at its time, and it is the opening sum
pub record IsSumOf (w : Whole) (opening : ℕ) (sum : SumAt) : Type 0 where
  pub at : ℕ
  pub seen : at ≤ length w.history
  pub time_is : sum.time ≡ w.base + at
  pub total_is : sum.total ≡ total (state_at w.start w.history at)
  pub same : sum.total ≡ opening

-- What a teller did, from the new seat of its number to the one that met, of which the closing tells, and by the whole history. Its transfers
-- are the commits of its number; it made all that it was asked for, unless the last time came; and it read as many sums as it was asked for,
-- each in a section that its seat entered meanwhile.
pub record IsServed (home : List ℕ) (opening : ℕ) (w : Whole) (k : ℕ) (old new : Teller) : Type 0 where
  pub met : Seat
  pub named : IsMetSeat w met
  pub seen : (before : List Entry) → BeginsWith met.seen before → BeginsWith w.history before
  pub served : Served Took (new_seat home w.config w.start k) met old new
  pub made : new.moved.transfers ≡ length (commits_of k w.history)
  pub most : new.moved.transfers ≤ old.asked.transfers
  pub all : new.moved.transfers < old.asked.transfers → w.base + length w.history ≡ LAST
  pub many : length new.read.items ≡ old.asked.sums
  pub read : All (IsSumOf w opening) new.read.items

-- The history is one of transfers by these tellers, in a domain of so many accounts, with a seat for each of them, and each has done its work.
-- The closing tells of one seat of each number.
pub record IsRunOf (opening : ℕ) (olds news : List Teller) (w : Whole) : Type 0 where
  pub config : w.config ≡ numbers_for (length olds) ACCOUNTS 2
  pub numbered : AreApart w
  pub home : List ℕ
  pub allowed : IsAllowed IsTransfer w.start w.history
  pub opens : total w.start ≡ opening
  pub makers : All (λ e. maker_of e < length olds) w.history
  pub many : length news ≡ length olds
  pub each : (k : ℕ) (n : Teller) → get_elem? news k ≡ some n → (o : Teller) × (get_elem? olds k ≡ some o) × IsServed home opening w k o n
