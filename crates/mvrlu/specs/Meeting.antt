-- Meeting: which seats it needs, and the law of the whole.
use Rattle.std.specs.Prelude.{◌≡◌, ◌≢◌, ℕ, ◌+◌, ◌≤◌, List, ◌++◌, length, All, AllPairs, Contains}
use Rattle.mv_history.specs.declared.Entry.{Entry}
use Rattle.mv_history.specs.declared.Entry.TheVariants.{Change}
use Rattle.mv_history.specs.declared.Commit.{Commit}
use Rattle.mv_history.specs.declared.Step.{Step}
use Rattle.mv_history.specs.State.{State, Writes, maker_of, commits_of, rests_of}
use Rattle.mv_history.specs.Legal.{IsLegal, IsAllowed}
use Rattle.mv_history.specs.declared.history.TheConstants.{LAST}
use Rattle.object_lock.specs.mv_core.HistoryFacts.{BeginsWith}
use Rattle.mvrlu.specs.declared.domain.Domain.{Domain}
use Rattle.mvrlu.specs.declared.domain.Seat.{Seat}
use Rattle.mvrlu.specs.Meant.{numbers_of, seat_of, IsSeatOf}
use Rattle.mvrlu.specs.Whole.{Whole, IsMetSeat}

module _ {P : Type 0} {rules : _} where
  -- these are all the seats of the domain, each once: as many as it has, each of it, and no two of one number
  pub record AreAll (d : Domain P) (seats : List (Seat P rules)) : Type 0 where
    pub many : length seats ≡ (numbers_of d).seats
    pub own : All (λ s. IsSeatOf d s) seats
    pub apart : AllPairs (λ s t. (seat_of s).number ≢ (seat_of t).number) seats

  -- What each seat has seen is a beginning of the history; and so is all that it had seen at any time before, which is a beginning of that.
  abbrev pub EachHasSeenABeginning : List (Seat P rules) → List Entry → Type 0
  EachHasSeenABeginning seats history = All (λ s. (before : List Entry) → BeginsWith (seat_of s).seen before → BeginsWith history before) seats

  -- The law of the whole. Whatever the seats of a domain have done, there is one history of it all. It is legal, and allowed under the
  -- client's rules from the opening state. Whatever a seat had seen at any time is a beginning of it. The commits of a seat are those of
  -- its number in it, in order and each once, and so many rests in it are the seat's. Each entry is of one of the seats. And these are the
  -- very seats that met: each is the one of its number.
  pub record LawOfTheWhole (starts : State → Type 0) (allows : List ℕ → State → Writes → Type 0) (seats : List (Seat P rules)) (w : Whole) : Type 0 where
    pub opening : starts w.start
    pub legal : IsLegal (length w.start) w.history
    pub allowed : IsAllowed allows w.start w.history
    pub time : w.base + length w.history ≤ LAST
    pub from : All (λ s. ((seat_of s).start ≡ w.start) × ((seat_of s).base ≡ w.base)) seats
    pub seen : EachHasSeenABeginning seats w.history
    pub mine : All (λ s. (seat_of s).mine ≡ commits_of (seat_of s).number w.history) seats
    pub rests : All (λ s. (seat_of s).rests ≡ rests_of (seat_of s).number w.history) seats
    pub makers : (e : Entry) → Contains w.history e → (s : Seat P rules) × Contains seats s × ((seat_of s).number ≡ maker_of e)
    pub commits : (c : Commit) → Contains w.history (Change c)
        → (s : Seat P rules) × Contains seats s × ((seat_of s).number ≡ c.seat) × Contains (seat_of s).mine c
    pub named : All (λ s. IsMetSeat w (seat_of s)) seats

  -- a trail that is at most so many steps behind that of one of the seats
  pub record IsAtMostBehindOneOf (seats : List (Seat P rules)) (w : Whole) (most : ℕ) : Type 0 where
    pub seat : Seat P rules
    pub there : Contains seats seat
    pub steps : List Step
    pub trail : w.trail ≡ (seat_of seat).trail ++ steps
    pub few : length steps ≤ most
