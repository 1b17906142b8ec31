-- What a seat and a section stand for, and what holds of them.
use Rattle.std.specs.Prelude.{◌≡◌, ℕ, ◌+◌, ◌-◌, ◌≤◌, true, false, List, [], length, drop, slice_index_or}
use Rattle.mv_history.specs.declared.history.TheConstants.{LAST}
use Rattle.mv_history.specs.State.{State, Writes, Commit, Entry, written, touches, state_at, commits_of, rests_of}
use Rattle.mv_history.specs.Legal.{IsLegal, IsAllowed, AreWithin, AreWords, AreWrites, NoneWrites, NoneBy, are_distinct}
use Rattle.mv_history.specs.Trail.{Step}

-- a seat, outside a section or in one
pub record Seat : Type 0 where
  pub number : ℕ
  pub home : List ℕ
  pub write_max : ℕ
  pub start : State
  pub base : ℕ
  pub last : ℕ
  pub seen : List Entry
  pub mine : List Commit
  pub rests : ℕ
  pub spare : ℕ
  pub trail : List Step

-- a section: its seat, the length of its snapshot, and the objects that it holds, in the order of locking
pub record InSection : Type 0 where
  pub seat : Seat
  pub at : ℕ
  pub own : Writes

-- the state that a section began with
abbrev pub snapshot_of : InSection → State
snapshot_of s = state_at s.seat.start s.seat.seen s.at

-- the state that a section reads: its snapshot with its own words
abbrev pub state_of : InSection → State
state_of s = written (snapshot_of s) s.own

-- the state of a printed time, which the seat has seen
abbrev pub state_of_time : Seat → ℕ → State
state_of_time s time = state_at s.start s.seen (time - s.base)

-- the words of an object in a state
abbrev pub words_at : State → ℕ → List ℕ
words_at s o = slice_index_or s o []

-- the section holds the object
abbrev pub Holds : InSection → ℕ → Type 0
Holds s object = touches s.own object ≡ true

-- the section doesn't hold the object
abbrev pub Lacks : InSection → ℕ → Type 0
Lacks s object = touches s.own object ≡ false

-- no time is left
abbrev pub IsWorn : Seat → Type 0
IsWorn s = s.base + length s.seen ≡ s.last

-- what holds of every seat, under the client's rules
pub record IsSeat (starts : State → Type 0) (allows : List ℕ → State → Writes → Type 0) (s : Seat) : Type 0 where
  pub start : starts s.start
  pub words : AreWords s.start
  pub legal : IsLegal (length s.start) s.seen
  pub allowed : IsAllowed allows s.start s.seen
  pub mine : s.mine ≡ commits_of s.number s.seen
  pub rests : s.rests ≡ rests_of s.number s.seen
  pub time : s.base + length s.seen ≤ s.last
  pub last : s.last ≤ LAST

-- What holds of every section: its snapshot is of a time that was seen; what it holds is distinct, in
-- range and not too much; and no entry after its snapshot writes what it holds or is by its seat.
pub record IsSection (starts : State → Type 0) (allows : List ℕ → State → Writes → Type 0) (s : InSection) : Type 0 where
  pub seat : IsSeat starts allows s.seat
  pub at : s.at ≤ length s.seat.seen
  pub distinct : are_distinct s.own ≡ true
  pub within : AreWithin s.own (length s.seat.start)
  pub words : AreWrites s.own
  pub held : length s.own ≤ s.seat.write_max
  pub unwritten : NoneWrites s.own (drop s.at s.seat.seen)
  pub in_order : NoneBy s.seat.number (drop s.at s.seat.seen)
