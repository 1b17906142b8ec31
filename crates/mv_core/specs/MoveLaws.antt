-- What holds of moves: each keeps the rule, so that each state that is reached is one of it, and there is one history.
use Rattle.std.specs.Prelude.{◌≡◌, ◌⊎◌, ℕ, ◌<◌, ◌≤◌, ◌^◌, true, false, List, [], ◌∷◌, ◌++◌, length, slice_index, Contains}
use mathlib.Core.Option.{some}
use lib.ListN.{get_elem?}
use Rattle.atomic_table.specs.Table as table
use Rattle.mv_history.specs.declared.Entry.{Entry}
use Rattle.mv_history.specs.State.{State, Writes}
use Rattle.mv_history.specs.Meaning.{words_at}
use Rattle.mv_history.specs.Legal.{AreWords}
use Rattle.mv_layout.specs.declared.Config.{Config}
use Rattle.mv_layout.specs.declared.SharedWord.{SharedWord}
use Rattle.mv_layout.specs.declared.SharedWord.TheVariants.{Clock}
use Rattle.mv_layout.specs.Limits.{Checked}
use Rattle.mv_core.specs.declared.view.Knowledge.{Knowledge}
use Rattle.mv_core.specs.declared.view.JoinedSeat.{JoinedSeat}
use Rattle.mv_core.specs.declared.shared.Opening.{Opening}
use Rattle.mv_core.specs.Views.{new_view, parts_of}
use Rattle.mv_core.specs.HistoryFacts.{BeginsWith}
use Rattle.mv_core.specs.Moves.{Moment, MoveKind, name_commit, name_rest, act, stepped, Move, Moves, opening_of, Reached}
use Rattle.mv_core.specs.Rule.{IsNoted, Facts, Ruled}

-- the seats of a state: each is of its number and of this domain, and those that aren't made yet are as new
pub record SeatsHold (c : Config) (start : State) (seats : ℕ → Knowledge) : Type 0 where
  pub own : (n : ℕ) → ((seats n).number ≡ n) × ((seats n).start ≡ start) × ((seats n).base ≡ c.base)
  pub made : (seats 0).made ≤ c.seats
  pub later : (n : ℕ) → (seats 0).made ≤ n → seats n ≡ new_view c start n 0

-- the notes of the seats that aren't spent: each is of a spent seat, which is as the note says, and no number is there twice
pub record NotesHold (c : Config) (seats : ℕ → Knowledge) : Type 0 where
  pub noted : (n : ℕ) (x : JoinedSeat) → (seats n).spent ≡ false → Contains (seats n).notes x → IsNoted c seats x × ((seats x.number).spent ≡ true)
  pub once : (i j a b : ℕ) (x y : JoinedSeat) → (seats i).spent ≡ false → (seats j).spent ≡ false → get_elem? (seats i).notes a ≡ some x
      → get_elem? (seats j).notes b ≡ some y → x.number ≡ y.number → (i ≡ j) × (a ≡ b)

-- what a new domain is opened with: its numbers are in range, and the client's rules allow the opening state, which has six words of 64 bits for each object
pub record IsOpening (starts : State → Type 0) (c : Config) (start : State) : Type 0 where
  pub checked : Checked c
  pub lawful : starts start
  pub sized : length start ≡ c.objects
  pub six : AreWords start
  pub small : (o w : ℕ) → slice_index (words_at start o) w < 2 ^ 64

-- the exchange of CLOCK that makes an entry: it found the word that it expected
abbrev pub IsWonNaming : Moment → MoveKind → Type 0
IsWonNaming s (name_commit word tag inside) = s.memory Clock ≡ word
IsWonNaming s (name_rest word) = s.memory Clock ≡ word
IsWonNaming s _ = ⊥

-- a move of the seat n is a won exchange of CLOCK, and makes the history longer by one entry
pub record AddsEntry (allows : List ℕ → State → Writes → Type 0) (c : Config) (n : ℕ) (s t : Moment) : Type 0 where
  pub kind : MoveKind
  pub won : IsWonNaming s kind
  pub state : t ≡ stepped (act allows c (s.seats n) kind) n s
  pub entry : Entry
  pub longer : t.history ≡ s.history ++ entry ∷ []

module _ (starts : State → Type 0) (allows : List ℕ → State → Writes → Type 0) where
  -- a state of the rule: all facts hold of it
  pub record Holds (c : Config) (start : State) (s : Moment) : Type 0 where
    pub words : (p : SharedWord) → s.memory p < 2 ^ 64
    pub seats : SeatsHold c start s.seats
    pub notes : NotesHold c s.seats
    pub facts : Facts starts allows c start s.memory s.history (parts_of s.seats)

  -- each move of a state of the rule leads to a state of the rule, whose history begins with the old one
  abbrev pub MovesKeep : Type 0
  MovesKeep = (c : Config) (start : State) (s t : Moment) → Holds c start s → Moves allows c s t → Holds c start t × BeginsWith t.history s.history

  -- a new domain is in a state of the rule
  abbrev pub OpeningHolds : Type 0
  OpeningHolds = (c : Config) (start : State) → IsOpening starts c start → Holds c start (opening_of c start)

  -- and so is each state that is reached from it
  abbrev pub ReachedHold : Type 0
  ReachedHold = (c : Config) (start : State) → IsOpening starts c start → (s : Moment) → Reached allows c start s → Holds c start s

  -- what holds of one state of the table with two histories holds of one
  abbrev pub OneHistory : Type 0
  OneHistory = (key : Opening) (s : table.State (List ℕ) Knowledge) (a b : Ruled starts allows key s) → a.history ≡ b.history

-- a move leaves the history as it is, or it is a won exchange of CLOCK and adds one entry
abbrev pub OneEntry : (List ℕ → State → Writes → Type 0) → Type 0
OneEntry allows = (c : Config) (n : ℕ) (s t : Moment) → Move allows c n s t → (t.history ≡ s.history) ⊎ AddsEntry allows c n s t
