-- What the clock and the views say of the history.
use Rattle.std.specs.Prelude.{◌≡◌, ◌⊎◌, ℕ, ◌+◌, ◌<◌, ◌≤◌, List, [], ◌∷◌, ◌++◌, length, All}
use Rattle.mv_history.specs.declared.Entry.{Entry}
use Rattle.mv_history.specs.declared.Entry.TheVariants.{Rest, Change}
use Rattle.mv_history.specs.State.{State, Writes, maker_of, commits_of, rests_of}
use Rattle.mv_history.specs.Legal.{IsLegal, IsAllowed, AreWords}
use Rattle.mv_layout.specs.declared.Config.{Config}
use Rattle.mv_layout.specs.Words.{clock_time_of, clock_seat_of, clock_slot_of}
use Rattle.mv_core.specs.declared.view.Past.{Past}

-- a list begins with another
abbrev pub BeginsWith : List Entry → List Entry → Type 0
BeginsWith whole front = (rest : List Entry) × (whole ≡ front ++ rest)

-- the seat and the slot in the clock are those of this entry, which is the last
abbrev pub NamedBy : Config → ℕ → Entry → Type 0
NamedBy c clock (Rest seat) = (clock_slot_of clock ≡ 8191) × (clock_seat_of clock ≡ seat)
NamedBy c clock (Change commit) = (clock_slot_of clock < c.slots) × (clock_seat_of clock ≡ commit.seat)

-- what a seat knows is a part of the history, with all its own commits and rests
pub record KnowsPast (h : List Entry) (seat : ℕ) (p : Past) : Type 0 where
  pub seen : BeginsWith h p.seen
  pub seen_mine : p.mine ≡ commits_of seat p.seen
  pub seen_rests : p.rests ≡ rests_of seat p.seen
  pub mine : p.mine ≡ commits_of seat h
  pub rests : p.rests ≡ rests_of seat h

-- history: it is legal and allowed, its length is the clock's time less base, each seat knows a part of it and one all of it, and
-- the clock names its last entry
pub record History (starts : State → Type 0) (allows : List ℕ → State → Writes → Type 0) (c : Config) (start : State) (clock : ℕ) (h : List Entry)
    (past : ℕ → Past) : Type 0 where
  pub opening : starts start
  pub sized : length start ≡ c.objects
  pub words : AreWords start
  pub legal : IsLegal (length start) h
  pub allowed : IsAllowed allows start h
  pub long : clock_time_of clock ≡ c.base + length h
  pub in_time : c.base + length h ≤ 35184372088831
  pub whole : (h ≡ []) ⊎ ((s : ℕ) × ((past s).seen ≡ h))
  pub seats : (s : ℕ) → KnowsPast h s (past s)
  pub makers : All (λ e. maker_of e < c.seats) h
  pub none_yet : h ≡ [] → clock_slot_of clock ≡ 8191
  pub last : (before : List Entry) (e : Entry) → h ≡ before ++ e ∷ [] → NamedBy c clock e
