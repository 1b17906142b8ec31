-- The states of a domain that is replayed: how it is opened, and what a step makes of one.
use Rattle.std.specs.Prelude.{ℕ, zero, suc, ◌+◌, ◌-◌, ◌<◌, List, [], ◌∷◌, ⊤, Option, replicate}
use Rattle.mv_history.specs.State.{State, Writes}
use Rattle.mv_layout.specs.declared.Config.{Config}
use Rattle.mv_layout.specs.declared.SharedWord.{SharedWord}
use Rattle.mv_core.specs.declared.view.Knowledge.{Knowledge}
use Rattle.mv_core.specs.Moves.{Moment, MoveKind, act, stepped, seat_made, opening_of, IsStorable}

-- every commit is allowed
abbrev pub any_commit : List ℕ → State → Writes → Type 0
any_commit tag before writes = ⊤

-- every opening state is lawful
abbrev pub any_start : State → Type 0
any_start start = ⊤

-- objects that are all zeros
abbrev pub zeros : Config → State
zeros c = replicate c.objects (replicate 6 0)

-- the state once the first seat has made so many others
abbrev pub with_made : Config → ℕ → Moment → Moment
with_made c zero s = s
with_made c (suc count) s = seat_made c 0 (with_made c count s)

-- the state of a new domain with all its seats, whose objects are all zeros
abbrev pub opened : Config → Moment
opened c = with_made c (c.seats - 1) (opening_of c (zeros c))

-- a step of a replay: its seat, and its kind
pub record Made : Type 0 where
  pub seat : ℕ
  pub kind : MoveKind

-- the steps so far, of which the last one comes first, and the one that comes next
pub record Turn : Type 0 where
  pub before : List Made
  pub step : Made

-- what a step asks of its seat's view
abbrev pub may_in : Config → Moment → Made → Type 0
may_in c s step = (act any_commit c (s.seats step.seat) step.kind).may

-- the word that a step is of
abbrev pub place_in : Config → Moment → Made → SharedWord
place_in c s step = (act any_commit c (s.seats step.seat) step.kind).place

-- what a step writes of what it finds in its word, if it writes
abbrev pub writes_in : Config → Moment → Made → ℕ → Option ℕ
writes_in c s step found = (act any_commit c (s.seats step.seat) step.kind).writes found

-- the state after a step
abbrev pub after : Config → Moment → Made → Moment
after c s step = stepped (act any_commit c (s.seats step.seat) step.kind) step.seat s

-- the state after these steps, of which the last one comes first
abbrev pub state_of : Config → List Made → Moment
state_of c [] = opened c
state_of c (step ∷ before) = after c (state_of c before) step

-- a step may be made in this state: it is of a seat of the domain, its condition holds there, and it writes a word of 64 bits
pub record MayMake (c : Config) (s : Moment) (step : Made) : Type 0 where
  pub seat : step.seat < c.seats
  pub may : may_in c s step
  pub fits : IsStorable (writes_in c s step (s.memory (place_in c s step)))

-- each of the steps might be made where it was
abbrev pub AreMade : Config → List Made → Type 0
AreMade c [] = ⊤
AreMade c (step ∷ before) = MayMake c (state_of c before) step × AreMade c before

-- the views of so many seats, from one on
abbrev pub views_from : (ℕ → Knowledge) → ℕ → ℕ → List Knowledge
views_from seats first zero = []
views_from seats first (suc count) = seats first ∷ views_from seats (first + 1) count
