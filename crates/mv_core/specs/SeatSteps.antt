-- Making and joining seats, and the shared watermark: what each kind of step asks of its own view, and what it makes of it.
use Rattle.std.specs.Prelude.{◌≡◌, ◌≢◌, ℕ, ◌+◌, ◌≤◌, ◌<◌, max, List, [], ◌∷◌, ◌++◌, length, Contains, Some, None}
use mathlib.Core.Option.{some}
use lib.ListN.{get_elem?}
use Rattle.mv_history.specs.declared.Entry.{Entry}
use Rattle.mv_history.specs.State.{maker_of}
use Rattle.mv_history.specs.declared.StepKind.TheVariants.{MakeSeat, JoinSeat, LoadJoined, LoadGrace, RaiseGrace}
use Rattle.mv_layout.specs.declared.Config.{Config}
use Rattle.mv_layout.specs.declared.SharedWord.TheVariants.{Clock, Grace}
use Rattle.mv_core.specs.declared.view.Knowledge.{Knowledge}
use Rattle.mv_core.specs.declared.view.JoinedSeat.{JoinedSeat}
use Rattle.mv_core.specs.declared.view.Phase.TheVariants.{Outside}
use Rattle.mv_core.specs.Views.{new_view, HasSeat, with_step}
use Rattle.mv_core.specs.HistoryFacts.{KnowsPast}
use Rattle.mv_core.specs.EnterSteps.{if_none}

-- making a seat: the maker has made one more
abbrev pub made_one : Config → Knowledge → Knowledge
made_one c v = record v { made = v.made + 1; trail = with_step c v MakeSeat Clock None None }

-- and the seat that is made has made no step
abbrev pub newly_made : Config → Knowledge → Knowledge
newly_made c v = new_view c v.start v.made 0

-- joining a seat: both are outside, with no scan
pub record MayJoin (v other : Knowledge) : Type 0 where
  pub outside : v.phase ≡ Outside
  pub no_scan : v.scan ≡ None
  pub other_outside : other.phase ≡ Outside
  pub other_no_scan : other.scan ≡ None

-- what is kept of the joined seat
abbrev pub note_of : Knowledge → JoinedSeat
note_of v = record { number = v.number; past = v.past; ring = v.ring; trail = v.trail }

-- the notes of both are one, with a note of the joined seat; what it had seen stands in that note
abbrev pub joined : Config → Knowledge → Knowledge → Knowledge
joined c v other = record v {
  notes = v.notes ++ note_of other ∷ other.notes;
  trail = with_step c v JoinSeat Clock None None;
}

-- What is told of the joined seats where the whole history is h. Each number is of the domain and none is twice. Each of these seats had
-- seen a part of h, with all its own commits and rests, and so has the seat that is left. If they are all the seats of the domain, each
-- entry is of one of them.
pub record AreJoined (c : Config) (v : Knowledge) (h : List Entry) : Type 0 where
  pub joined : (n : JoinedSeat) → Contains v.notes n → (n.number < c.seats) × (n.number ≢ v.number) × KnowsPast h n.number n.past
  pub once : (a b : ℕ) (m n : JoinedSeat) → get_elem? v.notes a ≡ some m → get_elem? v.notes b ≡ some n → m.number ≡ n.number → a ≡ b
  pub own : KnowsPast h v.number v.past
  pub all : length v.notes + 1 ≡ c.seats → (e : Entry) → Contains h e → HasSeat v (maker_of e)

-- load CLOCK after a join: the whole history h is seen, and the word is loaded
abbrev pub joined_loaded : Config → Knowledge → ℕ → List Entry → Knowledge
joined_loaded c v word h = record v {
  past = record v.past { seen = h };
  clocks = record v.clocks { loaded = v.clocks.loaded ++ word ∷ []; helped = v.clocks.helped ++ if_none word };
  trail = with_step c v LoadJoined Clock (Some word) None;
}

-- load GRACE: what it found is known
abbrev pub grace_loaded : Config → Knowledge → ℕ → Knowledge
grace_loaded c v found =
    record v { grace = max v.grace found; trail = with_step c v LoadGrace Grace (Some found) None }

-- fetch_max GRACE: by a time not above the watermark
abbrev pub MayRaiseGrace : Knowledge → ℕ → Type 0
MayRaiseGrace v time = time ≤ v.grace

-- what it found is known, and the greater of the two is stored
abbrev pub grace_raised : Config → Knowledge → ℕ → ℕ → Knowledge
grace_raised c v time found =
    record v { grace = max v.grace found; trail = with_step c v RaiseGrace Grace (Some found) (Some (max found time)) }
