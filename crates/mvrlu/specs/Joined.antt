-- What is kept of seats while they are joined, one after another.
use Rattle.std.specs.Prelude.{◌≡◌, ◌⊎◌, ◌+◌, List, ◌++◌, length, All, Contains}
use Rattle.mv_history.specs.declared.Step.{Step}
use Rattle.mv_history.specs.declared.StepKind.TheVariants.{JoinSeat}
use Rattle.mv_history.specs.Meaning as history
use Rattle.object_lock.specs.mv_core.declared.view.Knowledge.{Knowledge}
use Rattle.object_lock.specs.mv_core.declared.view.JoinedSeat.{JoinedSeat}
use Rattle.object_lock.specs.mv_core.HistoryFacts.{BeginsWith}
use Rattle.mvrlu.specs.declared.domain.Seat.{Seat}
use Rattle.mvrlu.specs.Meant.{seat_of}

-- the view is the seat's own, which may have seen more since; this was its trail
pub record IsOwn (trail : List Step) (v : Knowledge) (s : history.Seat) : Type 0 where
  pub number : v.number ≡ s.number
  pub seen : BeginsWith v.past.seen s.seen
  pub mine : v.past.mine ≡ s.mine
  pub rests : v.past.rests ≡ s.rests
  pub steps : s.trail ≡ trail

-- the view has a note of the seat, as it was when it was joined
pub record IsNoted (v : Knowledge) (s : history.Seat) : Type 0 where
  pub note : JoinedSeat
  pub there : Contains v.notes note
  pub number : note.number ≡ s.number
  pub past : note.past ≡ record { seen = s.seen; mine = s.mine; rests = s.rests }
  pub steps : note.trail ≡ s.trail

-- What the seat knew is kept in the view, and both are of one opening state. The view is of the seat that is left, whose trail was this one.
pub record IsKept (trail : List Step) (v : Knowledge) (s : history.Seat) : Type 0 where
  pub start : s.start ≡ v.start
  pub base : s.base ≡ v.base
  pub past : IsOwn trail v s ⊎ IsNoted v s

module _ {P : Type 0} {rules : _} where
  -- of all these seats those not left were joined, into the first of them; each join was one step
  pub record AreJoining (all left : List (Seat P rules)) (v : Knowledge) : Type 0 where
    pub met : List (Seat P rules)
    pub split : all ≡ left ++ met
    pub first : Seat P rules
    pub there : Contains met first
    pub each : All (λ s. IsKept (seat_of first).trail v (seat_of s)) met
    pub steps : List Step
    pub trail : v.trail ≡ (seat_of first).trail ++ steps
    pub count : length steps + 1 ≡ length met
    pub kinds : All (λ s. s.kind ≡ JoinSeat) steps
