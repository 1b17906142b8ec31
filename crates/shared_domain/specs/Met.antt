-- What a share means, and what closing one comes to.
use Rattle.std.specs.Prelude.{◌≡◌, ℕ, ◌+◌, List, ⊤}
use Rattle.std.specs.Arc.{arc_value}
use Rattle.mv_history.specs.State.{State, Writes}
use Rattle.mvrlu.specs.Meant.{numbers_of, opening_of, whole_of}
use Rattle.mvrlu.specs.Meeting.{AreAll, LawOfTheWhole, IsAtMostBehindOneOf}
use Rattle.mvrlu.specs.Whole.{Whole}
use Rattle.mvrlu.specs.declared.domain.Domain.{Domain}
use Rattle.mvrlu.specs.declared.domain.Seat.{Seat}
use Rattle.shared_domain.specs.declared.gathering.Closed.{Closed}
use Rattle.shared_domain.specs.declared.gathering.Closed.TheVariants.{Met, Left, Unmet}
use Rattle.shared_domain.specs.declared.gathering.Gathering.{Gathering}
use Rattle.shared_domain.specs.declared.share.Share.{Share}

module _ {P : Type 0} {rules : _} where
  -- what a share is a part of: the domain, with the places for its seats
  abbrev pub gathering_of : Share P rules → Gathering P rules
  gathering_of s = arc_value s.gathering

  -- the domain of a share
  abbrev pub domain_of : Share P rules → Domain P
  domain_of s = (gathering_of s).domain

  -- All seats of the domain have met, each once, and the law of the whole holds of them. The closing has the opening state, the opening time and
  -- the numbers of the domain.
  pub record HasMet (starts : State → Type 0) (allows : List ℕ → State → Writes → Type 0) (g : Gathering P rules) (w : Whole) : Type 0 where
    pub seats : List (Seat P rules)
    pub all : AreAll g.domain seats
    pub law : LawOfTheWhole starts allows seats w
    pub opening : (w.start ≡ opening_of g.domain) × (w.base ≡ (numbers_of g.domain).base)
    pub numbers : w.config ≡ numbers_of g.domain
    pub short : IsAtMostBehindOneOf seats w ((numbers_of g.domain).seats + 7)

  -- a closing tells the meeting of all seats of the domain
  abbrev pub Closes : (State → Type 0) → (List ℕ → State → Writes → Type 0) → Gathering P rules → Closed P → Type 0
  Closes starts allows g (Met closing) = HasMet starts allows g (whole_of closing)
  Closes starts allows g Left = ⊤
  Closes starts allows g Unmet = ⊤
