-- What a new domain of objects is, with its seats.
use Rattle.std.specs.Prelude.{◌≡◌, ℕ, List, map, replicate, All}
use Rattle.mv_history.specs.declared.rules.AnyRules.{AnyRules}
use Rattle.mv_layout.specs.declared.Config.{Config}
use Rattle.mvrlu.specs.Opened.{IsOpened}
use Rattle.mvrlu.specs.declared.domain.Domain.{Domain}
use Rattle.shared_domain.specs.Met.{domain_of}
use Rattle.object_seats.specs.declared.position.Position.{Position}
use Rattle.object_seats.specs.declared.position.Position.TheVariants.{Outside}
use Rattle.object_seats.specs.declared.seat.ObjectSeat.{ObjectSeat}

-- the words of an object that was never written
abbrev pub no_words : List ℕ
no_words = replicate 6 0

-- where a seat is
abbrev pub position_of : ObjectSeat → Position
position_of s = s.position

-- it has a share of this domain
abbrev pub Shares : Domain AnyRules → ObjectSeat → Type 0
Shares d s = domain_of s.share ≡ d

-- They are all the seats of a domain of these numbers that was just opened, in order of number, each outside, and share the domain. All
-- words of it are 0.
pub record AreOpened (c : Config) (seats : List ObjectSeat) : Type 0 where
  pub domain : Domain AnyRules
  pub own : List _
  pub opened : IsOpened c (replicate c.objects no_words) domain own
  pub outside : map position_of seats ≡ map Outside own
  pub shared : All (Shares domain) seats
