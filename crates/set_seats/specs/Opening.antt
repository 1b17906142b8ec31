-- What a new domain of the sets is, with its seats, and why one isn't opened.
use Rattle.std.specs.Prelude.{◌≡◌, ◌-◌, ◌/◌, max, ◌<◌, ◌≤◌, List, map, replicate, All}
use Rattle.mv_layout.specs.declared.Config.{Config}
use Rattle.mv_layout.specs.Limits.{Checked, FirstUnfit}
use Rattle.mvrlu.specs.Opened.{IsOpened}
use Rattle.mvrlu.specs.Meant.{IsSeatOf, seat_of}
use Rattle.mvrlu.specs.declared.domain.Domain.{Domain}
use Rattle.mvrlu.specs.declared.domain.Seat.{Seat}
use Rattle.set_blocks.specs.contracts.rules.BlockRulesProtocol.TheImpl.{ghosts}
use Rattle.set_blocks.specs.declared.rules.BlockRules.{BlockRules}
use Rattle.set_model.specs.Objects.{no_words, most_objects}
use Rattle.shared_domain.specs.Met.{domain_of}
use Rattle.set_seats.specs.declared.opening.OpenSets.{OpenSets}
use Rattle.set_seats.specs.declared.opening.SetsFault.{SetsFault}
use Rattle.set_seats.specs.declared.opening.SetsFault.TheVariants as fault
use Rattle.set_seats.specs.declared.seat.SetSeat.{SetSeat}

-- The numbers of the domain. A block of 8 commands locks or holds 40 objects at most. A seat reclaims one round at a time from half of
-- its log on, and all it can where a full write set has no room.
abbrev pub config_of : OpenSets → Config
config_of o = record {
  seats = o.seats;
  objects = o.objects;
  slots = o.slots;
  write_max = 40;
  low = max 1 ((o.slots - 40) / 2);
  high = o.slots - 40;
  base = o.opening_time;
}

-- the 180 heads and a node at least, and no more than a lawful state has
abbrev pub HasObjects : OpenSets → Type 0
HasObjects o = (180 < o.objects) × (o.objects ≤ most_objects)

-- a seat of the domain may hold what a block locks
pub record MayShare {rules : _} (d : Domain BlockRules) (s : Seat BlockRules rules) : Type 0 where
  pub of : IsSeatOf d s
  pub room : 40 ≤ (seat_of s).write_max

-- the domain's own seat in it
abbrev pub seat_in : SetSeat → Seat BlockRules ghosts
seat_in s = s.seat

-- it has a share of this domain
abbrev pub Shares : Domain BlockRules → SetSeat → Type 0
Shares d s = domain_of s.share ≡ d

-- They are all the seats of a domain of these numbers that was just opened, in order of number, and share the domain. All words of it are
-- 0, so all sets are empty.
pub record AreOpened (o : OpenSets) (seats : List SetSeat) : Type 0 where
  pub domain : Domain BlockRules
  pub opened : IsOpened (config_of o) (replicate o.objects no_words) domain (map seat_in seats)
  pub shared : All (Shares domain) seats
  pub objects : HasObjects o

-- The objects are tested first, then the other numbers in the order of `Config::check`; want of memory comes only where all are in
-- range.
abbrev pub Refuses : OpenSets → SetsFault → Type 0
Refuses o fault.Objects = ¬ HasObjects o
Refuses o (fault.Config first) = HasObjects o × FirstUnfit (config_of o) first
Refuses o fault.Memory = HasObjects o × Checked (config_of o)
