-- What a new domain of a growing set is, with its seats, and why one isn't opened.
use Rattle.std.specs.Prelude.{◌≡◌, ◌-◌, ◌/◌, max, ◌<◌, ◌≤◌, List, map, replicate, All}
use Rattle.mv_layout.specs.declared.Config.{Config}
use Rattle.mv_layout.specs.Limits.{Checked, FirstUnfit}
use Rattle.mvrlu.specs.Opened.{IsOpened}
use Rattle.mvrlu.specs.Meant.{IsSeatOf, seat_of}
use Rattle.mvrlu.specs.declared.domain.Domain.{Domain}
use Rattle.mvrlu.specs.declared.domain.Seat.{Seat}
use Rattle.grow_hash.specs.declared.rules.GrowRules.{GrowRules}
use Rattle.set_model.specs.Objects.{no_words, most_objects}
use Rattle.shared_domain.specs.Met.{domain_of}
use Rattle.grow_seats.specs.Commands.{table_levels}
use Rattle.grow_seats.specs.declared.opening.OpenGrown.{OpenGrown}
use Rattle.grow_seats.specs.declared.opening.GrownFault.{GrownFault}
use Rattle.grow_seats.specs.declared.opening.GrownFault.TheVariants as fault
use Rattle.grow_seats.specs.declared.seat.GrowSeat.{GrowSeat}

-- the rules of the domain
abbrev pub TableRules : Type 0
TableRules = GrowRules table_levels

-- The numbers of the domain. The split of a bucket locks 64 objects at most. A seat reclaims one round at a time from half of its log on,
-- and all it can where a full write set has no room.
abbrev pub config_of : OpenGrown → Config
config_of o = record {
  seats = o.seats;
  objects = o.objects;
  slots = o.slots;
  write_max = 64;
  low = max 1 ((o.slots - 64) / 2);
  high = o.slots - 64;
  base = o.opening_time;
}

-- the table, the heads of 2^20 buckets and a node at least, and no more than a lawful state has
abbrev pub HasObjects : OpenGrown → Type 0
HasObjects o = (1048577 < o.objects) × (o.objects ≤ most_objects)

-- a seat of the domain may hold what a split locks
pub record MayShare {P : Type 0} {rules : _} (d : Domain P) (s : Seat P rules) : Type 0 where
  pub of : IsSeatOf d s
  pub room : 64 ≤ (seat_of s).write_max

-- it has a share of this domain
abbrev pub Shares : Domain TableRules → GrowSeat → Type 0
Shares d s = domain_of s.share ≡ d

-- They are all the seats of a domain of these numbers that was just opened, in order of number, and share the domain. All words of it are
-- 0, so the set is empty and has 16 buckets.
pub record AreOpened (o : OpenGrown) (seats : List GrowSeat) : Type 0 where
  pub domain : Domain TableRules
  pub opened : IsOpened (config_of o) (replicate o.objects no_words) domain (map (λ (s : GrowSeat). s.seat) seats)
  pub shared : All (Shares domain) seats
  pub objects : HasObjects o

-- The objects are tested first, then the other numbers in the order of `Config::check`; want of memory comes only where all are in
-- range.
abbrev pub Refuses : OpenGrown → GrownFault → Type 0
Refuses o fault.Objects = ¬ HasObjects o
Refuses o (fault.Config first) = HasObjects o × FirstUnfit (config_of o) first
Refuses o fault.Memory = HasObjects o × Checked (config_of o)
