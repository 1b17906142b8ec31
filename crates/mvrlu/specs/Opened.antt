-- The seats of a new domain, and why a domain isn't opened.
use Rattle.std.specs.Prelude.{◌≡◌, ℕ, List, [], length}
use mathlib.Core.Option.{some}
use lib.ListN.{get_elem?}
use Rattle.mv_history.specs.State.{State}
use Rattle.mv_history.specs.Meaning as history
use Rattle.mv_history.specs.declared.history.TheConstants.{LAST}
use Rattle.mv_layout.specs.declared.Config.{Config}
use Rattle.mv_layout.specs.Limits.{Checked, FirstUnfit}
use Rattle.object_lock.specs.mv_core.declared.shared.Shared.{Shared}
use Rattle.object_lock.specs.mv_core.Passes.{home_of, config_of, start_of, table_of}
use Rattle.object_lock.specs.mv_core.Start.{starting_view}
use Rattle.object_lock.specs.seat_log.Notes.{nothing_noted}
use Rattle.mvrlu.specs.declared.domain.Domain.{Domain}
use Rattle.mvrlu.specs.declared.domain.Seat.{Seat}
use Rattle.mvrlu.specs.declared.opening.OpenFault.{OpenFault}
use Rattle.mvrlu.specs.declared.opening.OpenFault.TheVariants as fault
use Rattle.mvrlu.specs.Meant.{numbers_of, opening_of, seat_of}

-- The seat of this number of a new domain: it has seen nothing and made nothing, and all its slots are free. The steps by which the first
-- seat made the others stand in its trail.
abbrev pub new_seat : List ℕ → Config → State → ℕ → history.Seat
new_seat home c start number = record {
  number = number;
  home = home;
  write_max = c.write_max;
  start = start;
  base = c.base;
  last = LAST;
  seen = [];
  mine = [];
  rests = 0;
  spare = c.slots;
  trail = (starting_view c start number).trail;
}

module _ {P : Type 0} {rules : _} where
  -- the seat is the new one of this number, and nothing is noted of its log: each count of it is 0
  abbrev pub IsNewSeatOf : Shared P → ℕ → Seat P rules → Type 0
  IsNewSeatOf s number seat =
      (seat_of seat ≡ new_seat (home_of (config_of s) (table_of s)) (config_of s) (start_of s) number)
      × (seat.idle.log ≡ nothing_noted number (config_of s).slots)

  -- the domain has these numbers and this opening state, and these are its seats, in order of number
  pub record IsOpened (c : Config) (start : State) (d : Domain P) (seats : List (Seat P rules)) : Type 0 where
    pub numbers : numbers_of d ≡ c
    pub opening : opening_of d ≡ start
    pub many : length seats ≡ c.seats
    pub each : (k : ℕ) (s : Seat P rules) → get_elem? seats k ≡ some s → IsNewSeatOf d.shared k s

-- a fault of the numbers is the first of them, and want of memory comes only where there is none
abbrev pub Refuses : Config → OpenFault → Type 0
Refuses c (fault.Config first) = FirstUnfit c first
Refuses c fault.Memory = Checked c
