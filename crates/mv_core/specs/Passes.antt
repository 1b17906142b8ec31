-- What clauses say of a pass and of its domain.
use Rattle.std.specs.Prelude.{◌≡◌, ◌<◌, ℕ, List, ◌∷◌}
use mathlib.Core.Option.{some}
use lib.ListN.{get_elem?}
use Rattle.atomic_table.specs.Seated.{TableId}
use Rattle.atomic_table.specs.declared.shared.Seat as table_seat
use Rattle.mv_history.specs.State.{State, Writes}
use Rattle.mv_history.specs.Meaning.{Seat}
use Rattle.mv_history.specs.declared.Protocol.{Ghosts}
use Rattle.mv_layout.specs.declared.Config.{Config}
use Rattle.mv_layout.specs.declared.SharedWord.TheVariants.{First}
use Rattle.mv_layout.specs.Cells.{cell_of}
use Rattle.mv_core.specs.declared.view.Knowledge.{Knowledge}
use Rattle.mv_core.specs.declared.shared.Shared.{Shared}
use Rattle.mv_core.specs.declared.shared.Pass.{Pass}
use Rattle.mv_core.specs.Known.{Known}
use Rattle.mv_core.specs.Rings.{index_of, spare_count}
use Rattle.mv_core.specs.Start.{starting_view}

module _ {P : Type 0} where
  -- the numbers of the domain
  abbrev pub config_of : Shared P → Config
  config_of s = s.table.shared.key.config

  -- its opening state
  abbrev pub start_of : Shared P → State
  start_of s = s.table.shared.key.start.value.items

-- which table the words of a domain are in
abbrev pub table_of : {P : Type 0} → Shared P → TableId
table_of s = s.table.shared.table_id

-- the seat of a pass of this domain
abbrev pub IsSeatOf : {P : Type 0} → (State → Type 0) → (List ℕ → State → Writes → Type 0) → Shared P
    → table_seat.Seat (List ℕ) Knowledge → Type 0
IsSeatOf starts allows s seat =
    (seat.table_id ≡ table_of s) × (seat.me.0.start ≡ start_of s) × (seat.me.0.base ≡ (config_of s).base)
    × ∥ Known starts allows seat.me.0 ∥₁

-- the name of a domain, which no other domain has: its numbers, and then its table's
abbrev pub home_of : Config → TableId → List ℕ
home_of c t =
    c.seats ∷ c.objects ∷ c.slots ∷ c.write_max ∷ c.low ∷ c.high ∷ c.base
    ∷ t.words ∷ t.slots ∷ t.views_name ∷ t.atom ∷ t.block ∷ t.offset ∷ t.slot_names

-- domains of equal names have the same numbers, and are over the same table
abbrev pub HomesAreApart : Type 0
HomesAreApart = (c d : Config) (t u : TableId) → home_of c t ≡ home_of d u → (c ≡ d) × (t ≡ u)

-- the seat that a view means, of this domain and with this limit of a write set
abbrev pub seat_meant : List ℕ → ℕ → Knowledge → Seat
seat_meant home write_max v = record {
  number = v.number;
  home = home;
  write_max = write_max;
  start = v.start;
  base = v.base;
  last = 35184372088831;
  seen = v.past.seen;
  mine = v.past.mine;
  rests = v.past.rests;
  spare = spare_count v.ring;
  trail = v.trail;
}

module _ {P : Type 0} {g : Ghosts P} where
  -- what the pass knows
  abbrev pub view : Pass P g → Knowledge
  view p = p.seat.me.0

  -- which table the pass steps over
  abbrev pub table_under : Pass P g → TableId
  table_under p = p.seat.table_id

  -- the seat that a pass means, of a domain of these numbers
  abbrev pub seat_of : Config → Pass P g → Seat
  seat_of c p = seat_meant (home_of c (table_under p)) p.domain.write_max (view p)

  -- the pass is of this domain
  abbrev pub IsOf : Shared P → Pass P g → Type 0
  IsOf s p = (table_under p ≡ table_of s) × (p.number < (config_of s).seats) × ((view p).base ≡ (config_of s).base)
      × ((view p).start ≡ start_of s) × (p.domain ≡ config_of s)

  -- the slot of a position of the own log begins at this cell
  abbrev pub IsOwnSlot : Config → Pass P g → ℕ → ℕ → Type 0
  IsOwnSlot c p position slot = slot ≡ cell_of c (First p.number (index_of c position))

  -- a step leaves these as they are
  abbrev pub IsSame : Pass P g → Pass P g → Type 0
  IsSame p q =
      (table_under q ≡ table_under p) × (q.number ≡ p.number) × (q.domain ≡ p.domain) × ((view q).base ≡ (view p).base)
      × ((view q).start ≡ (view p).start) × ((view q).notes ≡ (view p).notes)

  -- the passes of a new domain: in order of number, each with the view with which that seat begins
  abbrev pub AreNew : Shared P → List (Pass P g) → Type 0
  AreNew s ps =
      (k : ℕ) (p : Pass P g) → get_elem? ps k ≡ some p → IsOf s p × (p.number ≡ k) × (view p ≡ starting_view (config_of s) (start_of s) k)
