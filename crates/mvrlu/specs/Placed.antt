-- What a seat's pass and log stand for, outside a section and in one.
use Rattle.std.specs.Prelude.{◌≡◌, ℕ, ◌-◌, ◌<◌, ◌≤◌, List, None}
use Rattle.atomic_table.specs.Seated.{TableId}
use Rattle.mv_history.specs.State.{State, Writes}
use Rattle.mv_history.specs.Meaning.{Seat, InSection}
use Rattle.mv_history.specs.declared.Protocol.{Ghosts}
use Rattle.mv_layout.specs.declared.Config.{Config}
use Rattle.object_lock.specs.mv_core.declared.view.Knowledge.{Knowledge}
use Rattle.object_lock.specs.mv_core.Rings.{own_of}
use Rattle.object_lock.specs.mv_core.Known.{Known}
use Rattle.object_lock.specs.mv_core.declared.shared.Shared.{Shared}
use Rattle.object_lock.specs.mv_core.declared.shared.Pass.{Pass}
use Rattle.object_lock.specs.mv_core.Passes.{view, home_of, seat_meant, config_of, start_of, table_of, table_under}
use Rattle.object_lock.specs.mv_core.EnterSteps.{MayLoadLow}
use Rattle.object_lock.specs.seat_log.Notes.{Noted}
use Rattle.object_lock.specs.seat_log.Stands.{Stands}
use Rattle.object_lock.specs.version_chain.Walks.{time_at, MayWalk}

-- a seat's pass and its log, in a domain of these numbers: what the pass knows, and what the log has noted
pub record Placed : Type 0 where
  pub config : Config
  pub table : TableId
  pub view : Knowledge
  pub log : Noted

-- of a pass and its log, in the domain whose numbers the pass has
abbrev pub placed : {P : Type 0} {g : Ghosts P} → Pass P g → Noted → Placed
placed pass log = record { config = pass.domain; table = table_under pass; view = view pass; log = log }

-- the seat that it means
abbrev pub seat_from : Placed → Seat
seat_from p = seat_meant (home_of p.config p.table) p.config.write_max p.view

-- the section that it means
abbrev pub section_from : Placed → InSection
section_from p =
    record { seat = seat_from p; at = time_at p.view - p.config.base; own = own_of p.config p.view.ring }

-- what holds of a seat's pass and log between two calls
pub record IsPlaced (starts : State → Type 0) (allows : List ℕ → State → Writes → Type 0) (p : Placed) : Type 0 where
  pub known : ∥ Known starts allows p.view ∥₁
  pub range : p.view.number < p.config.seats
  pub base : p.view.base ≡ p.config.base
  pub stands : Stands p.config p.view p.log
  pub unbuilt : p.log.built ≡ None

-- outside a section
pub record IsIdle (starts : State → Type 0) (allows : List ℕ → State → Writes → Type 0) (p : Placed) : Type 0 where
  pub placed : IsPlaced starts allows p
  pub outside : MayLoadLow p.view

-- in a section, in which it may read, lock and write
pub record IsBusy (starts : State → Type 0) (allows : List ℕ → State → Writes → Type 0) (p : Placed) : Type 0 where
  pub placed : IsPlaced starts allows p
  pub may : MayWalk p.view
  pub no_scan : p.view.scan ≡ None
  pub few : p.log.held ≤ p.config.write_max

-- the seat is of this domain: it has its name, and its opening state
abbrev pub Fits : {P : Type 0} → Shared P → Placed → Type 0
Fits s p = (home_of p.config p.table ≡ home_of (config_of s) (table_of s)) × (p.view.start ≡ start_of s)
