-- Passes with their logs, and the seats made of them, while a domain is opened.
use Rattle.std.specs.Prelude.{◌≡◌, ℕ, ◌+◌, List}
use mathlib.Core.Option.{some}
use lib.ListN.{get_elem?}
use Rattle.mv_history.specs.declared.Protocol.{Ghosts}
use Rattle.object_lock.specs.mv_core.declared.shared.Shared.{Shared}
use Rattle.object_lock.specs.mv_core.declared.shared.Pass.{Pass}
use Rattle.object_lock.specs.mv_core.Passes.{view, IsOf, config_of, start_of}
use Rattle.object_lock.specs.mv_core.Start.{starting_view}
use Rattle.object_lock.specs.seat_log.Notes.{nothing_noted}
use Rattle.mvrlu.specs.declared.domain.Seat.{Seat}
use Rattle.mvrlu.specs.declared.opening.Ready.{Ready}
use Rattle.mvrlu.specs.Opened.{IsNewSeatOf}

-- the pass of this number is as new
abbrev pub IsNewPass : {P : Type 0} {g : Ghosts P} → Shared P → ℕ → Pass P g → Type 0
IsNewPass s number p = IsOf s p × (p.number ≡ number) × (view p ≡ starting_view (config_of s) (start_of s) number)

module _ {P : Type 0} {rules : _} where
  -- and nothing is noted of its log
  abbrev pub IsReady : Shared P → ℕ → Ready P rules → Type 0
  IsReady s number r = IsNewPass s number r.place.value.pass × (r.place.value.log ≡ nothing_noted number (config_of s).slots)

  -- these are of the last numbers, from the greatest down
  abbrev pub AreReady : Shared P → List (Ready P rules) → Type 0
  AreReady s rs = (k number : ℕ) (r : Ready P rules) → get_elem? rs k ≡ some r → k + number + 1 ≡ (config_of s).seats → IsReady s number r

  -- these are of the first numbers, in order
  abbrev pub AreSeats : Shared P → List (Seat P rules) → Type 0
  AreSeats s seats = (k : ℕ) (seat : Seat P rules) → get_elem? seats k ≡ some seat → IsNewSeatOf s k seat
