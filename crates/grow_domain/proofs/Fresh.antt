-- A read on a growing set is no older than what its seat had seen when its command began.
use Rattle.std.specs.List.{slice_get}
use Rattle.mv_history.specs.declared.history.Entry.{Entry}
use Rattle.mv_history.specs.Calls.{Continues, IsEntryAt}
use Rattle.set_model.specs.declared.commands.Reply.{Reply}
use Rattle.section_work.specs.Causes.{Causes}
use Rattle.section_work.specs.declared.place.Place.TheVariants.{Read}
use Rattle.mvrlu.specs.Whole.{Whole}
use Rattle.domain_lines.proofs.Fresh.{fresh_between}
use Rattle.script_workers.specs.GrowLinks.{GrowKept, LinkedTurn}
use Rattle.script_workers.proofs.Turns.{turn_fresh}
use Rattle.grow_domain.proofs.Terms.{◌≡◌, ◌+◌, ◌-◌, ◌≤◌, ℕ, Some, Seat, Command, HasMet}

-- On a seat's way from its first to the one that met a command was begun, and it was a read. Then each entry that the seat had seen, of the
-- commands and splits before it too, stands in the whole history, at its printed time, and the read's place isn't below that.
pub fresh_turn : (k : Causes) (w : Whole) (first met : Seat) (s t : GrowKept) (command : Command) (time : ℕ) (answer : Reply) → HasMet w first met
    → first.base ≡ w.base → Continues first s.seat → Continues s.seat met → LinkedTurn k s t command (Read time, answer)
    → (at : ℕ) (e : Entry) → IsEntryAt s.seat at e → (at ≤ time) × (slice_get w.history (at - (w.base + 1)) ≡ Some e)
fresh_turn k w first met s t command time answer has base from to linked =
    fresh_between k w first met s.seat linked.between time has base from to (turn_fresh k s t command time answer linked)
