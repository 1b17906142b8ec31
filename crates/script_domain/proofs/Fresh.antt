-- A read is no older than what its seat had seen when its command began.
use Rattle.std.specs.List.{slice_get}
use Rattle.mv_history.specs.declared.history.Entry.{Entry}
use Rattle.mv_history.specs.Calls.{Continues, IsEntryAt}
use Rattle.set_model.specs.declared.commands.Reply.{Reply}
use Rattle.section_work.specs.Causes.{Causes}
use Rattle.section_work.specs.declared.place.Place.TheVariants.{Read}
use Rattle.mvrlu.specs.Whole.{Whole}
use Rattle.script_workers.specs.Links.{Linked}
use Rattle.script_workers.proofs.Runs.{linked_fresh}
use Rattle.domain_lines.proofs.Fresh.{fresh_between}
use Rattle.script_domain.proofs.Terms.{◌≡◌, ◌+◌, ◌-◌, ◌≤◌, ℕ, Some, Seat, Command, HasMet}

-- A command was begun at one seat, and was a read: the read's place isn't below any entry that the seat had seen then.
pub fresh_read : (k : Causes) (w : Whole) (first met s t : Seat) (command : Command) (time : ℕ) (answer : Reply) → HasMet w first met
    → first.base ≡ w.base → Continues first s → Continues s met → Linked k s t command (Read time, answer)
    → (at : ℕ) (e : Entry) → IsEntryAt s at e → (at ≤ time) × (slice_get w.history (at - (w.base + 1)) ≡ Some e)
fresh_read k w first met s t command time answer has base from to linked =
    fresh_between k w first met s t time has base from to (linked_fresh k s t command time answer linked)
