-- A block that changes nothing is no older than what its seat had seen when it began.
use Rattle.mv_history.specs.Calls.{Continues, IsEntryAt}
use Rattle.section_work.specs.Causes.{Causes}
use Rattle.mvrlu.specs.Whole.{Whole}
use Rattle.domain_lines.proofs.Fresh.{fresh_between}
use Rattle.script_workers.specs.Links.{LinkedBlock}
use Rattle.script_workers.proofs.Runs.{block_fresh}
use Rattle.block_domain.proofs.Terms.{◌≡◌, ◌+◌, ◌-◌, ◌≤◌, ℕ, List, Some, slice_get, Entry, Seat, Command, Reply, Read, HasMet}

-- On a seat's way from its first to the one that met a block was begun at one seat, and it changed nothing. Then each entry that this seat had
-- seen stands in the whole history, at its printed time, and the block's place isn't below that.
pub fresh_block : (k : Causes) (w : Whole) (first met s t : Seat) (block : List Command) (time : ℕ) (answers : List Reply) → HasMet w first met
    → first.base ≡ w.base → Continues first s → Continues s met → LinkedBlock k s t block (Read time, answers)
    → (at : ℕ) (e : Entry) → IsEntryAt s at e → (at ≤ time) × (slice_get w.history (at - (w.base + 1)) ≡ Some e)
fresh_block k w first met s t block time answers has base from to linked =
    fresh_between k w first met s t time has base from to (block_fresh k s t block time answers linked)
