-- What the steps of a handle show.
use Rattle.std.specs.Prelude.{ℕ, List, ⊤}
use Rattle.mv_history.specs.State.{State, Writes}
use Rattle.mvrlu.specs.Causes.{Took, Loaded, FoundLocked}
use Rattle.mvrlu.specs.Holding.{HoldsSeat}
use Rattle.section_work.specs.Causes.{Causes}

-- the causes of a handle of a domain under these rules
abbrev pub handle_causes : (State → Type 0) → (List ℕ → State → Writes → Type 0) → Causes
handle_causes starts allows = record {
  may_refuse = ⊤;
  has_trail = ⊤;
  took = Took;
  holds_back = HoldsSeat starts allows;
  found_held = FoundLocked;
  loaded = Loaded;
}
