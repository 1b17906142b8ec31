-- What is planned, and more writes after it.
use Rattle.std.specs.Prelude.{◌≡◌}
use Rattle.mv_history.specs.State.{Writes}
pub use Rattle.tree_balance.specs.declared.plan.WritePlan.{WritePlan}
pub use Rattle.tree_balance.specs.Drafts.{writes_in, IsPlaceOf, merged_one, merged}

-- these writes are planned too
abbrev pub PlansMore : WritePlan → WritePlan → Writes → Type 0
PlansMore old new ws = writes_in new ≡ merged (writes_in old) ws
