-- The statuses of stops.
use Rattle.std.proofs.Common.{◌≡◌, ◌≤◌, ℕ, arith}
use Rattle.script_parser.specs.declared.faults.FaultKind.{FaultKind}
use Rattle.script_parser.specs.declared.faults.FaultKind.TheVariants.{Many}
use Rattle.script_files.specs.block_parser.declared.faults.BlockKind.{BlockKind}
use Rattle.script_files.specs.block_parser.declared.faults.BlockKind.TheVariants.{Line, Nested, Stray, Empty, Long, Apart, Unended}
use Rattle.script_files.specs.replay_rules.declared.plan.PlanKind.{PlanKind}
use Rattle.script_files.specs.replay_rules.declared.plan.PlanKind.TheVariants.{Many as PlanMany}
use Rattle.script_files.specs.declared.stop.Stop.{Stop}
use Rattle.script_files.specs.declared.stop.Stop.TheVariants.{Script, BlockScript, Plan, Bytes, Read, Memory}
use Rattle.run_ends.specs.Status.{block_fault_status, fault_status, plan_fault_status, stop_status}

-- the statuses of faulty lines are 3 and 4
fault_range : (kind : FaultKind) → (3 ≤ fault_status kind) × (fault_status kind ≤ 4)
fault_range Many = (omega arith, omega arith)
fault_range kind = (omega arith, omega arith)

block_range : (kind : BlockKind) → (3 ≤ block_fault_status kind) × (block_fault_status kind ≤ 4)
block_range (Line kind) = fault_range kind
block_range Nested = (omega arith, omega arith)
block_range Stray = (omega arith, omega arith)
block_range Empty = (omega arith, omega arith)
block_range Long = (omega arith, omega arith)
block_range Apart = (omega arith, omega arith)
block_range Unended = (omega arith, omega arith)

plan_range : (kind : PlanKind) → (3 ≤ plan_fault_status kind) × (plan_fault_status kind ≤ 4)
plan_range PlanMany = (omega arith, omega arith)
plan_range kind = (omega arith, omega arith)

-- no stop has status 0
pub stopped_above : (stop : Stop) → 3 ≤ stop_status stop
stopped_above (Script script line kind) = (fault_range kind).0
stopped_above (BlockScript script line kind) = (block_range kind).0
stopped_above (Plan script line kind) = (plan_range kind).0
stopped_above (Bytes script) = omega arith
stopped_above (Read script) = omega arith
stopped_above Memory = omega arith

-- a fact of stops that each failed reading has holds of each stop of status 5
pub only_reads : (P : Stop → Type 0) → ((script : ℕ) → P (Read script)) → (stop : Stop) → stop_status stop ≡ 5 → P stop
only_reads P reads (Read script) five = reads script
only_reads P reads (Script script line kind) five = absurd (omega (arith, five, (fault_range kind).1))
only_reads P reads (BlockScript script line kind) five = absurd (omega (arith, five, (block_range kind).1))
only_reads P reads (Plan script line kind) five = absurd (omega (arith, five, (plan_range kind).1))
only_reads P reads (Bytes script) five = absurd (omega (arith, five))
only_reads P reads Memory five = absurd (omega (arith, five))
