-- The status of each way to end, and its line on `err`.
use Rattle.std.specs.Prelude.{◌≡◌, ◌⊎◌, ℕ, List, [], ◌++◌, codes, decimal}
use Rattle.script_files.specs.block_parser.declared.faults.BlockKind.{BlockKind}
use Rattle.script_files.specs.block_parser.declared.faults.BlockKind.TheVariants.{Line, Nested, Stray, Empty, Long, Apart, Unended}
use Rattle.script_parser.specs.declared.faults.FaultKind.{FaultKind}
use Rattle.script_parser.specs.declared.faults.FaultKind.TheVariants.{Word, Count, Format, Name, Key, Value, Same, Many}
use Rattle.run_words.specs.declared.request.Limit.{Limit as LimitOf}
use Rattle.run_words.specs.declared.request.Limit.TheVariants.{Objects, Slots, Base, Files, Number, Seat, Seats}
use Rattle.run_ends.specs.declared.finish.LeftDomain.{LeftDomain}
use Rattle.run_ends.specs.declared.finish.LeftDomain.TheVariants.{No}
use Rattle.run_ends.specs.declared.finish.Finish.{Finish}
use Rattle.run_ends.specs.declared.finish.Finish.TheVariants.{Done, Usage, Limit, Stopped, Write}
use Rattle.script_files.specs.declared.stop.Stop.{Stop}
use Rattle.script_files.specs.declared.stop.Stop.TheVariants.{Script, BlockScript, Plan, Bytes, Read, Memory}
use Rattle.script_files.specs.Scripts.{Reading, KindOf, commands, blocks, plans}
use Rattle.script_files.specs.replay_rules.declared.plan.PlanKind.{PlanKind}
use Rattle.script_files.specs.replay_rules.declared.plan.PlanKind.TheVariants.{Word as PlanWord, Count as PlanCount, Number as PlanNumber, Many as PlanMany}

-- the status of a faulty script
abbrev pub fault_status : FaultKind → ℕ
fault_status Many = 4
fault_status _ = 3

-- and of a faulty script of blocks
abbrev pub block_fault_status : BlockKind → ℕ
block_fault_status (Line kind) = fault_status kind
block_fault_status _ = 3

-- and of a faulty plan
abbrev pub plan_fault_status : PlanKind → ℕ
plan_fault_status PlanMany = 4
plan_fault_status _ = 3

-- the status of what is wrong with a line of a file that is read so
abbrev pub kind_status : (reading : Reading) → KindOf reading → ℕ
kind_status (commands grammar) = fault_status
kind_status blocks = block_fault_status
kind_status plans = plan_fault_status

-- the status of a stop
abbrev pub stop_status : Stop → ℕ
stop_status (Script script line kind) = fault_status kind
stop_status (BlockScript script line kind) = block_fault_status kind
stop_status (Plan script line kind) = plan_fault_status kind
stop_status (Bytes script) = 4
stop_status (Read script) = 5
stop_status Memory = 7

-- the status
abbrev pub status_of : Finish → ℕ
status_of (Done closed) = 0
status_of Usage = 2
status_of (Limit limit) = 4
status_of (Stopped stop) = stop_status stop
status_of Write = 6

-- a call has this status, or there was no memory for it
abbrev pub IsOrMemory : ℕ → ℕ → Type 0
IsOrMemory status wanted = (status ≡ wanted) ⊎ (status ≡ 7)

-- what is left of the domain: nothing, where not all was written
abbrev pub closed_of : Finish → LeftDomain
closed_of (Done closed) = closed
closed_of _ = No

-- the word for a number that is out of its range
abbrev pub limit_word : LimitOf → List ℕ
limit_word Objects = codes "objects"
limit_word Slots = codes "slots"
limit_word Base = codes "base"
limit_word Files = codes "files"
limit_word Number = codes "number"
limit_word Seat = codes "seat"
limit_word Seats = codes "seats"

-- what stands before the number of a faulty script
abbrev pub fault_start : FaultKind → List ℕ
fault_start Many = codes "limit: script "
fault_start _ = codes "script "

-- what stands behind the number of its line
abbrev pub fault_end : FaultKind → List ℕ
fault_end Word = codes ": unknown command\n"
fault_end Count = codes ": wrong number of words\n"
fault_end Format = codes ": unknown format\n"
fault_end Name = codes ": unknown name\n"
fault_end Key = codes ": bad key\n"
fault_end Value = codes ": bad value\n"
fault_end Same = codes ": same name twice\n"
fault_end Many = codes " commands\n"

-- what stands before the number of a faulty script of blocks
abbrev pub block_fault_start : BlockKind → List ℕ
block_fault_start (Line kind) = fault_start kind
block_fault_start _ = codes "script "

-- what stands behind the number of its line
abbrev pub block_fault_end : BlockKind → List ℕ
block_fault_end (Line kind) = fault_end kind
block_fault_end Nested = codes ": nested block\n"
block_fault_end Stray = codes ": end without begin\n"
block_fault_end Empty = codes ": empty block\n"
block_fault_end Long = codes ": block too long\n"
block_fault_end Apart = codes ": not in a block\n"
block_fault_end Unended = codes ": block without end\n"

-- what stands before the number of a faulty plan
abbrev pub plan_fault_start : PlanKind → List ℕ
plan_fault_start PlanMany = codes "limit: script "
plan_fault_start _ = codes "script "

-- what stands behind the number of its line
abbrev pub plan_fault_end : PlanKind → List ℕ
plan_fault_end PlanWord = codes ": unknown command\n"
plan_fault_end PlanCount = codes ": wrong number of words\n"
plan_fault_end PlanNumber = codes ": bad number\n"
plan_fault_end PlanMany = codes " commands\n"

-- the line on words that are out of form
abbrev pub usage_line : List ℕ
usage_line = codes "usage: run [--objects N] [--slots N] [--base N] FILE... or gen NUMBER SEAT or work NUMBER"
    ++ codes " or block FILE... or pool SEATS FILE or grow FILE... or replay FILE\n"

-- the line of a stop
abbrev pub stop_line : Stop → List ℕ
stop_line (Script script line kind) = fault_start kind ++ decimal script ++ codes " line " ++ decimal line ++ fault_end kind
stop_line (BlockScript script line kind) = block_fault_start kind ++ decimal script ++ codes " line " ++ decimal line ++ block_fault_end kind
stop_line (Plan script line kind) = plan_fault_start kind ++ decimal script ++ codes " line " ++ decimal line ++ plan_fault_end kind
stop_line (Bytes script) = codes "limit: script " ++ decimal script ++ codes " bytes\n"
stop_line (Read script) = codes "read fault: script " ++ decimal script ++ codes "\n"
stop_line Memory = codes "out of memory\n"

-- the line on `err`
abbrev pub line_of : Finish → List ℕ
line_of (Done closed) = []
line_of Usage = usage_line
line_of (Limit limit) = codes "limit: " ++ limit_word limit ++ codes "\n"
line_of (Stopped stop) = stop_line stop
line_of Write = codes "write fault\n"
