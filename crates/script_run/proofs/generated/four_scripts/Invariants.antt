use Rattle.std.proofs.Common.{◌≡◌, ◌≤◌, All, length, map, take, vec_capacity}
use Rattle.script_workers.specs.Workers.{items_of}
use Rattle.generated_runs.specs.OneAfterAnother.{scripts_of}
use Rattle.script_run.proofs.generated.four_scripts.Given as goal

abbrev pub invariant-loop-seat : goal.invariant-loop-seat
invariant-loop-seat l = record {
  scripts : map items_of l.scripts.items ≡ take l.seat (scripts_of l.number);
  short : All (λ script. length script.items ≤ 65536) l.scripts.items;
  len : length l.scripts.items ≡ l.seat;
  room : 4 ≤ vec_capacity l.scripts;
}
