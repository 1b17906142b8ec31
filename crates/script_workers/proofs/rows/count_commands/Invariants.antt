use Rattle.script_workers.proofs.Terms.{◌≡◌, take, sum_by, command_count}
use Rattle.script_workers.proofs.rows.count_commands.Given as goal

abbrev pub invariant-loop-script : goal.invariant-loop-script
invariant-loop-script l = l.count ≡ sum_by command_count (take l.script-index l.scripts)
