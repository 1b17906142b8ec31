use Rattle.script_workers.proofs.Terms.{◌≡◌, take, sum_by, count_of}
use Rattle.script_workers.proofs.rows.count_in_all.Given as goal

abbrev pub invariant-loop-script : goal.invariant-loop-script
invariant-loop-script l = l.count ≡ sum_by count_of (take l.script-index l.scripts)
