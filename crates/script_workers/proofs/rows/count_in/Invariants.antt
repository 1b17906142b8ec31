use Rattle.script_workers.proofs.Terms.{◌≡◌, length, take, sum_by}
use Rattle.script_workers.proofs.rows.count_in.Given as goal

abbrev pub invariant-loop-block : goal.invariant-loop-block
invariant-loop-block l = l.count ≡ sum_by length (take l.block-index l.script)
