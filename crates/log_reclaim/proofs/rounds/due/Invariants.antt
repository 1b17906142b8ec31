use Rattle.log_reclaim.proofs.Oldest.{AreDead}
use Rattle.log_reclaim.proofs.rounds.due.Given as goal

abbrev pub invariant-loop-index : goal.invariant-loop-index
invariant-loop-index l = AreDead l.log l.time l.index
