use Rattle.std.proofs.Common.{◌≡◌, ◌+◌, List, length}
use Rattle.mv_history.specs.declared.Step.{Step}
use Rattle.seat_log.specs.mv_core.Passes.{view, IsOf, IsSame, config_of}
use Rattle.seat_log.specs.Stands.{Stands}
use Rattle.log_reclaim.proofs.FreedAll.{FreesSome}
use Rattle.log_reclaim.proofs.rounds.free_all.Given as goal

abbrev pub invariant-sets : goal.invariant-sets
invariant-sets g l = record {
  of : IsOf l.shared l.pass;
  same : IsSame l.fn.pass l.pass;
  stands : Stands (config_of l.shared) (view l.pass) l.log;
  frees : (made : List Step) × FreesSome (view l.fn.pass) (view l.pass) l.fn.log l.log made l.freed;
  step : l.steps ≡ l.fn.steps + l.freed;
}

abbrev pub decreases-sets : goal.decreases-sets
decreases-sets g l = length l.log.live
