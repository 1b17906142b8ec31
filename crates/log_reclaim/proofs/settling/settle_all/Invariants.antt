use Rattle.std.proofs.Common.{◌+◌, ◌*◌, ◌≤◌, List, length}
use Rattle.mv_history.specs.declared.Step.{Step}
use Rattle.seat_log.specs.mv_core.Passes.{view, IsOf, IsSame, config_of}
use Rattle.seat_log.specs.Stands.{Stands}
use Rattle.seat_log.specs.commit_clock.Hears.{Hears}
use Rattle.log_reclaim.specs.Sweeps.{Settles}
use Rattle.log_reclaim.proofs.settling.settle_all.Given as goal

abbrev pub invariant-loop-index : goal.invariant-loop-index
invariant-loop-index g l = record {
  of : IsOf l.shared l.pass;
  same : IsSame l.fn.pass l.pass;
  stands : Stands (config_of l.shared) (view l.pass) l.log;
  hears : Hears (view l.fn.pass) (view l.pass) l.top;
  settles : (made : List Step) × Settles (config_of l.shared) (view l.fn.pass) (view l.pass) l.fn.log l.log made l.mark l.clock l.back l.found l.top l.index;
  cost : l.steps ≤ l.fn.steps + 18 * l.index;
  trail : length (view l.pass).trail ≤ length (view l.fn.pass).trail + 18 * l.index;
}
