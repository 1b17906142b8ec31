use Rattle.std.proofs.Common.{◌+◌, ◌≤◌}
use Rattle.seat_log.specs.mv_core.Passes.{view, IsOf, IsSame, config_of}
use Rattle.commit_abort.specs.Aborts.{IsAborting}
use Rattle.commit_abort.proofs.aborting.abort.Given as goal

abbrev pub invariant-loop-which : goal.invariant-loop-which
invariant-loop-which g l = record {
  of : IsOf l.shared l.pass;
  same : IsSame l.fn.pass l.pass;
  aborting : IsAborting (config_of l.shared) (view l.fn.pass) (view l.pass) l.log l.which;
  cost : l.steps ≤ l.fn.steps + l.which;
}
