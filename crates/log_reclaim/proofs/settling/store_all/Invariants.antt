use Rattle.std.proofs.Common.{◌≡◌, ◌+◌, length}
use Rattle.seat_log.specs.mv_core.Passes.{view, IsOf, IsSame, config_of}
use Rattle.log_reclaim.proofs.looks.StoringAll.{HasStored}
use Rattle.log_reclaim.proofs.settling.store_all.Given as goal

abbrev pub invariant-loop : goal.invariant-loop
invariant-loop g l = record {
  of : IsOf l.shared l.pass;
  same : IsSame l.fn.pass l.pass;
  stores : HasStored (config_of l.shared) (view l.fn.pass) (view l.pass) l.fn.back l.back l.counter l.fn.steps l.steps;
  trail : length (view l.pass).trail ≡ length (view l.fn.pass).trail + l.counter;
}
