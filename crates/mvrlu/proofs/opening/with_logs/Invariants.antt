use Rattle.std.proofs.Common.{◌≡◌, ◌+◌}
use Rattle.std.specs.Vec.{vec_len}
use Rattle.object_lock.specs.mv_core.Passes.{AreNew, config_of}
use Rattle.mvrlu.specs.Readiness.{AreReady}
use Rattle.mvrlu.proofs.opening.with_logs.Given as goal

abbrev pub invariant-loop-pass : goal.invariant-loop-pass
invariant-loop-pass g l = record {
  count : vec_len l.passes + vec_len l.ready ≡ (config_of l.shared).seats;
  new : AreNew l.shared l.passes.items;
  ready : AreReady l.shared l.ready.items;
}

abbrev pub decreases-loop-pass : goal.decreases-loop-pass
decreases-loop-pass g l = vec_len l.passes
