use Rattle.std.specs.Vec.{vec_len}
use Rattle.mv_core.specs.Passes.{view, IsOf}
use Rattle.mv_core.specs.EnterSteps.{MayLoadLow}
use Rattle.runtime_tests.specs.Clients.{AreReady}
use Rattle.runtime_tests.proofs.joining.joining.Given as goal

abbrev pub invariant-loop-other : goal.invariant-loop-other
invariant-loop-other g l = record {
  of : IsOf l.shared l.pass;
  may : MayLoadLow (view l.pass);
  ready : AreReady l.shared l.clients.items;
}

abbrev pub decreases-loop-other : goal.decreases-loop-other
decreases-loop-other g l = vec_len l.clients
