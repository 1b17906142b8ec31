use Rattle.std.proofs.Common.{All}
use Rattle.std.specs.Vec.{vec_len}
use Rattle.runtime_tests.specs.Clients.{AreReady, IsNew}
use Rattle.runtime_tests.proofs.opening.open.Given as goal

abbrev pub invariant-loop-pass : goal.invariant-loop-pass
invariant-loop-pass l = record {
  new : All (IsNew l.shared) l.passes.items;
  ready : AreReady l.shared l.clients.items;
}

abbrev pub decreases-loop-pass : goal.decreases-loop-pass
decreases-loop-pass l = vec_len l.passes
