use Rattle.runtime_tests.specs.Clients.{AreReady}
use Rattle.runtime_tests.proofs.playing.play.Given as goal

abbrev pub invariant-loop-at : goal.invariant-loop-at
invariant-loop-at g l = AreReady l.shared l.clients.items
