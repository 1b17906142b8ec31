use Rattle.runtime_tests.specs.Clients.{AreReady}
use Rattle.runtime_tests.proofs.playing.play_parts.Given as goal

abbrev pub invariant-loop-part : goal.invariant-loop-part
invariant-loop-part g l = AreReady l.shared l.clients.items
