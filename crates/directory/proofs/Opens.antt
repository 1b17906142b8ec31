-- The opening objects are a directory.
use Rattle.std.proofs.Common.{refl, arith}
use Rattle.mv_history.specs.State.{State}
use Rattle.mv_client.proofs.LinkedOpening.{length-opened, ring_opened}
use Rattle.directory.specs.declared.rules.TheConstants.{SHELVES}
use Rattle.directory.specs.Layout.{link_of}
use Rattle.directory.specs.Ring.{IsDirectory}
use Rattle.directory.specs.Moves.{IsOpening}

pub opened : (s : State) → IsOpening s → IsDirectory s
opened s is = (length-opened link_of refl s 9 is, _, ring_opened link_of refl s 9 is SHELVES (omega arith) (omega arith))
