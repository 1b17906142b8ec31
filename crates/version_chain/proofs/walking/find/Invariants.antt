use Rattle.std.proofs.Common.{◌≡◌, length}
use Rattle.mv_core.specs.Passes.{view, IsSame, config_of}
use Rattle.version_chain.specs.Walks.{StandsAt, Walks, snapshot_length}
use Rattle.version_chain.proofs.Bounds.{WalkedWithin, walk_left}
use Rattle.version_chain.proofs.walking.find.Given as goal

abbrev pub invariant-versions : goal.invariant-versions
invariant-versions g l =
    IsSame l.fn.pass l.pass
    × (l.walk.object ≡ l.object)
    × StandsAt (config_of l.shared) (view l.pass) l.walk
    × Walks (view l.fn.pass) (view l.pass) l.fn.steps l.steps
    × WalkedWithin (config_of l.shared).base (snapshot_length (config_of l.shared) (view l.fn.pass)) (length (view l.pass).past.seen) (view l.pass).walk
    l.fn.steps l.steps

abbrev pub decreases-versions : goal.decreases-versions
decreases-versions g l = walk_left (view l.pass).walk
