use Rattle.std.proofs.Common.{ℕ, ◌<◌, subst}
use Rattle.mvrlu.proofs.Ranges.{objects_are}
use Rattle.mvrlu.proofs.session.SessionView.read_four.Goals as goal

pub read_four_in-requires-clause-range : goal.read_four_in-requires-clause-range
read_four_in-requires-clause-range g c =
    subst (λ (n : ℕ). c.args.object < n) (objects_are c.args.self.now.domain.now.shared c.args.self.now.part.busy c.args.self.now.fits)
    c.requires.object
