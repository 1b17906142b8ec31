use Rattle.std.proofs.Common.{ℕ, ◌<◌, subst}
use Rattle.mv_history.proofs.Writing.{length-state_after}
use Rattle.mvrlu.proofs.closing.ClosingView.read.Goals as goal

pub read_last-requires-clause-range : goal.read_last-requires-clause-range
read_last-requires-clause-range g c =
    subst (λ (n : ℕ). c.args.object < n) (length-state_after c.args.self.now.last.start c.args.self.now.last.history) c.requires

-- they are the words after the whole history
pub returns-clause-words : goal.returns-clause-words
returns-clause-words g c = c.read_last.ensures.words
