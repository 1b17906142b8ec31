-- When a commit is fit.
use Rattle.std.proofs.Common.{◌≡◌, ℕ, true, List, length}
use Rattle.mv_history.specs.State.{State, Writes, touches}
use Rattle.mv_history.specs.Drift.{IsFit}
use Rattle.mv_history.specs.Meaning.{words_at}
use Rattle.mv_history.proofs.Drifting.{words-drifts, length-drifts}

-- A commit is fit that is allowed on each state where what it writes has the words that it has here.
pub fit_by_held : (allowed : List ℕ → State → Writes → Type 0) (from : State) (tag : List ℕ) (ws : Writes)
    → ((s : State) → length s ≡ length from → ((o : ℕ) → touches ws o ≡ true → words_at s o ≡ words_at from o) → allowed tag s ws)
    → IsFit allowed from tag ws
fit_by_held allowed from tag ws here s drifts =
    here s (length-drifts allowed ws from s drifts) (λ o t. words-drifts allowed ws from s o drifts t)
