-- A transfer is a fit commit.
use Rattle.mv_history.specs.Drift.{IsFit}
use Rattle.mv_client.proofs.Fits.{fit_by_held}
use Rattle.accounts.proofs.Terms.{ℕ, true, List, ap, arith, nat_tests, State, Writes, touches, balance, balance_of, from_of, to_of, IsTransfer, ◌≡◌}

-- a transfer writes both of its accounts
touches-from : (tag : List ℕ) (s : State) (ws : Writes) → IsTransfer tag s ws → touches ws (from_of tag) ≡ true
touches-from tag s ws t = rw t.moves (grind (arith, nat_tests))

touches-to : (tag : List ℕ) (s : State) (ws : Writes) → IsTransfer tag s ws → touches ws (to_of tag) ≡ true
touches-to tag s ws t = rw t.moves (grind (arith, nat_tests))

-- What is a transfer on the section's snapshot is one on every state that others may lead to meanwhile: they commit
-- nothing to the two accounts, which the section holds, so these have the balances that it read.
pub transfer-fit : (tag : List ℕ) (from : State) (ws : Writes) → IsTransfer tag from ws → IsFit IsTransfer from tag ws
transfer-fit tag from ws t = fit_by_held IsTransfer from tag ws (λ s as_many held.
    let paying : balance s (from_of tag) ≡ balance from (from_of tag) = ap balance_of (held (from_of tag) (touches-from tag from ws t)) in
    let gaining : balance s (to_of tag) ≡ balance from (to_of tag) = ap balance_of (held (to_of tag) (touches-to tag from ws t)) in
    record {
      from = rw as_many t.from;
      to = rw as_many t.to;
      other = t.other;
      some = t.some;
      enough = rw paying t.enough;
      moves = rw (paying, gaining) t.moves;
    })
