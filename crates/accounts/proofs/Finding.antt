-- What a transfer plans in a section that holds nothing.
use Rattle.section_work.specs.Works.{IsPlanned}
use Rattle.std.proofs.Common.{◌≡◌, ◌≢◌, ◌+◌, ◌-◌, ◌<◌, ◌≤◌, ◌∷◌, ℕ, true, List, [], length, refl, arith}
use Rattle.accounts.proofs.Terms.{nat_tests, State, are_distinct, AreWithin, words_of, account_of, balance, IsTransfer, transfer_tag, transfer_meaning, Enough}
use Rattle.accounts.proofs.Fits.{transfer-fit}

two_distinct : (a b : ℕ) (x y : List ℕ) → a ≢ b → are_distinct ((a, x) ∷ (b, y) ∷ []) ≡ true
two_distinct a b x y n = grind (arith, nat_tests)

two_within : (a b n : ℕ) (x y : List ℕ) → a < n → b < n → AreWithin ((a, x) ∷ (b, y) ∷ []) n
two_within a b n x y la lb o t = grind (arith, nat_tests)

pub planned : (s : State) (from to amount had got : ℕ) (left gained : List ℕ) → from < length s → to < length s → from ≢ to → 0 < amount → had ≡ balance s from
    → got ≡ balance s to → amount ≤ had → left ≡ words_of (account_of (had - amount)) → gained ≡ words_of (account_of (got + amount))
    → IsPlanned IsTransfer (transfer_meaning (transfer_tag from to amount)) s (transfer_tag from to amount) ((from, left) ∷ (to, gained) ∷ []) Enough
planned s from to amount had got left gained lf lt n some had_is got_is enough left_is gained_is =
    let moves : IsTransfer (transfer_tag from to amount) s ((from, left) ∷ (to, gained) ∷ []) =
    rw (left_is, gained_is, had_is, got_is) (record { from = lf; to = lt; other = n; some = some; enough = rw (← had_is) enough; moves = refl }) in
    record {
      plan = record { tagged = refl; moves = moves };
      some = omega arith;
      few = omega arith;
      distinct = two_distinct from to left gained n;
      within = two_within from to (length s) left gained lf lt;
      fit = transfer-fit _ s _ moves;
    }
