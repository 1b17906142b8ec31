use Rattle.std.proofs.Common.{ℕ, ◌<◌, ◌≤◌, ◌^◌, List, [], ◌∷◌, All, refl, arith}
use Rattle.std.proofs.lemmas.List.Elements.{All-nil, All-cons}
use Rattle.step_replay.proofs.numbers.read_six.Goals as goal

-- one number more that fits 64 bits
small : (x : ℕ) (xs : List ℕ) → x ≤ 18446744073709551615 → All (λ w. w < 2 ^ 64) xs → All (λ w. w < 2 ^ 64) (x ∷ xs)
small x xs high rest = All-cons (λ (w : ℕ). w < 2 ^ 64) x xs (omega (arith, high)) rest

six_small : (a b d e f g : ℕ) → a ≤ 18446744073709551615 → b ≤ 18446744073709551615 → d ≤ 18446744073709551615 → e ≤ 18446744073709551615
    → f ≤ 18446744073709551615 → g ≤ 18446744073709551615 → All (λ w. w < 2 ^ 64) (a ∷ b ∷ d ∷ e ∷ f ∷ g ∷ [])
six_small a b d e f g p q r s t u =
    small a (b ∷ d ∷ e ∷ f ∷ g ∷ []) p
    (small b (d ∷ e ∷ f ∷ g ∷ []) q
    (small d (e ∷ f ∷ g ∷ []) r (small e (f ∷ g ∷ []) s (small f (g ∷ []) t (small g [] u (All-nil (λ (w : ℕ). w < 2 ^ 64)))))))

pub returns-clause-fit : goal.returns-clause-fit
returns-clause-fit c = (
  refl,
  six_small c.in_ok-first.first c.in_ok-second.second c.in_ok-third.third c.in_ok-fourth.fourth c.in_ok-fifth.fifth c.in_ok-sixth.sixth
      c.in_ok-first.ensures.high c.in_ok-second.ensures.high c.in_ok-third.ensures.high c.in_ok-fourth.ensures.high c.in_ok-fifth.ensures.high
      c.in_ok-sixth.ensures.high,
)
