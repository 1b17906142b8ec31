-- When a log uses its next position: where the least position of each other slot is, and that the log has room for it.
use Rattle.std.proofs.Common.{◌≡◌, ◌≢◌, ℕ, ◌+◌, ◌-◌, ◌*◌, ◌/◌, ◌%◌, ◌<◌, ◌≤◌, ap, ◌∙◌, arith, mod-lt, mul-le-mul}
use Rattle.std.proofs.Math.Nat.{div-add-mod}
use Rattle.std.proofs.lemmas.Nat.{mod-mul-add, div-mul-add}
use Rattle.mv_core.proofs.Terms.{dite, dec_lt}

-- what is left of q rounds of n and b more is b
rest_is : (a n q b : ℕ) → b < n → a ≡ q * n + b → a % n ≡ b
rest_is a n q b lt e = ap (λ x. x % n) e ∙ mod-mul-add q n b lt

-- a position is in a round, at its slot
in_round : (q n : ℕ) → q ≡ (q / n) * n + q % n
in_round q n = let d = div-add-mod q n in omega arith

-- the least position from the next on with another slot's place stays, when the next one is used
pub next_in-same : (n q k : ℕ) → k < n → q % n ≢ k → q + 1 + (k + n - (q + 1) % n) % n ≡ q + (k + n - q % n) % n
next_in-same n q k lt ne =
    let a : ℕ = q % n in
    let low : a < n = mod-lt q (omega arith) in
    let round = in_round q n in
    dite (dec_lt (a + 1) n)
    (λ more.
    let up : (q + 1) % n ≡ a + 1 = rest_is (q + 1) n (q / n) (a + 1) more (omega arith) in
    dite (dec_lt k a)
    (λ before.
    let now : (k + n - (q + 1) % n) % n ≡ k + n - (a + 1) = rest_is (k + n - (q + 1) % n) n 0 (k + n - (a + 1)) (omega arith) (omega arith) in
    let was : (k + n - a) % n ≡ k + n - a = rest_is (k + n - a) n 0 (k + n - a) (omega arith) (omega arith) in
    omega arith)
    (λ from.
    let now : (k + n - (q + 1) % n) % n ≡ k - (a + 1) = rest_is (k + n - (q + 1) % n) n 1 (k - (a + 1)) (omega arith) (omega arith) in
    let was : (k + n - a) % n ≡ k - a = rest_is (k + n - a) n 1 (k - a) (omega arith) (omega arith) in
    omega arith))
    (λ last.
    let up : (q + 1) % n ≡ 0 = rest_is (q + 1) n (q / n + 1) 0 (omega arith) (omega arith) in
    let now : (k + n - (q + 1) % n) % n ≡ k = rest_is (k + n - (q + 1) % n) n 1 k lt (omega arith) in
    let was : (k + n - a) % n ≡ k + 1 = rest_is (k + n - a) n 0 (k + 1) (omega arith) (omega arith) in
    omega arith)

-- a position of a round before the last is below the end
pub below_rounds : (n q rounds : ℕ) → 0 < n → q / n ≤ rounds → q < n * (rounds + 1)
below_rounds n q rounds some le =
    let d = div-add-mod q n in
    let low : q % n < n = mod-lt q some in
    let most : n * (q / n) ≤ n * rounds = mul-le-mul (let r : n ≤ n = omega arith in r) le in
    omega arith

-- where a position is among the last n used ones, the next one at its slot is that of the round after
pub next_in-again : (n q p : ℕ) → 0 < n → p < q → q ≤ p + n → q + (p % n + n - q % n) % n ≡ p + n
next_in-again n q p some lt le =
    let a : ℕ = p / n in
    let b : ℕ = p % n in
    let low : b < n = mod-lt p some in
    let round = in_round p n in
    dite (dec_lt q ((a + 1) * n))
    (λ same.
    let rest : q % n ≡ q - a * n = rest_is q n a (q - a * n) (omega arith) (omega arith) in
    let step : (b + n - q % n) % n ≡ b + n - (q - a * n) = rest_is (b + n - q % n) n 0 (b + n - (q - a * n)) (omega arith) (omega arith) in
    omega arith)
    (λ next.
    let rest : q % n ≡ q - (a + 1) * n = rest_is q n (a + 1) (q - (a + 1) * n) (omega arith) (omega arith) in
    let step : (b + n - q % n) % n ≡ b - (q - (a + 1) * n) = rest_is (b + n - q % n) n 1 (b - (q - (a + 1) * n)) (omega arith) (omega arith) in
    omega arith)

-- which is one more
pub next_round : (n p : ℕ) → 0 < n → (p + n) / n ≡ p / n + 1
next_round n p some =
    let round = in_round p n in
    let e : p + n ≡ (p / n + 1) * n + p % n = omega arith in
    ap (λ (x : ℕ). x / n) e ∙ div-mul-add (p / n + 1) n (p % n) (mod-lt p some)
