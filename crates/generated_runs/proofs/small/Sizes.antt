-- A catalogue whose keys are all below 256 takes at most 10,230 nodes.
use Rattle.std.proofs.Common.{◌≡◌, ℕ, zero, suc, ◌+◌, ◌*◌, ◌-◌, ◌<◌, ◌≤◌, Bool, true, false, cond, ltb, [], ◌∷◌, length, refl, arith}
use Rattle.set_model.specs.Catalogue.{Map, Maps, IsMap, IsAboveKey, map_of, cost_of, cost_from, cost}
use Rattle.set_model.proofs.MapParts.{IsUnderKey}

-- what is above one key and below another has fewer keys than lie between them
few_between : (low high : ℕ) (m : Map) → low < high → IsAboveKey low m → IsMap m → IsUnderKey high m → low + length m < high
few_between low high [] lt above rising under = omega (arith, lt)
few_between low high (e ∷ m) lt above rising under =
    let first : low < e.0 = above.0 in
    let rest : e.0 + length m < high = few_between e.0 high m under.0 rising.0 rising.1 under.1 in omega (arith, first, rest)

pub few_keys : (high : ℕ) (m : Map) → IsMap m → IsUnderKey high m → length m ≤ high
few_keys high [] rising under = omega arith
few_keys high (e ∷ m) rising under =
    let rest : e.0 + length m < high = few_between e.0 high m under.0 rising.0 rising.1 under.1 in omega (arith, rest)

-- the most that maps with 256 keys take, so many of them, the first of which is that of this name
most_from : ℕ → ℕ → ℕ
most_from name zero = 0
most_from name (suc count) = cond (ltb name 20) 256 511 + most_from (suc name) count

cost_most : (name : ℕ) (m : Map) → length m ≤ 256 → cost_of name m ≤ cond (ltb name 20) 256 511
cost_most name m few = go (ltb name 20)
  where
    go : (b : Bool) → cond b (length m) (2 * length m - 1) ≤ cond {A = ℕ} b 256 511
    go true = omega (arith, few)
    go false = omega (arith, few)

cost_from_most : (name : ℕ) (c : Maps) → ((n : ℕ) → length (map_of n c) ≤ 256) → cost_from name c ≤ most_from name (length c)
unfolding most_from
cost_from_most name [] few = omega arith
cost_from_most name (m ∷ c) few =
    let first : cost_of name m ≤ cond {A = ℕ} (ltb name 20) 256 511 = cost_most name m (few 0) in
    let rest : cost_from (suc name) c ≤ most_from (suc name) (length c) = cost_from_most (suc name) c (λ n. few (suc n)) in
    omega (arith, first, rest)

most : most_from 0 30 ≡ 10230
unfolding most_from
most = refl

pub cost_small : (c : Maps) → length c ≡ 30 → ((n : ℕ) → length (map_of n c) ≤ 256) → cost c ≤ 10230
unfolding cost
cost_small c whole few =
    let at_most : cost_from 0 c ≤ most_from 0 30 = rw (← whole) (cost_from_most 0 c few) in omega (arith, at_most, most)
