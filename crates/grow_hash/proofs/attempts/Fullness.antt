-- A set that has as many keys as there are nodes has no room for another.
use Rattle.set_model.specs.Catalogue.{cost}
use Rattle.std.proofs.Common.{◌≡◌, ◌≢◌, ◌+◌, ◌-◌, ◌<◌, ◌∷◌, ℕ, suc, Bool, true, false, cond, List, [], length, drop, refl, ap, ◌∙◌, arith, length-drop, lt-ltb}
use Rattle.grow_hash.proofs.Terms.{get_or-drop, State, words_at, has_key, put, with_key, owner, overflows, Add, tally, length-put, IsGrown, is_used, grown_map}
use Rattle.grow_hash.proofs.Terms.{grown_name, grown_catalogue, grown_capacity, IsFree, first_grown}
use Rattle.grow_hash.proofs.GrownMaps.{used_owned, cost-grown}
use Rattle.grow_hash.proofs.Sizes.{set_counted}

-- where the test picks each object it picks as many as there are
tally-all : (test : List ℕ → Bool) (s : State) → ((i : ℕ) → i < length s → test (words_at s i) ≡ true) → tally test s ≡ length s
tally-all test [] f = refl
tally-all test (w ∷ s) f =
    let here : cond {A = ℕ} (test w) 1 0 ≡ 1 = ap (λ (c : Bool). cond {A = ℕ} c 1 0) (f 0 (omega arith)) in
    let rest : tally test s ≡ length s = tally-all test s (λ i l. f (suc i) (omega arith)) in omega arith

-- where no node is vacant, there are as many keys as nodes
pub all_used : (levels : ℕ) (s : State) → IsGrown levels s → ((o : ℕ) → IsFree levels s o → ⊥) → length (grown_map levels s) ≡ grown_capacity levels s
all_used levels s l none =
    set_counted levels s l
    ∙ tally-all is_used (drop (first_grown levels) s) (λ i lt.
    (let at : words_at (drop (first_grown levels) s) i ≡ words_at s (first_grown levels + i) = get_or-drop (first_grown levels) s i [] in
    let few : length (drop (first_grown levels) s) ≡ length s - first_grown levels = length-drop (first_grown levels) s in
    let some : owner s (first_grown levels + i) ≢ 0 = λ z. none (first_grown levels + i) (omega arith, omega arith, z) in
    ap is_used at ∙ used_owned (words_at s (first_grown levels + i)) some))
    ∙ length-drop (first_grown levels) s

-- so an add of another key does not fit
pub add_overflows : (levels : ℕ) (s : State) (k : ℕ) → IsGrown levels s → ((o : ℕ) → IsFree levels s o → ⊥) → has_key k (grown_map levels s) ≡ false
    → overflows (Add grown_name k) (grown_catalogue levels s) (grown_capacity levels s) ≡ true
add_overflows levels s k l none out =
    let all : length (grown_map levels s) ≡ grown_capacity levels s = all_used levels s l none in
    let more : length (put k 0 (grown_map levels s)) ≡ suc (length (grown_map levels s)) = length-put k 0 (grown_map levels s) out in
    let size : cost (with_key grown_name k 0 (grown_catalogue levels s)) ≡ length (put k 0 (grown_map levels s)) = cost-grown (put k 0 (grown_map levels s)) in
    lt-ltb (grown_capacity levels s) (cost (with_key grown_name k 0 (grown_catalogue levels s))) (omega arith)
