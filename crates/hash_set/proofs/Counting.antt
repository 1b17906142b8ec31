-- The buckets of a set together have as many keys as the set.
use Rattle.std.proofs.Common.{◌≡◌, ◌≢◌, ℕ, zero, suc, ◌+◌, ◌-◌, ◌*◌, ◌^◌, ◌<◌, ◌≤◌, ◌⊎◌, inl, inr, Bool}
use Rattle.std.proofs.Common.{true, false, cond, List, [], ◌∷◌, length, drop, refl, sym, ap, ◌∙◌, subst, arith, length-drop}
use Rattle.std.proofs.lemmas.Bool.{cases_eq, false_from_ne_true}
use Rattle.mv_history.specs.State.{State}
use Rattle.mv_history.specs.Meaning.{words_at}
use Rattle.set_model.specs.Catalogue.{map_of}
use Rattle.set_model.specs.CatalogueOf.{is_key_of, is_key_at, map_at, map_in, catalogue_of}
use Rattle.set_model.specs.Lawful.{IsLawful}
use Rattle.set_model.proofs.ObjectWords.{word}
use Rattle.set_model.proofs.Mapped.{is_key-from, map_of-catalogue_of}
use Rattle.set_model.proofs.Heads.{is_key_at-from, is_key_at-to, at_named}
use Rattle.set_model.proofs.ListMaps.{owned_key_once, key_once}
use Rattle.set_model.proofs.Tally.{tally, tally-bound, length-map_among, node_at}
use Rattle.hash_set.specs.Buckets.{bucket_at, count_in}
use Rattle.hash_set.proofs.SetMaps.{bucket_low, bucket_name, bucket_is}
use Rattle.set_model.specs.Objects.{most_objects}

-- each node that holds a key of the head or the name has a key of its own
length-map_at : (s : State) (head : ℕ) → IsLawful s → head < 170 → length (map_at s head) ≡ tally (is_key_at head) (drop 180 s)
length-map_at s head l lh = length-map_among (is_key_at head) (drop 180 s) (λ i j a b e.
    (let q : 180 + i ≡ 180 + j = owned_key_once s head l lh (180 + i) (180 + j) (omega arith) (omega arith)
    (ap (word 0) (sym (node_at s i)) ∙ (is_key_at-from head (words_at (drop 180 s) i) a).0)
    (ap (word 0) (sym (node_at s j)) ∙ (is_key_at-from head (words_at (drop 180 s) j) b).0)
    (ap (word 2) (sym (node_at s i)) ∙ e ∙ ap (word 2) (node_at s j)) in omega arith))

length-map_in : (s : State) (name : ℕ) → IsLawful s → name < 20 → length (map_in s name) ≡ tally (is_key_of name) (drop 180 s)
length-map_in s name l low = length-map_among (is_key_of name) (drop 180 s) (λ i j a b e.
    (let q : 180 + i ≡ 180 + j = key_once s name l low (180 + i) (180 + j) (omega arith) (omega arith)
    (ap (is_key_of name) (sym (node_at s i)) ∙ a) (ap (is_key_of name) (sym (node_at s j)) ∙ b)
    (ap (word 2) (sym (node_at s i)) ∙ e ∙ ap (word 2) (node_at s j)) in omega arith))

-- how many nodes hold a key of the first n buckets, and how many of those buckets hold that of one node
tallies : ℕ → ℕ → State → ℕ
tallies set zero s = 0
tallies set (suc n) s = tallies set n s + tally (is_key_at (bucket_at set n)) s

picks : ℕ → ℕ → List ℕ → ℕ
picks set zero w = 0
picks set (suc n) w = picks set n w + cond (is_key_at (bucket_at set n) w) 1 0

tallies-nil : (set n : ℕ) → tallies set n [] ≡ 0
unfolding tallies
tallies-nil set zero = refl
tallies-nil set (suc n) = let r : tallies set n [] ≡ 0 = tallies-nil set n in omega arith

tallies-cons : (set n : ℕ) (w : List ℕ) (s : State) → tallies set n (w ∷ s) ≡ picks set n w + tallies set n s
unfolding tallies picks
tallies-cons set zero w s = refl
tallies-cons set (suc n) w s = let r = tallies-cons set n w s in omega arith

picks-none : (set n : ℕ) (w : List ℕ) → ((i : ℕ) → i < n → is_key_at (bucket_at set i) w ≡ false) → picks set n w ≡ 0
unfolding picks
picks-none set zero w f = refl
picks-none set (suc n) w f =
    let r : picks set n w ≡ 0 = picks-none set n w (λ i lt. f i (omega arith)) in
    ap (λ (b : Bool). picks set n w + cond b 1 0) (f n (omega arith)) ∙ omega arith

picks-one : (set n i : ℕ) (w : List ℕ) → i < n → is_key_at (bucket_at set i) w ≡ true → picks set n w ≡ 1
unfolding picks
picks-one set zero i w lt e = absurd (omega arith)
picks-one set (suc n) i w lt e = go (cases_eq i n) (λ m. picks-one set n i w m e)
  where
    own : word 0 w ≡ suc (bucket_at set i)
    own = (is_key_at-from (bucket_at set i) w e).0

    other : (j : ℕ) → j ≢ i → is_key_at (bucket_at set j) w ≡ false
    other j ne =
        false_from_ne_true (is_key_at (bucket_at set j) w)
        (λ t. ne (let q : word 0 w ≡ suc (bucket_at set j) = (is_key_at-from (bucket_at set j) w t).0 in omega (arith, own)))

    go : (i ≡ n) ⊎ (i ≢ n) → (i < n → picks set n w ≡ 1) → picks set n w + cond (is_key_at (bucket_at set n) w) 1 0 ≡ 1
    go (inl q) _ =
        let r : picks set n w ≡ 0 = picks-none set n w (λ j m. other j (omega arith)) in
        ap (λ (b : Bool). picks set n w + cond b 1 0) (ap (λ (v : ℕ). is_key_at (bucket_at set v) w) (sym q) ∙ e) ∙ omega arith
    go (inr ne) f =
        let r : picks set n w ≡ 1 = f (omega arith) in
        ap (λ (b : Bool). picks set n w + cond b 1 0) (other n (λ q. ne (sym q))) ∙ omega arith

picks-all : (set : ℕ) (w : List ℕ) → set < 10 → picks set 16 w ≡ cond (is_key_of (10 + set) w) 1 0
picks-all set w ls = go (is_key_of (10 + set) w) refl
  where
    go : (b : Bool) → is_key_of (10 + set) w ≡ b → picks set 16 w ≡ cond b 1 0
    go false e = picks-none set 16 w (λ i lt. false_from_ne_true (is_key_at (bucket_at set i) w) (λ t.
        (let q : is_key_of (10 + set) w ≡ true = subst (λ (n : ℕ). is_key_of n w ≡ true) (bucket_name set i ls lt) (at_named (bucket_at set i) w t) in cc)))
    go true e =
        let f = is_key-from (10 + set) w e in
        let p : 0 < word 0 w = f.0 in
        let n = bucket_is set (word 0 w - 1) ls f.2 in
        let at : bucket_at set n.0 ≡ word 0 w - 1 = n.2 in
        picks-one set 16 n.0 w n.1 (is_key_at-to (bucket_at set n.0) w (omega arith) f.1)

tallies-all : (set : ℕ) (s : State) → set < 10 → tallies set 16 s ≡ tally (is_key_of (10 + set)) s
tallies-all set [] ls = tallies-nil set 16
tallies-all set (w ∷ s) ls =
    let r : tallies set 16 s ≡ tally (is_key_of (10 + set)) s = tallies-all set s ls in
    let p : picks set 16 w ≡ cond (is_key_of (10 + set) w) 1 0 = picks-all set w ls in
    tallies-cons set 16 w s ∙ omega arith

count-tallies : (s : State) (set n : ℕ) → IsLawful s → set < 10 → n ≤ 16 → count_in s set n ≡ tallies set n (drop 180 s)
unfolding tallies
count-tallies s set zero l ls le = refl
count-tallies s set (suc n) l ls le =
    let r : count_in s set n ≡ tallies set n (drop 180 s) = count-tallies s set n l ls (omega arith) in
    let e = length-map_at s (bucket_at set n) l (bucket_low set n ls (omega arith)) in omega arith

-- The sixteen buckets have as many keys as the set.
pub count_all : (s : State) (set : ℕ) → IsLawful s → set < 10 → count_in s set 16 ≡ length (map_of (10 + set) (catalogue_of s))
count_all s set l ls =
    count-tallies s set 16 l ls (omega arith) ∙ tallies-all set (drop 180 s) ls ∙ sym (length-map_in s (10 + set) l (omega arith))
    ∙ ap length (sym (map_of-catalogue_of s (10 + set) (omega arith)))

-- no count overflows
pub bucket_bound : (s : State) (head : ℕ) → IsLawful s → head < 170 → length (map_at s head) ≤ most_objects
bucket_bound s head l lh =
    let e = length-map_at s head l lh in
    let b : tally (is_key_at head) (drop 180 s) ≤ length (drop 180 s) = tally-bound (is_key_at head) (drop 180 s) in
    let d = length-drop 180 s in let few : length s ≤ most_objects = l.few in omega arith

pub count_bound : (s : State) (set n : ℕ) → IsLawful s → set < 10 → n ≤ 16 → count_in s set n ≤ n * most_objects
count_bound s set zero l ls le = omega arith
count_bound s set (suc n) l ls le =
    let r : count_in s set n ≤ n * most_objects = count_bound s set n l ls (omega arith) in
    let b : length (map_at s (bucket_at set n)) ≤ most_objects = bucket_bound s (bucket_at set n) l (bucket_low set n ls (omega arith)) in omega arith

-- The loop over the buckets, whose views read alike.
pub count_step : (s t : State) (set i head count here : ℕ) → t ≡ s → count ≡ count_in s set i → head ≡ bucket_at set i → here ≡ length (map_at t head)
    → count + here ≡ count_in s set (i + 1)
count_step s t set i head count here same so_far e f =
    let more : suc i ≡ i + 1 = omega arith in
    let there : here ≡ length (map_at s (bucket_at set i)) = f ∙ ap (λ (u : State). length (map_at u head)) same ∙ ap (λ (u : ℕ). length (map_at s u)) e in
    let sum : count + here ≡ count_in s set (suc i) = omega arith in sum ∙ ap (count_in s set) more

pub count_fits : (s : State) (set i count : ℕ) → IsLawful s → set < 10 → i ≤ 16 → count ≡ count_in s set i → count < 2 ^ 64
count_fits s set i count l ls le e = let b = count_bound s set i l ls le in omega arith

pub count_end : (s : State) (set i count : ℕ) → IsLawful s → set < 10 → 16 ≤ i → i ≤ 16 → count ≡ count_in s set i
    → count ≡ length (map_of (10 + set) (catalogue_of s))
count_end s set i count l ls ge le e = let whole : i ≡ 16 = omega arith in e ∙ ap (count_in s set) whole ∙ count_all s set l ls
