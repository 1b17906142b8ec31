-- The set for which a grown lawful state stands.
use Rattle.set_model.specs.Catalogue.{cost}
use Rattle.set_model.specs.CatalogueOf.{map_among}
use Rattle.std.proofs.Common.{◌≡◌, ◌≢◌, ◌+◌, ◌-◌, ◌<◌, ◌≤◌, ℕ, suc, inl, inr, true, false, not, eqb, ne_eqb, List, [], length, set, drop, refl, sym, ap, ◌∙◌}
use Rattle.grow_hash.proofs.Terms.{arith, get_or-drop, length-drop, drop-set-lt, drop-set-add, cases_lt, nat_tests, State, words_at, Map, has_key, put}
use Rattle.grow_hash.proofs.Terms.{take_out, empty, owner, key, value, relink, word, owned_in_range, owner-relink, key-relink, value-relink, map_among-same}
use Rattle.grow_hash.proofs.Terms.{map_among-more, map_among-less, map_among-has, has-map_among, tally, tally-bound, length-map_among, is_used, grown_map}
use Rattle.grow_hash.proofs.Terms.{grown_name, grown_catalogue, grown_capacity, first_grown}

pub used_owned : (w : List ℕ) → word 0 w ≢ 0 → is_used w ≡ true
used_owned w n = ap not (ne_eqb (word 0 w) 0 n)

pub used_vacant : (w : List ℕ) → word 0 w ≡ 0 → is_used w ≡ false
used_vacant w e = grind (arith, nat_tests)

pub used-from : (w : List ℕ) → is_used w ≡ true → word 0 w ≢ 0
used-from w e = grind (arith, nat_tests)

-- the nodes, by their places behind the heads
drop-set_grown : (levels : ℕ) (s : State) (o : ℕ) (w : List ℕ) → first_grown levels ≤ o
    → drop (first_grown levels) (set s o w) ≡ set (drop (first_grown levels) s) (o - first_grown levels) w
drop-set_grown levels s o w lo =
    let e : first_grown levels + (o - first_grown levels) ≡ o = omega arith in
    ap (λ i. drop (first_grown levels) (set s i w)) (sym e) ∙ drop-set-add (first_grown levels) s (o - first_grown levels) w

at-drop_grown : (levels : ℕ) (s : State) (o : ℕ) → first_grown levels ≤ o → words_at (drop (first_grown levels) s) (o - first_grown levels) ≡ words_at s o
at-drop_grown levels s o lo = let e : first_grown levels + (o - first_grown levels) ≡ o = omega arith in
    get_or-drop (first_grown levels) s (o - first_grown levels) [] ∙ ap (words_at s) e

node_in_range : (levels : ℕ) (s : State) (o : ℕ) → first_grown levels ≤ o → o < length s → o - first_grown levels < length (drop (first_grown levels) s)
node_in_range levels s o lo lt = omega (arith, length-drop (first_grown levels) s)

pub grown_map-low : (levels : ℕ) (s : State) (o : ℕ) (w : List ℕ) → o < first_grown levels → grown_map levels (set s o w) ≡ grown_map levels s
grown_map-low levels s o w lt = ap (map_among is_used) (drop-set-lt (first_grown levels) s o w lt)

-- a node that changes neither whether it is used nor its key and value
pub grown_map-same : (levels : ℕ) (s : State) (o : ℕ) (w : List ℕ) → first_grown levels ≤ o → is_used w ≡ is_used (words_at s o) → word 2 w ≡ key s o
    → word 5 w ≡ value s o
    → grown_map levels (set s o w) ≡ grown_map levels s
grown_map-same levels s o w lo a b c =
    let e = at-drop_grown levels s o lo in
    ap (map_among is_used) (drop-set_grown levels s o w lo)
    ∙ map_among-same is_used (drop (first_grown levels) s) (o - first_grown levels) w (a ∙ ap is_used (sym e)) (b ∙ ap (word 2) (sym e))
    (c ∙ ap (word 5) (sym e))

pub grown_map-relink : (levels : ℕ) (s : State) (o to : ℕ) → grown_map levels (set s o (relink (words_at s o) to)) ≡ grown_map levels s
grown_map-relink levels s o to = elim (cases_lt o (first_grown levels)) [
  | inl lt ↦ grown_map-low levels s o (relink (words_at s o) to) lt
  | inr lo ↦ grown_map-same levels s o (relink (words_at s o) to) lo (ap (λ u. not (eqb u 0)) (owner-relink (words_at s o) to))
      (key-relink (words_at s o) to) (value-relink (words_at s o) to)
]

-- a key of the set is that of a node
pub record Keeps (levels : ℕ) (s : State) (k o : ℕ) : Type 0 where
  pub node : first_grown levels ≤ o
  pub owned : owner s o ≢ 0
  pub key_is : key s o ≡ k

pub grown_map-keeps : (levels : ℕ) (s : State) (k : ℕ) → has_key k (grown_map levels s) ≡ true → (o : ℕ) × Keeps levels s k o
grown_map-keeps levels s k h =
    let u = map_among-has is_used (drop (first_grown levels) s) k h in
    let e : words_at (drop (first_grown levels) s) u.0 ≡ words_at s (first_grown levels + u.0) = get_or-drop (first_grown levels) s u.0 [] in
    let used : owner s (first_grown levels + u.0) ≢ 0 = used-from (words_at s (first_grown levels + u.0)) (ap is_used (sym e) ∙ u.1) in
    (first_grown levels + u.0, record { node = omega arith; owned = used; key_is = ap (word 2) (sym e) ∙ u.2 })

pub keeps-grown_map : (levels : ℕ) (s : State) (k o : ℕ) → Keeps levels s k o → has_key k (grown_map levels s) ≡ true
keeps-grown_map levels s k o h =
    let f = at-drop_grown levels s o h.node in
    let some : owner s o ≢ 0 = h.owned in
    let own : owner s o ≡ suc (owner s o - 1) = omega arith in
    has-map_among is_used (drop (first_grown levels) s) k (o - first_grown levels) (node_in_range levels s o h.node (owned_in_range s o (owner s o - 1) own))
    (ap is_used f ∙ used_owned (words_at s o) h.owned) (ap (word 2) f ∙ h.key_is)

-- one node more, with a key that was not there
pub grown_map-more : (levels : ℕ) (s : State) (o : ℕ) (w : List ℕ) → first_grown levels ≤ o → o < length s → owner s o ≡ 0 → word 0 w ≢ 0
    → has_key (word 2 w) (grown_map levels s) ≡ false
    → grown_map levels (set s o w) ≡ put (word 2 w) (word 5 w) (grown_map levels s)
grown_map-more levels s o w lo lt a b h =
    ap (map_among is_used) (drop-set_grown levels s o w lo)
    ∙ map_among-more is_used (drop (first_grown levels) s) (o - first_grown levels) w (node_in_range levels s o lo lt)
    (ap is_used (at-drop_grown levels s o lo) ∙ used_vacant (words_at s o) a)
    (used_owned w b) h

-- one node less, whose key no other node has
pub grown_map-less : (levels : ℕ) (s : State) (o : ℕ) (w : List ℕ) → first_grown levels ≤ o → o < length s → owner s o ≢ 0 → word 0 w ≡ 0
    → has_key (key s o) (grown_map levels (set s o w)) ≡ false → grown_map levels (set s o w) ≡ take_out (key s o) (grown_map levels s)
grown_map-less levels s o w lo lt a b h =
    let e = at-drop_grown levels s o lo in
    let d = drop-set_grown levels s o w lo in
    let k : word 2 (words_at (drop (first_grown levels) s) (o - first_grown levels)) ≡ key s o = ap (word 2) e in
    ap (map_among is_used) d ∙ map_among-less is_used (drop (first_grown levels) s) (o - first_grown levels) w (node_in_range levels s o lo lt)
    (ap is_used e ∙ used_owned (words_at s o) a)
    (used_vacant w b) (ap (λ j. has_key j (map_among is_used (set (drop (first_grown levels) s) (o - first_grown levels) w))) k
    ∙ ap (λ m. has_key (key s o) (map_among is_used m)) (sym d) ∙ h) ∙ ap (λ j. take_out j (grown_map levels s)) k

-- the cost of the set is the number of its keys
pub cost-grown : (m : Map) → cost (set empty grown_name m) ≡ length m
unfolding cost
cost-grown m = omega arith

-- where each key is that of one node, there are no more keys than nodes
pub grown_fits : (levels : ℕ) (s : State) → ((o u k : ℕ) → Keeps levels s k o → Keeps levels s k u → o ≡ u)
    → cost (grown_catalogue levels s) ≤ grown_capacity levels s
grown_fits levels s once =
    let keys : length (grown_map levels s) ≡ tally is_used (drop (first_grown levels) s) = length-map_among is_used (drop (first_grown levels) s) (λ i j a b e.
    (let x : words_at (drop (first_grown levels) s) i ≡ words_at s (first_grown levels + i) = get_or-drop (first_grown levels) s i [] in
    let y : words_at (drop (first_grown levels) s) j ≡ words_at s (first_grown levels + j) = get_or-drop (first_grown levels) s j [] in
    let q : first_grown levels + i ≡ first_grown levels + j = once (first_grown levels + i) (first_grown levels + j) (key s (first_grown levels + j))
    (record {
      node = omega arith;
      owned = used-from (words_at s (first_grown levels + i)) (ap is_used (sym x) ∙ a);
      key_is = ap (word 2) (sym x) ∙ e
          ∙ ap (word 2) y;
    })
    (record { node = omega arith; owned = used-from (words_at s (first_grown levels + j)) (ap is_used (sym y) ∙ b); key_is = refl }) in omega arith)) in
    let most : tally is_used (drop (first_grown levels) s) ≤ length (drop (first_grown levels) s) = tally-bound is_used (drop (first_grown levels) s) in
    let size : length (drop (first_grown levels) s) ≡ length s - first_grown levels = length-drop (first_grown levels) s in
    let c : cost (grown_catalogue levels s) ≡ length (grown_map levels s) = cost-grown (grown_map levels s) in omega arith
