-- The steps of parting what was read of a bucket.
use Rattle.std.proofs.Math.Seq.{take-set-lt, drop-cons}
use Rattle.std.proofs.Math.ListN.{drop_of_length-le}
use Rattle.std.proofs.Common.{◌≡◌, ◌≢◌, ◌+◌, ◌%◌, ◌<◌, ◌≤◌, ◌==◌, ◌⊎◌, ◌∷◌, ℕ, suc, inl, inr, Bool, cond, true, false, List, [], length, get_or, take, drop, ap}
use Rattle.grow_hash.proofs.Terms.{set, refl, sym, ◌∙◌, subst, arith, eq-eqb, ne_eqb, length-take, drop-set, get_or-take, State, Writes, words_at, key, link}
use Rattle.grow_hash.proofs.Terms.{value, head_words, list_words, objects_of, word, IsIn, IsNodeOf, IsLinked, level, split_place, buckets_at, bucket}
use Rattle.grow_hash.proofs.Terms.{next_table, IsGrown, head_at, IsRead, IsMoved, split_bucket, first_to, parted_nodes, split_writes}
use Rattle.grow_hash.proofs.Buckets.{some_buckets, few_buckets, split_to}
use Rattle.grow_hash.proofs.GrownStates.{node_high, node_bucket}
use Rattle.grow_hash.proofs.split.Paths.{rising_node, head_path_rises}
use Rattle.grow_hash.proofs.split.ReadBuckets.{read_path, read_words}
use Rattle.grow_hash.proofs.Terms.{most_buckets, most_level, hash}

-- the table is this one, and these nodes were read of the bucket at the split place
pub record Reads (levels : ℕ) (s : State) (at place : ℕ) (reads : Writes) : Type 0 where
  pub lawful : IsGrown levels s
  pub level_is : level s ≡ at
  pub place_is : split_place s ≡ place
  pub read : IsRead s (head_at place) reads 0

-- The nodes from i on are parted: their writes stand, and the first ones of both halves.
pub record PartedFrom (levels : ℕ) (s : State) (at place : ℕ) (reads writes : Writes) (keys i stay go : ℕ) : Type 0 where
  pub writes_are : drop (3 + i) (take (3 + keys) writes) ≡ parted_nodes levels s (objects_of (drop i reads))
  pub stay_is : stay ≡ first_to levels s place (objects_of (drop i reads))
  pub go_is : go ≡ first_to levels s (place + buckets_at at) (objects_of (drop i reads))

pub parted_none : (levels : ℕ) (s : State) (at place : ℕ) (nodes writes : Writes) (keys : ℕ) → length writes ≡ 64 → keys ≤ 61
    → PartedFrom levels s at place (take keys nodes) writes keys keys 0 0
parted_none levels s at place nodes writes keys whole few =
    let none : drop keys (take keys nodes) ≡ [] = drop_of_length-le (take keys nodes) (omega (arith, length-take keys nodes)) in
    let all : drop (3 + keys) (take (3 + keys) writes) ≡ [] = drop_of_length-le (take (3 + keys) writes) (omega (arith, length-take (3 + keys) writes)) in
    record {
      writes_are = all ∙ ap (λ (u : Writes). parted_nodes levels s (objects_of u)) (sym none);
      stay_is = ap (λ (u : Writes). first_to levels s place (objects_of u)) (sym none);
      go_is = ap (λ (u : Writes). first_to levels s (place + buckets_at at) (objects_of u)) (sym none);
    }

-- One node more, of a bucket in a state in which it was read.
module _ (levels : ℕ) (s : State) (at place : ℕ) (nodes : Writes) (keys i : ℕ) (d : ℕ × List ℕ) (r : Reads levels s at place (take keys nodes)) (lt : i < keys)
    (long : keys ≤ length nodes) where
  abbrev reads : Writes
  reads = take keys nodes

  abbrev here : ℕ × List ℕ
  here = get_or nodes i d

  in_level : place < buckets_at at
  in_level = subst (λ u. place < buckets_at u) r.level_is (subst (λ u. u < buckets_at (level s)) r.place_is r.lawful.table.place_in)

  within : i < length (take keys nodes)
  within = omega (arith, length-take keys nodes)

  cons : drop i (take keys nodes) ≡ here ∷ drop (suc i) (take keys nodes)
  cons = drop-cons (take keys nodes) i d within ∙ ap (λ (w : ℕ × List ℕ). w ∷ drop (suc i) (take keys nodes)) (get_or-take keys nodes i d lt)

  found : IsIn here.0 (objects_of (take keys nodes)) × (here.1 ≡ words_at s here.0)
  found =
      subst (λ (w : ℕ × List ℕ). IsIn w.0 (objects_of (take keys nodes)) × (w.1 ≡ words_at s w.0)) (get_or-take keys nodes i d lt)
      (read_words s (head_at place) (take keys nodes) 0 i d r.read within)

  low : place < most_buckets levels
  low = let x = in_level in let y : level s ≤ most_level levels = r.lawful.table.level_in in let z : level s ≡ at = r.level_is in
      let few : buckets_at at ≤ most_buckets levels = few_buckets levels at r.lawful.least (omega arith) in omega arith

  linked : IsLinked s (head_at place)
  linked = r.lawful.lists place low

  node : IsNodeOf s (head_at place) here.0
  node =
      rising_node s (head_at place) (objects_of (take keys nodes))
      (head_path_rises s (head_at place) linked (objects_of (take keys nodes)) (read_path s (head_at place) (take keys nodes) r.read)) here.0 found.0

  goes : (split_bucket levels s here.0 ≡ place) ⊎ (split_bucket levels s here.0 ≡ place + buckets_at at)
  goes =
      let home : bucket levels s (key s here.0) ≡ place = node_bucket levels s place r.lawful here.0 node in
      subst (λ u. (split_bucket levels s here.0 ≡ place) ⊎ (split_bucket levels s here.0 ≡ place + buckets_at u)) r.level_is
      (subst (λ p. (hash levels (key s here.0) % buckets_at (suc (level s)) ≡ p)
      ⊎ (hash levels (key s here.0) % buckets_at (suc (level s)) ≡ p + buckets_at (level s))) r.place_is
      (split_to (level s) (split_place s) (hash levels (key s here.0)) r.lawful.table.place_in (home ∙ sym r.place_is)))

  -- the words of the node, wherever they were read
  shape : here.1 ≡ list_words (head_at place) (key s here.0) (value s here.0) (link s here.0)
  shape =
      let own = node.1 in
      found.1 ∙ r.lawful.nodes here.0 (node_high levels s (head_at place) r.lawful here.0 node) (λ z. omega arith)
      ∙ ap (λ c. list_words (head_at c) (key s here.0) (value s here.0) (link s here.0)) (node_bucket levels s place r.lawful here.0 node)

  module _ (writes : Writes) (stay go to next stay' go' : ℕ) (moved : List ℕ) (whole : length writes ≡ 64) (few : keys ≤ 61)
      (h : PartedFrom levels s at place (take keys nodes) writes keys (suc i) stay go) (to_is : to ≡ hash levels (word 2 here.1) % buckets_at (suc at))
      (next_is : next ≡ cond (to == place) stay go) (stay_is : stay' ≡ cond (to == place) here.0 stay) (go_is : go' ≡ cond (to == place) go here.0)
      (moved_is : IsMoved here.1 to next moved) where
    to_bucket : to ≡ split_bucket levels s here.0
    to_bucket =
        to_is ∙ ap (λ w. hash levels (word 2 w) % buckets_at (suc at)) found.1 ∙ ap (λ u. hash levels (key s here.0) % buckets_at (suc u)) (sym r.level_is)

    apart : place ≢ place + buckets_at at
    apart = let x = some_buckets at in λ e. omega arith

    abbrev rest : List ℕ
    rest = objects_of (drop (suc i) (take keys nodes))

    firsts : (next ≡ first_to levels s (split_bucket levels s here.0) rest) × (stay' ≡ first_to levels s place (here.0 ∷ rest))
        × (go' ≡ first_to levels s (place + buckets_at at) (here.0 ∷ rest))
    firsts = elim goes [
      | inl e ↦ (let b : (to == place) ≡ true = eq-eqb to place (to_bucket ∙ e) in
          let m : (split_bucket levels s here.0 == place) ≡ true = eq-eqb (split_bucket levels s here.0) place e in
          let n : (split_bucket levels s here.0 == place + buckets_at at) ≡ false =
          ne_eqb (split_bucket levels s here.0) (place + buckets_at at) (λ q. apart (sym e
          ∙ q)) in (
            next_is ∙ ap (λ (t : Bool). cond t stay go) b ∙ h.stay_is ∙ ap (λ u. first_to levels s u rest) (sym e),
            stay_is ∙ ap (λ (t : Bool). cond t here.0 stay) b ∙ sym (ap (λ (t : Bool). cond t here.0 (first_to levels s place rest)) m),
            go_is ∙ ap (λ (t : Bool). cond t go here.0) b ∙ h.go_is ∙ sym (ap (λ (t : Bool). cond t here.0 (first_to levels s
                (place + buckets_at at) rest)) n),
          ))
      | inr e ↦ (let b : (to == place) ≡ false = ne_eqb to place (λ q. apart (sym q ∙ to_bucket ∙ e)) in
          let m : (split_bucket levels s here.0 == place) ≡ false = ne_eqb (split_bucket levels s here.0) place (λ q. apart (sym q ∙ e)) in
          let n : (split_bucket levels s here.0 == place + buckets_at at) ≡ true = eq-eqb (split_bucket levels s here.0) (place + buckets_at at) e in (
            next_is ∙ ap (λ (t : Bool). cond t stay go) b ∙ h.go_is ∙ ap (λ u. first_to levels s u rest) (sym e),
            stay_is ∙ ap (λ (t : Bool). cond t here.0 stay) b ∙ h.stay_is ∙ sym (ap (λ (t : Bool). cond t here.0 (first_to levels s place rest)) m),
            go_is ∙ ap (λ (t : Bool). cond t go here.0) b ∙ sym (ap (λ (t : Bool). cond t here.0 (first_to levels s (place + buckets_at at) rest)) n),
          ))
    ]

    put_there : drop (3 + i) (take (3 + keys) (set writes (3 + i) (here.0, moved))) ≡ (here.0, moved) ∷ drop (3 + suc i) (take (3 + keys) writes)
    put_there =
        ap (drop (3 + i)) (take-set-lt (3 + keys) writes (3 + i) (here.0, moved) (omega arith))
        ∙ drop-set (take (3 + keys) writes) (3 + i) (here.0, moved) (omega (arith, length-take (3 + keys) writes))
        ∙ ap (λ (u : ℕ). (here.0, moved) ∷ drop u (take (3 + keys) writes)) (omega arith)

    words : moved ≡ list_words (head_at (split_bucket levels s here.0)) (key s here.0) (value s here.0) (first_to levels s (split_bucket levels s here.0) rest)
    words =
        moved_is (head_at place) (key s here.0) (value s here.0) (link s here.0) shape
        ∙ ap (λ u. list_words (head_at u) (key s here.0) (value s here.0) next) to_bucket
        ∙ ap (λ u. list_words (head_at (split_bucket levels s here.0)) (key s here.0) (value s here.0) u) firsts.0

    -- It is parted too.
    pub parted_more : PartedFrom levels s at place (take keys nodes) (set writes (3 + i) (here.0, moved)) keys i stay' go'
    parted_more = record {
      writes_are =
          put_there ∙ ap (λ (u : Writes). (here.0, moved) ∷ u) h.writes_are
          ∙ ap (λ (w : List ℕ). (here.0, w) ∷ parted_nodes levels s rest) words
          ∙ ap (λ (u : Writes). parted_nodes levels s (objects_of u)) (sym cons);
      stay_is = firsts.1 ∙ ap (λ (u : Writes). first_to levels s place (objects_of u)) (sym cons);
      go_is = firsts.2 ∙ ap (λ (u : Writes). first_to levels s (place + buckets_at at) (objects_of u)) (sym cons);
    }

take_three : (ws : Writes) (k : ℕ) (x y z : ℕ × List ℕ) → 3 ≤ length ws
    → take (suc (suc (suc k))) (set (set (set ws 0 x) 1 y) 2 z) ≡ x ∷ y ∷ z ∷ drop 3 (take (suc (suc (suc k))) ws)
take_three (a ∷ b ∷ c ∷ ws) k x y z lt = refl
take_three _ k x y z lt = absurd (omega arith)

-- the writes of a split of the bucket at this place, at this level
abbrev split_at : ℕ → State → List ℕ → ℕ → ℕ → Writes
split_at levels s ns at place =
    (0, next_table at place) ∷ (head_at place, head_words (first_to levels s place ns))
    ∷ (head_at (place + buckets_at at), head_words (first_to levels s (place + buckets_at at) ns)) ∷ parted_nodes levels s ns

-- The table and both heads come first.
pub parted_whole : (levels : ℕ) (s : State) (at place : ℕ) (reads writes : Writes) (keys stay go old new : ℕ) (table : List ℕ) → Reads levels s at place reads
    → length writes ≡ 64
    → PartedFrom levels s at place reads writes keys 0 stay go → table ≡ next_table at place → old ≡ head_at place
    → new ≡ head_at (place + buckets_at at)
    → take (3 + keys) (set (set (set writes 0 (0, table)) 1 (old, head_words stay)) 2 (new, head_words go)) ≡ split_writes levels s (objects_of reads)
parted_whole levels s at place reads writes keys stay go old new table r whole h e f g =
    let ns : List ℕ = objects_of reads in
    let three : 3 + keys ≡ suc (suc (suc keys)) = omega arith in
    ap (λ n. take n (set (set (set writes 0 (0, table)) 1 (old, head_words stay)) 2 (new, head_words go))) three
    ∙ take_three writes keys (0, table) (old, head_words stay) (new, head_words go) (omega arith)
    ∙ ap (λ (u : Writes). (0, table) ∷ (old, head_words stay) ∷ (new, head_words go) ∷ u) (ap (λ n. drop 3 (take n writes)) (sym three)
    ∙ h.writes_are)
    ∙ ap (λ (w : List ℕ). (0, w) ∷ (old, head_words stay) ∷ (new, head_words go) ∷ parted_nodes levels s ns) e
    ∙ ap (λ u. (0, next_table at place) ∷ (u, head_words stay) ∷ (new, head_words go) ∷ parted_nodes levels s ns) f
    ∙ ap (λ u. (0, next_table at place) ∷ (head_at place, head_words u) ∷ (new, head_words go) ∷ parted_nodes levels s ns) h.stay_is
    ∙ ap (λ u. (0, next_table at place) ∷ (head_at place, head_words (first_to levels s place ns)) ∷ (u, head_words go) ∷ parted_nodes levels s ns) g
    ∙ ap (λ u. (0, next_table at place) ∷ (head_at place, head_words (first_to levels s place ns)) ∷ (head_at (place + buckets_at at), head_words u)
    ∷ parted_nodes levels s ns) h.go_is
    ∙ ap (λ l. split_at levels s ns l place) (sym r.level_is) ∙ ap (λ p. split_at levels s ns (level s) p) (sym r.place_is)
