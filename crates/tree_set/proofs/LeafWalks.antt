-- The steps of a walk over the leaves of a tree.
use Rattle.std.proofs.Common.{
  ◌≡◌,
  ◌≢◌,
  ℕ,
  zero,
  suc,
  ◌+◌,
  ◌*◌,
  ◌-◌,
  ◌/◌,
  ◌^◌,
  Bool,
  cond,
  eq-eqb,
  ne_eqb,
  ◌<◌,
  ◌≤◌,
  ◌⊎◌,
  inl,
  inr,
  List,
  [],
  ◌∷◌,
  ◌++◌,
  length,
  length-append,
  length-set,
  set,
}
use Rattle.std.proofs.Common.{slice_index_or, refl, sym, ap, ◌∙◌, subst, arith, append_assoc, append-nil, get_or-set_same, get_or-set_other}
use Rattle.std.proofs.lemmas.List.{get_or_append_left}
use Rattle.std.proofs.lemmas.Bool.{cases_eq}
use Rattle.mv_history.specs.State.{State}
use Rattle.mv_history.specs.Meaning.{words_at}
use Rattle.set_model.specs.Catalogue.{Map, map_of}
use Rattle.set_model.specs.CatalogueOf.{name_of, catalogue_of}
use Rattle.set_model.specs.Objects.{kind, key, link, right_link, value, most_objects}
use Rattle.set_model.specs.Trees.{Tree, top, objects_in, entries_in, Stands}
use Rattle.set_model.specs.Trees.Tree.{leaf, inner}
use Rattle.set_model.specs.TreeLaws.{top_is_node}
use Rattle.set_model.specs.Lawful.{IsLawful}
use Rattle.set_model.proofs.ObjectWords.{word, owned_in_range}
use Rattle.set_model.proofs.TreeMaps.{map_of-tree}
use Rattle.set_model.proofs.TreeShape.{top_in, Stands-owner, objects_count}
use Rattle.tree_set.specs.Leaves.{ArePending, AreAhead, entries_of_all, count_objects, IsWalk, IsStopped, IsPassed, IsCounted, pending_leaves, leaves_left}
use Rattle.tree_set.specs.Walks.{walk_left}
use Rattle.tree_set.proofs.Ends.{some_tree}
use Rattle.tree_set.proofs.Descents.{no_keys}
use Rattle.tree_set.proofs.Walking.{few_nodes, walk_counts}

-- the walk begins at what the root leads to
pub walk_start : (s : State) (root : ℕ) (words table : List ℕ) → IsLawful s → 170 ≤ root → root < 180 → words ≡ words_at s root →
    IsWalk s table (word 3 words) 0 (map_of (name_of root) (catalogue_of s))
walk_start s root words table l lo lt e = elim (cases_eq (link s root) 0) [
  | inl z ↦ record { root = root; trees = []; ahead = ap (word 3) e ∙ z; entries = no_keys s root l lo lt z; few = omega arith; room = omega arith }
  | inr n ↦ (let t = some_tree s root l lo lt n in
      let few : length (objects_in t.0) ≤ length s = few_nodes s root t.0 t.1 in
      record {
        root = root;
        trees = t.0 ∷ [];
        ahead = (t.1.stands, ap (word 3) e ∙ ap (word 3) t.1.first, tt);
        entries = map_of-tree s root t.0 lo lt t.1 ∙ sym (append-nil (entries_in t.0));
        few = omega arith;
        room = omega arith;
      })
]

-- where a tree stands is an object
top_in_range : (s : State) (root : ℕ) (t : Tree) → Stands s root t → top t < length s
top_in_range s root t q = owned_in_range s (top t) root (Stands-owner s root t q (top t) (top_in t))

some_objects : (t : Tree) → 1 ≤ length (objects_in t)
some_objects (leaf n k v) = omega arith
some_objects (inner n d a b) = omega arith

-- the places of the table that the walk does not use may change
pub pending_set : (s : State) (root : ℕ) (table : List ℕ) (held : ℕ) (ts : List Tree) (i x : ℕ) → held ≤ i → ArePending s root table held ts →
    ArePending s root (set table i x) held ts
pending_set s root table zero [] i x le p = tt
pending_set s root table zero (t ∷ ts) i x le p = p
pending_set s root table (suc held) [] i x le p = p
pending_set s root table (suc held) (t ∷ ts) i x le p =
    (p.0, get_or-set_other table i held x 0 (λ e. omega arith) ∙ p.1, pending_set s root table held ts i x (omega arith) p.2)

-- each pending tree has an object
pending_count : (s : State) (root : ℕ) (table : List ℕ) (held : ℕ) (ts : List Tree) → ArePending s root table held ts → held ≤ count_objects ts
pending_count s root table zero ts p = omega arith
pending_count s root table (suc held) [] p = absurd p
pending_count s root table (suc held) (t ∷ ts) p =
    let rest = pending_count s root table held ts p.2 in let one = some_objects t in omega arith

module _ (s : State) (l : IsLawful s) (table : List ℕ) (node held : ℕ) (m : Map) (w : IsWalk s table node held m) where
  -- a walk at no node is over
  pub walk_over : node ≡ 0 → m ≡ []
  walk_over z = go w.trees w.ahead w.entries
    where
      go : (ts : List Tree) → AreAhead s w.root table node held ts → m ≡ entries_of_all ts → m ≡ []
      go [] a e = e
      go (t ∷ ts) a e = let low : 180 ≤ top t = top_is_node s w.root t a.0 in let at : node ≡ top t = a.1 in absurd (omega arith)

  -- a table of half as many places as there are objects never fills
  pub walk_held : node ≢ 0 → held + held < length s
  walk_held n = go w.trees w.ahead w.few
    where
      go : (ts : List Tree) → AreAhead s w.root table node held ts → count_objects ts + held ≤ length s → held + held < length s
      go [] a few = absurd (n a)
      go (t ∷ ts) a few =
          let one = some_objects t in let rest = pending_count s w.root table held ts a.2 in omega arith

  pub walk_in_range : node ≢ 0 → node < length s
  walk_in_range n = go w.trees w.ahead
    where
      go : (ts : List Tree) → AreAhead s w.root table node held ts → node < length s
      go [] a = absurd (n a)
      go (t ∷ ts) a = let lt = top_in_range s w.root t a.0 in let at : node ≡ top t = a.1 in omega arith

  pub walk_fits : node ≤ most_objects
  walk_fits = elim (cases_eq node 0) [ inl z ↦ omega arith | inr n ↦ (let lt = walk_in_range n in let few = l.few in omega arith) ]

-- one step at an inner node: to its left, with the right link kept
pub record IsLeftStep (s : State) (table words : List ℕ) (node held : ℕ) (m : Map) : Type 0 where
  pub left_fits : word 3 words ≤ most_objects
  pub right_fits : word 4 words ≤ most_objects
  pub left_some : word 3 words ≢ 0
  pub walk : held < length table → IsWalk s (set table held (word 4 words)) (word 3 words) (held + 1) m
  pub less : walk_left s (word 3 words) < walk_left s node

-- one step at a leaf: its key and value are the first, and the walk goes on at the last pending link, if there is one
pub record IsLeafStep (s : State) (table words : List ℕ) (held : ℕ) (m : Map) : Type 0 where
  pub key_fits : word 2 words < 2 ^ 32
  pub rest : Map
  pub first : m ≡ (word 2 words, word 5 words) ∷ rest
  pub last : held ≡ 0 → IsWalk s table 0 held rest
  pub more : held ≢ 0 → IsWalk s table (slice_index_or table (held - 1) 0) (held - 1) rest

module _ (s : State) (l : IsLawful s) (table words : List ℕ) (node held : ℕ) (m : Map) (n : node ≢ 0) (e : words ≡ words_at s node)
    (w : IsWalk s table node held m) where
  pub left_step : word 1 words ≡ 2 → IsLeftStep s table words node held m
  left_step two = go w.trees w.ahead w.entries w.few
    where
      go : (ts : List Tree) → AreAhead s w.root table node held ts → m ≡ entries_of_all ts → count_objects ts + held ≤ length s →
          IsLeftStep s table words node held m
      go [] a f few = absurd (n a)
      go (leaf o j v ∷ ts) a f few =
          let one : word 1 words ≡ 1 = ap (word 1) e ∙ ap (kind s) a.1 ∙ ap (word 1) a.0.2 in absurd (omega arith)
      go (inner o d x y ∷ ts) a f few =
          let len = length-append (objects_in x) (objects_in y) in
          let lx : word 3 words ≡ top x = ap (word 3) e ∙ ap (link s) a.1 ∙ ap (word 3) a.0.2 in
          let ly : word 4 words ≡ top y = ap (word 4) e ∙ ap (right_link s) a.1 ∙ ap (word 4) a.0.2 in
          let rx : top x < length s = top_in_range s w.root x a.0.3 in
          let ry : top y < length s = top_in_range s w.root y a.0.4 in
          let lawful_few = l.few in
          let low : 180 ≤ top x = top_is_node s w.root x a.0.3 in
          let all : walk_left s node ≡ length (objects_in (inner o d x y)) = walk_counts s w.root node (inner o d x y) a.0 a.1 (omega arith) in
          let left : walk_left s (word 3 words) ≡ length (objects_in x) = walk_counts s w.root (word 3 words) x a.0.3 lx (omega arith) in
          let next : suc held ≡ held + 1 = omega arith in
          let kept = pending_set s w.root table held ts held (word 4 words) (omega arith) a.2 in
          record {
            left_fits = omega arith;
            right_fits = omega arith;
            left_some = λ z. absurd (omega arith);
            walk = λ lt. record {
              root = w.root;
              trees = x ∷ y ∷ ts;
              ahead = subst (λ (h : ℕ). AreAhead s w.root (set table held (word 4 words)) (word 3 words) h (x ∷ y ∷ ts)) next
                  (a.0.3, lx, (a.0.4, get_or-set_same table held (word 4 words) 0 lt ∙ ly, kept));
              entries = f ∙ append_assoc (entries_in x) (entries_in y) (entries_of_all ts);
              few = omega arith;
              room = omega (arith, length-set table held (word 4 words));
            };
            less = omega arith;
          }

  pub leaf_step : word 1 words ≢ 2 → IsLeafStep s table words held m
  leaf_step n2 = go w.trees w.ahead w.entries w.few
    where
      held_room : held ≤ length table
      held_room = w.room

      over : (ts : List Tree) → ArePending s w.root table held ts → count_objects ts + held ≤ length s → held ≡ 0 → IsWalk s table 0 held (entries_of_all ts)
      over [] p few z = record { root = w.root; trees = []; ahead = refl; entries = refl; few = few; room = held_room }
      over (t ∷ ts) p few z = absurd (subst (λ (h : ℕ). ArePending s w.root table h (t ∷ ts)) z p)

      on : (h : ℕ) (ts : List Tree) → ArePending s w.root table (suc h) ts → count_objects ts + h ≤ length s → h ≤ length table →
          IsWalk s table (slice_index_or table h 0) h (entries_of_all ts)
      on h [] p few room = absurd p
      on h (t ∷ ts) p few room = record { root = w.root; trees = t ∷ ts; ahead = p; entries = refl; few = few; room = room }

      go : (ts : List Tree) → AreAhead s w.root table node held ts → m ≡ entries_of_all ts → count_objects ts + held ≤ length s →
          IsLeafStep s table words held m
      go [] a f few = absurd (n a)
      go (inner o d x y ∷ ts) a f few = absurd (n2 (ap (word 1) e ∙ ap (kind s) a.1 ∙ ap (word 1) a.0.2))
      go (leaf o j v ∷ ts) a f few =
          let kj : word 2 words ≡ j = ap (word 2) e ∙ ap (key s) a.1 ∙ ap (word 2) a.0.2 in
          let vj : word 5 words ≡ v = ap (word 5) e ∙ ap (value s) a.1 ∙ ap (word 5) a.0.2 in
          let fits : j < 2 ^ 32 = a.0.1 in
          record {
            key_fits = omega arith;
            rest = entries_of_all ts;
            first = f ∙ (let q : (j, v) ∷ entries_of_all ts ≡ (word 2 words, word 5 words) ∷ entries_of_all ts = cc in q);
            last = λ z. over ts a.2 (omega arith) z;
            more = λ nz. (let q : suc (held - 1) ≡ held = omega arith in
                on (held - 1) ts (subst (λ (h : ℕ). ArePending s w.root table h ts) (sym q) a.2) (omega arith) (let room = w.room in omega arith));
          }

-- what the code leaves once it has read a leaf
pub leaf_passes : (s : State) (table words : List ℕ) (held : ℕ) (m : Map) (next left : ℕ) → IsLeafStep s table words held m →
    ((held ≡ 0) × (next ≡ 0) × (left ≡ held)) ⊎ ((held ≢ 0) × (next ≡ slice_index_or table (held - 1) 0) × (left ≡ held - 1)) →
    IsPassed s table next left m (word 2 words) (word 5 words)
leaf_passes s table words held m next left step way = record {
  rest = step.rest;
  first = step.first;
  walk = elim way [
    | inl (z, n, h) ↦ subst (λ (x : ℕ). IsWalk s table x left step.rest) (sym n) (subst (λ (x : ℕ). IsWalk s table 0 x step.rest) (sym h) (step.last z))
    | inr (z, n, h) ↦ subst (λ (x : ℕ). IsWalk s table x left step.rest) (sym n)
        (subst (λ (x : ℕ). IsWalk s table (slice_index_or table (held - 1) 0) x step.rest) (sym h) (step.more z))
  ];
}

entries_few : (ts : List Tree) → length (entries_of_all ts) ≤ count_objects ts
entries_few [] = omega arith
entries_few (t ∷ ts) =
    let n = objects_count t in let one = some_objects t in
    let len = length-append (entries_in t) (entries_of_all ts) in let rest = entries_few ts in omega arith

-- a walk has fewer entries to pass than there are objects
pub walk_few : (s : State) → IsLawful s → (table : List ℕ) (node held : ℕ) (m : Map) → IsWalk s table node held m → length m ≤ most_objects
walk_few s l table node held m w =
    let few = l.few in let walk = w.few in let most = entries_few w.trees in
    let is : length m ≡ length (entries_of_all w.trees) = ap length w.entries in omega arith

-- the same walk by another state
pub walk_there : (s t : State) (table : List ℕ) (node held : ℕ) (m : Map) → t ≡ s → IsWalk s table node held m → IsWalk t table node held m
walk_there s t table node held m same w = subst (λ (x : State). IsWalk x table node held m) (sym same) w

-- What a call of `next` leaves, by the state of another one.
pub passed_there : (s t : State) (table table' : List ℕ) (node node' held held' : ℕ) (m : Map) (key value : ℕ) → t ≡ s →
    IsWalk s table node held m → ((r : Map) → IsWalk t table node held r → IsPassed t table' node' held' r key value) →
    IsPassed s table' node' held' m key value
passed_there s t table table' node node' held held' m key value same w next =
    subst (λ (x : State). (r : Map) → IsWalk x table node held r → IsPassed x table' node' held' r key value) same next m w

pub stops_there : (s t : State) (table table' : List ℕ) (node node' held held' : ℕ) (m : Map) → t ≡ s → IsWalk s table node held m →
    ((r : Map) → IsWalk t table node held r → IsStopped t table' node' held' r) → IsStopped s table' node' held' m
stops_there s t table table' node node' held held' m same w next =
    subst (λ (x : State). (r : Map) → IsWalk x table node held r → IsStopped x table' node' held' r) same next m w

-- A walk over entries of which so many were passed.
pub record IsUnderWay (s : State) (table : List ℕ) (node held : ℕ) (m : Map) (count : ℕ) : Type 0 where
  pub rest : Map
  pub sum : count + length rest ≡ length m
  pub walk : IsWalk s table node held rest

-- one entry more was passed
pub under_way_more : (s t : State) (table table' : List ℕ) (node node' held held' : ℕ) (m : Map) (key value count : ℕ) → t ≡ s →
    IsUnderWay s table node held m count → ((r : Map) → IsWalk t table node held r → IsPassed t table' node' held' r key value) →
    IsUnderWay s table' node' held' m (count + 1)
under_way_more s t table table' node node' held held' m key value count same u next =
    let p = passed_there s t table table' node node' held held' u.rest key value same u.walk next in
    let len : length u.rest ≡ suc (length p.rest) = ap length p.first in
    record { rest = p.rest; sum = let sum = u.sum in omega arith; walk = p.walk }

-- the walk stopped
pub under_way_end : (s t : State) (table table' : List ℕ) (node node' held held' : ℕ) (m : Map) (count : ℕ) → t ≡ s → IsUnderWay s table node held m count →
    ((r : Map) → IsWalk t table node held r → IsStopped t table' node' held' r) → IsCounted s table' node' held' m count
under_way_end s t table table' node node' held held' m count same u next =
    record { rest = u.rest; sum = u.sum; stopped = stops_there s t table table' node node' held held' u.rest same u.walk next }

-- places of another table that hold the same links
pub pending_copied : (s : State) (root : ℕ) (table table' : List ℕ) (held : ℕ) (ts : List Tree) →
    ((i : ℕ) → i < held → slice_index_or table' i 0 ≡ slice_index_or table i 0) → ArePending s root table held ts → ArePending s root table' held ts
pending_copied s root table table' zero [] h p = tt
pending_copied s root table table' zero (t ∷ ts) h p = p
pending_copied s root table table' (suc held) [] h p = p
pending_copied s root table table' (suc held) (t ∷ ts) h p =
    (p.0, h held (omega arith) ∙ p.1, pending_copied s root table table' held ts (λ i lt. h i (omega arith)) p.2)

-- the walk goes on with a table that begins with the same links
pub walk_longer : (s : State) (table rest longer : List ℕ) (node held : ℕ) (m : Map) → longer ≡ table ++ rest → IsWalk s table node held m →
    IsWalk s longer node held m
walk_longer s table rest longer node held m e w = record {
  root = w.root;
  trees = w.trees;
  ahead = go w.trees w.ahead;
  entries = w.entries;
  few = w.few;
  room = let len = length-append table rest in let same : length longer ≡ length (table ++ rest) = ap length e in let room = w.room in omega arith;
}
  where
    begins : (i : ℕ) → i < held → slice_index_or longer i 0 ≡ slice_index_or table i 0
    begins i lt =
        let room = w.room in
        ap (λ (xs : List ℕ). slice_index_or xs i 0) e ∙ get_or_append_left table rest 0 i (omega arith)

    go : (ts : List Tree) → AreAhead s w.root table node held ts → AreAhead s w.root longer node held ts
    go [] a = a
    go (t ∷ ts) a = (a.0, a.1, pending_copied s w.root table longer held ts begins a.2)

-- a walk with a table of half as many places as there are objects stops only where it is over
pub stopped_over : (s : State) → IsLawful s → (table : List ℕ) (node held : ℕ) (m : Map) → length s ≤ 2 * length table → IsStopped s table node held m →
    m ≡ []
stopped_over s l table node held m long stopped = elim stopped.why [
  | inl z ↦ walk_over s l table node held m stopped.walk z
  | inr full ↦ elim (cases_eq node 0) [
    | inl z ↦ walk_over s l table node held m stopped.walk z
    | inr n ↦ (let half = walk_held s l table node held m stopped.walk n in absurd (omega arith))
  ]
]

-- where the walk is over all were counted
pub counted_over : (s : State) → IsLawful s → (table : List ℕ) (node held : ℕ) (m : Map) (count : ℕ) → node ≡ 0 →
    IsCounted s table node held m count → count ≡ length m
counted_over s l table node held m count z c =
    let none : length c.rest ≡ 0 = ap length (walk_over s l table node held c.rest c.stopped.walk z) in let sum = c.sum in omega arith

-- what a call counted, by the state of another one
pub counted_there : (s t : State) (table table' : List ℕ) (node node' held held' : ℕ) (m : Map) (count : ℕ) → t ≡ s →
    ((r : Map) → IsWalk t table node held r → IsCounted t table' node' held' r count) → IsWalk s table node held m → IsCounted s table' node' held' m count
counted_there s t table table' node node' held held' m count same f w =
    subst (λ (x : State). (r : Map) → IsWalk x table node held r → IsCounted x table' node' held' r count) same f m w

-- two counts, the second of all that the first left
pub counted_rest : (s t : State) (table : List ℕ) (node held : ℕ) (m : Map) (count more : ℕ) → t ≡ s → IsCounted s table node held m count →
    ((r : Map) → IsWalk t table node held r → more ≡ length r) → count + more ≡ length m
counted_rest s t table node held m count more same c f =
    let all : more ≡ length c.rest = f c.rest (walk_there s t table node held c.rest same c.stopped.walk) in let sum = c.sum in omega arith

-- The leaves that are left, by the nodes under the walk's node and under the pending ones.
leaves_at : (s : State) (root node : ℕ) (t : Tree) → Stands s root t → node ≡ top t → length (objects_in t) ≤ length s →
    (walk_left s node + 1) / 2 ≡ length (entries_in t)
leaves_at s root node t q e few =
    let all = walk_counts s root node t q e few in let n = objects_count t in omega arith

pending_leaves_are : (s : State) (root : ℕ) (table : List ℕ) (held : ℕ) (ts : List Tree) → ArePending s root table held ts →
    count_objects ts ≤ length s → pending_leaves s table held ≡ length (entries_of_all ts)
pending_leaves_are s root table zero [] p few = refl
pending_leaves_are s root table zero (t ∷ ts) p few = absurd p
pending_leaves_are s root table (suc held) [] p few = absurd p
pending_leaves_are s root table (suc held) (t ∷ ts) p few =
    let len = length-append (entries_in t) (entries_of_all ts) in
    let first = leaves_at s root (slice_index_or table held 0) t p.0 p.1 (omega arith) in
    let rest = pending_leaves_are s root table held ts p.2 (omega arith) in omega arith

pub leaves_left_are : (s : State) → IsLawful s → (table : List ℕ) (node held : ℕ) (m : Map) → IsWalk s table node held m →
    leaves_left s table node held ≡ length m
leaves_left_are s l table node held m w = elim (cases_eq node 0) [
  | inl z ↦ (let none : length m ≡ 0 = ap length (walk_over s l table node held m w z) in
      ap (λ (b : Bool). cond b 0 ((walk_left s node + 1) / 2 + pending_leaves s table held)) (eq-eqb node 0 z) ∙ sym none)
  | inr n ↦ ap (λ (b : Bool). cond b 0 ((walk_left s node + 1) / 2 + pending_leaves s table held)) (ne_eqb node 0 n) ∙ go n w.trees w.ahead w.entries w.few
]
  where
    go : node ≢ 0 → (ts : List Tree) → AreAhead s w.root table node held ts → m ≡ entries_of_all ts → count_objects ts + held ≤ length s →
        (walk_left s node + 1) / 2 + pending_leaves s table held ≡ length m
    go n [] a e few = absurd (n a)
    go n (t ∷ ts) a e few =
        let len = length-append (entries_in t) (entries_of_all ts) in
        let is : length m ≡ length (entries_of_all (t ∷ ts)) = ap length e in
        let first = leaves_at s w.root node t a.0 a.1 (omega arith) in
        let rest = pending_leaves_are s w.root table held ts a.2 (omega arith) in omega arith

-- fewer leaves are left then
pub fewer_left : (s t : State) (table table' : List ℕ) (node node' held held' : ℕ) (m : Map) (key value : ℕ) → IsLawful s → t ≡ s →
    IsWalk s table node held m → ((r : Map) → IsWalk t table node held r → IsPassed t table' node' held' r key value) →
    leaves_left s table' node' held' < leaves_left s table node held
fewer_left s t table table' node node' held held' m key value l same w next =
    let p = passed_there s t table table' node node' held held' m key value same w next in
    let before = leaves_left_are s l table node held m w in
    let after = leaves_left_are s l table' node' held' p.rest p.walk in
    let first : length m ≡ suc (length p.rest) = ap length p.first in omega arith

-- and none where it stops
pub stopped_there : (s t : State) (table table' : List ℕ) (node node' held held' : ℕ) (m : Map) → IsLawful s → t ≡ s → length s ≤ 2 * length table' →
    IsWalk s table node held m → ((r : Map) → IsWalk t table node held r → IsStopped t table' node' held' r) → m ≡ []
stopped_there s t table table' node node' held held' m l same long w next =
    stopped_over s l table' node' held' m long (stops_there s t table table' node node' held held' m same w next)
