-- The steps of a search down a tree.
use Rattle.std.proofs.Common.{◌≡◌, ◌≢◌, ℕ, zero, suc, ◌+◌, ◌^◌, ◌<◌, ◌≤◌, ◌⊎◌, inl, inr, Bool, true, false}
use Rattle.std.proofs.Common.{cond, eqb, ◌||◌, eq-eqb, ne_eqb, List, [], ◌∷◌, ◌++◌, length, length-append, refl, sym, ap, ◌∙◌}
use Rattle.std.proofs.Common.{subst, arith, Option, Some, None}
use Rattle.std.specs.List.{list_any, IsDistinct as IsDistinctBy, AllByRecursion}
use Rattle.std.proofs.lemmas.Map.Steps.{length-le_from_distinct_below}
use Rattle.mv_history.specs.State.{State}
use Rattle.mv_history.specs.Meaning.{words_at}
use Rattle.set_model.specs.Objects.{kind, key, link, right_link}
use Rattle.set_model.specs.Trees.{Tree, top, objects_in, is_in, IsDistinct, Stands, HoldsTree, IsTree}
use Rattle.set_model.specs.Trees.Tree.{leaf, inner}
use Rattle.set_model.specs.TreeLaws.{stands_once}
use Rattle.set_model.specs.Lawful.{IsLawful}
use Rattle.set_model.proofs.ObjectWords.{word, owned_in_range}
use Rattle.set_model.proofs.TreeShape.{IsIn-from, top_in, Stands-owner}
use Rattle.tree_set.specs.Paths.{Path, plug, right_of, Follows}
use Rattle.tree_set.specs.Paths.PathStep.{left, right}
use Rattle.tree_set.specs.Walks.{nodes_under, walk_left, IsDescending, IsDescent, IsSubtree, IsLeftmost, first_key}
use Rattle.tree_set.proofs.Plugging.{stands_part}
use Rattle.tree_set.proofs.Turns.{plug_last, parent_last, grand_last}

-- A tree has no more nodes than there are objects.
apart_all : (o : ℕ) (ns : List ℕ) → is_in o ns ≡ false → AllByRecursion (λ n. eqb o n ≡ false) ns
apart_all o [] e = tt
apart_all o (n ∷ ns) e = go (eqb o n) refl e (apart_all o ns)
  where
    go : (b : Bool) → eqb o n ≡ b → b || is_in o ns ≡ false → (is_in o ns ≡ false → AllByRecursion (λ m. eqb o m ≡ false) ns)
        → (eqb o n ≡ false) × AllByRecursion (λ m. eqb o m ≡ false) ns
    go true q f r = absurd (cc)
    go false q f r = (q, r f)

distinct_all : (ns : List ℕ) → IsDistinct ns → IsDistinctBy eqb ns
unfolding IsDistinctBy
distinct_all [] d = tt
distinct_all (n ∷ ns) d = (apart_all n ns d.0, distinct_all ns d.1)

is_in-any : (o : ℕ) (ns : List ℕ) → is_in o ns ≡ list_any (eqb o) ns
is_in-any o [] = refl
is_in-any o (n ∷ ns) = ap (λ (b : Bool). eqb o n || b) (is_in-any o ns)

pub few_nodes : (s : State) (root : ℕ) (t : Tree) → HoldsTree s root t → length (objects_in t) ≤ length s
few_nodes s root t g =
    length-le_from_distinct_below (objects_in t) (length s) (distinct_all (objects_in t) g.distinct)
    (λ o e. owned_in_range s o root (Stands-owner s root t g.stands o (IsIn-from o (objects_in t) (is_in-any o (objects_in t) ∙ e))))

fewer_part : (ps : Path) (u : Tree) → length (objects_in u) ≤ length (objects_in (plug ps u))
fewer_part [] u = omega arith
fewer_part (left n d b ∷ ps) u =
    let r = fewer_part ps u in let e = length-append (objects_in (plug ps u)) (objects_in b) in omega arith
fewer_part (right n d a ∷ ps) u =
    let r = fewer_part ps u in let e = length-append (objects_in a) (objects_in (plug ps u)) in omega arith

-- The measure of a walk is the number of nodes of the tree that is left.
nodes_counted : (steps : ℕ) (s : State) (root : ℕ) (t : Tree) → Stands s root t → length (objects_in t) ≤ steps
    → nodes_under steps s (top t) ≡ length (objects_in t)
unfolding nodes_under
nodes_counted zero s root (leaf n k v) q h = absurd (omega arith)
nodes_counted zero s root (inner n d a b) q h = absurd (omega arith)
nodes_counted (suc f) s root (leaf n k v) q h =
    let one : kind s n ≡ 1 = ap (word 1) q.2 in
    ap (λ (c : Bool). cond c (suc (nodes_under f s (link s n) + nodes_under f s (right_link s n))) 1) (ne_eqb (kind s n) 2 (omega arith))
nodes_counted (suc f) s root (inner n d a b) q h =
    let two : kind s n ≡ 2 = ap (word 1) q.2 in
    let len = length-append (objects_in a) (objects_in b) in
    let x : nodes_under f s (top a) ≡ length (objects_in a) = nodes_counted f s root a q.3 (omega arith) in
    let y : nodes_under f s (top b) ≡ length (objects_in b) = nodes_counted f s root b q.4 (omega arith) in
    let u : nodes_under f s (link s n) ≡ nodes_under f s (top a) = ap (nodes_under f s) (ap (word 3) q.2) in
    let v : nodes_under f s (right_link s n) ≡ nodes_under f s (top b) = ap (nodes_under f s) (ap (word 4) q.2) in
    ap (λ (c : Bool). cond c (suc (nodes_under f s (link s n) + nodes_under f s (right_link s n))) 1) (eq-eqb (kind s n) 2 two) ∙ omega arith

pub walk_counts : (s : State) (root node : ℕ) (t : Tree) → Stands s root t → node ≡ top t → length (objects_in t) ≤ length s
    → walk_left s node ≡ length (objects_in t)
walk_counts s root node t q e few = ap (walk_left s) e ∙ nodes_counted (length s) s root t q few

-- The walk begins at what the root leads to.
pub descending_start : (s : State) (root k : ℕ) (words : List ℕ) → IsLawful s → 170 ≤ root → root < 180 → words ≡ words_at s root → word 3 words ≢ 0
    → IsDescending s root k root root (word 3 words) 0
descending_start s root k words l lo lt e n = go (l.trees root lo lt).0 (l.trees root lo lt).1
  where
    go : (t : Option Tree) → IsTree s root t → IsDescending s root k root root (word 3 words) 0
    go None q = absurd (n (ap (word 3) e ∙ ap (word 3) q.0))
    go (Some t) q = record {
      path = [];
      part = t;
      grown = q;
      here = ap (word 3) e ∙ ap (word 3) q.first;
      follows = tt;
      parent_is = refl;
      grand_is = refl;
      right_is = refl;
    }

pub root_in_range : (s : State) (root : ℕ) → IsLawful s → root < 180 → root < length s
root_in_range s root l lt = let some = l.some in omega arith

-- where the walk stands is an object
pub descending_in_range : (s : State) (root k grand parent node r : ℕ) → IsDescending s root k grand parent node r → node < length s
descending_in_range s root k grand parent node r d =
    let own = Stands-owner s root d.part (stands_part s root d.path d.part d.grown.stands) (top d.part) (top_in d.part) in
    subst (λ (o : ℕ). o < length s) (sym d.here) (owned_in_range s (top d.part) root own)

pub descending_fits : (s : State) (root k grand parent node r : ℕ) → IsLawful s → IsDescending s root k grand parent node r → node < 2 ^ 32
descending_fits s root k grand parent node r l d =
    let few = l.few in let lt = descending_in_range s root k grand parent node r d in omega arith

right_left : (other : ℕ) (ps : Path) (n d : ℕ) (b : Tree) → right_of other (ps ++ left n d b ∷ []) ≡ top b
right_left other [] n d b = refl
right_left other (left m e c ∷ ps) n d b = right_left (top c) ps n d b
right_left other (right m e c ∷ ps) n d b = right_left other ps n d b

right_right : (other : ℕ) (ps : Path) (n d : ℕ) (a : Tree) → right_of other (ps ++ right n d a ∷ []) ≡ right_of other ps
right_right other [] n d a = refl
right_right other (left m e c ∷ ps) n d a = right_right (top c) ps n d a
right_right other (right m e c ∷ ps) n d a = right_right other ps n d a

follows_both : (k : ℕ) (ps qs : Path) → Follows k ps → Follows k qs → Follows k (ps ++ qs)
follows_both k [] qs f g = g
follows_both k (left n d b ∷ ps) qs f g = (f.0, follows_both k ps qs f.1 g)
follows_both k (right n d a ∷ ps) qs f g = (f.0, follows_both k ps qs f.1 g)

-- one step further down, with less left to go
pub record IsStep (s : State) (root k grand parent node right before : ℕ) : Type 0 where
  pub descending : IsDescending s root k grand parent node right
  pub less : walk_left s node < walk_left s before

module _ (s : State) (root k grand parent node right_of_it : ℕ) (words : List ℕ) (d : IsDescending s root k grand parent node right_of_it)
    (e : words ≡ words_at s node) where
  -- at an inner node the search goes on at one of its children
  pub step_down : word 1 words ≡ 2 → (k < word 2 words → IsStep s root k parent node (word 3 words) (word 4 words) node)
      × (word 2 words ≤ k → IsStep s root k parent node (word 4 words) right_of_it node)
  step_down two = go d.part d.grown (stands_part s root d.path d.part d.grown.stands) d.here
    where
      go : (t : Tree) → HoldsTree s root (plug d.path t) → Stands s root t → node ≡ top t
          → (k < word 2 words → IsStep s root k parent node (word 3 words) (word 4 words) node)
          × (word 2 words ≤ k → IsStep s root k parent node (word 4 words) right_of_it node)
      go (leaf n j v) g q h =
          let one : word 1 words ≡ 1 = ap (word 1) e ∙ ap (kind s) h ∙ ap (word 1) q.2 in absurd (omega arith)
      go (inner n c a b) g q h =
          let few : length (objects_in (plug d.path (inner n c a b))) ≤ length s = few_nodes s root (plug d.path (inner n c a b)) g in
          let part : length (objects_in (inner n c a b)) ≤ length (objects_in (plug d.path (inner n c a b))) = fewer_part d.path (inner n c a b) in
          let len = length-append (objects_in a) (objects_in b) in
          let kc : word 2 words ≡ c = ap (word 2) e ∙ ap (key s) h ∙ ap (word 2) q.2 in
          let la : word 3 words ≡ top a = ap (word 3) e ∙ ap (link s) h ∙ ap (word 3) q.2 in
          let lb : word 4 words ≡ top b = ap (word 4) e ∙ ap (right_link s) h ∙ ap (word 4) q.2 in
          let all : walk_left s node ≡ length (objects_in (inner n c a b)) = walk_counts s root node (inner n c a b) q h (omega arith) in
          let wa : walk_left s (word 3 words) ≡ length (objects_in a) = walk_counts s root (word 3 words) a q.3 la (omega arith) in
          let wb : walk_left s (word 4 words) ≡ length (objects_in b) = walk_counts s root (word 4 words) b q.4 lb (omega arith) in (
            λ lt. record {
              descending = record {
                path = d.path ++ left n c b ∷ [];
                part = a;
                grown = subst (λ (t : Tree). HoldsTree s root t) (sym (plug_last d.path (left n c b) a)) g;
                here = la;
                follows = follows_both k d.path (left n c b ∷ []) d.follows (omega arith, tt);
                parent_is = h ∙ sym (parent_last root d.path (left n c b));
                grand_is = d.parent_is ∙ sym (grand_last root root d.path (left n c b));
                right_is = lb ∙ sym (right_left 0 d.path n c b);
              };
              less = omega arith;
            },
            λ le. record {
              descending = record {
                path = d.path ++ right n c a ∷ [];
                part = b;
                grown = subst (λ (t : Tree). HoldsTree s root t) (sym (plug_last d.path (right n c a) b)) g;
                here = lb;
                follows = follows_both k d.path (right n c a ∷ []) d.follows (omega arith, tt);
                parent_is = h ∙ sym (parent_last root d.path (right n c a));
                grand_is = d.parent_is ∙ sym (grand_last root root d.path (right n c a));
                right_is = d.right_is ∙ sym (right_right 0 d.path n c a);
              };
              less = omega arith;
            },
          )

  -- both children are objects
  pub children_fit : IsLawful s → word 1 words ≡ 2 → (word 3 words < 2 ^ 32) × (word 4 words < 2 ^ 32)
  children_fit l two = go d.part (stands_part s root d.path d.part d.grown.stands) d.here
    where
      child : (t : Tree) → Stands s root t → (o : ℕ) → o ≡ top t → o < 2 ^ 32
      child t q o h =
          let lt : top t < length s = owned_in_range s (top t) root (Stands-owner s root t q (top t) (top_in t)) in
          let few = l.few in omega arith

      go : (t : Tree) → Stands s root t → node ≡ top t → (word 3 words < 2 ^ 32) × (word 4 words < 2 ^ 32)
      go (leaf n j v) q h =
          let one : word 1 words ≡ 1 = ap (word 1) e ∙ ap (kind s) h ∙ ap (word 1) q.2 in absurd (omega arith)
      go (inner n c a b) q h = (
        child a q.3 (word 3 words) (ap (word 3) e ∙ ap (link s) h ∙ ap (word 3) q.2),
        child b q.4 (word 4 words) (ap (word 4) e ∙ ap (right_link s) h ∙ ap (word 4) q.2),
      )

  -- and ends at a leaf
  pub descent_found : word 1 words ≢ 2 → IsDescent s root k grand parent node right_of_it words
  descent_found n2 = go d.part d.grown (stands_part s root d.path d.part d.grown.stands) d.here
    where
      go : (t : Tree) → HoldsTree s root (plug d.path t) → Stands s root t → node ≡ top t → IsDescent s root k grand parent node right_of_it words
      go (inner n c a b) g q h = absurd (n2 (ap (word 1) e ∙ ap (kind s) h ∙ ap (word 1) q.2))
      go (leaf n j v) g q h = record {
        path = d.path;
        key = j;
        value = v;
        grown = subst (λ (o : ℕ). HoldsTree s root (plug d.path (leaf o j v))) (sym h) g;
        words_are = e ∙ ap (words_at s) h ∙ q.2;
        follows = d.follows;
        parent_is = d.parent_is;
        grand_is = d.grand_is;
        right_is = d.right_is;
      }

-- The step that the code takes, by the words that it read.
pub find_step : (s : State) (root k grand parent node r next next_right : ℕ) (words : List ℕ) → IsDescending s root k grand parent node r
    → words ≡ words_at s node → word 1 words ≡ 2 → ((k < word 2 words) × (next ≡ word 3 words) × (next_right ≡ word 4 words))
    ⊎ ((word 2 words ≤ k) × (next ≡ word 4 words) × (next_right ≡ r)) → IsStep s root k parent node next next_right node
find_step s root k grand parent node r next next_right words d e two (inl (lt, p, q)) =
    let step = (step_down s root k grand parent node r words d e two).0 lt in
    subst (λ (x : ℕ). IsStep s root k parent node next x node) (sym q) (subst (λ (x : ℕ). IsStep s root k parent node x (word 4 words) node) (sym p) step)
find_step s root k grand parent node r next next_right words d e two (inr (le, p, q)) =
    let step = (step_down s root k grand parent node r words d e two).1 le in
    subst (λ (x : ℕ). IsStep s root k parent node next x node) (sym q) (subst (λ (x : ℕ). IsStep s root k parent node x r node) (sym p) step)

-- The same words by another state.
pub read_at : (s t : State) (node : ℕ) (words : List ℕ) → words ≡ words_at t node → t ≡ s → words ≡ words_at s node
read_at s t node words e f = e ∙ ap (λ (u : State). words_at u node) f

pub in_state : (s t : State) (node : ℕ) → node < length s → t ≡ s → node < length t
in_state s t node h f = subst (λ (u : State). node < length u) (sym f) h

-- The walk to the leftmost leaf.
pub leftmost_start : (s : State) (root node : ℕ) → IsSubtree s root node → IsLeftmost s root node node
leftmost_start s root node t = record {
  part = t.part;
  stands = t.stands;
  here = t.here;
  few = t.few;
  same = λ u q e. ap first_key (stands_once s root t.part u t.stands q (sym t.here ∙ e));
}

pub leftmost_in_range : (s : State) (root start node : ℕ) → IsLeftmost s root start node → node < length s
leftmost_in_range s root start node t =
    subst (λ (o : ℕ). o < length s) (sym t.here) (owned_in_range s (top t.part) root (Stands-owner s root t.part t.stands (top t.part) (top_in t.part)))

module _ (s : State) (root start node : ℕ) (words : List ℕ) (t : IsLeftmost s root start node) (e : words ≡ words_at s node) where
  pub leftmost_step : word 1 words ≡ 2 → IsLeftmost s root start (word 3 words) × (walk_left s (word 3 words) < walk_left s node)
  leftmost_step two = go t.part t.stands t.here t.few t.same
    where
      go : (u : Tree) → Stands s root u → node ≡ top u → length (objects_in u) ≤ length s
          → ((v : Tree) → Stands s root v → start ≡ top v → first_key u ≡ first_key v)
          → IsLeftmost s root start (word 3 words) × (walk_left s (word 3 words) < walk_left s node)
      go (leaf n j v) q h few same =
          let one : word 1 words ≡ 1 = ap (word 1) e ∙ ap (kind s) h ∙ ap (word 1) q.2 in absurd (omega arith)
      go (inner n c a b) q h few same =
          let len = length-append (objects_in a) (objects_in b) in
          let la : word 3 words ≡ top a = ap (word 3) e ∙ ap (link s) h ∙ ap (word 3) q.2 in
          let fewer : length (objects_in a) ≤ length s = omega arith in
          let all : walk_left s node ≡ length (objects_in (inner n c a b)) = walk_counts s root node (inner n c a b) q h few in
          let wa : walk_left s (word 3 words) ≡ length (objects_in a) = walk_counts s root (word 3 words) a q.3 la fewer in
          (record { part = a; stands = q.3; here = la; few = fewer; same = same }, omega arith)

  pub leftmost_key : word 1 words ≢ 2 → (u : Tree) → Stands s root u → start ≡ top u → word 2 words ≡ first_key u
  leftmost_key n2 = go t.part t.stands t.here t.same
    where
      go : (u : Tree) → Stands s root u → node ≡ top u → ((v : Tree) → Stands s root v → start ≡ top v → first_key u ≡ first_key v) → (v : Tree)
          → Stands s root v → start ≡ top v → word 2 words ≡ first_key v
      go (inner n c a b) q h same v qv hv = absurd (n2 (ap (word 1) e ∙ ap (kind s) h ∙ ap (word 1) q.2))
      go (leaf n j x) q h same v qv hv = ap (word 2) e ∙ ap (key s) h ∙ ap (word 2) q.2 ∙ same v qv hv

  pub leftmost_fits : word 1 words ≢ 2 → word 2 words < 2 ^ 32
  leftmost_fits n2 = go t.part t.stands t.here
    where
      go : (u : Tree) → Stands s root u → node ≡ top u → word 2 words < 2 ^ 32
      go (inner n c a b) q h = absurd (n2 (ap (word 1) e ∙ ap (kind s) h ∙ ap (word 1) q.2))
      go (leaf n j x) q h =
          let is : word 2 words ≡ j = ap (word 2) e ∙ ap (key s) h ∙ ap (word 2) q.2 in
          let fits : j < 2 ^ 32 = q.1 in omega arith
