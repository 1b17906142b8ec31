-- A search's way remembers no more objects than are above the leaf.
use Rattle.std.proofs.Common.{◌≡◌, ◌≢◌, ℕ, suc, ◌+◌, ◌≤◌, Bool, true, false, cond, ltb, eq-eqb, ne_eqb, refl, ap, ◌∙◌, arith}
use Rattle.mv_history.specs.State.{State}
use Rattle.set_model.specs.Objects.{key, link, right_link}
use Rattle.set_model.specs.Trees.{Tree, top, Stands, HoldsTree}
use Rattle.set_model.specs.Trees.Tree.{leaf, inner}
use Rattle.set_model.proofs.ObjectWords.{word}
use Rattle.tree_balance.specs.Depths.{depth_of, child_for, IsPassed, IsOfWay}

pub passed_first : (s : State) (root k node : ℕ) → node ≡ link s root → IsPassed s root k node 1
passed_first s root k node e t g = (t, g.stands, e ∙ ap (word 3) g.first, omega arith)

-- the search goes on from an inner node alone
pub passed_next : (s : State) (root k node count next more : ℕ) → IsPassed s root k node count → next ≡ child_for s k node → next ≢ 0
    → more ≤ count + 1 → IsPassed s root k next more
passed_next s root k node count next more p e some le t g = go (p t g).0 (p t g).1 (p t g).2 (p t g).3
  where
    some_left : link s node ≢ 0
    some_left z = some (e ∙ ap (λ (b : Bool). cond b 0 (cond (ltb k (key s node)) (link s node) (right_link s node))) (eq-eqb (link s node) 0 z))

    goes : next ≡ cond (ltb k (key s node)) (link s node) (right_link s node)
    goes =
        e ∙ ap (λ (b : Bool). cond b 0 (cond (ltb k (key s node)) (link s node) (right_link s node))) (ne_eqb (link s node) 0 some_left)

    go : (part : Tree) → Stands s root part → node ≡ top part → count + depth_of k part ≤ suc (depth_of k t)
        → (below : Tree) × Stands s root below × (next ≡ top below) × (more + depth_of k below ≤ suc (depth_of k t))
    go (leaf n j v) q h few = absurd (some_left (ap (link s) h ∙ ap (word 3) q.2))
    go (inner n d a b) q h few = side (ltb k d) refl
      where
        next_is : next ≡ cond (ltb k d) (top a) (top b)
        next_is =
            goes ∙ ap (λ (x : ℕ). cond (ltb k x) (link s node) (right_link s node)) (ap (key s) h ∙ ap (word 2) q.2)
            ∙ ap (λ (x : ℕ). cond (ltb k d) x (right_link s node)) (ap (link s) h ∙ ap (word 3) q.2)
            ∙ ap (λ (x : ℕ). cond (ltb k d) (top a) x) (ap (right_link s) h ∙ ap (word 4) q.2)

        side : (x : Bool) → ltb k d ≡ x → (below : Tree) × Stands s root below × (next ≡ top below) × (more + depth_of k below ≤ suc (depth_of k t))
        side true y =
            let deep : cond (ltb k d) (depth_of k a) (depth_of k b) ≡ depth_of k a = ap (λ (x : Bool). cond x (depth_of k a) (depth_of k b)) y in
            (a, q.3, next_is ∙ ap (λ (x : Bool). cond x (top a) (top b)) y, omega arith)
        side false y =
            let deep : cond (ltb k d) (depth_of k a) (depth_of k b) ≡ depth_of k b = ap (λ (x : Bool). cond x (depth_of k a) (depth_of k b)) y in
            (b, q.4, next_is ∙ ap (λ (x : Bool). cond x (top a) (top b)) y, omega arith)

-- where it is, no more are remembered than the inner nodes that it passed, and the root
pub of_way : (s : State) (root k node count : ℕ) → IsPassed s root k node count → IsOfWay s root k count
of_way s root k node count p t g = let le = (p t g).3 in omega arith
