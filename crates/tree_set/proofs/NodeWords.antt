-- What a search reads of an object is enough to know all its words.
use Rattle.std.proofs.Common.{◌≡◌, ◌≢◌, ℕ, ◌^◌, ◌<◌, ◌≤◌, ◌⊎◌, inl, inr, Bool, if◌then◌else◌, List}
use Rattle.std.proofs.Common.{refl, sym, ap, ◌∙◌, subst, arith, ne_eqb, eq-eqb, Option, Some, None}
use Rattle.mv_history.specs.State.{State}
use Rattle.mv_history.specs.Meaning.{words_at}
use Rattle.set_model.specs.Objects.{kind, key, link, right_link, value, rank, head_words, leaf_words, inner_words}
use Rattle.set_model.specs.Trees.{Tree, top, Stands, IsTree}
use Rattle.set_model.specs.Trees.Tree.{leaf, inner}
use Rattle.set_model.specs.Lawful.{IsLawful}
use Rattle.set_model.proofs.ObjectWords.{word}
use Rattle.tree_set.specs.declared.nodes.Node.{Node}
use Rattle.tree_set.specs.Nodes.{IsNodeAt, branch_words}
use Rattle.tree_set.specs.Walks.{IsDescending, IsDescent}
use Rattle.tree_set.proofs.Plugging.{stands_part}
use Rattle.tree_set.proofs.Walking.{IsStep, descending_start, children_fit, find_step, descent_found}

-- The root's words are zero but for its link.
pub root_words : (s : State) (root first : ℕ) → IsLawful s → 170 ≤ root → root < 180 → first ≡ link s root → first ≢ 0
    → (node : Node) → node.left ≡ first → branch_words root root node ≡ words_at s root
root_words s root first l lo lt e n node is = go (l.trees root lo lt).0 (l.trees root lo lt).1
  where
    go : (t : Option Tree) → IsTree s root t → branch_words root root node ≡ words_at s root
    go None q = absurd (n (e ∙ ap (word 3) q.0))
    go (Some t) q =
        ap (λ (b : Bool). if b then head_words node.left else inner_words root node.key node.left node.right node.value) (eq-eqb root root refl)
        ∙ ap head_words (is ∙ e ∙ ap (word 3) q.first) ∙ sym q.first

-- The search begins at the node to which the root leads.
pub first_descending : (s : State) (root k first : ℕ) → IsLawful s → 170 ≤ root → root < 180 → first ≡ link s root → first ≢ 0
    → IsDescending s root k root root first 0
first_descending s root k first l lo lt e n =
    subst (λ (o : ℕ). IsDescending s root k root root o 0) (sym e)
    (descending_start s root k (words_at s root) l lo lt refl (λ z. n (e ∙ z)))

-- a tree stands at no head
top_from : (s : State) (root : ℕ) (t : Tree) → Stands s root t → 180 ≤ top t
top_from s root (leaf n k v) q = q.0
top_from s root (inner n d a b) q = q.0

module _ (s : State) (root k grand parent object right : ℕ) (node : Node) (d : IsDescending s root k grand parent object right)
    (is : IsNodeAt s object node) where
  -- an object with a left child is an inner node
  pub inner_here : node.left ≢ 0 → kind s object ≡ 2
  inner_here n = go d.part (stands_part s root d.path d.part d.grown.stands) d.here
    where
      go : (t : Tree) → Stands s root t → object ≡ top t → kind s object ≡ 2
      go (leaf m j v) q h = absurd (n (is.left_is ∙ ap (link s) h ∙ ap (word 3) q.2))
      go (inner m c a b) q h = ap (kind s) h ∙ ap (word 1) q.2

  -- whose words are these
  pub inner_words_here : root < 180 → node.left ≢ 0 → branch_words root object node ≡ words_at s object
  inner_words_here lt n = go d.part (stands_part s root d.path d.part d.grown.stands) d.here
    where
      go : (t : Tree) → Stands s root t → object ≡ top t → branch_words root object node ≡ words_at s object
      go (leaf m j v) q h = absurd (n (is.left_is ∙ ap (link s) h ∙ ap (word 3) q.2))
      go (inner m c a b) q h =
          let low : 180 ≤ m = q.0 in
          let ne : object ≢ root = omega arith in
          let key_is : node.key ≡ c = is.key_is ∙ ap (key s) h ∙ ap (word 2) q.2 in
          let left_is : node.left ≡ top a = is.left_is ∙ ap (link s) h ∙ ap (word 3) q.2 in
          let right_is : node.right ≡ top b = is.right_is ∙ ap (right_link s) h ∙ ap (word 4) q.2 in
          let rank_is : node.value ≡ rank s m = is.value_is ∙ ap (rank s) h in
          ap (λ (x : Bool). if x then head_words node.left else inner_words root node.key node.left node.right node.value) (ne_eqb object root ne)
          ∙ ap (λ (x : ℕ). inner_words root x node.left node.right node.value) key_is ∙ ap (λ (x : ℕ). inner_words root c x node.right node.value) left_is
          ∙ ap (λ (x : ℕ). inner_words root c (top a) x node.value) right_is ∙ ap (λ (x : ℕ). inner_words root c (top a) (top b) x) rank_is
          ∙ sym (ap (words_at s) h ∙ q.2)

  -- and one without is a leaf, with these
  pub leaf_words_here : node.left ≡ 0 → leaf_words root node.key node.value ≡ words_at s object
  leaf_words_here z = go d.part (stands_part s root d.path d.part d.grown.stands) d.here
    where
      go : (t : Tree) → Stands s root t → object ≡ top t → leaf_words root node.key node.value ≡ words_at s object
      go (inner m c a b) q h =
          let low : 180 ≤ top a = top_from s root a q.3 in
          let left_is : node.left ≡ top a = is.left_is ∙ ap (link s) h ∙ ap (word 3) q.2 in absurd (omega arith)
      go (leaf m j v) q h =
          let key_is : node.key ≡ j = is.key_is ∙ ap (key s) h ∙ ap (word 2) q.2 in
          let value_is : node.value ≡ v = is.value_is ∙ ap (value s) h ∙ ap (word 5) q.2 in
          ap (λ (x : ℕ). leaf_words root x node.value) key_is ∙ ap (λ (x : ℕ). leaf_words root j x) value_is ∙ sym (ap (words_at s) h ∙ q.2)

  -- both children are objects
  pub links_fit : IsLawful s → node.left ≢ 0 → (node.left < 2 ^ 32) × (node.right < 2 ^ 32)
  links_fit l n =
      let fit = children_fit s root k grand parent object right (words_at s object) d refl l (inner_here n) in
      (subst (λ (x : ℕ). x < 2 ^ 32) (sym is.left_is) fit.0, subst (λ (x : ℕ). x < 2 ^ 32) (sym is.right_is) fit.1)

  -- the step that the code takes
  pub node_step : (next next_right : ℕ) → node.left ≢ 0 → ((k < node.key) × (next ≡ node.left) × (next_right ≡ node.right))
      ⊎ ((node.key ≤ k) × (next ≡ node.right) × (next_right ≡ right)) → IsStep s root k parent object next next_right object
  node_step next next_right n (inl (lt, p, q)) =
      find_step s root k grand parent object right next next_right (words_at s object) d refl (inner_here n)
      (inl (subst (λ (x : ℕ). k < x) is.key_is lt, p ∙ is.left_is, q ∙ is.right_is))
  node_step next next_right n (inr (le, p, q)) =
      find_step s root k grand parent object right next next_right (words_at s object) d refl (inner_here n)
      (inr (subst (λ (x : ℕ). x ≤ k) is.key_is le, p ∙ is.right_is, q))

  -- and the leaf at which it ends
  pub node_found : (words : List ℕ) → words ≡ leaf_words root node.key node.value → node.left ≡ 0 → IsDescent s root k grand parent object right words
  node_found words e z =
      let one : word 1 words ≡ 1 = ap (word 1) e in
      descent_found s root k grand parent object right words d (e ∙ leaf_words_here z) (λ two. absurd (omega arith))

-- The same node by another state.
pub node_at : (s t : State) (object : ℕ) (node : Node) → IsNodeAt t object node → t ≡ s → IsNodeAt s object node
node_at s t object node is e = subst (λ (u : State). IsNodeAt u object node) e is
