-- What a search found tells whether the key is there.
use Rattle.std.proofs.lemmas.Bool.Decides.{nat_tests}
use Rattle.list_set.proofs.Windows.{add_found, del_found}
use Rattle.set_catalog.specs.Needs.{first_tree}
use Rattle.std.proofs.Common.{◌≡◌, ◌≢◌, ◌<◌, ◌≤◌, ◌&&◌, ◌∷◌, ℕ, Bool, true, false, not, eqb, List, [], Some, refl, sym, ap, ap₂, ◌∙◌, subst, arith, inl, inr}
use Rattle.set_blocks.proofs.Terms.{cases_lt, State, words_at, word, IsWindow, add_writes, del_writes, IsDescent, found_leaf, found_grow, found_words, head_of}
use Rattle.set_blocks.proofs.Terms.{low_head, root_from, TellsAt, ValueAt, in_node, in_leaf, before_gap, other_leaf, before_node, own_leaf, Writes, merged}
use Rattle.set_blocks.proofs.Terms.{link, holding, no_tree}
use Rattle.set_blocks.specs.Holds.{HoldsKey, HoldsValue}

-- a search in a list
pub list_tells : (s : State) (name k p : ℕ) (words : List ℕ) (node : ℕ) (node_words : List ℕ) (b : Bool) → name < first_tree
    → IsWindow s (head_of name k) k p words node node_words → b ≡ (not (eqb node 0) && eqb (word 2 node_words) k) → TellsAt s name k b (p ∷ [])
list_tells s name k p words node node_words true low i is =
    before_node p node low
    (del_found s s (head_of name k) k p words node node_words true refl i is refl (del_writes s p node) (λ n. refl)).0
list_tells s name k p words node node_words false low i is =
    before_gap p low
    (add_found s s (head_of name k) k p words node node_words false refl i is refl 0 0 (add_writes s (head_of name k) k 0 p 0) refl).0

-- a search in a tree that is not empty
pub tree_tells : (s : State) (name k g p l r : ℕ) (words : List ℕ) (b : Bool) → first_tree ≤ name → IsDescent s (head_of name k) k g p l r words
    → b ≡ eqb (word 2 words) k → TellsAt s name k b (l ∷ [])
tree_tells s name k g p l r words true high f is =
    let e : word 2 words ≡ k = grind (arith, nat_tests) in
    own_leaf l high (found_leaf s s (head_of name k) k g p l r words refl f e)
tree_tells s name k g p l r words false high f is =
    let e : word 2 words ≢ k = grind (arith, nat_tests) in
    let place = found_grow s s (head_of name k) k g p l r words refl f e in
    other_leaf l high place.ends place.other

-- whose set has its keys under a head of lists
pub is_low : (name k : ℕ) → head_of name k < 170 → name < first_tree
is_low name k lt = elim (cases_lt name 20) [ inl low ↦ low | inr high ↦ (let ge = root_from name k high in absurd (omega arith)) ]

pub is_high : (name k : ℕ) → 170 ≤ head_of name k → first_tree ≤ name
is_high name k ge = elim (cases_lt name 20) [ inr high ↦ high | inl low ↦ (let lt = low_head name k low in absurd (omega arith)) ]

-- where the key is there, with its value
pub list_value : (s : State) (name k p : ℕ) (words : List ℕ) (node : ℕ) (node_words : List ℕ) → name < first_tree
    → IsWindow s (head_of name k) k p words node node_words → true ≡ (not (eqb node 0) && eqb (word 2 node_words) k)
    → ValueAt s name k (word 5 node_words) (p ∷ node ∷ []) × (node_words ≡ words_at s node)
list_value s name k p words node node_words low i is =
    let place = (del_found s s (head_of name k) k p words node node_words true refl i is refl (del_writes s p node) (λ n. refl)).0 in
    let same : node_words ≡ words_at s node = elim i.found [ inl z ↦ absurd (place.some z) | inr f ↦ f.words_are ] in
    (in_node p node low place (sym (ap (word 5) same)), same)

pub tree_value : (s : State) (name k g p l r : ℕ) (words : List ℕ) → first_tree ≤ name → IsDescent s (head_of name k) k g p l r words
    → true ≡ eqb (word 2 words) k → ValueAt s name k (word 5 words) (l ∷ [])
tree_value s name k g p l r words high f is =
    let e : word 2 words ≡ k = grind (arith, nat_tests) in
    in_leaf l high (found_leaf s s (head_of name k) k g p l r words refl f e)
    (sym (ap (word 5) (found_words s s (head_of name k) k g p l r words refl f)))

-- What was found under a head for a key and is held as it was, over what was planned: the search planned nothing.
module _ (z : State) (own mid new : Writes) (name k head : ℕ) (is : head ≡ head_of name k) (as_before : mid ≡ own) where
  -- one object with its words
  one_held : (o : ℕ) (words : List ℕ) → words ≡ words_at z o → new ≡ merged mid ((o, words) ∷ []) → new ≡ merged own (holding z (o ∷ []))
  one_held o words words_are writes =
      writes ∙ ap (λ (ws : Writes). merged ws ((o, words) ∷ [])) as_before ∙ ap (λ (w : List ℕ). merged own ((o, w) ∷ [])) words_are

  module _ (low : head < 170) (p : ℕ) (words : List ℕ) (node : ℕ) (node_words : List ℕ) (found : IsWindow z head k p words node node_words) where
    window : IsWindow z (head_of name k) k p words node node_words
    window = subst (λ (h : ℕ). IsWindow z h k p words node node_words) is found

    -- the object ahead of a key in a list, or of where it would be
    pub list_held : (b : Bool) → b ≡ (not (eqb node 0) && eqb (word 2 node_words) k) → new ≡ merged mid ((p, words) ∷ []) → HoldsKey z name k b own new
    list_held b has writes = (
      p ∷ [],
      list_tells z name k p words node node_words b (is_low name k (omega (arith, is, low))) window has,
      one_held p words window.words_are writes,
    )

    -- and the node of the key with it
    pub node_held : true ≡ (not (eqb node 0) && eqb (word 2 node_words) k) → new ≡ merged mid ((p, words) ∷ (node, node_words) ∷ [])
        → HoldsValue z name k (Some (word 5 node_words)) own new
    node_held has writes =
        let told = list_value z name k p words node node_words (is_low name k (omega (arith, is, low))) window has in (
          p ∷ node ∷ [],
          told.0,
          writes ∙ ap (λ (ws : Writes). merged ws ((p, words) ∷ (node, node_words) ∷ [])) as_before
              ∙ ap₂ (λ (v : List ℕ) (w : List ℕ). merged own ((p, v) ∷ (node, w) ∷ [])) window.words_are told.1,
        )

  -- the root of an empty tree
  pub root_held : 170 ≤ head → (words : List ℕ) → link z head ≡ 0 → words ≡ words_at z head → new ≡ merged mid ((head, words) ∷ [])
      → HoldsKey z name k false own new
  root_held high words empty words_are writes = (
    head_of name k ∷ [],
    no_tree (is_high name k (omega (arith, is, high))) (ap (link z) (sym is) ∙ empty),
    one_held head words words_are writes ∙ ap (λ (h : ℕ). merged own ((h, words_at z h) ∷ [])) is,
  )

  module _ (high : 170 ≤ head) (g p l r : ℕ) (words : List ℕ) (found : IsDescent z head k g p l r words) where
    descent : IsDescent z (head_of name k) k g p l r words
    descent = subst (λ (h : ℕ). IsDescent z h k g p l r words) is found

    leaf_words : words ≡ words_at z l
    leaf_words = found_words z z (head_of name k) k g p l r words refl descent

    -- the leaf at which the search of a tree ends
    pub leaf_held : (b : Bool) → b ≡ eqb (word 2 words) k → new ≡ merged mid ((l, words) ∷ []) → HoldsKey z name k b own new
    leaf_held b has writes =
        (l ∷ [], tree_tells z name k g p l r words b (is_high name k (omega (arith, is, high))) descent has, one_held l words leaf_words writes)

    pub entry_held : true ≡ eqb (word 2 words) k → new ≡ merged mid ((l, words) ∷ []) → HoldsValue z name k (Some (word 5 words)) own new
    entry_held has writes =
        (l ∷ [], tree_value z name k g p l r words (is_high name k (omega (arith, is, high))) descent has, one_held l words leaf_words writes)
