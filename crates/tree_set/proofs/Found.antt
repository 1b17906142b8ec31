-- The places that a search found.
use Rattle.std.proofs.Common.{◌≡◌, ◌≢◌, ℕ, suc, ◌+◌, ◌<◌, ◌≤◌, inl, inr, false, cond, eqb, set, List, [], ◌∷◌, sym, ap, ◌∙◌, subst}
use Rattle.std.proofs.Common.{arith, Some, None}
use Rattle.mv_history.specs.State.{State}
use Rattle.mv_history.specs.Meaning.{words_at}
use Rattle.set_model.specs.Catalogue.{map_of, has_key, value_of}
use Rattle.set_model.specs.CatalogueOf.{name_of, catalogue_of}
use Rattle.set_model.specs.Objects.{owner, key, link, leaf_words}
use Rattle.set_model.specs.Trees.{Tree, top, Stands, HoldsTree}
use Rattle.set_model.specs.Trees.Tree.{leaf}
use Rattle.set_model.specs.TreeLaws.{top_is_node}
use Rattle.set_model.specs.Lawful.{IsLawful}
use Rattle.set_model.proofs.ObjectWords.{word}
use Rattle.list_set.specs.Places.{put_writes}
use Rattle.tree_set.specs.Paths.{Path, plug, node_of, parent_of, grand_of}
use Rattle.tree_set.specs.Places.{IsInner, IsLeaf, IsParent, redirect, inner_over, tree_add_writes, IsGrowPlace, grow_writes, IsBarePlace}
use Rattle.tree_set.specs.Places.{IsCutPlace}
use Rattle.tree_set.specs.Walks.{IsDescent}
use Rattle.tree_set.proofs.Plugging.{stands_part, seek_plug}
use Rattle.tree_set.proofs.Replacing.{parent_leads}
use Rattle.tree_set.proofs.Turns.{last_turn, plug_last, parent_last, grand_last, top_turn}
use Rattle.tree_set.proofs.Descents.{descent_has, descent_value, no_keys}
use Rattle.tree_set.proofs.Ends.{no_tree}

module _ (s : State) (root k g p l r : ℕ) (words : List ℕ) (f : IsDescent s root k g p l r words) where
  stood : Stands s root (leaf l f.key f.value)
  stood = stands_part s root f.path (leaf l f.key f.value) f.grown.stands

  words_here : words ≡ words_at s l
  words_here = f.words_are ∙ sym stood.2

  above : IsParent s root p l
  above =
      subst (λ (o : ℕ). IsParent s root o l) (sym f.parent_is) (parent_leads s root f.path (leaf l f.key f.value) f.grown)

  is_leaf : word 2 words ≡ k → IsLeaf s root k l
  is_leaf e = (stood.0, ap (word 0) stood.2, ap (word 1) stood.2, sym (ap (word 2) words_here) ∙ e)

  grow_place : word 2 words ≢ k → IsGrowPlace s root k p l
  grow_place n = record {
    above = above;
    ends = (plug f.path (leaf l f.key f.value), f.grown, seek_plug k f.path (leaf l f.key f.value) f.follows);
    other = λ e. n (ap (word 2) words_here ∙ e);
  }

  bare_place : word 2 words ≡ k → p ≡ root → IsBarePlace s root k l
  bare_place e q = record {
    first = elim above [ inl a ↦ a.1 | inr a ↦ not_root a.0 ];
    is_leaf = is_leaf e;
  }
    where
      not_root : IsInner s root p → link s root ≡ l
      not_root i = absurd (root_owner (i.1) (ap (owner s) q))
        where
          root_owner : owner s p ≡ suc root → owner s p ≡ owner s root → ⊥
          root_owner x y =
              let z : owner s root ≡ 0 = ap (word 0) f.grown.first in omega arith

  -- where the parent isn't the root, it is an inner node under the grandparent
  cut_place : word 2 words ≡ k → p ≢ root → IsCutPlace s root k g p l
  cut_place e n = elim above [
    | inl a ↦ absurd (n a.0)
    | inr a ↦ record { above = grand f.path f.grown f.parent_is f.grand_is; is_inner = a.0; child = a.1; is_leaf = is_leaf e }
  ]
    where
      grand : (ps : Path) → HoldsTree s root (plug ps (leaf l f.key f.value)) → p ≡ parent_of root ps → g ≡ grand_of root root ps → IsParent s root g p
      grand [] w a b = absurd (n a)
      grand (t ∷ ps) w a b =
          let q = last_turn t ps in
          let whole : HoldsTree s root (plug q.0 (plug (q.1 ∷ []) (leaf l f.key f.value))) =
          subst (λ (u : Tree). HoldsTree s root u) (ap (λ (u : Path). plug u (leaf l f.key f.value)) q.2 ∙ plug_last q.0 q.1 (leaf l f.key f.value)) w in
          let gp : g ≡ parent_of root q.0 = b ∙ ap (grand_of root root) q.2 ∙ grand_last root root q.0 q.1 in
          let pp : p ≡ node_of q.1 = a ∙ ap (parent_of root) q.2 ∙ parent_last root q.0 q.1 in
          subst (λ (o : ℕ). IsParent s root o p) (sym gp)
          (subst (λ (o : ℕ). IsParent s root (parent_of root q.0) o) (top_turn q.1 (leaf l f.key f.value) ∙ sym pp)
          (parent_leads s root q.0 (plug (q.1 ∷ []) (leaf l f.key f.value)) whole))

-- The same in the state of a section, which its view has.
module _ (s t : State) (root k g p l r : ℕ) (words : List ℕ) (same : s ≡ t) (f : IsDescent s root k g p l r words) where
  there : IsDescent t root k g p l r words
  there = subst (λ (u : State). IsDescent u root k g p l r words) same f

  pub found_some : link t root ≢ 0
  found_some e =
      let x : IsDescent t root k g p l r words = there in
      let first : link t root ≡ top (plug x.path (leaf l x.key x.value)) = ap (word 3) x.grown.first in
      let node : 180 ≤ top (plug x.path (leaf l x.key x.value)) = top_is_node t root (plug x.path (leaf l x.key x.value)) x.grown.stands in omega arith

  pub found_words : words ≡ words_at t l
  found_words = words_here t root k g p l r words there

  pub found_leaf : word 2 words ≡ k → IsLeaf t root k l
  found_leaf = is_leaf t root k g p l r words there

  pub found_grow : word 2 words ≢ k → IsGrowPlace t root k p l
  found_grow = grow_place t root k g p l r words there

  pub found_bare : word 2 words ≡ k → p ≡ root → IsBarePlace t root k l
  found_bare = bare_place t root k g p l r words there

  pub found_cut : word 2 words ≡ k → p ≢ root → IsCutPlace t root k g p l
  found_cut = cut_place t root k g p l r words there

  pub found_has : IsLawful t → 170 ≤ root → root < 180 → has_key k (map_of (name_of root) (catalogue_of t)) ≡ eqb (word 2 words) k
  found_has l lo lt = descent_has t root k g p _ r words l lo lt there

  pub found_value : IsLawful t → 170 ≤ root → root < 180 →
      value_of k (map_of (name_of root) (catalogue_of t)) ≡ cond (eqb (word 2 words) k) (Some (word 5 words)) None
  found_value l lo lt = descent_value t root k g p _ r words l lo lt there

pub found_none : (s t : State) (root k : ℕ) → s ≡ t → link s root ≡ 0 → IsLawful t → 170 ≤ root → root < 180 →
    has_key k (map_of (name_of root) (catalogue_of t)) ≡ false
found_none s t root k same e l lo lt =
    ap (has_key k) (no_keys t root l lo lt (ap (λ (u : State). link u root) (sym same) ∙ e))

pub found_empty : (s t : State) (root : ℕ) → s ≡ t → link s root ≡ 0 → link t root ≡ 0
found_empty s t root same e = ap (λ (u : State). link u root) (sym same) ∙ e

-- The words that the code makes are those of the places.
pub tree_add_made : (s : State) (root k v m : ℕ) → IsLawful s → 170 ≤ root → root < 180 → link s root ≡ 0 →
    ((root, 0 ∷ 0 ∷ 0 ∷ m ∷ 0 ∷ 0 ∷ []) ∷ (m, (root + 1) ∷ 1 ∷ k ∷ 0 ∷ 0 ∷ v ∷ []) ∷ []) ≡ tree_add_writes s root k v m
tree_add_made s root k v m l lo lt e =
    let q = (no_tree s root l lo lt e).0 in let one : root + 1 ≡ suc root = omega arith in cc

pub grow_made : (s : State) (root k v p l m w : ℕ) (words parent_words inner_words_made read : List ℕ) → words ≡ words_at s l → read ≡ words_at s p →
    parent_words ≡ redirect read l w → inner_words_made ≡ inner_over root k m (word 2 words) l →
    ((p, parent_words) ∷ (l, words) ∷ (m, (root + 1) ∷ 1 ∷ k ∷ 0 ∷ 0 ∷ v ∷ []) ∷ (w, inner_words_made) ∷ []) ≡ grow_writes s root k v p l m w
grow_made s root k v p l m w words parent_words inner_words_made read a b c d =
    let one : root + 1 ≡ suc root = omega arith in
    let leaf_is : (root + 1) ∷ 1 ∷ k ∷ 0 ∷ 0 ∷ v ∷ [] ≡ leaf_words root k v = ap (λ (n : ℕ). n ∷ 1 ∷ k ∷ 0 ∷ 0 ∷ v ∷ []) one in
    let parent_is : parent_words ≡ redirect (words_at s p) l w = c ∙ ap (λ (u : List ℕ). redirect u l w) b in
    let inner_is : inner_words_made ≡ inner_over root k m (key s l) l = d ∙ ap (λ (u : List ℕ). inner_over root k m (word 2 u) l) a in cc

pub put_made : (s : State) (l v : ℕ) (words : List ℕ) → words ≡ words_at s l → ((l, set words 5 v) ∷ []) ≡ put_writes s l v
put_made s l v words e = cc
