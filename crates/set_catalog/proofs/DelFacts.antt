-- What a del leaves vacant, and what it leaves as it was.
use Rattle.std.proofs.Common.{◌≡◌, ◌≢◌, ℕ, suc, ◌<◌, ◌≤◌, inl, inr, true, false, ◌==◌, if◌then◌else◌, List, []}
use Rattle.std.proofs.Common.{◌∷◌, length, set, refl, sym, ap, ◌∙◌, subst, arith, length-set, get_or-set_same, get_or-set_other}
use Rattle.std.proofs.lemmas.Bool.Decides.{nat_tests}
use Rattle.mv_history.specs.State.{State, Writes, written, touches}
use Rattle.mv_history.specs.Meaning.{words_at}
use Rattle.mv_history.proofs.Writing.{length-written}
use Rattle.set_model.specs.Catalogue.{map_of}
use Rattle.set_model.specs.CatalogueOf.{catalogue_of}
use Rattle.set_model.specs.Objects.{first_node, owner, kind, link, no_words, relink}
use Rattle.set_model.specs.Lawful.{IsLawful}
use Rattle.section_work.specs.OwnWrites.{objects_of}
use Rattle.set_model.proofs.ObjectWords.{word, owned_in_range}
use Rattle.set_model.proofs.TreeMaps.{map_of-tree}
use Rattle.section_work.proofs.Objects.{IsIn, touches-out, touches-in}
use Rattle.set_model.proofs.Ways.{IsAt}
use Rattle.hash_set.specs.list_set.Places.{IsDelPlace, del_writes}
use Rattle.hash_set.proofs.list_set_lemmas.Removing.{Removal, removal}
use Rattle.tree_balance.specs.tree_set.Places.{IsParent, IsBarePlace, IsCutPlace, bare_writes, tree_del_writes, redirect, sibling}
use Rattle.tree_balance.proofs.tree_set_lemmas.Ends.{bare_tree}
use Rattle.set_catalog.specs.Needs.{first_tree, freed}
use Rattle.set_catalog.specs.Picks.{IsVacant}
use Rattle.set_catalog.specs.Plans.{head_of, DelPlan}
use Rattle.set_catalog.specs.Plans.DelPlan.{unlinks, bares, cuts}
use Rattle.set_catalog.proofs.HeadNames.{low_head, root_from, root_below, head_named, head_below}

-- what the del of a key leaves
pub record Left (s : State) (name k node inner : ℕ) (ws : Writes) : Type 0 where
  pub node_vacant : IsVacant (written s ws) node
  pub node_used : IsVacant s node → ⊥
  pub node_held : touches ws node ≡ true
  pub inner_vacant : inner ≢ 0 → IsVacant (written s ws) inner × (inner ≢ node) × (touches ws inner ≡ true)
  pub count : length ws ≡ (if inner == 0 then 2 else 3)
  pub frees : inner ≡ 0 → freed name (map_of name (catalogue_of s)) ≡ 1
  pub others : (o : ℕ) → IsVacant s o → touches ws o ≡ false

-- a vacant object is not of any structure
not_at : (s : State) (head o x : ℕ) → head < 180 → IsVacant s o → IsAt s head x → o ≢ x
not_at s head o x lt v (inl e) q = let l : first_node ≤ o = v.node in omega arith
not_at s head o x lt v (inr m) q =
    let z : owner s o ≡ 0 = v.free in let y : owner s o ≡ suc head = ap (owner s) q ∙ m.1 in omega arith

-- an object that becomes zero by the last of two writes
last_of_two : (s : State) (p o : ℕ) (w : List ℕ) → first_node ≤ o → o < length s → IsVacant (written s ((p, w) ∷ (o, no_words) ∷ [])) o
last_of_two s p o w g l = record {
  node = g;
  in_range = omega (arith, length-written s ((p, w) ∷ (o, no_words) ∷ []));
  free = ap (word 0) (get_or-set_same (set s p w) o no_words [] (omega (arith, length-set s p w)));
}

two_untouched : (ws : Writes) (o x y : ℕ) → objects_of ws ≡ x ∷ y ∷ [] → o ≢ x → o ≢ y → touches ws o ≡ false
two_untouched ws o x y e a b = touches-out ws o (λ i. go (subst (λ os. IsIn o os) e i))
  where
    go : IsIn o (x ∷ y ∷ []) → ⊥
    go (inl q) = a q
    go (inr (inl q)) = b q
    go (inr (inr q)) = absurd q

three_untouched : (ws : Writes) (o x y z : ℕ) → objects_of ws ≡ x ∷ y ∷ z ∷ [] → o ≢ x → o ≢ y → o ≢ z → touches ws o ≡ false
three_untouched ws o x y z e a b c = touches-out ws o (λ i. go (subst (λ os. IsIn o os) e i))
  where
    go : IsIn o (x ∷ y ∷ z ∷ []) → ⊥
    go (inl q) = a q
    go (inr (inl q)) = b q
    go (inr (inr (inl q))) = c q
    go (inr (inr (inr q))) = absurd q

list_frees : (name : ℕ) (s : State) → name < first_tree → freed name (map_of name (catalogue_of s)) ≡ 1
list_frees name s l = grind (arith, nat_tests)

list_left : (s : State) (name k previous node : ℕ) → IsLawful s → name < 30 → name < first_tree → IsDelPlace s (head_of name k) k previous node
    → Left s name k node 0 (del_writes s previous node)
list_left s name k previous node l lt low place =
    let h : ℕ = head_of name k in
    let m : Removal s (head_of name k) k previous node = removal s (head_of name k) k previous node l (low_head name k low) place in
    let below : head_of name k < 180 = head_below name k lt in
    let node_at : IsAt s (head_of name k) node = inr (m.node, m.own) in
    record {
      node_vacant = last_of_two s previous node (relink (words_at s previous) (link s node)) m.node m.node_in;
      node_used = λ v. not_at s (head_of name k) node node below v node_at refl;
      node_held = touches-in (del_writes s previous node) node (inr (inl refl));
      inner_vacant = λ n. absurd (n refl);
      count = refl;
      frees = λ e. list_frees name s low;
      others = λ o v. two_untouched (del_writes s previous node) o previous node refl (not_at s (head_of name k) o previous below v place.within)
          (not_at s (head_of name k) o node below v node_at);
    }

bare_left : (s : State) (name k node : ℕ) → IsLawful s → name < 30 → first_tree ≤ name → IsBarePlace s (head_of name k) k node
    → Left s name k node 0 (bare_writes s (head_of name k) node)
bare_left s name k node l lt high place =
    let root : ℕ = head_of name k in
    let from : 170 ≤ head_of name k = root_from name k high in
    let below : head_of name k < 180 = root_below name k high lt in
    let node_at : IsAt s (head_of name k) node = inr (place.is_leaf.0, place.is_leaf.1) in
    let here : node < length s = owned_in_range s node (head_of name k) place.is_leaf.1 in
    let alone = bare_tree s (head_of name k) k node l from below place in
    let one : length (map_of name (catalogue_of s)) ≡ 1 =
    ap (λ (n : ℕ). length (map_of n (catalogue_of s))) (sym (head_named name k lt)) ∙ ap length (map_of-tree s (head_of name k) _ from below alone) in
    record {
      node_vacant = last_of_two s (head_of name k) node (relink (words_at s (head_of name k)) 0) place.is_leaf.0 here;
      node_used = λ v. not_at s (head_of name k) node node below v node_at refl;
      node_held = touches-in (bare_writes s (head_of name k) node) node (inr (inl refl));
      inner_vacant = λ n. absurd (n refl);
      count = refl;
      frees = λ e. grind (arith, nat_tests);
      others = λ o v. two_untouched (bare_writes s (head_of name k) node) o (head_of name k) node refl
          (not_at s (head_of name k) o (head_of name k) below v (inl refl)) (not_at s (head_of name k) o node below v node_at);
    }

parent_at : (s : State) (root parent node : ℕ) → IsParent s root parent node → IsAt s root parent
parent_at s root parent node (inl p) = inl p.0
parent_at s root parent node (inr p) = inr (p.0.0, p.0.1)

cut_left : (s : State) (name k grand inner node : ℕ) → IsLawful s → name < 30 → first_tree ≤ name → IsCutPlace s (head_of name k) k grand inner node
    → Left s name k node inner (tree_del_writes s grand inner node)
cut_left s name k grand inner node l lt high place =
    let below : head_of name k < 180 = root_below name k high lt in
    let node_at : IsAt s (head_of name k) node = inr (place.is_leaf.0, place.is_leaf.1) in
    let inner_at : IsAt s (head_of name k) inner = inr (place.is_inner.0, place.is_inner.1) in
    let grand_at : IsAt s (head_of name k) grand = parent_at s (head_of name k) grand inner place.above in
    let here : node < length s = owned_in_range s node (head_of name k) place.is_leaf.1 in
    let there : inner < length s = owned_in_range s inner (head_of name k) place.is_inner.1 in
    let leaf_kind : kind s node ≡ 1 = place.is_leaf.2 in
    let inner_kind : kind s inner ≡ 2 = place.is_inner.2 in
    let apart : inner ≢ node = λ e. (let q : kind s inner ≡ kind s node = ap (kind s) e in omega arith) in
    let some : first_node ≤ inner = place.is_inner.0 in
    let first : List ℕ = redirect (words_at s grand) inner (sibling s inner node) in
    let s1 : State = set s grand (redirect (words_at s grand) inner (sibling s inner node)) in
    let zero_inner : words_at (written s (tree_del_writes s grand inner node)) inner ≡ no_words =
    get_or-set_other (set s1 inner no_words) node inner no_words [] apart
    ∙ get_or-set_same s1 inner no_words [] (omega (arith, length-set s grand (redirect (words_at s grand) inner (sibling s inner node)))) in
    record {
      node_vacant =
          last_of_two s1 inner node no_words place.is_leaf.0 (omega (arith, length-set s grand (redirect (words_at s grand) inner (sibling s inner node))));
      node_used = λ v. not_at s (head_of name k) node node below v node_at refl;
      node_held = touches-in (tree_del_writes s grand inner node) node (inr (inr (inl refl)));
      inner_vacant = λ n. (
        record { node = some; in_range = omega (arith, length-written s (tree_del_writes s grand inner node)); free = ap (word 0) zero_inner },
        apart,
        touches-in (tree_del_writes s grand inner node) inner (inr (inl refl)),
      );
      count = three inner 3 refl (omega arith);
      frees = λ e. absurd (omega arith);
      others = λ o v. three_untouched (tree_del_writes s grand inner node) o grand inner node refl (not_at s (head_of name k) o grand below v grand_at)
          (not_at s (head_of name k) o inner below v inner_at) (not_at s (head_of name k) o node below v node_at);
    }
  where
    three : (n m : ℕ) → m ≡ 3 → n ≢ 0 → m ≡ (if n == 0 then 2 else 3)
    three n m e h = grind (arith, nat_tests)

pub del_left : (s : State) (name k node inner : ℕ) (ws : Writes) → IsLawful s → name < 30 → DelPlan s name k node inner ws → Left s name k node inner ws
del_left s name k node inner ws l lt (unlinks previous low place) = list_left s name k previous node l lt low place
del_left s name k node inner ws l lt (bares high place) = bare_left s name k node l lt high place
del_left s name k node inner ws l lt (cuts grand parent high place) = cut_left s name k grand parent node l lt high place
