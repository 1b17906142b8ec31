-- A change that stays within one head's objects and vacant ones leaves the lists and trees of all other heads.
use Rattle.std.proofs.Common.{◌≡◌, ◌≢◌, ℕ, suc, ◌<◌, ◌≤◌, ◌⊎◌, inl, inr, length, sym, ap, ◌∙◌, subst, arith, Option, Some, None}
use Rattle.std.proofs.lemmas.Bool.{cases_eq}
use Rattle.mv_history.specs.State.{State}
use Rattle.mv_history.specs.Meaning.{words_at}
use Rattle.set_model.specs.Objects.{owner, most_objects}
use Rattle.set_model.specs.Lists.{Nodes, IsList}
use Rattle.set_model.specs.Trees.{Tree, top, Stands, HoldsTree, IsTree, EndsAt}
use Rattle.set_model.specs.Trees.Tree.{leaf, inner}
use Rattle.set_model.specs.Lawful.{IsLawful}
use Rattle.set_model.proofs.ObjectWords.{word, inner_kept}
use Rattle.set_model.proofs.Chains.{Links-kept, Links-owner, Links-node}

-- vacant, or owned by the head
abbrev pub IsOf : State → ℕ → ℕ → Type 0
IsOf s head o = (owner s o ≡ 0) ⊎ (owner s o ≡ suc head)

-- where something changes is the head itself, or a node that is vacant or the head's before and after
abbrev pub IsWithin : State → State → ℕ → Type 0
IsWithin s s' head = (o : ℕ) → (words_at s' o ≡ words_at s o) ⊎ ((o ≡ head) ⊎ ((180 ≤ o) × IsOf s head o × IsOf s' head o))

not_of : (s : State) (head g o : ℕ) → g ≢ head → owner s o ≡ suc g → IsOf s head o → ⊥
not_of s head g o n e (inl z) = cc
not_of s head g o n e (inr z) = n (let q : suc g ≡ suc head = sym e ∙ z in omega arith)

pub same_head : (s s' : State) (head g : ℕ) → IsWithin s s' head → g ≢ head → g < 180 → words_at s' g ≡ words_at s g
same_head s s' head g w n lg = go (w g)
  where
    go : (words_at s' g ≡ words_at s g) ⊎ ((g ≡ head) ⊎ ((180 ≤ g) × IsOf s head g × IsOf s' head g)) → words_at s' g ≡ words_at s g
    go (inl e) = e
    go (inr (inl e)) = absurd (n e)
    go (inr (inr e)) = let a : 180 ≤ g = e.0 in absurd (omega arith)

pub same_owned : (s s' : State) (head g : ℕ) → head < 180 → IsWithin s s' head → g ≢ head → (o : ℕ) → 180 ≤ o → owner s o ≡ suc g → words_at s' o ≡ words_at s o
same_owned s s' head g lh w n o lo e = go (w o)
  where
    go : (words_at s' o ≡ words_at s o) ⊎ ((o ≡ head) ⊎ ((180 ≤ o) × IsOf s head o × IsOf s' head o)) → words_at s' o ≡ words_at s o
    go (inl q) = q
    go (inr (inl q)) = absurd (omega arith)
    go (inr (inr q)) = absurd (not_of s head g o n e q.1)

pub owned_before : (s s' : State) (head g : ℕ) → head < 180 → IsWithin s s' head → g ≢ head → (o : ℕ) → 180 ≤ o → owner s' o ≡ suc g → owner s o ≡ suc g
owned_before s s' head g lh w n o lo e = go (w o)
  where
    go : (words_at s' o ≡ words_at s o) ⊎ ((o ≡ head) ⊎ ((180 ≤ o) × IsOf s head o × IsOf s' head o)) → owner s o ≡ suc g
    go (inl q) = ap (word 0) (sym q) ∙ e
    go (inr (inl q)) = absurd (omega arith)
    go (inr (inr q)) = absurd (not_of s' head g o n e q.2)

pub list_stays : (s s' : State) (head g : ℕ) (ns : Nodes) → head < 180 → IsWithin s s' head → g ≢ head → g < 180 → IsList s g ns → IsList s' g ns
list_stays s s' head g ns lh w n lg l = record {
  first = same_head s s' head g w n lg ∙ l.first;
  links = Links-kept s s' g ns l.links (λ o i. same_owned s s' head g lh w n o (Links-node s g ns l.links o i) (Links-owner s g ns l.links o i));
  rising = l.rising;
  only = λ o lo e. l.only o lo (owned_before s s' head g lh w n o lo e);
}

pub Stands-kept : (s s' : State) (root : ℕ) (t : Tree) → Stands s root t → ((o : ℕ) → 180 ≤ o → owner s o ≡ suc root → words_at s' o ≡ words_at s o)
    → Stands s' root t
Stands-kept s s' root (leaf n k v) l f = (l.0, l.1, f n l.0 (ap (word 0) l.2) ∙ l.2)
Stands-kept s s' root (inner n d a b) l f =
    (l.0, l.1, inner_kept s s' root d (top a) (top b) n (f n l.0 (ap (word 0) l.2)) l.2, Stands-kept s s' root a l.3 f, Stands-kept s s' root b l.4 f)

pub grown_stays : (s s' : State) (head g : ℕ) (t : Tree) → head < 180 → IsWithin s s' head → g ≢ head → g < 180 → HoldsTree s g t → HoldsTree s' g t
grown_stays s s' head g t lh w n lg l = record {
  first = same_head s s' head g w n lg ∙ l.first;
  stands = Stands-kept s s' g t l.stands (λ o lo e. same_owned s s' head g lh w n o lo e);
  ordered = l.ordered;
  distinct = l.distinct;
  only = λ o lo e. l.only o lo (owned_before s s' head g lh w n o lo e);
}

pub tree_stays : (s s' : State) (head g : ℕ) (t : Option Tree) → head < 180 → IsWithin s s' head → g ≢ head → g < 180 → IsTree s g t → IsTree s' g t
tree_stays s s' head g None lh w n lg l =
    (same_head s s' head g w n lg ∙ l.0, λ o lo e. l.1 o lo (owned_before s s' head g lh w n o lo e))
tree_stays s s' head g (Some t) lh w n lg l = grown_stays s s' head g t lh w n lg l

-- every search in another tree ends where it did
pub ends_stay : (s s' : State) (head g k l : ℕ) → head < 180 → IsWithin s s' head → g ≢ head → g < 180 → EndsAt s g k l → EndsAt s' g k l
ends_stay s s' head g k l lh w n lg e = (e.0, grown_stays s s' head g e.0 lh w n lg e.1, e.2)

owned_stays : (s s' : State) (head : ℕ) → head < 180 → IsWithin s s' head → ((o : ℕ) → 180 ≤ o → owner s o ≤ 180) → (o : ℕ) → 180 ≤ o → owner s' o ≤ 180
owned_stays s s' head lh w f o lo = go (w o)
  where
    go : (words_at s' o ≡ words_at s o) ⊎ ((o ≡ head) ⊎ ((180 ≤ o) × IsOf s head o × IsOf s' head o)) → owner s' o ≤ 180
    go (inl q) = let e : owner s' o ≡ owner s o = ap (word 0) q in let b : owner s o ≤ 180 = f o lo in omega arith
    go (inr (inl q)) = absurd (omega arith)
    go (inr (inr (_, _, inl z))) = omega arith
    go (inr (inr (_, _, inr z))) = omega arith

-- a change within the head of a list or a bucket, after which that list stands, keeps the state lawful
pub lawful_by_list : (s s' : State) (head : ℕ) (ns : Nodes) → head < 170 → length s' ≡ length s → IsWithin s s' head → IsLawful s
    → IsList s' head ns → IsLawful s'
lawful_by_list s s' head ns lh len w l new = record {
  some = subst (λ n. 180 < n) (sym len) l.some;
  few = subst (λ n. n ≤ most_objects) (sym len) l.few;
  lists = λ g lg. lists g lg (cases_eq g head);
  trees = λ g lo lt. ((l.trees g lo lt).0, tree_stays s s' head g (l.trees g lo lt).0 (omega arith) w (omega arith) lt (l.trees g lo lt).1);
  owned = owned_stays s s' head (omega arith) w l.owned;
}
  where
    lists : (g : ℕ) → g < 170 → (g ≡ head) ⊎ (g ≢ head) → (qs : Nodes) × IsList s' g qs
    lists g lg (inl e) = (ns, subst (λ (u : ℕ). IsList s' u ns) (sym e) new)
    lists g lg (inr n) = ((l.lists g lg).0, list_stays s s' head g (l.lists g lg).0 (omega arith) w n (omega arith) (l.lists g lg).1)

-- a change within a root, after which its tree stands, keeps the state lawful
pub lawful_by_tree : (s s' : State) (root : ℕ) (t : Option Tree) → 170 ≤ root → root < 180 → length s' ≡ length s → IsWithin s s' root → IsLawful s
    → IsTree s' root t → IsLawful s'
lawful_by_tree s s' root t lo lt len w l new = record {
  some = subst (λ n. 180 < n) (sym len) l.some;
  few = subst (λ n. n ≤ most_objects) (sym len) l.few;
  lists = λ g lg. ((l.lists g lg).0, list_stays s s' root g (l.lists g lg).0 lt w (omega arith) (omega arith) (l.lists g lg).1);
  trees = λ g g0 g1. trees g g0 g1 (cases_eq g root);
  owned = owned_stays s s' root lt w l.owned;
}
  where
    trees : (g : ℕ) → 170 ≤ g → g < 180 → (g ≡ root) ⊎ (g ≢ root) → (u : Option Tree) × IsTree s' g u
    trees g g0 g1 (inl e) = (t, subst (λ (u : ℕ). IsTree s' u t) (sym e) new)
    trees g g0 g1 (inr n) = ((l.trees g g0 g1).0, tree_stays s s' root g (l.trees g g0 g1).0 lt w n g1 (l.trees g g0 g1).1)
