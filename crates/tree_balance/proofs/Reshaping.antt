-- A part of a tree that is reshaped, and where it stands.
use Rattle.std.proofs.Common.{◌≡◌, ℕ, ◌<◌, ◌≤◌, ◌⊎◌, inl, inr, cond, ltb, [], ◌∷◌, ◌++◌, length, refl, sym, ap, ◌∙◌, arith, Some}
use Rattle.mv_history.specs.State.{State}
use Rattle.mv_history.specs.Meaning.{words_at}
use Rattle.set_model.specs.Catalogue.{Map}
use Rattle.set_model.specs.Trees.{Tree, top, objects_in, entries_in, HoldsTree, seek, EndsAt}
use Rattle.set_model.specs.TreeLaws.{grown_once}
use Rattle.set_model.specs.Trees.Tree.{leaf, inner}
use Rattle.set_model.specs.Lawful.{IsLawful}
use Rattle.set_model.proofs.ObjectWords.{word}
use Rattle.set_model.proofs.Frames.{IsWithin, lawful_by_tree}
use Rattle.set_model.proofs.Ways.{IsAt}
use Rattle.section_work.proofs.Objects.{IsIn, in_either}
use Rattle.tree_set.specs.Paths.{Path, plug}
use Rattle.tree_set.specs.Paths.PathStep.{left, right}
use Rattle.tree_set.proofs.Plugging.{IsWithin as IsBeside}
use Rattle.tree_balance.proofs.Shapes.{IsReshaped}

-- an object of a tree stands at the end of a path
pub path_of : (t : Tree) (o : ℕ) → IsIn o (objects_in t) → (ps : Path) × (u : Tree) × (t ≡ plug ps u) × (top u ≡ o)
path_of (leaf n k v) o (inl e) = ([], leaf n k v, refl, sym e)
path_of (leaf n k v) o (inr i) = absurd i
path_of (inner n d a b) o (inl e) = ([], inner n d a b, refl, sym e)
path_of (inner n d a b) o (inr i) = elim (in_either (objects_in a) (objects_in b) o i) [
  | inl j ↦ (let r = path_of a o j in (left n d b ∷ r.0, r.1, ap (λ (t : Tree). inner n d t b) r.2, r.3))
  | inr j ↦ (let r = path_of b o j in (right n d a ∷ r.0, r.1, ap (λ (t : Tree). inner n d a t) r.2, r.3))
]

-- what is the same of two parts is the same of the trees
pub beside_same : (ps : Path) (u v : Tree) → IsReshaped u v → IsBeside ps u → IsBeside ps v
beside_same [] u v r w = tt
beside_same (left n d b ∷ ps) u v r w = (r.below d w.0, beside_same ps u v r w.1)
beside_same (right n d a ∷ ps) u v r w = (r.from d w.0, beside_same ps u v r w.1)

pub seek_same : (k : ℕ) (ps : Path) (u v : Tree) → seek k v ≡ seek k u → seek k (plug ps v) ≡ seek k (plug ps u)
seek_same k [] u v e = e
seek_same k (left n d b ∷ ps) u v e = ap (λ (x : ℕ). cond (ltb k d) x (seek k b)) (seek_same k ps u v e)
seek_same k (right n d a ∷ ps) u v e = ap (λ (x : ℕ). cond (ltb k d) (seek k a) x) (seek_same k ps u v e)

pub entries_same : (ps : Path) (u v : Tree) → entries_in v ≡ entries_in u → entries_in (plug ps v) ≡ entries_in (plug ps u)
entries_same [] u v e = e
entries_same (left n d b ∷ ps) u v e = ap (λ (m : Map). m ++ entries_in b) (entries_same ps u v e)
entries_same (right n d a ∷ ps) u v e = ap (λ (m : Map). entries_in a ++ m) (entries_same ps u v e)

-- The tree of a root has the same entries afterwards, and each search ends where it did; only links and ranks of the tree's
-- objects changed.
pub record Rebalances (s s' : State) (root : ℕ) : Type 0 where
  pub tree : Tree
  pub next : Tree
  pub grown : HoldsTree s root tree
  pub grows : HoldsTree s' root next
  pub seeks : (k : ℕ) → seek k next ≡ seek k tree
  pub entries : entries_in next ≡ entries_in tree
  pub keeps : (o i : ℕ) → i < 3 → word i (words_at s' o) ≡ word i (words_at s o)
  pub within : (o : ℕ) → (words_at s' o ≡ words_at s o) ⊎ IsAt s root o
  pub len : length s' ≡ length s

-- nothing changed
pub rebalances_none : (s : State) (root : ℕ) (t : Tree) → HoldsTree s root t → Rebalances s s root
rebalances_none s root t g = record {
  tree = t;
  next = t;
  grown = g;
  grows = g;
  seeks = λ k. refl;
  entries = refl;
  keeps = λ o i lt. refl;
  within = λ o. inl refl;
  len = refl;
}

-- one after the other
pub rebalances_both : (s s1 s2 : State) (root : ℕ) → Rebalances s s1 root → Rebalances s1 s2 root → Rebalances s s2 root
rebalances_both s s1 s2 root p q = record {
  tree = p.tree;
  next = q.next;
  grown = p.grown;
  grows = q.grows;
  seeks = λ k. q.seeks k ∙ ap (seek k) same ∙ p.seeks k;
  entries = q.entries ∙ ap entries_in same ∙ p.entries;
  keeps = λ o i lt. q.keeps o i lt ∙ p.keeps o i lt;
  within = λ o. within o (p.within o) (q.within o);
  len = q.len ∙ p.len;
}
  where
    same : q.tree ≡ p.next
    same = grown_once s1 root q.tree p.next q.grown p.grows

    within : (o : ℕ) → (words_at s1 o ≡ words_at s o) ⊎ IsAt s root o → (words_at s2 o ≡ words_at s1 o) ⊎ IsAt s1 root o
        → (words_at s2 o ≡ words_at s o) ⊎ IsAt s root o
    within o (inl e) (inl f) = inl (f ∙ e)
    within o (inr i) _ = inr i
    within o (inl e) (inr (inl i)) = inr (inl i)
    within o (inl e) (inr (inr i)) = inr (inr (i.0, sym (ap (word 0) e) ∙ i.1))

-- What changed is the tree's.
pub rebalances_within : (s s' : State) (root : ℕ) → Rebalances s s' root → IsWithin s s' root
rebalances_within s s' root r o = elim (r.within o) [
  | inl e ↦ inl e
  | inr (inl e) ↦ inr (inl e)
  | inr (inr i) ↦ inr (inr (i.0, inr i.1, inr (r.keeps o 0 (omega arith) ∙ i.1)))
]

-- The state stays lawful,
pub rebalances_lawful : (s s' : State) (root : ℕ) → 170 ≤ root → root < 180 → IsLawful s → Rebalances s s' root → IsLawful s'
rebalances_lawful s s' root lo lt l r =
    lawful_by_tree s s' root (Some r.next) lo lt r.len (rebalances_within s s' root r) l r.grows

-- and each search ends where it did.
pub rebalances_ends : (s s' : State) (root k l : ℕ) → Rebalances s s' root → EndsAt s root k l → EndsAt s' root k l
rebalances_ends s s' root k l r e =
    (r.next, r.grows, r.seeks k ∙ ap (seek k) (grown_once s root r.tree e.0 r.grown e.1) ∙ e.2)
