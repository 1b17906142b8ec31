-- The objects around a part of a root's tree.
use Rattle.std.proofs.Common.{◌≡◌, ◌≢◌, ℕ, suc, ◌<◌, ◌≤◌, inl, inr, [], ◌∷◌, length, sym, ap, ◌∙◌, subst, arith}
use Rattle.mv_history.specs.State.{State}
use Rattle.set_model.specs.Objects.{owner}
use Rattle.set_model.specs.Trees.{Tree, objects_in, HoldsTree}
use Rattle.set_model.specs.Lawful.{IsLawful}
use Rattle.set_model.proofs.ObjectWords.{owned_in_range}
use Rattle.section_work.proofs.Objects.{IsIn}
use Rattle.set_model.proofs.TreeShape.{Stands-node, Stands-owner}
use Rattle.set_model.proofs.Ways.{IsAt, IsVacant}
use Rattle.tree_set.specs.Paths.{Path, plug, parent_of, around}
use Rattle.tree_set.proofs.Plugging.{around_in, part_in, plug_apart, parent_in}

pub around_owner : (s : State) (root : ℕ) (ps : Path) (u : Tree) → HoldsTree s root (plug ps u) → (o : ℕ) → IsIn o (around ps) → owner s o ≡ suc root
around_owner s root ps u g o i = Stands-owner s root (plug ps u) g.stands o (around_in ps u o i)

pub part_owner : (s : State) (root : ℕ) (ps : Path) (u : Tree) → HoldsTree s root (plug ps u) → (o : ℕ) → IsIn o (objects_in u) → owner s o ≡ suc root
part_owner s root ps u g o i = Stands-owner s root (plug ps u) g.stands o (part_in ps u o i)

pub part_node : (s : State) (root : ℕ) (ps : Path) (u : Tree) → HoldsTree s root (plug ps u) → (o : ℕ) → IsIn o (objects_in u) → 180 ≤ o
part_node s root ps u g o i = Stands-node s root (plug ps u) g.stands o (part_in ps u o i)

-- the parent at the end of the path is the root or a node of the tree
pub parent_at : (s : State) (root : ℕ) (ps : Path) (u : Tree) → HoldsTree s root (plug ps u) → (p : ℕ) → parent_of root ps ≡ p → IsAt s root p
parent_at s root [] u g p e = inl (sym e)
parent_at s root (q ∷ ps) u g p e =
    let i : IsIn p (objects_in (plug (q ∷ ps) u)) = around_in (q ∷ ps) u p (subst (λ (o : ℕ). IsIn o (around (q ∷ ps))) e (parent_in root q ps)) in
    inr (Stands-node s root (plug (q ∷ ps) u) g.stands p i, Stands-owner s root (plug (q ∷ ps) u) g.stands p i)

-- and none of the part's objects
pub part_not_parent : (s : State) (root : ℕ) (ps : Path) (u : Tree) → root < 180 → HoldsTree s root (plug ps u) → (p : ℕ) → parent_of root ps ≡ p → (o : ℕ)
    → IsIn o (objects_in u) → o ≢ p
part_not_parent s root [] u lt g p e o i q = let lo : 180 ≤ o = part_node s root [] u g o i in omega arith
part_not_parent s root (t ∷ ps) u lt g p e o i q =
    plug_apart (t ∷ ps) u g.distinct o (subst (λ (n : ℕ). IsIn n (around (t ∷ ps))) (e ∙ sym q) (parent_in root t ps)) i

-- no object of the tree is vacant
pub owned_not_vacant : (s : State) (root o n : ℕ) → owner s o ≡ suc root → IsVacant s n → o ≢ n
owned_not_vacant s root o n e v q = let f : owner s o ≡ owner s n = ap (owner s) q in let z = v.2 in omega arith

pub at_not_vacant : (s : State) (root o n : ℕ) → root < 180 → IsAt s root o → IsVacant s n → o ≢ n
at_not_vacant s root o n lt (inl e) v q = let lo : 180 ≤ n = v.0 in omega arith
at_not_vacant s root o n lt (inr g) v q = owned_not_vacant s root o n g.1 v q

pub at_in_range : (s : State) (root o : ℕ) → IsLawful s → root < 180 → IsAt s root o → o < length s
at_in_range s root o l lt (inl e) = let m = l.some in omega arith
at_in_range s root o l lt (inr g) = owned_in_range s o root g.1
