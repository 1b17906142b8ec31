-- The keys of nodes.
use Rattle.std.proofs.Common.{◌≡◌, ◌≢◌, ℕ, suc, ◌-◌, ◌^◌, ◌<◌, ◌≤◌, ◌⊎◌, inl, inr, Option, Some, None, ap, ◌∙◌, arith}
use Rattle.std.proofs.lemmas.Bool.{cases_lt}
use Rattle.mv_history.specs.State.{State}
use Rattle.set_model.specs.Objects.{first_node, first_root, owner, key}
use Rattle.set_model.specs.Trees.{Tree, Stands, objects_in, IsTree}
use Rattle.set_model.specs.Trees.Tree.{leaf, inner}
use Rattle.set_model.specs.Lawful.{IsLawful}
use Rattle.set_model.proofs.ObjectWords.{word}
use Rattle.section_work.proofs.Objects.{IsIn, in_either}
use Rattle.set_model.proofs.TreeShape.{only_in}
use Rattle.set_model.proofs.Heads.{owned_fits}

Stands-key : (s : State) (root : ℕ) (t : Tree) → Stands s root t → (o : ℕ) → IsIn o (objects_in t) → key s o < 2 ^ 32
Stands-key s root (leaf n k v) h o (inl e) = let b : k < 2 ^ 32 = h.1 in let is : key s o ≡ k = ap (key s) e ∙ ap (word 2) h.2 in omega arith
Stands-key s root (leaf n k v) h o (inr i) = absurd i
Stands-key s root (inner n d a b) h o (inl e) = let l : d < 2 ^ 32 = h.1 in let is : key s o ≡ d = ap (key s) e ∙ ap (word 2) h.2 in omega arith
Stands-key s root (inner n d a b) h o (inr i) =
    elim (in_either (objects_in a) (objects_in b) o i) [ inl j ↦ Stands-key s root a h.3 o j | inr j ↦ Stands-key s root b h.4 o j ]

-- the key of a node fits its type
pub key_fits : (s : State) (o : ℕ) → IsLawful s → first_node ≤ o → owner s o ≢ 0 → key s o < 2 ^ 32
key_fits s o lawful g own = go (cases_lt (owner s o - 1) first_root)
  where
    head : owner s o ≡ suc (owner s o - 1)
    head = omega arith

    tree : (t : Option Tree) → IsTree s (owner s o - 1) t → key s o < 2 ^ 32
    tree None t = absurd (t.1 o g head)
    tree (Some t) grown = Stands-key s (owner s o - 1) t grown.stands o (only_in s (owner s o - 1) t grown o g head)

    go : (owner s o - 1 < first_root) ⊎ (first_root ≤ owner s o - 1) → key s o < 2 ^ 32
    go (inl l) = (owned_fits s (owner s o - 1) o lawful l g head).0
    go (inr r) = let t = lawful.trees (owner s o - 1) r (let b : owner s o ≤ first_node = lawful.owned o g in omega arith) in tree t.0 t.1
