-- The lists of a lawful state, by their links alone.
use Rattle.std.proofs.Common.{◌≡◌, ◌≢◌, ℕ, suc, ◌<◌, ◌≤◌, inl, inr, [], ◌∷◌, ◌++◌, sym, ap, ◌∙◌, subst, arith}
use Rattle.mv_history.specs.State.{State}
use Rattle.set_model.specs.Objects.{owner, key, link}
use Rattle.set_model.specs.Lists.{Node, Nodes, first_of, Links, IsRising, IsList}
use Rattle.set_model.specs.Lawful.{IsLawful}
use Rattle.set_model.proofs.ObjectWords.{word, in_range}
use Rattle.set_model.proofs.Chains.{IsAmong, only_among, last_of, last_among, Links-node, Links-owner, Links-fits, Links-kind, Links-right}
use Rattle.set_model.proofs.Chains.{IsRising-right, above_key, IsAmong-left, IsAmong-cases}
use Rattle.set_model.proofs.ListMaps.{owned_key_once}
use Rattle.list_set.specs.Linked.{IsNodeOf, IsAfter, IsLinked}
use Rattle.list_set.proofs.Changes.{front_upto, front_below}
use Rattle.list_set.proofs.Parts.{part_at, whole_list}

-- the head of a list is none of its nodes
pub head_no_node : (s : State) (head : ℕ) → owner s head ≡ 0 → (o : ℕ) → o ≡ head → IsNodeOf s head o → ⊥
head_no_node s head z o e i = let x : owner s o ≡ owner s head = ap (owner s) e in let y : owner s o ≡ suc head = i.1 in omega arith

-- the object at which a list is parted leads to what follows
module _ (s : State) (head o : ℕ) (z : owner s head ≡ 0) (fs bs : Nodes) (l : IsList s head (fs ++ bs)) (last : last_of head fs ≡ o)
    (leads : link s o ≡ first_of bs) where
  part_leads : link s o ≢ 0 → IsNodeOf s head (link s o) × IsAfter s head o (link s o)
  part_leads n = go bs l leads
    where
      after : (fs rest : Nodes) (b : Node) → IsList s head (fs ++ b ∷ rest) → last_of head fs ≡ o → IsNodeOf s head o → key s o < b.key
      after [] rest b m e i = absurd (head_no_node s head z o (sym e) i)
      after (y ∷ fs) rest b m e i =
          front_below s head (y ∷ fs) rest b m.links m.rising o (subst (λ (u : ℕ). IsAmong u (y ∷ fs)) e (last_among y fs))

      go : (bs : Nodes) → IsList s head (fs ++ bs) → link s o ≡ first_of bs → IsNodeOf s head (link s o) × IsAfter s head o (link s o)
      go [] m e = absurd (n e)
      go (b ∷ rest) m e =
          let lk : Links s head (b ∷ rest) = Links-right s head fs (b ∷ rest) m.links in
          let lo : 180 ≤ b.object = lk.0 in
          let is : key s (link s o) ≡ b.key = ap (key s) e ∙ ap (word 2) lk.2 in
          ((omega arith, ap (owner s) e ∙ ap (word 0) lk.2), λ i. (let lt : key s o < b.key = after fs rest b m last i in omega arith))

  part_least : (n : ℕ) → IsNodeOf s head n → IsAfter s head o n → (link s o ≢ 0) × (key s (link s o) ≤ key s n)
  part_least n j a = elim (IsAmong-cases fs bs n (only_among s head (fs ++ bs) l n j.0 j.1)) [
    | inl i ↦ absurd (front fs l last i)
    | inr i ↦ back bs l leads i
  ]
    where
      front : (fs : Nodes) → IsList s head (fs ++ bs) → last_of head fs ≡ o → IsAmong n fs → ⊥
      front [] m e i = i
      front (y ∷ fs) m e i =
          let le : key s n ≤ key s (last_of y.object fs) = front_upto s head y fs bs m.links m.rising n i in
          let is : key s (last_of y.object fs) ≡ key s o = ap (key s) e in
          let inside : IsAmong o (y ∷ fs) = subst (λ (u : ℕ). IsAmong u (y ∷ fs)) e (last_among y fs) in
          let own : IsNodeOf s head o = (
            Links-node s head (y ∷ fs ++ bs) m.links o (IsAmong-left (y ∷ fs) bs o inside),
            Links-owner s head (y ∷ fs ++ bs) m.links o (IsAmong-left (y ∷ fs) bs o inside),
          ) in
          let lt : key s o < key s n = a own in omega arith

      back : (bs : Nodes) → IsList s head (fs ++ bs) → link s o ≡ first_of bs → IsAmong n bs → (link s o ≢ 0) × (key s (link s o) ≤ key s n)
      back [] m e i = absurd i
      back (b ∷ rest) m e i =
          let lk : Links s head (b ∷ rest) = Links-right s head fs (b ∷ rest) m.links in
          let up : IsRising (b ∷ rest) = IsRising-right fs (b ∷ rest) m.rising in
          let lo : 180 ≤ b.object = lk.0 in
          let is : key s (link s o) ≡ b.key = ap (key s) e ∙ ap (word 2) lk.2 in
          let le : b.key ≤ key s n = elim i [
            | inl q ↦ (let x : key s n ≡ b.key = ap (key s) q ∙ ap (word 2) lk.2 in omega arith)
            | inr q ↦ (let x : b.key < key s n = above_key s head b.key rest lk.3 up.0 n q in omega arith)
          ] in
          (λ q. (let x : 0 ≡ b.object = sym q ∙ e in omega arith), omega arith)

-- The head of each list of a lawful state leads through all its nodes.
pub lawful_linked : (s : State) (head : ℕ) → IsLawful s → head < 170 → IsLinked s head
lawful_linked s head l lh =
    let ns : Nodes = (l.lists head lh).0 in
    let m : IsList s head (l.lists head lh).0 = (l.lists head lh).1 in
    let z : owner s head ≡ 0 = ap (word 0) m.first in
    record {
      here = in_range s head 0 (0 ∷ 0 ∷ first_of ns ∷ 0 ∷ 0 ∷ []) m.first;
      unowned = z;
      kinds = λ n i. Links-kind s head ns m.links n (only_among s head ns m n i.0 i.1);
      fits = λ n i. (Links-fits s head ns m.links n (only_among s head ns m n i.0 i.1)).0;
      leads = λ o i. (let r = part_at s head o ns m i in
          part_leads s head o z r.0 r.1 (whole_list s head ns (r.0 ++ r.1) r.2.whole m) r.2.last r.2.leads);
      least = λ o n i. (let r = part_at s head o ns m i in
          part_least s head o z r.0 r.1 (whole_list s head ns (r.0 ++ r.1) r.2.whole m) r.2.last r.2.leads n);
      once = λ n u i j e. owned_key_once s head l lh n u i.0 j.0 i.1 j.1 e;
    }
