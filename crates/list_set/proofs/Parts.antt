-- The places of a list.
use Rattle.std.proofs.Common.{◌≡◌, ◌≢◌, ℕ, suc, ◌<◌, ◌≤◌, inl, inr, [], ◌∷◌, ◌++◌, length, refl, sym, ap, ◌∙◌, subst, arith}
use Rattle.mv_history.specs.State.{State}
use Rattle.mv_history.specs.Meaning.{words_at}
use Rattle.set_model.specs.Objects.{owner, link, relink}
use Rattle.set_model.specs.Lists.{Nodes, first_of, Links, IsList}
use Rattle.set_model.specs.Lawful.{IsLawful}
use Rattle.set_model.proofs.ObjectWords.{word, in_range, owned_in_range, owner-relink}
use Rattle.set_model.proofs.Chains.{only_among, last_of, last_leads, part_behind}
use Rattle.list_set.specs.Places.{IsInList}

-- the list parted behind p
pub record IsParted (s : State) (head p : ℕ) (ns fs bs : Nodes) : Type 0 where
  pub whole : ns ≡ fs ++ bs
  pub last : last_of head fs ≡ p
  pub leads : link s p ≡ first_of bs

pub part_at : (s : State) (head p : ℕ) (ns : Nodes) → IsList s head ns → IsInList s head p → (fs : Nodes) × (bs : Nodes) × IsParted s head p ns fs bs
part_at s head p ns l (inl e) = ([], ns, record { whole = refl; last = sym e; leads = ap (link s) e ∙ ap (word 3) l.first })
part_at s head p ns l (inr g) =
    let r = part_behind p ns head (only_among s head ns l p g.0 g.1) in
    let m : Links s head (r.0 ++ r.1) = subst (λ (q : Nodes). Links s head q) r.2 l.links in
    let e : link s head ≡ first_of (r.0 ++ r.1) = ap (word 3) l.first ∙ ap first_of r.2 in
    (r.0, r.1, record { whole = r.2; last = r.3; leads = ap (link s) (sym r.3) ∙ last_leads s head r.0 r.1 head e m })

pub whole_list : (s : State) (head : ℕ) (ns qs : Nodes) → ns ≡ qs → IsList s head ns → IsList s head qs
whole_list s head ns qs e l = subst (λ (q : Nodes). IsList s head q) e l

pub in_list_range : (s : State) (head p : ℕ) (ns : Nodes) → IsList s head ns → IsInList s head p → p < length s
in_list_range s head p ns l (inl e) =
    let i : head < length s = in_range s head 0 (0 ∷ 0 ∷ first_of ns ∷ 0 ∷ 0 ∷ []) l.first in omega arith
in_list_range s head p ns l (inr g) = owned_in_range s p head g.1

-- the place of an object in a lawful state's list is in range
pub place_in_range : (s : State) (head p : ℕ) → IsLawful s → head < 170 → IsInList s head p → p < length s
place_in_range s head p l lh i = in_list_range s head p (l.lists head lh).0 (l.lists head lh).1 i

-- an object of the list is not a vacant node
pub place_not_vacant : (s : State) (head p n : ℕ) → head < 180 → IsInList s head p → 180 ≤ n → owner s n ≡ 0 → p ≢ n
place_not_vacant s head p n lh (inl q) lo vac e = omega arith
place_not_vacant s head p n lh (inr g) lo vac e = let z : suc head ≡ 0 = sym g.1 ∙ ap (owner s) e ∙ vac in omega arith

-- what an object keeps whose link changes
pub relink_owner : (s s' : State) (p to : ℕ) → words_at s' p ≡ relink (words_at s p) to → owner s' p ≡ owner s p
relink_owner s s' p to e = ap (word 0) e ∙ owner-relink (words_at s p) to
