-- What an add with steps after it plans.
use Rattle.std.proofs.Common.{◌≡◌, ◌≢◌, ℕ, ◌+◌, ◌^◌, ◌<◌, ◌≤◌, true, false, ◌||◌, [], length, refl, sym, ap, ◌∙◌, subst, arith, Bool}
use Rattle.mv_history.specs.State.{State, Writes, touches}
use Rattle.mv_history.specs.Legal.{are_distinct}
use Rattle.set_model.specs.Lawful.{IsLawful}
use Rattle.set_model.proofs.ObjectWords.{word}
use Rattle.set_model.proofs.Ways.{IsVacant}
use Rattle.tree_set.specs.declared.search.Descent.{Descent}
use Rattle.tree_set.specs.Descents.{EndsHere}
use Rattle.tree_set.specs.Places.{IsGrowPlace, grow_writes}
use Rattle.tree_set.proofs.Found.{found_grow}
use Rattle.tree_set.proofs.GrowFit.{grow_site, grow_distinct}
use Rattle.tree_balance.specs.Drafts.{IsDraft, Extends, IsAddOnWay}
use Rattle.tree_balance.proofs.Balancing.{balanced_half}

or_false : (b : Bool) → b ≡ b || false
or_false true = refl
or_false false = refl

-- the add alone
draft_start : (s : State) (root : ℕ) (own : Writes) → are_distinct own ≡ true → IsDraft s root own own
draft_start s root own d = record {
  steps = [];
  fits = tt;
  leaves = refl;
  distinct = d;
  named = λ o. or_false (touches own o);
}

module _ (s : State) (root k v m w : ℕ) (descent : Descent) (law : IsLawful s) (lo : 170 ≤ root) (lt : root < 180) (fits : k < 2 ^ 32)
    (ends : EndsHere s root k descent) (lacks : word 2 descent.words ≢ k) (vm : IsVacant s m) (vw : IsVacant s w) (ne : m ≢ w) where
  place : IsGrowPlace s root k descent.parent descent.leaf
  place = found_grow s s root k descent.grand descent.parent descent.leaf descent.right descent.words refl ends.ends lacks

  pub add_distinct : (ws : Writes) → ws ≡ grow_writes s root k v descent.parent descent.leaf m w → are_distinct ws ≡ true
  add_distinct ws e =
      let r = grow_site s root k descent.parent descent.leaf m w fits place vm vw ne in
      ap are_distinct e ∙ grow_distinct s root k v descent.parent descent.leaf m w r.0 r.1 r.2 law lt r.3

  pub add_planned : (most limit : ℕ) (own plan ws : Writes) → own ≡ grow_writes s root k v descent.parent descent.leaf m w → plan ≡ own → limit ≡ most + 4
      → Extends s root limit plan ws → IsAddOnWay s root k v descent.parent descent.leaf m w most ws
  add_planned most limit own plan ws e f g x =
      let start : IsDraft s root (grow_writes s root k v descent.parent descent.leaf m w) plan =
      subst (λ (u : Writes). IsDraft s root (grow_writes s root k v descent.parent descent.leaf m w) u) (sym (f ∙ e))
      (draft_start s root (grow_writes s root k v descent.parent descent.leaf m w)
      (add_distinct (grow_writes s root k v descent.parent descent.leaf m w) refl)) in
      let four : length plan ≡ 4 = ap length (f ∙ e) in
      let few : length ws ≤ limit = x.few (omega arith) in
      let draft = x.drafts (grow_writes s root k v descent.parent descent.leaf m w) start in
      let h = balanced_half s root k v descent.parent descent.leaf m w ws law lo lt fits place vm vw ne draft in
      record { draft = draft; few = omega arith; lawful = h.keeps.lawful_after; catalogue = h.leaves }
