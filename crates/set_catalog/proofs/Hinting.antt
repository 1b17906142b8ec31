-- Hints that were tried.
use Rattle.std.proofs.Common.{
  ◌≡◌,
  ℕ,
  ◌<◌,
  ◌≤◌,
  ◌⊎◌,
  inl,
  inr,
  List,
  [],
  ◌∷◌,
  ◌++◌,
  All,
  Option,
  Some,
  None,
  IfSome,
  IfNone,
  refl,
  sym,
  ap,
  ◌∙◌,
  append_assoc,
  subst,
  arith,
}
use Rattle.std.proofs.lemmas.List.Elements.{All-append, All-weaker, Contains-append_left, Contains-append_right}
use Rattle.mv_history.specs.State.{State}
use Rattle.set_catalog.specs.Hinted.{Hinted, TakesHints}
use Rattle.set_catalog.specs.declared.picks.Picked.{Picked}
use Rattle.set_model.specs.Objects.{first_node}
use Rattle.set_catalog.specs.Picks.{IsVacant, TriesFor, AllTried, TriesHints}

-- the hints at the end were tried, and each is wrong or this object
pub record HintLoop (s : State) (old new : Hinted) (but : ℕ) : Type 0 where
  pub room : new.room ≡ old.room
  pub gone : List ℕ
  pub parts : old.objects ≡ new.objects ++ gone
  pub wrong : All (λ o. IsVacant s o → o ≡ but) gone

pub IfSome_all : {X : Type 0} (r : Option X) (P : X → Type 0) → ((x : X) → P x) → IfSome r P
IfSome_all None P h = tt
IfSome_all (Some x) P h = h x

-- where all the hints were tried, any object is found beside them
pub tries_beside : (s : State) (old mid new : Hinted) (but o : ℕ) → AllTried s old mid but → new ≡ mid → TriesFor s old new but o
tries_beside s old mid new but o a e = record {
  gone = old.objects;
  tries = record {
    room = ap (λ (h : Hinted). h.room) e ∙ a.room;
    parts = ap (λ xs. xs ++ old.objects) (sym (ap (λ (h : Hinted). h.objects) e ∙ a.none));
    wrong = All-weaker (λ x. IsVacant s x → x ≡ but) (λ x. IsVacant s x → (x ≡ but) ⊎ (x ≡ o)) (λ x h v. inl (h v)) old.objects a.wrong;
  };
  hinted = inr (ap (λ (h : Hinted). h.objects) e ∙ a.none);
}

-- a pick takes the hints that it tries, and all of them where it finds too few
pub picked_taken : (s : State) (old new : Hinted) (r : Option Picked)
    → IfSome r (λ p. TriesHints s old new p.first p.second) → IfNone r (new.objects ≡ []) → new.room ≡ old.room → TakesHints old new
picked_taken s old new (Some p) some none room = record { room = room; gone = some.gone; parts = some.tries.parts }
picked_taken s old new None some none room = record { room = room; gone = old.objects; parts = ap (λ xs. xs ++ old.objects) (sym none) }

front_empty : (xs ys zs : List ℕ) → xs ≡ ys ++ zs → xs ≡ [] → ys ≡ []
front_empty xs [] zs e n = refl
front_empty xs (y ∷ ys) zs e n = absurd (cc)

-- hints were tried for one object, and then for another one
pub tries_twice : (s t : State) (old mid new : Hinted) (but first second : ℕ) → but < first_node → TriesFor s old mid but first → t ≡ s
    → TriesFor t mid new first second → TriesHints s old new first second
tries_twice s t old mid new but first second low f same g0 = let g : TriesFor s mid new first second =
    subst (λ (u : State). TriesFor u mid new first second) same g0 in record {
      gone = g.gone ++ f.gone;
      tries = record {
        room = g.tries.room ∙ f.tries.room;
        parts = f.tries.parts ∙ ap (λ xs. xs ++ f.gone) g.tries.parts ∙ append_assoc new.objects g.gone f.gone;
        wrong = All-append (λ o. IsVacant s o → (o ≡ first) ⊎ (o ≡ second)) g.gone f.gone g.tries.wrong
            (All-weaker (λ o. IsVacant s o → (o ≡ but) ⊎ (o ≡ first)) (λ o. IsVacant s o → (o ≡ first) ⊎ (o ≡ second))
            (λ o h v. inl (node_first o v (h v))) f.gone f.tries.wrong);
      };
      first_hinted = elim f.hinted [
        | inl i ↦ inl (Contains-append_right g.gone f.gone first i)
        | inr n ↦ inr (front_empty mid.objects new.objects g.gone g.tries.parts n)
      ];
      second_hinted = inr (elim g.hinted [ inl i ↦ inl (Contains-append_left g.gone f.gone second i) | inr n ↦ inr n ]);
    }
  where
    node_first : (o : ℕ) → IsVacant s o → (o ≡ but) ⊎ (o ≡ first) → o ≡ first
    node_first o v (inl e) = let l : first_node ≤ o = v.node in absurd (omega arith)
    node_first o v (inr e) = e
