-- Joining the seats of a list from its end.
use Rattle.std.proofs.Common.{◌≡◌, List, [], ◌∷◌, ◌++◌, All, refl, sym, ap, ◌∙◌, append_assoc, length-append, arith}
use Rattle.std.proofs.lemmas.List.{append-nil}
use Rattle.std.proofs.lemmas.List.Elements.{All-nil, All-cons, All-head, All-tail, All-weaker, All-append}
use Rattle.std.specs.Prelude.{None}
use Rattle.mv_history.specs.declared.Step.{Step}
use Rattle.mv_history.specs.declared.StepKind.TheVariants.{JoinSeat}
use Rattle.mv_layout.specs.declared.Config.{Config}
use Rattle.object_lock.specs.mv_core.declared.view.Knowledge.{Knowledge}
use Rattle.object_lock.specs.mv_core.SeatSteps.{joined}
use Rattle.mvrlu.specs.declared.domain.Seat.{Seat}
use Rattle.mvrlu.specs.Joined.{IsKept, AreJoining}
use Rattle.mvrlu.specs.Meant.{seat_of}
use Rattle.mvrlu.proofs.whole.Numbers.{contains_tail}
use Rattle.mvrlu.proofs.whole.Kept.{kept_on, kept_own, kept_other, joins_on}

pub all_front : {X : Type 0} (P : X → Type 0) (xs : List X) (x : X) → All P (xs ++ x ∷ []) → All P xs × P x
all_front P [] x all = (All-nil P, All-head P x [] all)
all_front P (y ∷ xs) x all =
    let r = all_front P xs x (All-tail P y (xs ++ x ∷ []) all) in (All-cons P y xs (All-head P y (xs ++ x ∷ []) all) r.0, r.1)

module _ {P : Type 0} {rules : _} where
  -- the first of them alone
  pub joining_first : (all left : List (Seat P rules)) (first : Seat P rules) (v : Knowledge) → all ≡ left ++ first ∷ [] → v ≡ first.idle.view
      → AreJoining all left v
  joining_first all left first v split view_is = record {
    met = first ∷ [];
    split = split;
    first = first;
    there = (0, omega arith, refl);
    each = All-cons (λ (s : Seat P rules). IsKept (seat_of first).trail v (seat_of s)) first []
        (kept_own v (seat_of first) (ap (λ (u : Knowledge). u.number) view_is) (sym (ap (λ (u : Knowledge). u.start) view_is))
        (sym (ap (λ (u : Knowledge). u.base) view_is))
        (ap (λ (u : Knowledge). u.past.seen) view_is) (ap (λ (u : Knowledge). u.past.mine) view_is) (ap (λ (u : Knowledge). u.past.rests) view_is))
        (All-nil (λ (s : Seat P rules). IsKept (seat_of first).trail v (seat_of s)));
    steps = [];
    trail = ap (λ (u : Knowledge). u.trail) view_is ∙ sym (append-nil first.idle.view.trail);
    count = refl;
    kinds = All-nil (λ (s : Step). s.kind ≡ JoinSeat);
  }

  -- and one more
  pub joining_next : (c : Config) (all left rest : List (Seat P rules)) (other : Seat P rules) (v u : Knowledge) → AreJoining all left v
      → left ≡ rest ++ other ∷ [] → u ≡ other.idle.view → u.start ≡ v.start → u.base ≡ v.base → AreJoining all rest (joined c v u)
  joining_next c all left rest other v u k split view_is start base =
      let w : Knowledge = joined c v u in
      let t : List Step = (seat_of k.first).trail in
      let join : Step = record { kind = JoinSeat; word = 0; found = None; stored = None } in record {
        met = other ∷ k.met;
        split = k.split ∙ ap (λ xs. xs ++ k.met) split ∙ append_assoc rest (other ∷ []) k.met;
        first = k.first;
        there = contains_tail k.met other k.first k.there;
        each = All-cons (λ (s : Seat P rules). IsKept t w (seat_of s)) other k.met
            (kept_other c t v u (seat_of other) (sym (ap (λ (x : Knowledge). x.start) view_is) ∙ start) (sym (ap (λ (x : Knowledge). x.base) view_is) ∙ base)
            (ap (λ (x : Knowledge). x.number) view_is) (ap (λ (x : Knowledge). x.past) view_is) (ap (λ (x : Knowledge). x.trail) view_is))
            (All-weaker (λ (s : Seat P rules). IsKept t v (seat_of s)) (λ (s : Seat P rules). IsKept t w (seat_of s))
            (λ s kept. kept_on t v w (seat_of s) (joins_on c v u) kept) k.met k.each);
        steps = k.steps ++ join ∷ [];
        trail = ap (λ x. x ++ join ∷ []) k.trail ∙ append_assoc t k.steps (join ∷ []);
        count = (let long = length-append k.steps (join ∷ []) in let n = k.count in omega arith);
        kinds = All-append (λ (s : Step). s.kind ≡ JoinSeat) k.steps (join ∷ []) k.kinds
            (All-cons (λ (s : Step). s.kind ≡ JoinSeat) join [] refl (All-nil (λ (s : Step). s.kind ≡ JoinSeat)));
      }
