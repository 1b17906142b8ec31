-- The seats that met are those that a closing tells of.
use Rattle.std.proofs.Common.{◌≡◌, ◌≢◌, ℕ, zero, suc, ◌+◌, List, [], ◌∷◌, ◌++◌, length, map, All}
use Rattle.std.proofs.Common.{refl, sym, ap, ◌∙◌, subst, inl, inr, ⊎_elim, append_assoc, arith}
use Rattle.std.specs.Prelude.{AllPairs, Contains}
use Rattle.std.proofs.lemmas.List.Elements.{All-nil, All-map}
use Rattle.std.proofs.lemmas.List.Kept.{AllPairs-cons}
use mathlib.Core.Option.{some}
use lib.ListN.{get_elem?}
use Rattle.mv_history.specs.declared.Step.{Step}
use Rattle.mv_history.specs.declared.StepKind.TheVariants.{JoinSeat, LoadJoined}
use Rattle.mv_history.specs.Meaning as history
use Rattle.object_lock.specs.mv_core.declared.view.Knowledge.{Knowledge}
use Rattle.object_lock.specs.mv_core.declared.view.JoinedSeat.{JoinedSeat}
use Rattle.object_lock.specs.reader_marks.Sections.{IsEnterStep}
use Rattle.mvrlu.specs.Joined.{IsOwn, IsNoted, IsKept}
use Rattle.mvrlu.specs.MetSeats.{MetSeat, met_seat, noted_seat, IsLookStep, MeetsBy}
use Rattle.mvrlu.specs.Whole.{Whole, IsMetSeat}
use Rattle.mvrlu.proofs.AllSeats.{all_from_places}

-- what an element becomes is among what all become
pub contains_map : {X Y : Type 0} (f : X → Y) (xs : List X) (x : X) → Contains xs x → Contains (map f xs) (f x)
contains_map f [] x (k, lt, e) = absurd (omega (arith, lt))
contains_map f (y ∷ xs) x (zero, lt, e) = (zero, omega arith, ap f e)
contains_map f (y ∷ xs) x (suc k, lt, e) =
    let r = contains_map f xs x (k, omega (arith, lt), e) in let within = r.1 in (suc r.0, omega arith, r.2)

-- no two of the seats of these notes have one number
pub apart_notes : (ns : List JoinedSeat)
    → ((a b : ℕ) (m n : JoinedSeat) → get_elem? ns a ≡ some m → get_elem? ns b ≡ some n → m.number ≡ n.number → a ≡ b)
    → AllPairs (λ (m n : MetSeat). m.number ≢ n.number) (map noted_seat ns)
apart_notes [] once = λ i j d lt within. absurd (omega arith)
apart_notes (x ∷ ns) once =
    AllPairs-cons (λ (m n : MetSeat). m.number ≢ n.number) (noted_seat x) (map noted_seat ns)
    (All-map (λ (m : MetSeat). x.number ≢ m.number) noted_seat ns
    (all_from_places (λ (n : JoinedSeat). x.number ≢ n.number) ns (λ k n e same. let far = once 0 (suc k) x n refl e same in absurd (omega arith))))
    (apart_notes ns (λ a b m n e f same. let next = once (suc a) (suc b) m n e f same in omega arith))

-- a seat of which this is kept is one of those that met
pub named_by : (t : List Step) (w : Whole) (u : Knowledge) (s : history.Seat) → w.number ≡ u.number → w.others ≡ map noted_seat u.notes
    → MeetsBy w.config.seats t w.trail → IsKept t u s → IsMetSeat w s
named_by t w u s number others steps k =
    ⊎_elim
    (λ (own : IsOwn t u s). inr (record {
      number = sym own.number ∙ sym number;
      steps = subst (λ x. MeetsBy w.config.seats x w.trail) (sym own.steps) steps;
    }))
    (λ (noted : IsNoted u s).
    let same : noted_seat noted.note ≡ met_seat s = λ i. record {
      number = noted.number i;
      seen = (noted.past i).seen;
      mine = (noted.past i).mine;
      rests = (noted.past i).rests;
      trail = noted.steps i;
    } in
    inl (subst (λ ms. Contains ms (met_seat s)) (sym others)
    (subst (Contains (map noted_seat u.notes)) same (contains_map noted_seat u.notes noted.note noted.there))))
    k.past

-- the joins, the two loads and the entering between them are the steps of a meeting
pub meets_by : (seats : ℕ) (before after joins entering : List Step) (first last : Step)
    → after ≡ before ++ (((joins ++ first ∷ []) ++ entering) ++ last ∷ []) → length joins + 1 ≡ seats → All (λ s. s.kind ≡ JoinSeat) joins
    → first.kind ≡ LoadJoined → All (λ s. IsEnterStep s.kind) entering → last.kind ≡ LoadJoined → MeetsBy seats before after
meets_by seats before after joins entering first last trail many join_kinds first_kind enter_kinds last_kind = record {
  joins = joins;
  first = first;
  entering = entering;
  last = last;
  looks = [];
  trail = trail
      ∙ ap (λ x. before ++ x) (append_assoc (joins ++ first ∷ []) entering (last ∷ []) ∙ append_assoc joins (first ∷ []) (entering ++ last ∷ []));
  many = many;
  join_kinds = join_kinds;
  first_kind = first_kind;
  enter_kinds = enter_kinds;
  last_kind = last_kind;
  look_kinds = All-nil (λ (s : Step). IsLookStep s.kind);
}
