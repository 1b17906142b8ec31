-- The words and the views behind steps are a table of the core's rule.
use Rattle.std.proofs.Common.{◌≡◌, ◌⊎◌, ℕ, zero, suc, ◌+◌, ◌<◌, ◌≤◌, inl, inr, List, [], refl, sym, ap, ◌∙◌, arith, subst, All, Contains}
use Rattle.std.proofs.lemmas.Bool.{cases_lt}
use Rattle.std.proofs.lemmas.List.Elements.{All-nil}
use mathlib.Core.Option.{some}
use lib.ListN.{get_elem?}
use Rattle.mv_core.proofs.Terms.{dite, ℕ_discrete, some-ne-none, Config, Checked, new_view, parts_of}
use Rattle.mv_core.specs.declared.view.Knowledge.{Knowledge}
use Rattle.mv_core.proofs.frames.SectionBounds.{none_in}
use Rattle.mv_core.specs.Moves.{Reached}
use Rattle.mv_core.specs.declared.shared.Opening.{Opening}
use Rattle.mv_core.specs.Rule.{Seated, IsThere, Ruled, Facts}
use Rattle.mv_core.specs.MoveLaws.{Holds}
use Rattle.mv_layout.specs.Cells.{Shows}
use Rattle.replay_rules.specs.States.{any_commit, any_start, zeros, Made, state_of, AreMade, views_from}
use Rattle.replay_rules.specs.ReplayLaws.{IsRuled}
use Rattle.replay_rules.proofs.Replays.{AreUnjoined, made_behind, holds_behind}

-- what stands in a list of views, and where
element : (seats : ℕ → Knowledge) (first count id : ℕ) (v : Knowledge) → get_elem? (views_from seats first count) id ≡ some v → (id < count)
    × (v ≡ seats (first + id))
element seats first zero id v e = absurd (cc)
element seats first (suc count) zero v e =
    let s : some (seats first) ≡ some v = e in
    let same : seats first ≡ v = cc in
    (omega arith, sym same ∙ ap seats (omega arith))
element seats first (suc count) (suc id) v e =
    let r = element seats (first + 1) count id v e in
    (omega (arith, r.0), r.1 ∙ ap seats (omega arith))

stands : (seats : ℕ → Knowledge) (first count id : ℕ) → id < count → get_elem? (views_from seats first count) id ≡ some (seats (first + id))
stands seats first zero id lt = absurd (omega (arith, lt))
stands seats first (suc count) zero lt = ap (λ n. some (seats n)) (omega arith)
stands seats first (suc count) (suc id) lt = stands seats (first + 1) count id (omega (arith, lt)) ∙ ap (λ n. some (seats n)) (omega arith)

-- a table of the core's rule
module _ (key : Opening) (k : Checked key.config) (from : key.start.value.items ≡ zeros key.config) (made : List Made) (all : AreMade key.config made)
    (words : List ℕ) (shows : Shows key.config words (state_of key.config made).memory) where
  abbrev c : Config
  c = key.config

  abbrev seats : ℕ → Knowledge
  seats = (state_of key.config made).seats

  h : Holds any_start any_commit c (zeros c) (state_of c made)
  h = holds_behind c k made all

  unjoined : AreUnjoined c.seats seats
  unjoined = (made_behind c k made all).0

  view_at : (id : ℕ) (v : Knowledge) → get_elem? (views_from seats 0 c.seats) id ≡ some v → (id < c.seats) × (v ≡ seats id)
  view_at id v e = let r = element seats 0 c.seats id v e in (r.0, r.1 ∙ ap seats (omega arith))

  number_at : (id : ℕ) (v : Knowledge) → get_elem? (views_from seats 0 c.seats) id ≡ some v → v.number ≡ id
  number_at id v e = ap (λ (u : Knowledge). u.number) (view_at id v e).1 ∙ (h.seats.own id).0

  no_note : (id : ℕ) (v : Knowledge) → get_elem? (views_from seats 0 c.seats) id ≡ some v → v.notes ≡ []
  no_note id v e = ap (λ (u : Knowledge). u.notes) (view_at id v e).1 ∙ (unjoined id).3

  first_made : (seats 0).made ≡ c.seats
  first_made = (unjoined 0).0 refl

  maker_is : (id : ℕ) (v : Knowledge) → get_elem? (views_from seats 0 c.seats) id ≡ some v → 0 < v.made → id ≡ 0
  maker_is id v e pos =
      dite (ℕ_discrete id 0) (λ is. is)
      (λ ne. let m = ap (λ (u : Knowledge). u.made) (view_at id v e).1 ∙ (unjoined id).1 ne in absurd (omega (arith, pos, m)))

  seated : Seated c (zeros c) (views_from seats 0 c.seats) seats
  seated = record {
    own = h.seats.own;
    there = λ id v e unspent. (let v_is = view_at id v e in (ap seats (number_at id v e) ∙ sym v_is.1, (let n = number_at id v e in omega (arith, n, v_is.0))));
    apart = λ i j v w a b p q same. sym (number_at i v a) ∙ same ∙ number_at j w b;
    noted = λ id v n e unspent has. none_in n (subst (λ ns. Contains ns n) (no_note id v e) has);
    gone = λ i j v w n a b p q has same. none_in n (subst (λ ns. Contains ns n) (no_note i v a) has);
    once = λ i j a b v w m n p q r t at _ _. absurd (some-ne-none m (sym (subst (λ ns. get_elem? ns a ≡ some m) (no_note i v p) at)));
    maker = λ id v e unspent pos.
        let first = maker_is id v e pos in (
          number_at id v e ∙ first,
          λ s le. h.seats.later s (let m = ap (λ (u : Knowledge). u.made) (view_at id v e).1 ∙ ap (λ n. (seats n).made) first in omega (arith, m, le)),
        );
    made = λ i j v w a b p q pos.
        let first = maker_is i v a pos in
        let m : v.made ≡ c.seats = ap (λ (u : Knowledge). u.made) (view_at i v a).1 ∙ ap (λ n. (seats n).made) first ∙ first_made in (
          (let n = number_at j w b in let lt = (view_at j w b).0 in omega (arith, m, n, lt)),
          subst (All (λ n. n.number < v.made)) (sym (no_note j w b)) (All-nil (λ n. n.number < v.made)),
        );
    all = λ s. place_of_seat s (cases_lt s c.seats);
  }
    where
      place_of_seat : (s : ℕ) → (s < c.seats) ⊎ (c.seats ≤ s) → IsThere (views_from seats 0 c.seats) s ⊎ (seats s ≡ new_view c (zeros c) s 0)
      place_of_seat s (inl lt) = inl (record {
        id = s;
        holder = seats s;
        place = stands seats 0 c.seats s lt ∙ ap (λ n. some (seats n)) (omega arith);
        unspent = (unjoined s).2;
        named = inl (h.seats.own s).0;
      })
      place_of_seat s (inr ge) = inr (h.seats.later s (omega (arith, first_made, ge)))

  ruled : Ruled any_start any_commit key (record { words = words; homes = []; views = views_from seats 0 c.seats })
  ruled = record {
    memory = (state_of c made).memory;
    history = (state_of c made).history;
    seats = seats;
    shows = shows;
    slotless = refl;
    seated = subst (λ start. Seated c start (views_from seats 0 c.seats) seats) (sym from) seated;
    facts = subst (λ start. Facts any_start any_commit c start (state_of c made).memory (state_of c made).history (parts_of seats)) (sym from) h.facts;
    reached = subst (λ start. Reached any_commit c start (state_of c made)) (sym from) (made_behind c k made all).1;
    active = λ id v e unspent. (let v_is = view_at id v e in let n = number_at id v e in omega (arith, n, v_is.0, first_made));
  }

  pub is_ruled : IsRuled key key.config words made
  unfolding ruled
  is_ruled = record { rule = ruled; memory = refl; history = refl; seats = refl }
