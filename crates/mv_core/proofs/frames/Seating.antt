-- The table's list of views stays that of the seats, through a step of one seat that keeps its number, its notes and what else
-- `IsKept` says. No other fact reads that list.
use Rattle.std.proofs.Common.{◌≡◌, ◌⊎◌, ℕ, ◌<◌, ◌≤◌, false, List, set, sym, refl, ap, ◌∙◌, subst, inl, inr, ⊎_elim, arith, All}
use Rattle.std.specs.Prelude.{Contains}
use Rattle.mv_core.proofs.Terms.{dite, some, ℕ_discrete, get_elem?, State, Config, Knowledge, JoinedSeat, new_view, set_at}
use Rattle.atomic_table.proofs.Lists.{at_set, set_here}
use Rattle.mv_core.specs.Rule.{IsNoted, IsThere, Seated, IsKept}
use Rattle.mv_core.proofs.frames.FrameLaw.{set_at_here, set_at_else, set_at_all}
use Rattle.mv_core.proofs.frames.SeatsThere.{at_within, there_still}

module _ (vs : List Knowledge) (id : ℕ) (v w : Knowledge) where
  -- a view of the list after the step is one of before, as far as the list is read
  pub old_of : get_elem? vs id ≡ some v → IsKept v w → (j : ℕ) (x : Knowledge) → get_elem? (set vs id w) j ≡ some x
      → (y : Knowledge) × (get_elem? vs j ≡ some y) × IsKept y x
  old_of at kept j x at' =
      ⊎_elim
      (λ t. (v, subst (λ (i : ℕ). get_elem? vs i ≡ some v) (sym t.0) at, subst (λ (u : Knowledge). IsKept v u) t.1 kept))
      (λ t. (x, t.1, (refl, refl, refl, refl, refl, refl)))
      (at_set vs id j w x at')

module _ (c : Config) (start : State) (vs : List Knowledge) (seats : ℕ → Knowledge) (id : ℕ) (v w : Knowledge) (k : Seated c start vs seats)
    (at : get_elem? vs id ≡ some v)
    (unspent : v.spent ≡ false) (kept : IsKept v w) where
  was : (j : ℕ) (x : Knowledge) → get_elem? (set vs id w) j ≡ some x → (y : Knowledge) × (get_elem? vs j ≡ some y) × IsKept y x
  was = old_of vs id v w at kept

  here : seats v.number ≡ v
  here = (k.there id v at unspent).0

  own_after : (s : ℕ) → ((set_at seats v.number w s).number ≡ s) × ((set_at seats v.number w s).start ≡ start) × ((set_at seats v.number w s).base ≡ c.base)
  own_after =
      set_at_all (λ s u. (u.number ≡ s) × (u.start ≡ start) × (u.base ≡ c.base)) seats v.number w
      (let o = k.own v.number in (kept.0, kept.1 ∙ sym (ap (λ (u : Knowledge). u.start) here) ∙ o.1, kept.2 ∙ sym (ap (λ (u : Knowledge). u.base) here) ∙ o.2))
      (λ s ne. k.own s)

  there_after : (j : ℕ) (x : Knowledge) → get_elem? (set vs id w) j ≡ some x → x.spent ≡ false → (set_at seats v.number w x.number ≡ x) × (x.number < c.seats)
  there_after j x at' un =
      ⊎_elim
      (λ t.
      let same : x.number ≡ v.number = ap (λ (u : Knowledge). u.number) (sym t.1) ∙ kept.0 in
      (ap (set_at seats v.number w) same ∙ set_at_here seats v.number w ∙ t.1, subst (λ (n : ℕ). n < c.seats) (sym same) (k.there id v at unspent).1))
      (λ t.
      let o = k.there j x t.1 un in
      (set_at_else seats v.number w x.number (λ e. t.0 (k.apart j id x v t.1 at un unspent e)) ∙ o.0, o.1))
      (at_set vs id j w x at')

  -- the number of a joined seat isn't this one
  noted_after : (j : ℕ) (x : Knowledge) (n : JoinedSeat) → get_elem? (set vs id w) j ≡ some x → x.spent ≡ false → Contains x.notes n
      → IsNoted c (set_at seats v.number w) n
  noted_after j x n at' un has =
      let o = was j x at' in
      let old_has : Contains o.0.notes n = subst (λ (ns : List JoinedSeat). Contains ns n) o.2.4 has in
      let old_un : o.0.spent ≡ false = sym o.2.5 ∙ un in
      let same : set_at seats v.number w n.number ≡ seats n.number =
      set_at_else seats v.number w n.number (λ e. k.gone j id o.0 v n o.1 at old_un unspent old_has (sym e)) in
      let r = k.noted j o.0 n o.1 old_un old_has in record {
        range = r.range;
        number = ap (λ (u : Knowledge). u.number) same ∙ r.number;
        past = ap (λ (u : Knowledge). u.past) same ∙ r.past;
        ring = ap (λ (u : Knowledge). u.ring) same ∙ r.ring;
        outside = ap (λ (u : Knowledge). u.phase) same ∙ r.outside;
        no_scan = ap (λ (u : Knowledge). u.scan) same ∙ r.no_scan;
      }

  -- a seat that isn't made yet isn't this one
  maker_after : (j : ℕ) (x : Knowledge) → get_elem? (set vs id w) j ≡ some x → x.spent ≡ false → 0 < x.made
      → (x.number ≡ 0) × ((s : ℕ) → x.made ≤ s → set_at seats v.number w s ≡ new_view c start s 0)
  maker_after j x at' un some_made =
      let o = was j x at' in
      let old_un : o.0.spent ≡ false = sym o.2.5 ∙ un in
      let old_made : 0 < o.0.made = subst (λ (n : ℕ). 0 < n) o.2.3 some_made in
      let r = k.maker j o.0 o.1 old_un old_made in
      let mine : v.number < o.0.made = (k.made j id o.0 v o.1 at old_un unspent old_made).0 in
      (o.2.0 ∙ r.0, λ s le. let le' : o.0.made ≤ s = subst (λ (n : ℕ). n ≤ s) o.2.3 le in set_at_else seats v.number w s (λ e. omega arith) ∙ r.1 s le')

  -- each seat has its view or its note still, and this one has a view
  all_after : (s : ℕ) → IsThere (set vs id w) s ⊎ (set_at seats v.number w s ≡ new_view c start s 0)
  all_after s =
      let unspent_still : w.spent ≡ false = kept.5 ∙ unspent in
      ⊎_elim
      (λ t. inl (there_still vs id v w at unspent_still kept.0 (λ n has. subst (λ (ns : List JoinedSeat). Contains ns n) (sym kept.4) has) s t))
      (λ new.
      dite (ℕ_discrete s v.number)
      (λ e. inl (record { id = id; holder = w; place = set_here vs id w (at_within vs id v at); unspent = unspent_still; named = inl (kept.0 ∙ sym e) }))
      (λ ne. inr (set_at_else seats v.number w s ne ∙ new)))
      (k.all s)

  pub seated_after : Seated c start (set vs id w) (set_at seats v.number w)
  seated_after = record {
    own = own_after;
    there = there_after;
    apart = λ i j x y at1 at2 u1 u2 e.
        let a = was i x at1 in let b = was j y at2 in
        k.apart i j a.0 b.0 a.1 b.1 (sym a.2.5 ∙ u1) (sym b.2.5 ∙ u2) (sym a.2.0 ∙ e ∙ b.2.0);
    noted = noted_after;
    gone = λ i j x y n at1 at2 u1 u2 has e.
        let a = was i x at1 in let b = was j y at2 in
        k.gone i j a.0 b.0 n a.1 b.1 (sym a.2.5 ∙ u1) (sym b.2.5 ∙ u2) (subst (λ (ns : List JoinedSeat). Contains ns n) a.2.4 has) (sym b.2.0 ∙ e);
    once = λ i j p q x y m n at1 at2 u1 u2 g1 g2 e.
        let a = was i x at1 in let b = was j y at2 in
        k.once i j p q a.0 b.0 m n a.1 b.1 (sym a.2.5 ∙ u1) (sym b.2.5 ∙ u2) (subst (λ (ns : List JoinedSeat). get_elem? ns p ≡ some m) a.2.4 g1)
        (subst (λ (ns : List JoinedSeat). get_elem? ns q ≡ some n) b.2.4 g2) e;
    maker = maker_after;
    all = all_after;
    made = λ i j x y at1 at2 u1 u2 some_made.
        let a = was i x at1 in let b = was j y at2 in
        let r = k.made i j a.0 b.0 a.1 b.1 (sym a.2.5 ∙ u1) (sym b.2.5 ∙ u2) (subst (λ (n : ℕ). 0 < n) a.2.3 some_made) in (
          let l = r.0 in let e1 = a.2.3 in let e2 = b.2.0 in omega arith,
          subst (λ (ns : List JoinedSeat). All (λ n. n.number < x.made) ns) (sym b.2.4) (subst (λ (t : ℕ). All (λ n. n.number < t) b.0.notes) (sym a.2.3) r.1),
        );
  }
