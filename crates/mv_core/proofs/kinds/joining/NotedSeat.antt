-- A joined seat, of which there is a note, may have another view.
use Rattle.std.proofs.Common.{◌≡◌, ℕ, ◌<◌, false, List, sym, refl, ◌∙◌, inl, inr, ⊎_elim, arith}
use Rattle.std.specs.Prelude.{Contains}
use Rattle.std.proofs.lemmas.List.Elements.{All-contains}
use Rattle.mv_core.proofs.Terms.{dite, some, ℕ_discrete, get_elem?, State, Config, Knowledge, JoinedSeat, set_at}
use Rattle.mv_core.proofs.FactTerms.{Seated}
use Rattle.mv_core.proofs.frames.FrameLaw.{set_at_else, set_at_all}

-- a seat of which there is a note has another view that is as the note says
module _ (c : Config) (start : State) (vs : List Knowledge) (seats : ℕ → Knowledge) (k : Seated c start vs seats) (o : ℕ) (x : Knowledge) (id : ℕ)
    (v : Knowledge) (n : JoinedSeat)
    (at : get_elem? vs id ≡ some v) (unspent : v.spent ≡ false) (has : Contains v.notes n)
    (of_it : n.number ≡ o) (number : x.number ≡ (seats o).number) (begins : x.start ≡ (seats o).start) (from : x.base ≡ (seats o).base)
    (past : x.past ≡ (seats o).past) (ring : x.ring ≡ (seats o).ring) (phase : x.phase ≡ (seats o).phase) (scan : x.scan ≡ (seats o).scan) where
  agree : (s : ℕ) → ((set_at seats o x s).number ≡ (seats s).number) × ((set_at seats o x s).start ≡ (seats s).start)
      × ((set_at seats o x s).base ≡ (seats s).base) × ((set_at seats o x s).past ≡ (seats s).past) × ((set_at seats o x s).ring ≡ (seats s).ring)
      × ((set_at seats o x s).phase ≡ (seats s).phase) × ((set_at seats o x s).scan ≡ (seats s).scan)
  agree = set_at_all (λ s u. (u.number ≡ (seats s).number) × (u.start ≡ (seats s).start) × (u.base ≡ (seats s).base) × (u.past ≡ (seats s).past)
      × (u.ring ≡ (seats s).ring) × (u.phase ≡ (seats s).phase) × (u.scan ≡ (seats s).scan))
      seats o x (number, begins, from, past, ring, phase, scan) (λ s ne. (refl, refl, refl, refl, refl, refl, refl))

  pub seated_noted : Seated c start vs (set_at seats o x)
  seated_noted = record {
    own = λ s. let a = agree s in let b = k.own s in (a.0 ∙ b.0, a.1 ∙ b.1, a.2 ∙ b.2);
    there = λ j y at' un. let t =
        k.there j y at' un in (set_at_else seats o x y.number (λ e. k.gone id j v y n at at' unspent un has (e ∙ sym of_it)) ∙ t.0, t.1);
    apart = k.apart;
    noted = λ j y m at' un in_it. let r = k.noted j y m at' un in_it in let a = agree m.number in
        record { range = r.range; number = a.0 ∙ r.number; past = a.3 ∙ r.past; ring = a.4 ∙ r.ring; outside = a.5 ∙ r.outside; no_scan = a.6 ∙ r.no_scan };
    gone = k.gone;
    once = k.once;
    maker = λ j y at' un some_made.
        let r = k.maker j y at' un some_made in
        let below : n.number < y.made = All-contains (λ (m : JoinedSeat). m.number < y.made) v.notes n (k.made j id y v at' at un unspent some_made).1 has in
        (r.0, λ s le. set_at_else seats o x s (λ e. omega arith) ∙ r.1 s le);
    made = k.made;
    all = λ s. ⊎_elim inl
        (λ new. dite (ℕ_discrete s o)
        (λ e. inl (record { id = id; holder = v; place = at; unspent = unspent; named = inr (n, has, of_it ∙ sym e) }))
        (λ ne. inr (set_at_else seats o x s ne ∙ new)))
        (k.all s);
  }
