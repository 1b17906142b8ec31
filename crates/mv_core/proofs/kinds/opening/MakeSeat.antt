-- Making a seat: the list of views has one more, of the seat whose number comes next.
use Rattle.std.proofs.Common.{◌≡◌, ◌≢◌, ◌⊎◌, ℕ, zero, suc, ◌+◌, ◌-◌, ◌<◌, ◌≤◌, false, cond, List, [], ◌∷◌, ◌++◌, length, replicate, set, sym, refl, ap, ◌∙◌}
use Rattle.std.proofs.Common.{subst, inl, inr, ⊎_elim, le_refl, arith, ne_eqb, All, None}
use Rattle.std.specs.Prelude.{Contains}
use Rattle.std.proofs.lemmas.List.Elements.{All-nil, All-weaker, All-contains}
use Rattle.mv_core.proofs.Terms.{dite, some, some-injective, some-ne-none, ℕ_discrete, get_elem?, Step, State, Writes, Config, Checked, Shows, Knowledge}
use Rattle.mv_core.proofs.Terms.{JoinedSeat}
use Rattle.mv_core.proofs.Terms.{new_view, set_at}
use Rattle.atomic_table.specs.Table.{Splits, opening}
use Rattle.atomic_table.proofs.Lists.{at_set, set_here, at_last, at_longer}
use Rattle.mv_history.specs.declared.StepKind.TheVariants.{MakeSeat}
use Rattle.mv_history.specs.Legal.{AreWords}
use Rattle.mv_core.specs.declared.shared.Opening.{Opening}
use Rattle.mv_core.proofs.FactTerms.{IsNoted, IsThere, Known, Seated, Ruled, first_view}
use Rattle.mv_core.proofs.frames.Turning.{unspent_of}
use Rattle.mv_core.specs.Start.{opening_memory, maker_view}
use Rattle.mv_core.specs.SeatSteps.{made_one, newly_made}
use Rattle.mv_core.specs.Moves as moves
use Rattle.mv_core.specs.Moves.{Moment, IsSeat, makes, moved, seat_made}
use Rattle.mv_core.proofs.frames.FrameLaw.{set_at_here, set_at_else, set_at_all, set_at_same, unread}
use Rattle.mv_core.proofs.frames.SectionBounds.{none_in}
use Rattle.mv_core.proofs.frames.SeatsThere.{at_within, there_still, there_longer}
use Rattle.mv_core.proofs.kinds.opening.Starting.{first_seats, starting_facts}

one : {A : Type 0} (i : ℕ) (x y : A) → get_elem? (x ∷ []) i ≡ some y → (i ≡ 0) × (x ≡ y)
one zero x y e = (refl, some-injective x y e)
one (suc i) x y e = absurd (some-ne-none y (sym e))

none_at : {A : Type 0} {X : Type 0} (i : ℕ) (y : A) → get_elem? [] i ≡ some y → X
none_at i y e = absurd (some-ne-none y (sym e))

end_or_before : {A : Type 0} (l : List A) (a b : A) (j : ℕ) → get_elem? (l ++ a ∷ []) j ≡ some b → (get_elem? l j ≡ some b) ⊎ ((j ≡ length l) × (a ≡ b))
end_or_before [] a b zero e = inr (refl, some-injective a b e)
end_or_before [] a b (suc j) e = absurd (some-ne-none b (sym e))
end_or_before (x ∷ xs) a b zero e = inl e
end_or_before (x ∷ xs) a b (suc j) e = ⊎_elim inl (λ t. inr (ap suc t.0, t.1)) (end_or_before xs a b j e)

module _ (c : Config) (start : State) where
  -- the first seat, which is there alone
  first_there : 0 < c.seats → (id : ℕ) (v : Knowledge) → get_elem? (first_view c start ∷ []) id ≡ some v → (first_seats c start v.number ≡ v)
      × (v.number < c.seats)
  first_there some_seats id v at =
      subst (λ (u : Knowledge). (first_seats c start u.number ≡ u) × (u.number < c.seats)) (one id (first_view c start) v at).1 (refl, some_seats)

  no_notes : {X : Type 0} (id : ℕ) (v : Knowledge) (n : JoinedSeat) → get_elem? (first_view c start ∷ []) id ≡ some v → Contains v.notes n → X
  no_notes id v n at has = none_in n (subst (λ (ns : List JoinedSeat). Contains ns n)
      (ap (λ (u : Knowledge). u.notes) (sym (one id (first_view c start) v at).1)) has)

  pub first_seated : 0 < c.seats → Seated c start (first_view c start ∷ []) (first_seats c start)
  first_seated some_seats = record {
    own = λ s. (refl, refl, refl);
    there = λ id v at _. first_there some_seats id v at;
    apart = λ i j v w a b _ _ _. (one i (first_view c start) v a).0 ∙ sym (one j (first_view c start) w b).0;
    noted = λ id v n at _ has. no_notes id v n at has;
    gone = λ i j v w n a b _ _ has. no_notes i v n a has;
    once = λ i j p q v w m n a b _ _ e. none_at p m (ap (λ (u : Knowledge). get_elem? u.notes p) (one i (first_view c start) v a).1 ∙ e);
    maker = λ id v at _ _.
        subst (λ (u : Knowledge). (u.number ≡ 0) × ((s : ℕ) → u.made ≤ s → first_seats c start s ≡ new_view c start s 0)) (one id (first_view c start) v at).1
        (refl, λ s le. ap (λ b. new_view c start s (cond b 1 0)) (ne_eqb s 0 (λ e. omega arith)));
    all = λ s.
        dite (ℕ_discrete s 0)
        (λ e. inl (record { id = 0; holder = first_view c start; place = refl; unspent = refl; named = inl (sym e) }))
        (λ ne. inr (ap (λ b. new_view c start s (cond b 1 0)) (ne_eqb s 0 ne)));
    made = λ i j v w a b _ _ _.
        subst (λ (u : Knowledge). (w.number < u.made) × All (λ n. n.number < u.made) w.notes) (one i (first_view c start) v a).1
        (subst (λ (u : Knowledge). (u.number < 1) × All (λ n. n.number < 1) u.notes)
        (one j (first_view c start) w b).1 (omega arith, All-nil (λ n. n.number < 1)));
  }

module _ (c : Config) (start : State) (vs : List Knowledge) (seats : ℕ → Knowledge) (id : ℕ) (v : Knowledge) (k : Seated c start vs seats)
    (at : get_elem? vs id ≡ some v)
    (unspent : v.spent ≡ false) (maker : 0 < v.made) (room : v.made < c.seats) where
  abbrev w : Knowledge
  w = made_one c v

  abbrev x : Knowledge
  x = newly_made c v

  here : seats v.number ≡ v
  here = (k.there id v at unspent).0

  is_zero : v.number ≡ 0
  is_zero = (k.maker id v at unspent maker).0

  -- the seat that is made was new already
  new_is : seats v.made ≡ x
  new_is = (k.maker id v at unspent maker).1 v.made (le_refl v.made)
      ∙ ap (λ (s : State). new_view c s v.made 0) (sym (k.own v.number).1 ∙ ap (λ (u : Knowledge). u.start) here)

  -- what is at a place of the list after: the maker, another as before, or the new one
  data Which (j : ℕ) (y : Knowledge) : Type 0 where
    maker_is : j ≡ id → w ≡ y → Which j y
    other_is : j ≢ id → get_elem? vs j ≡ some y → Which j y
    new_one : j ≡ length (set vs id w) → x ≡ y → Which j y

  which : (j : ℕ) (y : Knowledge) → get_elem? (set vs id w ++ x ∷ []) j ≡ some y → Which j y
  which j y e =
      ⊎_elim (λ p. ⊎_elim (λ t. maker_is t.0 t.1) (λ t. other_is t.0 t.1) (at_set vs id j w y p)) (λ t. new_one t.0 t.1) (end_or_before (set vs id w) x y j e)

  -- a view but the new one, as it was
  abbrev Was : ℕ → Knowledge → Type 0
  Was j y = (z : Knowledge) × (get_elem? vs j ≡ some z) × (y.number ≡ z.number) × (y.notes ≡ z.notes) × (y.spent ≡ z.spent)

  was : (j : ℕ) (y : Knowledge) → get_elem? (set vs id w ++ x ∷ []) j ≡ some y → Was j y ⊎ ((j ≡ length (set vs id w)) × (x ≡ y))
  was j y e = go (which j y e)
    where
      go : Which j y → Was j y ⊎ ((j ≡ length (set vs id w)) × (x ≡ y))
      go (maker_is i e) =
          inl (
            v,
            subst (λ (i : ℕ). get_elem? vs i ≡ some v) (sym i) at,
            ap (λ (u : Knowledge). u.number) (sym e),
            ap (λ (u : Knowledge). u.notes) (sym e),
            ap (λ (u : Knowledge). u.spent) (sym e),
          )
      go (other_is i e) = inl (y, e, refl, refl, refl)
      go (new_one i e) = inr (i, e)

  low : (j : ℕ) (z : Knowledge) → get_elem? vs j ≡ some z → z.spent ≡ false → (z.number < v.made) × All (λ n. n.number < v.made) z.notes
  low j z e un = k.made id j v z at e unspent un maker

  there_after : (j : ℕ) (y : Knowledge) → get_elem? (set vs id w ++ x ∷ []) j ≡ some y → y.spent ≡ false
      → (set_at seats v.number w y.number ≡ y) × (y.number < c.seats)
  there_after j y e un = go (which j y e)
    where
      go : Which j y → (set_at seats v.number w y.number ≡ y) × (y.number < c.seats)
      go (maker_is i e) =
          subst (λ (u : Knowledge). (set_at seats v.number w u.number ≡ u) × (u.number < c.seats)) e (set_at_here seats v.number w, (k.there id v at unspent).1)
      go (other_is i e) =
          let o = k.there j y e un in
          (set_at_else seats v.number w y.number (λ same. i (k.apart j id y v e at un unspent same)) ∙ o.0, o.1)
      go (new_one i e) =
          subst (λ (u : Knowledge). (set_at seats v.number w u.number ≡ u) × (u.number < c.seats)) e
          (set_at_else seats v.number w v.made (λ same. let z = is_zero in omega arith) ∙ new_is, room)

  noted_after : (j : ℕ) (y : Knowledge) (n : JoinedSeat) → get_elem? (set vs id w ++ x ∷ []) j ≡ some y → y.spent ≡ false → Contains y.notes n
      → IsNoted c (set_at seats v.number w) n
  noted_after j y n e un has =
      ⊎_elim
      (λ o.
      let old_has : Contains o.0.notes n = subst (λ (ns : List JoinedSeat). Contains ns n) o.3 has in
      let old_un : o.0.spent ≡ false = sym o.4 ∙ un in
      let same : set_at seats v.number w n.number ≡ seats n.number =
      set_at_else seats v.number w n.number (λ e. k.gone j id o.0 v n o.1 at old_un unspent old_has (sym e)) in
      let r = k.noted j o.0 n o.1 old_un old_has in record {
        range = r.range;
        number = ap (λ (u : Knowledge). u.number) same ∙ r.number;
        past = ap (λ (u : Knowledge). u.past) same ∙ r.past;
        ring = ap (λ (u : Knowledge). u.ring) same ∙ r.ring;
        outside = ap (λ (u : Knowledge). u.phase) same ∙ r.outside;
        no_scan = ap (λ (u : Knowledge). u.scan) same ∙ r.no_scan;
      })
      (λ t. none_in n (subst (λ (u : Knowledge). Contains u.notes n) (sym t.1) has))
      (was j y e)

  apart_after : (i j : ℕ) (y z : Knowledge) → get_elem? (set vs id w ++ x ∷ []) i ≡ some y → get_elem? (set vs id w ++ x ∷ []) j ≡ some z → y.spent ≡ false
      → z.spent ≡ false → y.number ≡ z.number → i ≡ j
  apart_after i j y z e f un vn same =
      ⊎_elim
      (λ a. let old_un : a.0.spent ≡ false = sym a.4 ∙ un in
      ⊎_elim
      (λ b. k.apart i j a.0 b.0 a.1 b.1 old_un (sym b.4 ∙ vn) (sym a.2 ∙ same ∙ b.2))
      (λ t. let below = (low i a.0 a.1 old_un).0 in let is : a.0.number ≡ v.made = sym a.2 ∙ same ∙ ap (λ (u : Knowledge). u.number) (sym t.1) in
      absurd (omega arith))
      (was j z f))
      (λ s. ⊎_elim
      (λ b. let below = (low j b.0 b.1 (sym b.4 ∙ vn)).0 in let is : b.0.number ≡ v.made = sym b.2 ∙ sym same ∙ ap (λ (u : Knowledge). u.number) (sym s.1) in
      absurd (omega arith))
      (λ t. s.0 ∙ sym t.0)
      (was j z f))
      (was i y e)

  gone_after : (i j : ℕ) (y z : Knowledge) (n : JoinedSeat) → get_elem? (set vs id w ++ x ∷ []) i ≡ some y → get_elem? (set vs id w ++ x ∷ []) j ≡ some z
      → y.spent ≡ false → z.spent ≡ false → Contains y.notes n → z.number ≢ n.number
  gone_after i j y z n e f un vn has same =
      ⊎_elim
      (λ a.
      let old_un : a.0.spent ≡ false = sym a.4 ∙ un in
      let old_has : Contains a.0.notes n = subst (λ (ns : List JoinedSeat). Contains ns n) a.3 has in
      ⊎_elim
      (λ b. k.gone i j a.0 b.0 n a.1 b.1 old_un (sym b.4 ∙ vn) old_has (sym b.2 ∙ same))
      (λ t. let below : n.number < v.made = All-contains (λ n. n.number < v.made) a.0.notes n (low i a.0 a.1 old_un).1 old_has in
      let is : v.made ≡ n.number = ap (λ (u : Knowledge). u.number) t.1 ∙ same in absurd (omega arith))
      (was j z f))
      (λ s. none_in n (subst (λ (u : Knowledge). Contains u.notes n) (sym s.1) has))
      (was i y e)

  once_after : (i j p q : ℕ) (y z : Knowledge) (m n : JoinedSeat) → get_elem? (set vs id w ++ x ∷ []) i ≡ some y → get_elem? (set vs id w ++ x ∷ []) j ≡ some z
      → y.spent ≡ false → z.spent ≡ false → get_elem? y.notes p ≡ some m → get_elem? z.notes q ≡ some n → m.number ≡ n.number → (i ≡ j) × (p ≡ q)
  once_after i j p q y z m n e f un vn g h same =
      ⊎_elim
      (λ a. ⊎_elim
      (λ b. k.once i j p q a.0 b.0 m n a.1 b.1 (sym a.4 ∙ un) (sym b.4 ∙ vn) (subst (λ (ns : List JoinedSeat). get_elem? ns p ≡ some m) a.3 g)
      (subst (λ (ns : List JoinedSeat). get_elem? ns q ≡ some n) b.3 h) same)
      (λ t. none_at q n (ap (λ (u : Knowledge). get_elem? u.notes q) t.1 ∙ h))
      (was j z f))
      (λ s. none_at p m (ap (λ (u : Knowledge). get_elem? u.notes p) s.1 ∙ g))
      (was i y e)

  -- only the maker makes seats
  only_maker : (j : ℕ) (y : Knowledge) → Which j y → y.spent ≡ false → 0 < y.made → w ≡ y
  only_maker j y (maker_is i e) un some_made = e
  only_maker j y (other_is i e) un some_made = absurd (i (k.apart j id y v e at un unspent ((k.maker j y e un some_made).0 ∙ sym is_zero)))
  only_maker j y (new_one i e) un some_made = let none : 0 ≡ y.made = ap (λ (u : Knowledge). u.made) e in absurd (omega arith)

  later : (s : ℕ) → v.made + 1 ≤ s → set_at seats v.number w s ≡ new_view c start s 0
  later s le = set_at_else seats v.number w s (λ e. let z = is_zero in omega arith) ∙ (k.maker id v at unspent maker).1 s (omega arith)

  maker_after : (j : ℕ) (y : Knowledge) → get_elem? (set vs id w ++ x ∷ []) j ≡ some y → y.spent ≡ false → 0 < y.made
      → (y.number ≡ 0) × ((s : ℕ) → y.made ≤ s → set_at seats v.number w s ≡ new_view c start s 0)
  maker_after j y e un some_made =
      subst (λ (u : Knowledge). (u.number ≡ 0) × ((s : ℕ) → u.made ≤ s → set_at seats v.number w s ≡ new_view c start s 0))
      (only_maker j y (which j y e) un some_made) (is_zero, later)

  made_after : (i j : ℕ) (y z : Knowledge) → get_elem? (set vs id w ++ x ∷ []) i ≡ some y → get_elem? (set vs id w ++ x ∷ []) j ≡ some z → y.spent ≡ false
      → z.spent ≡ false → 0 < y.made → (z.number < y.made) × All (λ n. n.number < y.made) z.notes
  made_after i j y z e f un vn some_made =
      subst (λ (u : Knowledge). (z.number < u.made) × All (λ n. n.number < u.made) z.notes) (only_maker i y (which i y e) un some_made)
      (⊎_elim
      (λ b.
      let r = low j b.0 b.1 (sym b.4 ∙ vn) in (
        let l = r.0 in let same = b.2 in omega arith,
        subst (λ (ns : List JoinedSeat). All (λ n. n.number < v.made + 1) ns) (sym b.3)
            (All-weaker (λ (n : JoinedSeat). n.number < v.made) (λ n. n.number < v.made + 1) (λ n l. omega arith) b.0.notes r.1),
      ))
      (λ t. subst (λ (u : Knowledge). (u.number < v.made + 1) × All (λ n. n.number < v.made + 1) u.notes) t.1
      (omega arith, All-nil (λ n. n.number < v.made + 1)))
      (was j z f))

  own_after : (s : ℕ) → ((set_at seats v.number w s).number ≡ s) × ((set_at seats v.number w s).start ≡ start) × ((set_at seats v.number w s).base ≡ c.base)
  own_after =
      set_at_all (λ s u. (u.number ≡ s) × (u.start ≡ start) × (u.base ≡ c.base)) seats v.number w
      (let o = k.own v.number in (refl, sym (ap (λ (u : Knowledge). u.start) here) ∙ o.1, sym (ap (λ (u : Knowledge). u.base) here) ∙ o.2))
      (λ s ne. k.own s)

  all_after : (s : ℕ) → IsThere (set vs id w ++ x ∷ []) s ⊎ (set_at seats v.number w s ≡ new_view c start s 0)
  all_after s =
      ⊎_elim
      (λ t. inl (there_longer (set vs id w) (x ∷ []) s (there_still vs id v w at unspent refl (λ n has. has) s t)))
      (λ new.
      dite (ℕ_discrete s v.number)
      (λ e. inl (there_longer (set vs id w) (x ∷ []) s
      (record { id = id; holder = w; place = set_here vs id w (at_within vs id v at); unspent = unspent; named = inl (sym e) })))
      (λ ne.
      dite (ℕ_discrete s v.made)
      (λ e. inl (record {
        id = length (set vs id w);
        holder = x;
        place = at_last (set vs id w) x (length (set vs id w)) refl;
        unspent = refl;
        named = inl (sym e);
      }))
      (λ other. inr (set_at_else seats v.number w s ne ∙ new))))
      (k.all s)

  pub seated_made : Seated c start (set vs id w ++ x ∷ []) (set_at seats v.number w)
  seated_made = record {
    own = own_after;
    there = there_after;
    apart = apart_after;
    noted = noted_after;
    gone = gone_after;
    once = once_after;
    maker = maker_after;
    made = made_after;
    all = all_after;
  }

-- one more seat keeps the rule
pub seat_splits : (starts : State → Type 0) (allows : List ℕ → State → Writes → Type 0) (key : Opening) (id : ℕ) (v : Knowledge) → v.spent ≡ false → 0 < v.made
    → v.made < key.config.seats
    → Splits (Ruled starts allows key) id v (made_one key.config v) (newly_made key.config v)
seat_splits starts allows key id v unspent maker room s r at =
    let c = key.config in
    let start = key.start.value.items in
    let n = v.number in
    let w = made_one c v in
    let x = newly_made c v in
    let before : Moment = record { memory = r.memory; history = r.history; seats = r.seats } in
    let here_is : r.seats n ≡ v = (r.seated.there id v at unspent).0 in
    let first : n ≡ 0 = (r.seated.maker id v at unspent maker).0 in
    let was_new : r.seats v.made ≡ x = new_is c start s.views r.seats id v r.seated at unspent maker room in
    let same : set_at (set_at r.seats n w) v.made x ≡ set_at r.seats n w =
    set_at_same (set_at r.seats n w) v.made x (set_at_else r.seats n w v.made (λ e. omega arith) ∙ was_new) in
    let seat : IsSeat before n = record { made = r.active id v at unspent; unspent = ap (λ (u : Knowledge). u.spent) here_is ∙ unspent } in
    let after_is : record before { seats = set_at r.seats n w } ≡ seat_made c n before =
    ap (λ (f : ℕ → Knowledge). record before { seats = f }) (sym same)
    ∙ ap (λ (u : Knowledge). record before { seats = set_at (set_at r.seats n (made_one c u)) u.made (newly_made c u) }) (sym here_is) in
    let as_made : (set_at r.seats n w 0).made ≡ v.made + 1 =
    ap (λ (i : ℕ). (set_at r.seats n w i).made) (sym first) ∙ ap (λ (u : Knowledge). u.made) (set_at_here r.seats n w) in
    let seated = seated_made c start s.views r.seats id v r.seated at unspent maker room in
    let place : get_elem? (set s.views id w ++ x ∷ []) id ≡ some w =
    at_longer (set s.views id w) (x ∷ []) id w (set_here s.views id w (at_within s.views id v at)) in
    record {
      memory = r.memory;
      history = r.history;
      seats = set_at r.seats n w;
      shows = r.shows;
      slotless = r.slotless;
      seated = seated;
      facts = unread starts allows c start r.memory r.history r.seats n v w here_is (refl, refl, refl, refl, refl, refl, refl, refl, refl, refl, refl) r.facts;
      reached = moved before (record before { seats = set_at r.seats n w }) r.reached
          (n, seat, makes first (subst (λ (u : Knowledge). u.made < c.seats) (sym here_is) room) after_is);
      active = λ j y at' un. let lt = (seated.made id j w y place at' unspent un (omega arith)).0 in omega arith;
    }

-- a new domain keeps the rule
pub opened : (starts : State → Type 0) (allows : List ℕ → State → Writes → Type 0) (key : Opening) (words : List ℕ) → Checked key.config
    → length key.start.value.items ≡ key.config.objects → AreWords key.start.value.items → starts key.start.value.items
    → Shows key.config words (opening_memory key.config key.start.value.items)
    → Ruled starts allows key (opening words [] (first_view key.config key.start.value.items))
opened starts allows key words k sized wide lawful shows = record {
  memory = opening_memory key.config key.start.value.items;
  history = [];
  seats = first_seats key.config key.start.value.items;
  shows = shows;
  slotless = refl;
  seated = first_seated key.config key.start.value.items k.seats.0;
  facts = starting_facts starts allows key.config key.start.value.items k sized wide lawful;
  reached = moves.opened;
  active = λ id v at un. subst (λ (u : Knowledge). u.number < 1) (one id (first_view key.config key.start.value.items) v at).1 (omega arith);
}

push_same : {A : Type 0} (n : ℕ) (x : A) → replicate n x ++ x ∷ [] ≡ replicate (suc n) x
push_same zero x = refl
push_same (suc n) x = ap (λ xs. x ∷ xs) (push_same n x)

-- the first seat's view after it made one more
pub makes_one_more : (c : Config) (start : State) (n : ℕ) → 0 < n → made_one c (maker_view c start n) ≡ maker_view c start (n + 1)
makes_one_more c start (suc n) some_made =
    let one_less : suc n - 1 ≡ n = omega arith in
    let trail : replicate (suc n - 1) _ ++ _ ∷ [] ≡ replicate (suc n + 1 - 1) _ =
    ap (λ (m : ℕ). replicate m (record { kind = MakeSeat; word = 0; found = None; stored = None })
    ++ record { kind = MakeSeat; word = 0; found = None; stored = None } ∷ []) one_less
    ∙ push_same n (record { kind = MakeSeat; word = 0; found = None; stored = None })
    ∙ ap (λ (m : ℕ). replicate m (record { kind = MakeSeat; word = 0; found = None; stored = None })) (let e : suc n ≡ suc n + 1 - 1 = omega arith in e) in
    ap (λ (l : List Step). record (new_view c start 0 (suc n + 1)) { trail = l }) trail
makes_one_more c start zero some_made = absurd (omega arith)

-- what holds of each place of a list holds after a push, if it does of what was pushed
pub each_pushed : {A : Type 0} (P : ℕ → A → Type 0) (l : List A) (a : A) → ((k : ℕ) (x : A) → get_elem? l k ≡ some x → P k x) → P (length l) a
    → (k : ℕ) (x : A) → get_elem? (l ++ a ∷ []) k ≡ some x → P k x
each_pushed P l a all last k x at = ⊎_elim (all k x) (λ t. subst (P k) t.1 (subst (λ (i : ℕ). P i a) (sym t.0) last)) (end_or_before l a x k at)

-- what holds of the first place of a list, and of each later one, holds of each
pub each_from_first : {A : Type 0} (P : ℕ → A → Type 0) (a : A) (l : List A) → P 0 a → ((k : ℕ) (x : A) → get_elem? l k ≡ some x → P (suc k) x)
    → (k : ℕ) (x : A) → get_elem? (a ∷ l) k ≡ some x → P k x
each_from_first P a l first later zero x at = subst (P 0) (some-injective a x at) first
each_from_first P a l first later (suc k) x at = later k x at

-- the same, where the domain's numbers are named otherwise and the seat's view is one that a pass knows
pub seat_splits_in : (starts : State → Type 0) (allows : List ℕ → State → Writes → Type 0) (key : Opening) (id : ℕ) (v : Knowledge) (c : Config)
    → c ≡ key.config → ∥ Known starts allows v ∥₁ → (0 < v.made) × (v.made < key.config.seats)
    → Splits (Ruled starts allows key) id v (made_one c v) (newly_made c v)
seat_splits_in starts allows key id v c is known range =
    subst (λ (n : Config). Splits (Ruled starts allows key) id v (made_one n v) (newly_made n v)) (sym is)
    (seat_splits starts allows key id v (unspent_of _ _ _ known) range.0 range.1)
