-- Joining a seat: its view is spent, and the seat that is left has a note of it.
use Rattle.std.proofs.Common.{◌≡◌, ◌≢◌, ◌⊎◌, ℕ, zero, suc, ◌+◌, ◌<◌, ◌≤◌, true, false, List, ◌∷◌}
use Rattle.std.proofs.Common.{length, set, sym, refl, ap, ◌∙◌, subst, inl, inr, ⊎_elim, arith, All}
use Rattle.std.specs.Prelude.{Contains}
use Rattle.std.proofs.lemmas.List.Elements.{All-append, All-cons, Contains-append_left, Contains-append_right}
use Rattle.std.proofs.Math.Logic.{∥∥₁_map}
use Rattle.mv_core.proofs.Terms.{dite, some, some-injective, ℕ_discrete, get_elem?, State, Writes, Config, Knowledge, JoinedSeat, Outside, Inside}
use Rattle.mv_core.proofs.Terms.{new_view, spent_view, set_at}
use Rattle.atomic_table.specs.Table.{Joins}
use Rattle.atomic_table.proofs.Lists.{at_set, set_here, set_else}
use Rattle.mv_core.specs.declared.shared.Opening.{Opening}
use Rattle.mv_core.proofs.FactTerms.{Known, KnownInDomain, RunsOn, IsNoted, IsThere, Seated, Ruled}
use Rattle.mv_core.specs.SeatSteps.{MayJoin, note_of, joined}
use Rattle.mv_core.specs.Moves.{Moment, IsSeat, joins, moved, seat_joined}
use Rattle.mv_core.proofs.frames.FrameLaw.{set_at_here, set_at_else, set_at_all, unread}
use Rattle.mv_core.proofs.points.KnownLogs.{commit_still}
use Rattle.mv_core.proofs.frames.SeatsThere.{at_within, named_still}
use Rattle.mv_core.proofs.kinds.joining.Between.{After, between, at_contains, contains_between}
use Rattle.mv_core.proofs.kinds.joining.NotedSeat.{seated_noted}

module _ (c : Config) (start : State) (vs : List Knowledge) (seats : ℕ → Knowledge) (id o : ℕ) (v w : Knowledge) (k : Seated c start vs seats)
    (at : get_elem? vs id ≡ some v) (other_at : get_elem? vs o ≡ some w) (other : o ≢ id)
    (unspent : v.spent ≡ false) (other_unspent : w.spent ≡ false) (may : MayJoin v w) where
  abbrev u : Knowledge
  u = joined c v w

  abbrev list : List Knowledge
  list = set (set vs id u) o spent_view

  -- an unspent view afterwards is the joined one, or another as before
  data Which (i : ℕ) (y : Knowledge) : Type 0 where
    joined_is : i ≡ id → u ≡ y → Which i y
    other_is : i ≢ id → i ≢ o → get_elem? vs i ≡ some y → Which i y

  which : (i : ℕ) (y : Knowledge) → get_elem? list i ≡ some y → y.spent ≡ false → Which i y
  which i y e un =
      ⊎_elim
      (λ gone. let spent : true ≡ false = ap (λ (z : Knowledge). z.spent) gone.1 ∙ un in absurd (cc))
      (λ r. ⊎_elim (λ t. joined_is t.0 t.1) (λ t. other_is t.0 r.0 t.1) (at_set vs id i u y r.1))
      (at_set (set vs id u) o i spent_view y e)

  here : seats v.number ≡ v
  here = (k.there id v at unspent).0

  -- what it was
  record Was (i : ℕ) (y : Knowledge) : Type 0 where
    view : Knowledge
    place : get_elem? vs i ≡ some view
    left : i ≢ o
    number_is : y.number ≡ view.number
    made_is : y.made ≡ view.made
    still : view.spent ≡ false

  was : (i : ℕ) (y : Knowledge) → get_elem? list i ≡ some y → y.spent ≡ false → Was i y
  was i y e un = go (which i y e un)
    where
      go : Which i y → Was i y
      go (joined_is a b) = record {
        view = v;
        place = subst (λ (j : ℕ). get_elem? vs j ≡ some v) (sym a) at;
        left = λ same. other (sym same ∙ a);
        number_is = ap (λ (z : Knowledge). z.number) (sym b);
        made_is = ap (λ (z : Knowledge). z.made) (sym b);
        still = unspent;
      }
      go (other_is a b d) = record { view = y; place = d; left = b; number_is = refl; made_is = refl; still = un }

  -- whose note is in a view afterwards: it was in that view, or in that of the joined seat, or it is the note of that seat
  data Noted (i : ℕ) (y : Knowledge) (n : JoinedSeat) : Type 0 where
    as_before : (a : Was i y) → Contains a.view.notes n → Noted i y n
    of_joined : i ≡ id → note_of w ≡ n → Noted i y n
    of_its : i ≡ id → Contains w.notes n → Noted i y n

  noted : (i : ℕ) (y : Knowledge) (n : JoinedSeat) → get_elem? list i ≡ some y → y.spent ≡ false → Contains y.notes n → Noted i y n
  noted i y n e un has = go (which i y e un)
    where
      go : Which i y → Noted i y n
      go (joined_is a b) =
          ⊎_elim
          (λ old. as_before (record {
            view = v;
            place = subst (λ (j : ℕ). get_elem? vs j ≡ some v) (sym a) at;
            left = λ same. other (sym same ∙ a);
            number_is = ap (λ (z : Knowledge). z.number) (sym b);
            made_is = ap (λ (z : Knowledge). z.made) (sym b);
            still = unspent;
          }) old)
          (λ r. ⊎_elim (λ new. of_joined a new) (λ its. of_its a its) r)
          (contains_between v.notes w.notes (note_of w) n (subst (λ (z : Knowledge). Contains z.notes n) (sym b) has))
      go (other_is a b d) = as_before (record { view = y; place = d; left = b; number_is = refl; made_is = refl; still = un }) has

  -- the seat of such a note is neither the one that is left nor any that is unspent
  noted_apart : (i j : ℕ) (y z : Knowledge) (n : JoinedSeat) → Noted i y n → Was j z → z.number ≢ n.number
  noted_apart i j y z n (as_before a has) b same = k.gone i j a.view b.view n a.place b.place a.still b.still has (sym b.number_is ∙ same)
  noted_apart i j y z n (of_joined a is) b same =
      b.left (k.apart j o b.view w b.place other_at b.still other_unspent (sym b.number_is ∙ same ∙ ap (λ (m : JoinedSeat). m.number) (sym is)))
  noted_apart i j y z n (of_its a has) b same = k.gone o j w b.view n other_at b.place other_unspent b.still has (sym b.number_is ∙ same)

  joined_was : Was id u
  joined_was = record { view = v; place = at; left = λ same. other (sym same); number_is = refl; made_is = refl; still = unspent }

  noted_before : (i : ℕ) (y : Knowledge) (n : JoinedSeat) → Noted i y n → IsNoted c seats n
  noted_before i y n (as_before a has) = k.noted i a.view n a.place a.still has
  noted_before i y n (of_joined a is) =
      let both = k.there o w other_at other_unspent in
      let there = both.0 in
      subst (IsNoted c seats) is (record {
        range = both.1;
        number = ap (λ (z : Knowledge). z.number) there;
        past = ap (λ (z : Knowledge). z.past) there;
        ring = ap (λ (z : Knowledge). z.ring) there;
        outside = ap (λ (z : Knowledge). z.phase) there ∙ may.other_outside;
        no_scan = ap (λ (z : Knowledge). z.scan) there ∙ may.other_no_scan;
      })
  noted_before i y n (of_its a has) = k.noted o w n other_at other_unspent has

  noted_after : (i : ℕ) (y : Knowledge) (n : JoinedSeat) → get_elem? list i ≡ some y → y.spent ≡ false → Contains y.notes n
      → IsNoted c (set_at seats v.number u) n
  noted_after i y n e un has =
      let from = noted i y n e un has in
      let same : set_at seats v.number u n.number ≡ seats n.number =
      set_at_else seats v.number u n.number (λ is. noted_apart i id y u n from joined_was (sym is)) in
      let r = noted_before i y n from in record {
        range = r.range;
        number = ap (λ (z : Knowledge). z.number) same ∙ r.number;
        past = ap (λ (z : Knowledge). z.past) same ∙ r.past;
        ring = ap (λ (z : Knowledge). z.ring) same ∙ r.ring;
        outside = ap (λ (z : Knowledge). z.phase) same ∙ r.outside;
        no_scan = ap (λ (z : Knowledge). z.scan) same ∙ r.no_scan;
      }

  there_after : (i : ℕ) (y : Knowledge) → get_elem? list i ≡ some y → y.spent ≡ false → (set_at seats v.number u y.number ≡ y) × (y.number < c.seats)
  there_after i y e un = go (which i y e un)
    where
      go : Which i y → (set_at seats v.number u y.number ≡ y) × (y.number < c.seats)
      go (joined_is a b) =
          subst (λ (z : Knowledge). (set_at seats v.number u z.number ≡ z) × (z.number < c.seats)) b (set_at_here seats v.number u, (k.there id v at unspent).1)
      go (other_is a b d) =
          let r = k.there i y d un in
          (set_at_else seats v.number u y.number (λ same. a (k.apart i id y v d at un unspent same)) ∙ r.0, r.1)

  -- where a note stands in a view
  data NotedAt (i : ℕ) (y : Knowledge) (p : ℕ) (n : JoinedSeat) : Type 0 where
    at_before : (a : Was i y) → get_elem? a.view.notes p ≡ some n → NotedAt i y p n
    at_joined : i ≡ id → p ≡ length v.notes → note_of w ≡ n → NotedAt i y p n
    at_its : i ≡ id → After w.notes (length v.notes) p n → NotedAt i y p n

  noted_at : (i : ℕ) (y : Knowledge) (p : ℕ) (n : JoinedSeat) → get_elem? list i ≡ some y → y.spent ≡ false → get_elem? y.notes p ≡ some n → NotedAt i y p n
  noted_at i y p n e un there = go (which i y e un)
    where
      go : Which i y → NotedAt i y p n
      go (joined_is a b) =
          ⊎_elim
          (λ old. at_before (record {
            view = v;
            place = subst (λ (j : ℕ). get_elem? vs j ≡ some v) (sym a) at;
            left = λ same. other (sym same ∙ a);
            number_is = ap (λ (z : Knowledge). z.number) (sym b);
            made_is = ap (λ (z : Knowledge). z.made) (sym b);
            still = unspent;
          }) old)
          (λ r. ⊎_elim (λ new. at_joined a new.0 new.1) (λ its. at_its a its) r)
          (between v.notes w.notes (note_of w) n p (subst (λ (z : Knowledge). get_elem? z.notes p ≡ some n) (sym b) there))
      go (other_is a b d) = at_before (record { view = y; place = d; left = b; number_is = refl; made_is = refl; still = un }) there

  once_of : (i j p q : ℕ) (y z : Knowledge) (m n : JoinedSeat) → NotedAt i y p m → NotedAt j z q n → m.number ≡ n.number → (i ≡ j) × (p ≡ q)
  once_of i j p q y z m n (at_before a e) (at_before b f) same = k.once i j p q a.view b.view m n a.place b.place a.still b.still e f same
  once_of i j p q y z m n (at_before a e) (at_joined b f is) same =
      absurd (k.gone i o a.view w m a.place other_at a.still other_unspent (at_contains a.view.notes p m e) (ap (λ (l : JoinedSeat). l.number) is ∙ sym same))
  once_of i j p q y z m n (at_before a e) (at_its b f) same =
      absurd (a.left (k.once i o p f.step a.view w m n a.place other_at a.still other_unspent e f.there same).0)
  once_of i j p q y z m n (at_joined a e is) (at_before b f) same =
      absurd (k.gone j o b.view w n b.place other_at b.still other_unspent (at_contains b.view.notes q n f) (ap (λ (l : JoinedSeat). l.number) is ∙ same))
  once_of i j p q y z m n (at_joined a e is) (at_joined b f js) same = (a ∙ sym b, e ∙ sym f)
  once_of i j p q y z m n (at_joined a e is) (at_its b f) same =
      absurd (k.gone o o w w n other_at other_at other_unspent other_unspent (at_contains w.notes f.step n f.there)
      (ap (λ (l : JoinedSeat). l.number) is ∙ same))
  once_of i j p q y z m n (at_its a e) (at_before b f) same =
      absurd (b.left (sym (k.once o j e.step q w b.view m n other_at b.place other_unspent b.still e.there f same).0))
  once_of i j p q y z m n (at_its a e) (at_joined b f is) same =
      absurd (k.gone o o w w m other_at other_at other_unspent other_unspent (at_contains w.notes e.step m e.there)
      (ap (λ (l : JoinedSeat). l.number) is ∙ sym same))
  once_of i j p q y z m n (at_its a e) (at_its b f) same =
      let one = (k.once o o e.step f.step w w m n other_at other_at other_unspent other_unspent e.there f.there same).1 in
      (a ∙ sym b, e.place ∙ ap (λ t. length v.notes + suc t) one ∙ sym f.place)

  -- the seats that a maker made are below those to come
  maker_after : (i : ℕ) (y : Knowledge) → get_elem? list i ≡ some y → y.spent ≡ false → 0 < y.made
      → (y.number ≡ 0) × ((s : ℕ) → y.made ≤ s → set_at seats v.number u s ≡ new_view c start s 0)
  maker_after i y e un some_made =
      let a = was i y e un in
      let more : 0 < a.view.made = subst (λ (t : ℕ). 0 < t) a.made_is some_made in
      let old = k.maker i a.view a.place a.still more in
      let below = (k.made i id a.view v a.place at a.still unspent more).0 in
      let made_is = a.made_is in (
        a.number_is ∙ old.0,
        λ s le. set_at_else seats v.number u s (λ same. omega arith) ∙ old.1 s (omega arith),
      )

  made_after : (i j : ℕ) (y z : Knowledge) → get_elem? list i ≡ some y → get_elem? list j ≡ some z → y.spent ≡ false → z.spent ≡ false → 0 < y.made
      → (z.number < y.made) × All (λ n. n.number < y.made) z.notes
  made_after i j y z e f un vn some_made =
      let a = was i y e un in
      let more : 0 < a.view.made = subst (λ (t : ℕ). 0 < t) a.made_is some_made in
      let low : (l : ℕ) (x : Knowledge) → get_elem? vs l ≡ some x → x.spent ≡ false → (x.number < a.view.made) × All (λ n. n.number < a.view.made) x.notes =
      λ l x there still. k.made i l a.view x a.place there a.still still more in
      subst (λ (t : ℕ). (z.number < t) × All (λ n. n.number < t) z.notes) (sym a.made_is) (go low (which j z f vn))
    where
      go : {t : ℕ} → ((l : ℕ) (x : Knowledge) → get_elem? vs l ≡ some x → x.spent ≡ false → (x.number < t) × All (λ n. n.number < t) x.notes) → Which j z
          → (z.number < t) × All (λ n. n.number < t) z.notes
      go {t} low (joined_is a b) =
          let own = low id v at unspent in
          let its = low o w other_at other_unspent in
          subst (λ (x : Knowledge). (x.number < t) × All (λ n. n.number < t) x.notes) b (
            own.0,
            All-append (λ (n : JoinedSeat). n.number < t) v.notes (note_of w ∷ w.notes) own.1
                (All-cons (λ (n : JoinedSeat). n.number < t) (note_of w) w.notes its.0 its.1),
          )
      go low (other_is a b d) = low j z d vn

  own_after : (s : ℕ) → ((set_at seats v.number u s).number ≡ s) × ((set_at seats v.number u s).start ≡ start) × ((set_at seats v.number u s).base ≡ c.base)
  own_after =
      set_at_all (λ s x. (x.number ≡ s) × (x.start ≡ start) × (x.base ≡ c.base)) seats v.number u
      (let r = k.own v.number in (refl, sym (ap (λ (x : Knowledge). x.start) here) ∙ r.1, sym (ap (λ (x : Knowledge). x.base) here) ∙ r.2))
      (λ s ne. k.own s)

  u_place : get_elem? list id ≡ some u
  u_place = set_else (set vs id u) o id spent_view (λ e. other (sym e)) ∙ set_here vs id u (at_within vs id v at)

  old_noted : (n : JoinedSeat) → Contains v.notes n → Contains u.notes n
  old_noted n has = Contains-append_left v.notes (note_of w ∷ w.notes) n has

  new_noted : (n : JoinedSeat) → (note_of w ≡ n) ⊎ Contains w.notes n → Contains u.notes n
  new_noted n which =
      Contains-append_right v.notes (note_of w ∷ w.notes) n
      (⊎_elim (λ own. (zero, omega arith, own)) (λ its. let lt = its.1 in (suc its.0, omega arith, its.2)) which)

  -- each seat that had a view or a note has one: that of the joined seat is a note now
  there_joined : (s : ℕ) → IsThere vs s → IsThere list s
  there_joined s t =
      dite (ℕ_discrete t.id o)
      (λ e.
      let same : t.holder ≡ w = some-injective t.holder w (sym t.place ∙ ap (get_elem? vs) e ∙ other_at) in
      let named : (w.number ≡ s) ⊎ ((n : JoinedSeat) × Contains w.notes n × (n.number ≡ s)) =
      subst (λ (z : Knowledge). (z.number ≡ s) ⊎ ((n : JoinedSeat) × Contains z.notes n × (n.number ≡ s))) same t.named in
      record {
        id = id;
        holder = u;
        place = u_place;
        unspent = unspent;
        named = inr (⊎_elim (λ own. (note_of w, new_noted (note_of w) (inl refl), own)) (λ its. (its.0, new_noted its.0 (inr its.1), its.2)) named);
      })
      (λ ne.
      dite (ℕ_discrete t.id id)
      (λ here.
      let same : t.holder ≡ v = some-injective t.holder v (sym t.place ∙ ap (get_elem? vs) here ∙ at) in
      record {
        id = id;
        holder = u;
        place = u_place;
        unspent = unspent;
        named = named_still v u s refl old_noted (subst (λ (z : Knowledge). (z.number ≡ s) ⊎ ((n : JoinedSeat) × Contains z.notes n × (n.number ≡ s)))
            same t.named);
      })
      (λ away. record {
        id = t.id;
        holder = t.holder;
        place = set_else (set vs id u) o t.id spent_view ne ∙ set_else vs id t.id u away ∙ t.place;
        unspent = t.unspent;
        named = t.named;
      }))

  all_after : (s : ℕ) → IsThere list s ⊎ (set_at seats v.number u s ≡ new_view c start s 0)
  all_after s =
      ⊎_elim
      (λ t. inl (there_joined s t))
      (λ new.
      dite (ℕ_discrete s v.number)
      (λ e. inl (record { id = id; holder = u; place = u_place; unspent = unspent; named = inl (sym e) }))
      (λ ne. inr (set_at_else seats v.number u s ne ∙ new)))
      (k.all s)

  pub seated_joined : Seated c start list (set_at seats v.number u)
  seated_joined = record {
    own = own_after;
    there = there_after;
    apart = λ i j y z e f un vn same.
        let a = was i y e un in
        let b = was j z f vn in
        k.apart i j a.view b.view a.place b.place a.still b.still (sym a.number_is ∙ same ∙ b.number_is);
    noted = noted_after;
    gone = λ i j y z n e f un vn has. noted_apart i j y z n (noted i y n e un has) (was j z f vn);
    once = λ i j p q y z m n e f un vn g l. once_of i j p q y z m n (noted_at i y p m e un g) (noted_at j z q n f vn l);
    maker = maker_after;
    made = made_after;
    all = all_after;
  }

-- the join of two seats keeps the rule
pub seats_join : (starts : State → Type 0) (allows : List ℕ → State → Writes → Type 0) (key : Opening) (id o : ℕ) (v w : Knowledge) → v.spent ≡ false
    → w.spent ≡ false → MayJoin v w → Joins (Ruled starts allows key) id v o w (joined key.config v w) spent_view
seats_join starts allows key id o v w unspent other_unspent may s r at other other_at =
    let c = key.config in
    let start = key.start.value.items in
    let n = v.number in
    let u = joined c v w in
    let x : Knowledge = record w { spent = true } in
    let there : get_elem? s.views o ≡ some w = ⊎_elim (λ t. absurd (other t.0)) (λ t. t.1) (at_set s.views id o u w other_at) in
    let before : Moment = record { memory = r.memory; history = r.history; seats = r.seats } in
    let here_is : r.seats n ≡ v = (r.seated.there id v at unspent).0 in
    let other_is : r.seats w.number ≡ w = (r.seated.there o w there other_unspent).0 in
    let ne : w.number ≢ n = λ e. other (r.seated.apart o id w v there at other_unspent unspent e) in
    let middle : ℕ → Knowledge = set_at r.seats n u in
    let stays_so : middle w.number ≡ w = set_at_else r.seats n u w.number ne ∙ other_is in
    let after : ℕ → Knowledge = set_at middle w.number x in
    let seated = seated_joined c start s.views r.seats id o v w r.seated at there other unspent other_unspent may in
    let place = u_place c start s.views r.seats id o v w r.seated at there other unspent other_unspent may in
    let has : Contains u.notes (note_of w) = Contains-append_right v.notes (note_of w ∷ w.notes) (note_of w) (0, omega arith, refl) in
    let seat : IsSeat before n = record { made = r.active id v at unspent; unspent = ap (λ (y : Knowledge). y.spent) here_is ∙ unspent } in
    let other_seat : IsSeat before w.number =
    record { made = r.active o w there other_unspent; unspent = ap (λ (y : Knowledge). y.spent) other_is ∙ other_unspent } in
    let to : Knowledge → Knowledge → Moment = λ a b. record before { seats = set_at (set_at r.seats n (joined c a b)) w.number (record b { spent = true }) } in
    let after_is : record before { seats = after } ≡ seat_joined c n w.number before = λ i. to (sym here_is i) (sym other_is i) in
    let may_so : MayJoin (r.seats n) (r.seats w.number) =
    subst (λ (a : Knowledge). MayJoin a (r.seats w.number)) (sym here_is) (subst (λ (b : Knowledge). MayJoin v b) (sym other_is) may) in
    let made_middle : (middle 0).made ≡ (r.seats 0).made =
    set_at_all (λ t y. y.made ≡ (r.seats t).made) r.seats n u (sym (ap (λ (y : Knowledge). y.made) here_is)) (λ t e. refl) 0 in
    let made_after' : (after 0).made ≡ (middle 0).made =
    set_at_all (λ t y. y.made ≡ (middle t).made) middle w.number x (sym (ap (λ (y : Knowledge). y.made) stays_so)) (λ t e. refl) 0 in
    record {
      memory = r.memory;
      history = r.history;
      seats = after;
      shows = r.shows;
      slotless = r.slotless;
      seated = seated_noted c start (set (set s.views id u) o spent_view) middle seated w.number x id u (note_of w) place unspent has refl
          (ap (λ (y : Knowledge). y.number) (sym stays_so)) (ap (λ (y : Knowledge). y.start) (sym stays_so)) (ap (λ (y : Knowledge). y.base) (sym stays_so))
          (ap (λ (y : Knowledge). y.past) (sym stays_so))
          (ap (λ (y : Knowledge). y.ring) (sym stays_so)) (ap (λ (y : Knowledge). y.phase) (sym stays_so)) (ap (λ (y : Knowledge). y.scan) (sym stays_so));
      facts = unread starts allows c start r.memory r.history middle w.number w x stays_so (refl, refl, refl, refl, refl, refl, refl, refl, refl, refl, refl)
          (unread starts allows c start r.memory r.history r.seats n v u here_is (refl, refl, refl, refl, refl, refl, refl, refl, refl, refl, refl) r.facts);
      reached = moved before (record before { seats = after }) r.reached (n, seat, joins w.number ne other_seat may_so after_is);
      active = λ j y at' un.
          let a = was c start s.views r.seats id o v w r.seated at there other unspent other_unspent may j y at' un in
          let lt = r.active j a.view a.place a.still in
          let e = a.number_is in
          omega arith;
    }

-- the pass that is left is as it was
pub joined_stays : (starts : State → Type 0) (allows : List ℕ → State → Writes → Type 0) (c : Config) (v w j : Knowledge) → MayJoin v w → j ≡ joined c v w
    → (j.number ≡ v.number) × RunsOn v j × (∥ Known starts allows v ∥₁ → ∥ Known starts allows j ∥₁) × ((d : Config) → KnownInDomain d v → KnownInDomain d j)
joined_stays starts allows c v w j may e =
    subst
    (λ (x : Knowledge). (x.number ≡ v.number) × RunsOn v x × (∥ Known starts allows v ∥₁ → ∥ Known starts allows x ∥₁)
    × ((d : Config) → KnownInDomain d v → KnownInDomain d x))
    (sym e) (
      refl,
      (λ time first a b. (a, b)),
      (λ k. ∥∥₁_map k (λ a. record {
        unspent = a.unspent;
        opening = a.opening;
        words = a.words;
        legal = a.legal;
        allowed = a.allowed;
        mine = a.mine;
        rests = a.rests;
        in_time = a.in_time;
        lowered = a.lowered;
        none = a.none;
        found = a.found;
        section = λ inside at. let out : Outside ≡ Inside inside = sym may.outside ∙ at in absurd (cc);
        idle = a.idle;
        still = a.still;
        back = a.back;
        next = a.next;
        named = a.named;
        commits = λ i x note there. commit_still v x note (joined c v w).trail v.made (joined c v w).notes (a.commits i x note there);
        deaths = a.deaths;
      })),
      λ d k. k,
    )
