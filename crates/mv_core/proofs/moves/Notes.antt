-- The notes of joined seats, through the moves: what they say stays so, and no seat is noted twice.
use Rattle.std.proofs.Common.{◌≡◌, ◌≢◌, ℕ, suc, ◌+◌, ◌<◌, true, false, List, length, sym, refl, ap, ◌∙◌, subst, ⊎_elim, arith}
use Rattle.std.specs.Prelude.{Contains}
use Rattle.mv_core.proofs.Terms.{dite, ℕ_discrete, some, get_elem?, Config, State, Knowledge, JoinedSeat, set_at}
use Rattle.mv_core.proofs.FactTerms.{IsNoted, IsSeated}
use Rattle.mv_core.specs.SeatSteps.{MayJoin, note_of, joined}
use Rattle.mv_core.specs.MoveLaws.{SeatsHold, NotesHold}
use Rattle.mv_core.proofs.frames.FrameLaw.{set_at_here, set_at_else, set_at_all}
use Rattle.mv_core.proofs.kinds.joining.Between.{After, between, at_contains, contains_between}

-- what a note says is so of other seats too, where the noted one is the same
noted_as : (c : Config) (f g : ℕ → Knowledge) (x : JoinedSeat) → g x.number ≡ f x.number → IsNoted c f x → IsNoted c g x
noted_as c f g x e r = record {
  range = r.range;
  number = ap (λ (y : Knowledge). y.number) e ∙ r.number;
  past = ap (λ (y : Knowledge). y.past) e ∙ r.past;
  ring = ap (λ (y : Knowledge). y.ring) e ∙ r.ring;
  outside = ap (λ (y : Knowledge). y.phase) e ∙ r.outside;
  no_scan = ap (λ (y : Knowledge). y.scan) e ∙ r.no_scan;
}

-- a seat that is spent isn't one that isn't
apart : (seats : ℕ → Knowledge) (i j : ℕ) → (seats i).spent ≡ true → (seats j).spent ≡ false → i ≢ j
apart seats i j gone still e = let clash : true ≡ false = sym gone ∙ ap (λ (t : ℕ). (seats t).spent) e ∙ still in absurd cc

-- a seat that was made and isn't spent is seated
pub seat_is : (c : Config) (start : State) (seats : ℕ → Knowledge) → SeatsHold c start seats → NotesHold c seats → (n : ℕ) → n < (seats 0).made
    → (seats n).spent ≡ false → IsSeated c seats (seats n)
seat_is c start seats k notes n there unspent =
    let own : (seats n).number ≡ n = (k.own n).0 in
    record {
      range = (let most = k.made in omega arith);
      noted = λ x has. let r = notes.noted n x unspent has in (r.0, λ e. apart seats x.number n r.1 unspent (e ∙ own));
      once = λ a b x y e f same. (notes.once n n a b x y unspent unspent e f same).1;
    }

-- the notes after a seat that isn't spent has a new view with its notes
pub notes_after : (c : Config) (seats : ℕ → Knowledge) → NotesHold c seats → (n : ℕ) → (seats n).spent ≡ false → (w : Knowledge)
    → w.notes ≡ (seats n).notes → w.spent ≡ (seats n).spent → NotesHold c (set_at seats n w)
notes_after c seats k n unspent w notes spent =
    let notes_are : (s : ℕ) → (set_at seats n w s).notes ≡ (seats s).notes =
    set_at_all (λ s y. y.notes ≡ (seats s).notes) seats n w notes (λ s ne. refl) in
    let spent_are : (s : ℕ) → (set_at seats n w s).spent ≡ (seats s).spent =
    set_at_all (λ s y. y.spent ≡ (seats s).spent) seats n w spent (λ s ne. refl) in
    record {
      noted = λ s x un has.
          let r = k.noted s x (sym (spent_are s) ∙ un) (subst (λ (l : List JoinedSeat). Contains l x) (notes_are s) has) in (
            noted_as c seats (set_at seats n w) x (set_at_else seats n w x.number (apart seats x.number n r.1 unspent)) r.0,
            spent_are x.number ∙ r.1,
          );
      once = λ i j a b x y un vn e f.
          k.once i j a b x y (sym (spent_are i) ∙ un) (sym (spent_are j) ∙ vn)
          (subst (λ (l : List JoinedSeat). get_elem? l a ≡ some x) (notes_are i) e) (subst (λ (l : List JoinedSeat). get_elem? l b ≡ some y) (notes_are j) f);
    }

-- the notes after the seat o was joined into the seat n
module _ (c : Config) (seats : ℕ → Knowledge) (k : NotesHold c seats) (n o : ℕ) (unspent : (seats n).spent ≡ false) (other : (seats o).spent ≡ false)
    (may : MayJoin (seats n) (seats o)) (range : o < c.seats) (number : (seats o).number ≡ o) where
  abbrev v : Knowledge
  v = seats n

  abbrev w : Knowledge
  w = seats o

  abbrev u : Knowledge
  u = joined c v w

  abbrev gone : Knowledge
  gone = record w { spent = true }

  abbrev after : ℕ → Knowledge
  after = set_at (set_at seats n u) o gone

  -- a seat that isn't spent afterwards is the joined one, or another as before
  data Which (s : ℕ) : Type 0 where
    here : s ≡ n → after s ≡ u → Which s
    away : s ≢ o → after s ≡ seats s → Which s

  which : (s : ℕ) → (after s).spent ≡ false → Which s
  which s un =
      dite (ℕ_discrete s o)
      (λ e.
      let is : (after o).spent ≡ true = ap (λ (y : Knowledge). y.spent) (set_at_here (set_at seats n u) o gone) in
      let clash : true ≡ false = sym is ∙ ap (λ (i : ℕ). (after i).spent) (sym e) ∙ un in absurd cc)
      (λ not_o.
      let still : after s ≡ set_at seats n u s = set_at_else (set_at seats n u) o gone s not_o in
      dite (ℕ_discrete s n)
      (λ e. here e (still ∙ ap (set_at seats n u) e ∙ set_at_here seats n u))
      (λ not_n. away not_o (still ∙ set_at_else seats n u s not_n)))

  noted_before : (x : JoinedSeat) → IsNoted c seats x × ((seats x.number).spent ≡ true) → IsNoted c after x × ((after x.number).spent ≡ true)
  noted_before x r =
      let e : after x.number ≡ seats x.number =
      set_at_else (set_at seats n u) o gone x.number (apart seats x.number o r.1 other) ∙ set_at_else seats n u x.number (apart seats x.number n r.1 unspent) in
      (noted_as c seats after x e r.0, ap (λ (y : Knowledge). y.spent) e ∙ r.1)

  noted_new : IsNoted c after (note_of w) × ((after w.number).spent ≡ true)
  noted_new =
      let e : after w.number ≡ gone = ap after number ∙ set_at_here (set_at seats n u) o gone in (
        record {
          range = subst (λ (i : ℕ). i < c.seats) (sym number) range;
          number = ap (λ (y : Knowledge). y.number) e;
          past = ap (λ (y : Knowledge). y.past) e;
          ring = ap (λ (y : Knowledge). y.ring) e;
          outside = ap (λ (y : Knowledge). y.phase) e ∙ may.other_outside;
          no_scan = ap (λ (y : Knowledge). y.scan) e ∙ may.other_no_scan;
        },
        ap (λ (y : Knowledge). y.spent) e,
      )

  noted_after : (s : ℕ) (x : JoinedSeat) → (after s).spent ≡ false → Contains (after s).notes x → IsNoted c after x × ((after x.number).spent ≡ true)
  noted_after s x un has = go (which s un)
    where
      go : Which s → IsNoted c after x × ((after x.number).spent ≡ true)
      go (here e is) =
          ⊎_elim
          (λ old. noted_before x (k.noted n x unspent old))
          (λ r. ⊎_elim
          (λ new. subst (λ (y : JoinedSeat). IsNoted c after y × ((after y.number).spent ≡ true)) new noted_new)
          (λ its. noted_before x (k.noted o x other its)) r)
          (contains_between v.notes w.notes (note_of w) x (subst (λ (y : Knowledge). Contains y.notes x) is has))
      go (away not_o is) = noted_before x (k.noted s x (ap (λ (y : Knowledge). y.spent) (sym is) ∙ un) (subst (λ (y : Knowledge). Contains y.notes x) is has))

  -- where a note stands
  data NotedAt (s p : ℕ) (x : JoinedSeat) : Type 0 where
    at_before : s ≢ o → (seats s).spent ≡ false → get_elem? (seats s).notes p ≡ some x → NotedAt s p x
    at_joined : s ≡ n → p ≡ length v.notes → note_of w ≡ x → NotedAt s p x
    at_its : s ≡ n → After w.notes (length v.notes) p x → NotedAt s p x

  module _ (ne : o ≢ n) where
    noted_at : (s p : ℕ) (x : JoinedSeat) → (after s).spent ≡ false → get_elem? (after s).notes p ≡ some x → NotedAt s p x
    noted_at s p x un there = go (which s un)
      where
        go : Which s → NotedAt s p x
        go (here e is) =
            ⊎_elim
            (λ old. at_before (λ same. ne (sym same ∙ e)) (ap (λ (i : ℕ). (seats i).spent) e ∙ unspent)
            (ap (λ (i : ℕ). get_elem? (seats i).notes p) e ∙ old))
            (λ r. ⊎_elim (λ new. at_joined e new.0 new.1) (λ its. at_its e its) r)
            (between v.notes w.notes (note_of w) x p (subst (λ (y : Knowledge). get_elem? y.notes p ≡ some x) is there))
        go (away not_o is) =
            at_before not_o (ap (λ (y : Knowledge). y.spent) (sym is) ∙ un) (subst (λ (y : Knowledge). get_elem? y.notes p ≡ some x) is there)

    -- the joined seat wasn't noted before
    not_noted : (s p : ℕ) (x : JoinedSeat) → (seats s).spent ≡ false → get_elem? (seats s).notes p ≡ some x → x.number ≢ w.number
    not_noted s p x un there same =
        apart seats x.number o (k.noted s x un (at_contains (seats s).notes p x there)).1 other (same ∙ number)

    once_of : (i j p q : ℕ) (x y : JoinedSeat) → NotedAt i p x → NotedAt j q y → x.number ≡ y.number → (i ≡ j) × (p ≡ q)
    once_of i j p q x y (at_before a un e) (at_before b vn f) same = k.once i j p q x y un vn e f same
    once_of i j p q x y (at_before a un e) (at_joined b f is) same = absurd (not_noted i p x un e (same ∙ ap (λ (l : JoinedSeat). l.number) (sym is)))
    once_of i j p q x y (at_before a un e) (at_its b f) same = absurd (a (k.once i o p f.step x y un other e f.there same).0)
    once_of i j p q x y (at_joined a e is) (at_before b vn f) same = absurd (not_noted j q y vn f (sym same ∙ ap (λ (l : JoinedSeat). l.number) (sym is)))
    once_of i j p q x y (at_joined a e is) (at_joined b f js) same = (a ∙ sym b, e ∙ sym f)
    once_of i j p q x y (at_joined a e is) (at_its b f) same =
        absurd (not_noted o f.step y other f.there (sym same ∙ ap (λ (l : JoinedSeat). l.number) (sym is)))
    once_of i j p q x y (at_its a e) (at_before b vn f) same = absurd (b (sym (k.once o j e.step q x y other vn e.there f same).0))
    once_of i j p q x y (at_its a e) (at_joined b f is) same = absurd (not_noted o e.step x other e.there (same ∙ ap (λ (l : JoinedSeat). l.number) (sym is)))
    once_of i j p q x y (at_its a e) (at_its b f) same =
        let one = (k.once o o e.step f.step x y other other e.there f.there same).1 in
        (a ∙ sym b, e.place ∙ ap (λ t. length v.notes + suc t) one ∙ sym f.place)

    pub notes_joined : NotesHold c after
    notes_joined = record {
      noted = noted_after;
      once = λ i j p q x y un vn e f. once_of i j p q x y (noted_at i p x un e) (noted_at j q y vn f);
    }
