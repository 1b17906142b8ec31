-- What the rule tells of the seats that were joined to one, and that they make all of the history where they are all the seats.
use Rattle.std.proofs.Common.{◌≡◌, ℕ, suc, ◌+◌, ◌<◌, ◌||◌, eqb, true, false, List, [], ◌∷◌, length, sym, refl, ap, ◌∙◌, subst}
use Rattle.std.proofs.Common.{⊎_elim, inl, inr, arith, eqb-true}
use Rattle.std.specs.List.{AllByRecursion, IsDistinct, list_any}
use Rattle.std.proofs.lemmas.List.Elements.{All-contains}
use Rattle.std.proofs.lemmas.Map.Steps.{length-le_from_distinct_below}
use Rattle.mv_core.proofs.Terms.{some, get_elem?, Entry, State, Writes, maker_of, Config, Memory, Knowledge, JoinedSeat, parts_of}
use Rattle.mv_core.proofs.FactTerms.{KnowsPast, Facts, IsSeated}
use Rattle.mv_core.specs.Views.{HasSeat}
use Rattle.mv_core.specs.SeatSteps.{AreJoined}
use Rattle.mv_core.proofs.kinds.naming.entry.NewEntry.{bool_is}
use Rattle.mv_core.proofs.kinds.joining.Between.{at_contains}

-- the numbers of the joined seats
abbrev numbers : List JoinedSeat → List ℕ
numbers [] = []
numbers (n ∷ ns) = n.number ∷ numbers ns

length_numbers : (ns : List JoinedSeat) → length (numbers ns) ≡ length ns
length_numbers [] = refl
length_numbers (n ∷ ns) = ap suc (length_numbers ns)

-- a number among them is that of a note
record NotedAs (ns : List JoinedSeat) (s : ℕ) : Type 0 where
  place : ℕ
  note : JoinedSeat
  there : get_elem? ns place ≡ some note
  number_is : note.number ≡ s

noted_as : (ns : List JoinedSeat) (s : ℕ) → list_any (eqb s) (numbers ns) ≡ true → NotedAs ns s
noted_as [] s e = absurd cc
noted_as (n ∷ ns) s e =
    ⊎_elim
    (λ yes. record { place = 0; note = n; there = refl; number_is = sym (eqb-true s n.number yes) })
    (λ no.
    let r = noted_as ns s (ap (λ b. b || list_any (eqb s) (numbers ns)) (sym no) ∙ e) in
    record { place = suc r.place; note = r.note; there = r.there; number_is = r.number_is })
    (bool_is (eqb s n.number))

-- a number that isn't among them differs from each
all_other : (ns : List JoinedSeat) (s : ℕ) → list_any (eqb s) (numbers ns) ≡ false → AllByRecursion (λ y. eqb s y ≡ false) (numbers ns)
all_other [] s e = tt
all_other (n ∷ ns) s e =
    ⊎_elim
    (λ yes. let clash : true ≡ false = ap (λ b. b || list_any (eqb s) (numbers ns)) (sym yes) ∙ e in absurd cc)
    (λ no. (no, all_other ns s (ap (λ b. b || list_any (eqb s) (numbers ns)) (sym no) ∙ e)))
    (bool_is (eqb s n.number))

-- where no number is twice they are distinct
all_distinct : (ns : List JoinedSeat) → ((a b : ℕ) (m n : JoinedSeat) → get_elem? ns a ≡ some m → get_elem? ns b ≡ some n → m.number ≡ n.number → a ≡ b)
    → IsDistinct eqb (numbers ns)
unfolding IsDistinct
all_distinct [] once = tt
all_distinct (n ∷ ns) once = (
  all_other ns n.number (⊎_elim
      (λ yes.
      let r = noted_as ns n.number yes in
      let same : 0 ≡ suc r.place = once 0 (suc r.place) n r.note refl r.there (sym r.number_is) in
      absurd (omega arith))
      (λ no. no)
      (bool_is (list_any (eqb n.number) (numbers ns)))),
  all_distinct ns (λ a b x y e f same. let one = once (suc a) (suc b) x y e f same in omega arith),
)

module _ (c : Config) (seats : ℕ → Knowledge) (v : Knowledge) (k : IsSeated c seats v) where
  own_apart : list_any (eqb v.number) (numbers v.notes) ≡ false
  own_apart =
      ⊎_elim
      (λ yes. let r = noted_as v.notes v.number yes in absurd ((k.noted r.note (at_contains v.notes r.place r.note r.there)).1 r.number_is))
      (λ no. no)
      (bool_is (list_any (eqb v.number) (numbers v.notes)))

  noted_within : (q : ℕ) → list_any (eqb q) (numbers v.notes) ≡ true → q < c.seats
  noted_within q e =
      let r = noted_as v.notes q e in
      subst (λ (s : ℕ). s < c.seats) r.number_is (k.noted r.note (at_contains v.notes r.place r.note r.there)).0.range

  -- where one more than the notes are all the seats of a domain, each number below that is the own one or that of a note
  has_all : length v.notes + 1 ≡ c.seats → (s : ℕ) → s < c.seats → HasSeat v s
  unfolding IsDistinct
  has_all full s low =
      ⊎_elim
      (λ own. inl (sym (eqb-true s v.number own)))
      (λ other.
      ⊎_elim
      (λ yes. let r = noted_as v.notes s yes in inr (r.note, at_contains v.notes r.place r.note r.there, r.number_is))
      (λ no.
      let among : List ℕ = s ∷ v.number ∷ numbers v.notes in
      let distinct : IsDistinct eqb among = (
        (other, all_other v.notes s no),
        (all_other v.notes v.number own_apart, all_distinct v.notes k.once),
      ) in
      let within : (q : ℕ) → list_any (eqb q) among ≡ true → q < c.seats =
      λ q e. ⊎_elim
      (λ is. subst (λ (t : ℕ). t < c.seats) (sym (eqb-true q s is)) low)
      (λ not_s. ⊎_elim
      (λ is. subst (λ (t : ℕ). t < c.seats) (sym (eqb-true q v.number is)) k.range)
      (λ not_own. noted_within q
      (ap (λ b. b || list_any (eqb q) (numbers v.notes)) (sym not_own) ∙ ap (λ b. b || (eqb q v.number || list_any (eqb q) (numbers v.notes))) (sym not_s) ∙ e))
      (bool_is (eqb q v.number)))
      (bool_is (eqb q s)) in
      let few = length-le_from_distinct_below among c.seats distinct within in
      let long = length_numbers v.notes in
      absurd (omega arith))
      (bool_is (list_any (eqb s) (numbers v.notes))))
      (bool_is (eqb s v.number))

module _ {starts : State → Type 0} {allows : List ℕ → State → Writes → Type 0} {c : Config} {start : State} (v : Knowledge) {m : Memory} {h : List Entry}
    (seats : ℕ → Knowledge) (k : Facts starts allows c start m h (parts_of seats)) (is : seats v.number ≡ v) (own : IsSeated c seats v) where
  pub are_joined : AreJoined c v h
  are_joined = record {
    joined = λ n has.
        let r = own.noted n has in
        (r.0.range, r.1, subst (KnowsPast h n.number) r.0.past (k.history.seats n.number));
    once = own.once;
    own = subst (λ (u : Knowledge). KnowsPast h v.number u.past) is (k.history.seats v.number);
    all = λ full e has. has_all c seats v own full (maker_of e) (All-contains (λ x. maker_of x < c.seats) h e k.history.makers has);
  }
