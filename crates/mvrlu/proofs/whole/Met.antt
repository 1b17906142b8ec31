-- Two loads of CLOCK with an entering between them, once all seats are joined, show the whole history.
use Rattle.std.proofs.Common.{◌≡◌, ◌≢◌, ℕ, ◌+◌, ◌-◌, ◌<◌, List, [], ◌∷◌, ◌++◌}
use Rattle.std.proofs.Common.{length, take, drop, map, All, refl, sym, ap, ◌∙◌, subst, append_assoc, length-append, arith}
use Rattle.std.specs.Prelude.{AllPairs, Contains, Some, None}
use Rattle.std.proofs.Math.Logic.{∥∥₁_elim}
use Rattle.std.proofs.lemmas.List.{append-nil, take-append-drop, length-take-le, take_all}
use Rattle.std.proofs.lemmas.List.Elements.{All-contains, All-weaker}
use Rattle.mv_history.specs.declared.Step.{Step}
use Rattle.mv_history.specs.declared.answers.LogTable.{LogTable}
use Rattle.mv_history.specs.declared.StepKind.TheVariants.{LoadJoined}
use Rattle.mv_history.specs.declared.Entry.{Entry}
use Rattle.mv_history.specs.declared.Entry.TheVariants.{Change}
use Rattle.mv_history.specs.State.{State, Writes, maker_of, commits_of, rests_of}
use Rattle.mv_history.specs.Laws.{IsSeat-prop}
use Rattle.mv_history.specs.Meaning.{IsSeat}
use Rattle.mv_layout.specs.declared.Config.{Config}
use Rattle.object_lock.specs.mv_core.declared.view.Knowledge.{Knowledge}
use Rattle.object_lock.specs.mv_core.declared.view.OwnSection.{OwnSection}
use Rattle.object_lock.specs.mv_core.HistoryFacts.{BeginsWith}
use Rattle.object_lock.specs.mv_core.Known.{Known}
use Rattle.object_lock.specs.mv_core.Passes.{seat_meant}
use Rattle.object_lock.specs.mv_core.Views.{time_in}
use Rattle.object_lock.specs.mv_core.EnterSteps.{IsWhole}
use Rattle.object_lock.specs.mv_core.SeatSteps.{AreJoined, joined_loaded}
use Rattle.object_lock.specs.reader_marks.Sections.{Begins}
use Rattle.object_lock.specs.version_chain.Walks.{inside_of, time_at}
use Rattle.mvrlu.specs.declared.domain.Seat.{Seat}
use Rattle.mvrlu.specs.Joined.{IsKept, AreJoining}
use Rattle.mvrlu.specs.Meant.{seat_of}
use Rattle.mvrlu.specs.Meeting.{LawOfTheWhole, IsAtMostBehindOneOf}
use Rattle.mvrlu.specs.MetSeats.{noted_seat, MeetsBy}
use Rattle.mvrlu.specs.Whole.{Whole, IsMetSeat, whole_from}
use Rattle.mvrlu.proofs.whole.Numbers.{HasNumber, have_all}
use Rattle.mvrlu.proofs.whole.NoneLeft.{same_counts, contains_commit}
use Rattle.mvrlu.proofs.whole.Named.{named_by, meets_by}
use Rattle.mvrlu.proofs.whole.Kept.{GoesOn, KnowsIn, begins_long, kept_on, knows_in}

longer : {A : Type 0} (all front more xs : List A) → all ≡ front ++ more → all ++ xs ≡ front ++ (more ++ xs)
longer all front more xs e = ap (λ t. t ++ xs) e ∙ append_assoc front more xs

module _ {P : Type 0} {rules : _} (c : Config) (tables : List LogTable) (seats : List (Seat P rules)) (v : Knowledge) (joining : AreJoining seats [] v)
    (many : length seats ≡ c.seats) (apart : AllPairs (λ s t. (seat_of s).number ≢ (seat_of t).number) seats) (range : v.number < c.seats)
    (base : v.base ≡ c.base)
    (first : ℕ) (h : List Entry) (whole : IsWhole c v first h) (told : AreJoined c v h)
    (u : Knowledge) (time : ℕ) (begins : Begins c (joined_loaded c v first h) u time)
    (last : ℕ) (g : List Entry) (all : IsWhole c u last g) (tells : AreJoined c u g) where
  -- the view of the first load, and that of the last
  abbrev v1 : Knowledge
  v1 = joined_loaded c v first h

  abbrev w : Knowledge
  w = joined_loaded c u last g

  -- the trail of the seat that is left
  abbrev t : List Step
  t = (seat_of joining.first).trail

  kept : All (λ s. IsKept t v (seat_of s)) seats
  kept = subst (λ (xs : List (Seat P rules)). All (λ (s : Seat P rules). IsKept t v (seat_of s)) xs) (sym joining.split) joining.each

  load_on : GoesOn v v1
  load_on = record {
    number = refl;
    start = refl;
    base = refl;
    mine = refl;
    rests = refl;
    seen = whole.0;
    notes = ([], sym (append-nil v.notes));
  }

  enter_on : GoesOn v1 u
  enter_on = record {
    number = ap (λ (x : Knowledge). x.number) begins.rest;
    start = ap (λ (x : Knowledge). x.start) begins.rest;
    base = ap (λ (x : Knowledge). x.base) begins.rest;
    mine = ap (λ (x : Knowledge). x.past.mine) begins.rest;
    rests = ap (λ (x : Knowledge). x.past.rests) begins.rest;
    seen = begins_long u.past.seen (take begins.at u.past.seen) h (drop begins.at u.past.seen, sym (take-append-drop begins.at u.past.seen)) begins.snapshot;
    notes = ([], ap (λ (x : Knowledge). x.notes) begins.rest ∙ sym (append-nil v.notes));
  }

  knows : (s : Seat P rules) → IsKept t v (seat_of s) → KnowsIn c h (seat_of s)
  knows s k = knows_in c t v h (seat_of s) range told k

  kept_last : (s : Seat P rules) → IsKept t v (seat_of s) → IsKept t u (seat_of s)
  kept_last s k = kept_on t v1 u (seat_of s) enter_on (kept_on t v v1 (seat_of s) load_on k)

  range_last : u.number < c.seats
  range_last = subst (λ (n : ℕ). n < c.seats) (sym enter_on.number) range

  knows_last : (s : Seat P rules) → IsKept t v (seat_of s) → KnowsIn c g (seat_of s)
  knows_last s k = knows_in c t u g (seat_of s) range_last tells (kept_last s k)

  kept_at : (s : Seat P rules) → Contains seats s → IsKept t v (seat_of s)
  kept_at s there = All-contains (λ (r : Seat P rules). IsKept t v (seat_of r)) seats s kept there

  -- each number of the domain is that of one of the seats
  seat_at : (n : ℕ) → n < c.seats → HasNumber (λ (s : Seat P rules). (seat_of s).number) seats n
  seat_at n low =
      have_all (λ (s : Seat P rules). (seat_of s).number) seats c.seats many apart
      (All-weaker (λ (s : Seat P rules). IsKept t v (seat_of s)) (λ (s : Seat P rules). (seat_of s).number < c.seats) (λ s k.
      (knows s k).range) seats kept) n low

  grew : BeginsWith g h
  grew = begins_long g u.past.seen h all.0 enter_on.seen

  same : (n : ℕ) → n < c.seats → (commits_of n g ≡ commits_of n h) × (rests_of n g ≡ rests_of n h)
  same n low =
      let r = seat_at n low in
      let k = kept_at r.it r.there in
      let a = knows r.it k in
      let b = knows_last r.it k in (
        ap (λ m. commits_of m g) (sym r.number) ∙ sym b.mine ∙ a.mine ∙ ap (λ m. commits_of m h) r.number,
        ap (λ m. rests_of m g) (sym r.number) ∙ sym b.rests ∙ a.rests ∙ ap (λ m. rests_of m h) r.number,
      )

  none_more : grew.0 ≡ []
  none_more =
      same_counts c.seats h grew.0 (subst (λ es. All (λ e. maker_of e < c.seats) es) grew.1 all.2)
      (λ n low. subst (λ es. (commits_of n es ≡ commits_of n h) × (rests_of n es ≡ rests_of n h)) grew.1 (same n low))

  at_is : begins.at ≡ length g
  at_is =
      let short = length-take-le begins.at u.past.seen begins.within in
      let front = ap length begins.snapshot.1 ∙ length-append h begins.snapshot.0 in
      let end = ap length all.0.1 ∙ length-append u.past.seen all.0.0 in
      let long = ap length grew.1 ∙ length-append h grew.0 in
      let none = ap length none_more in
      let within = begins.within in
      omega arith

  pub time_is : time_at w ≡ w.base + length g
  time_is =
      let at = at_is in
      let here = ap (λ (s : OwnSection). time_in s) (ap inside_of begins.phase) ∙ begins.word_is ∙ begins.time_is in
      let same_base = enter_on.base ∙ base in
      omega arith

  -- what the view means: all of g
  abbrev meant : Whole
  meant = record {
    config = c;
    start = w.start;
    base = w.base;
    history = g;
    number = w.number;
    trail = w.trail;
    others = map noted_seat w.notes;
    tables = tables;
  }

  meant_is : meant ≡ whole_from c tables w
  meant_is =
      let t = time_is in
      let all_of : g ≡ take (time_at w - w.base) g = sym (take_all (time_at w - w.base) g (omega arith)) in
      λ i. record meant { history = all_of i }

  -- the loads of CLOCK before and behind the entering
  abbrev one : Step
  one = record { kind = LoadJoined; word = 0; found = Some first; stored = None }

  abbrev two : Step
  two = record { kind = LoadJoined; word = 0; found = Some last; stored = None }

  -- the steps since the seats began to meet
  abbrev steps : List Step
  steps = ((joining.steps ++ one ∷ []) ++ begins.entered.steps) ++ two ∷ []

  trail_is : w.trail ≡ t ++ steps
  trail_is =
      let b = begins.entered in
      longer u.trail t ((joining.steps ++ one ∷ []) ++ b.steps) (two ∷ [])
      (b.trail ∙ longer v1.trail t (joining.steps ++ one ∷ []) b.steps (longer v.trail t joining.steps (one ∷ []) joining.trail))

  all_met : length joining.met ≡ c.seats
  all_met = sym (ap length joining.split) ∙ many

  meets : MeetsBy c.seats t w.trail
  meets =
      meets_by c.seats t w.trail joining.steps begins.entered.steps one two trail_is (joining.count ∙ all_met) joining.kinds refl begins.entered.kinds refl

  -- each seat is one of those that met
  named : (s : Seat P rules) → IsKept t v (seat_of s) → IsMetSeat meant (seat_of s)
  named s k = named_by t meant u (seat_of s) refl refl meets (kept_last s k)

  module _ (starts : State → Type 0) (allows : List ℕ → State → Writes → Type 0) (one_start : (s : State) → IsProp (starts s))
      (one_allowed : (t : List ℕ) (s : State) (x : Writes) → IsProp (allows t s x)) (known : ∥ Known starts allows w ∥₁) where
    lawful : IsSeat starts allows (seat_meant [] 0 w)
    lawful = ∥∥₁_elim known (IsSeat-prop starts allows one_start one_allowed (seat_meant [] 0 w)) (λ k. record {
      start = k.opening;
      words = k.words;
      legal = k.legal;
      allowed = k.allowed;
      mine = k.mine;
      rests = k.rests;
      time = k.in_time;
      last = omega arith;
    })

    pub law : LawOfTheWhole starts allows seats (whole_from c tables w)
    law =
        let is = lawful in
        let each : (A : Seat P rules → Type 0) → ((s : Seat P rules) → IsKept t v (seat_of s) → A s) → All A seats =
        λ A f. All-weaker (λ (s : Seat P rules). IsKept t v (seat_of s)) A f seats kept in
        subst (LawOfTheWhole starts allows seats) meant_is (record {
          opening = is.start;
          legal = is.legal;
          allowed = is.allowed;
          time = is.time;
          from = each (λ s. ((seat_of s).start ≡ w.start) × ((seat_of s).base ≡ w.base)) (λ s k. ((kept_last s k).start, (kept_last s k).base));
          seen = each (λ s. (before : List Entry) → BeginsWith (seat_of s).seen before → BeginsWith g before)
              (λ s k before b. begins_long g (seat_of s).seen before (knows_last s k).seen b);
          mine = each (λ s. (seat_of s).mine ≡ commits_of (seat_of s).number g) (λ s k. (knows_last s k).mine);
          rests = each (λ s. (seat_of s).rests ≡ rests_of (seat_of s).number g) (λ s k. (knows_last s k).rests);
          makers = λ e has. let r = seat_at (maker_of e) (All-contains (λ x. maker_of x < c.seats) g e all.2 has) in (r.it, r.there, r.number);
          commits = λ d has.
              let r = seat_at d.seat (All-contains (λ x. maker_of x < c.seats) g (Change d) all.2 has) in (
                r.it,
                r.there,
                r.number,
                subst (λ cs. Contains cs d) (sym (knows_last r.it (kept_at r.it r.there)).mine) (contains_commit (seat_of r.it).number g d has
                    (sym r.number)),
              );
          named = each (λ s. IsMetSeat meant (seat_of s)) named;
        })

  pub short : IsAtMostBehindOneOf seats (whole_from c tables w) (c.seats + 7)
  short = record {
    seat = joining.first;
    there = subst (λ xs. Contains xs joining.first) (sym joining.split) joining.there;
    steps = steps;
    trail = trail_is;
    few = (let first_two = length-append joining.steps (one ∷ []) in
        let three = length-append (joining.steps ++ one ∷ []) begins.entered.steps in
        let four = length-append ((joining.steps ++ one ∷ []) ++ begins.entered.steps) (two ∷ []) in
        let joins = joining.count in
        let met = all_met in
        let few = begins.entered.few in
        omega arith);
  }

-- what a view means after all this
pub record HasMet {P : Type 0} {rules : _} (starts : State → Type 0) (allows : List ℕ → State → Writes → Type 0) (c : Config)
    (tables : List LogTable) (seats : List (Seat P rules)) (w : Knowledge) : Type 0 where
  pub law : LawOfTheWhole starts allows seats (whole_from c tables w)
  pub short : IsAtMostBehindOneOf seats (whole_from c tables w) (c.seats + 7)

-- the pass of joined seats, with a load of CLOCK, an entering and a load of CLOCK
pub has_met : {P : Type 0} {rules : _} (starts : State → Type 0) (allows : List ℕ → State → Writes → Type 0) → ((s : State) → IsProp (starts s))
    → ((t : List ℕ) (s : State) (x : Writes) → IsProp (allows t s x)) → (c : Config) (tables : List LogTable) (seats : List (Seat P rules))
    (v x u w : Knowledge) (first last time : ℕ)
    → length seats ≡ c.seats → AllPairs (λ s t. (seat_of s).number ≢ (seat_of t).number) seats → v.number < c.seats → v.base ≡ c.base
    → AreJoining seats [] v → ((h : List Entry) × IsWhole c v first h × AreJoined c v h × (x ≡ joined_loaded c v first h)) → Begins c x u time
    → ((g : List Entry) × IsWhole c u last g × AreJoined c u g × (w ≡ joined_loaded c u last g)) → ∥ Known starts allows w ∥₁
    → HasMet starts allows c tables seats w
has_met {P} {rules} starts allows one_start one_allowed c tables seats v x u w first last time many apart range base joining one begins two known =
    let begun = subst (λ (y : Knowledge). Begins c y u time) one.3 begins in
    let knows = subst (λ (y : Knowledge). ∥ Known starts allows y ∥₁) two.3 known in
    subst (HasMet starts allows c tables seats) (sym two.3) (record {
      law = law c tables seats v joining many apart range base first one.0 one.1 one.2 u time begun last two.0 two.1 two.2
          starts allows one_start one_allowed knows;
      short = short c tables seats v joining many apart range base first one.0 one.1 one.2 u time begun last two.0 two.1 two.2;
    })
