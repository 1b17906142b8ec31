-- A step of a seat that is one of the core's: what is found, the tape behind it, and how the call goes on.
use Rattle.std.proofs.Common.{◌≡◌, ℕ, ◌<◌, ◌^◌, arith, ◌&&◌, ltb, List, ◌∷◌, Bool, true, All, Option, Some, None, refl, sym, ap, ◌∙◌, subst, inl, inr}
use Rattle.std.proofs.Common.{lt-ltb, if◌then◌else◌}
use Rattle.mv_core.proofs.Terms.{Config, Checked, SharedWord, Clock, Grace, Mark, Head, Master, First, Stamp, Prev, Super, Data, IsPlace}
use Rattle.mv_core.specs.declared.view.Knowledge.{Knowledge}
use Rattle.mv_core.specs.Moves.{Moment, MoveKind, act, IsStorable}
use Rattle.mv_core.proofs.frames.FrameLaw.{set_at_here}
use Rattle.replay_rules.specs.declared.seats.NextStep.{NextStep}
use Rattle.replay_rules.specs.declared.seats.NextStep.TheVariants.{Tidies}
use Rattle.replay_rules.specs.declared.seats.Sweeping.TheVariants.{LoadMark}
use Rattle.replay_rules.specs.declared.seats.Then.TheVariants.{Goes}
use Rattle.replay_rules.specs.declared.seats.Then.{Then}
use Rattle.replay_rules.specs.States.{any_commit, Made, may_in, place_in, writes_in, state_of}
use Rattle.replay_rules.specs.Words.{word_at}
use Rattle.replay_rules.specs.Tasks.{place_in_task, access_in_task, written_by}
use Rattle.replay_rules.specs.Sweeps.{then_after}
use Rattle.replay_rules.specs.Kinds.{IsKindOf}
use Rattle.replay_rules.specs.Runs.{SeatOf, TapeOf, Scene, is_place, tape_stepped, tape_after, found_in, went, learned, step_made}
use Rattle.replay_rules.specs.Behind.{IsTapeBehind}
use Rattle.replay_rules.specs.NextSteps.{IsStepOf}
use Rattle.replay_rules.proofs.Machines.{made_next}
use Rattle.replay_rules.proofs.NextSteps.{lined, step_behind}
use Rattle.replay_rules.specs.declared.plan.Call.{Call}
use Rattle.replay_rules.specs.declared.plan.CallOf.{CallOf}
use Rattle.replay_rules.specs.declared.seats.NotedVersion.{NotedVersion}
use Rattle.replay_rules.specs.declared.seats.Sweep.{Sweep}
use Rattle.replay_rules.specs.FitPlans.{IsFitCallOf}
use Rattle.replay_rules.proofs.runs.Known.{word_small}
use Rattle.replay_rules.proofs.runs.Sections.{seat_with}
use Rattle.replay_rules.proofs.runs.Standing.{IsSeat, IsStepped, StepsSo, step_of, StandsFor, GoesSo, by_step, by_end, seat_by}

both_true : (a b : Bool) → a ≡ true → b ≡ true → (a && b) ≡ true
both_true a b p q = ap (λ x. x && b) p ∙ q

-- a word of the domain is found to be one
place_true : (c : Config) (p : SharedWord) → IsPlace c p → is_place c p ≡ true
place_true c Clock r = refl
place_true c Grace r = refl
place_true c (Mark s) r = lt-ltb s c.seats r
place_true c (Head o) r = lt-ltb o c.objects r
place_true c (Master o w) r = both_true (ltb o c.objects) (ltb w 6) (lt-ltb o c.objects r.0) (lt-ltb w 6 r.1)
place_true c (First s k) r = both_true (ltb s c.seats) (ltb k c.slots) (lt-ltb s c.seats r.0) (lt-ltb k c.slots r.1)
place_true c (Stamp s k) r = both_true (ltb s c.seats) (ltb k c.slots) (lt-ltb s c.seats r.0) (lt-ltb k c.slots r.1)
place_true c (Prev s k) r = both_true (ltb s c.seats) (ltb k c.slots) (lt-ltb s c.seats r.0) (lt-ltb k c.slots r.1)
place_true c (Super s k) r = both_true (ltb s c.seats) (ltb k c.slots) (lt-ltb s c.seats r.0) (lt-ltb k c.slots r.1)
place_true c (Data s k w) r =
    both_true (ltb s c.seats) (ltb k c.slots && ltb w 6) (lt-ltb s c.seats r.0)
    (both_true (ltb k c.slots) (ltb w 6) (lt-ltb k c.slots r.1) (lt-ltb w 6 r.2))

-- what a step of the core of this kind makes of a seat's view
abbrev pub view_by : Config → Moment → ℕ → MoveKind → Knowledge
view_by c s n kind = (act any_commit c (s.seats n) kind).view (s.memory (act any_commit c (s.seats n) kind).place) s.history

-- the next step of a seat is the core's step of this kind
pub record IsOfKind (c : Config) (s : Moment) (n : ℕ) (kind : MoveKind) (task : NextStep) : Type 0 where
  pub is : IsKindOf task kind
  pub may : may_in c s (step_of n kind)
  pub range : IsPlace c (place_in_task c n task)
  pub place : place_in c s (step_of n kind) ≡ place_in_task c n task
  pub writes : (found : ℕ) → writes_in c s (step_of n kind) found ≡ written_by (access_in_task n task) found
  pub fits : (found : ℕ) → found < 2 ^ 64 → IsStorable (written_by (access_in_task n task) found)

module _ (c : Config) (k : Checked c) (n : ℕ) (lt : n < c.seats) (made : List Made) (t : TapeOf) (b : IsTapeBehind c t made) where
  abbrev s : Moment
  s = state_of c made

  -- a step at a task whose word is one of the domain
  module _ (task : NextStep) (range : IsPlace c (place_in_task c n task)) where
    abbrev place : SharedWord
    place = place_in_task c n task

    word : word_at c t.words place ≡ s.memory place
    word = b.shows.each place range

    there : is_place c place ≡ true
    there = place_true c place range

    -- the tape behind the step, which is made
    pub after_is : tape_after c n task t ≡ tape_stepped c n task (place_in_task c n task) t
    after_is = ap (λ x. if x then tape_stepped c n task place t else t) there

    found_is : found_in c n task t ≡ s.memory place
    found_is = ap (λ x. if x then word_at c t.words place else 0) there ∙ word

    module _ (seat : SeatOf) (number : seat.state.seat ≡ n) where
      -- a step that found this, with the tape behind it
      abbrev stepped_with : ℕ → TapeOf → Scene
      stepped_with found u =
          went (then_after task c (learned task found seat).log (learned task found seat).state found) (record { seat = learned task found seat; tape = u })

      pub scene_is : step_made c task (record { seat = seat; tape = t }) ≡ stepped_with (s.memory place) (tape_after c n task t)
      scene_is =
          (λ i. stepped_with (found_in c (number i) task t) (tape_after c (number i) task t))
          ∙ ap (λ f. stepped_with f (tape_after c n task t)) found_is

  module _ (kind : MoveKind) (task : NextStep) (of : IsOfKind c s n kind task) where
    abbrev at : SharedWord
    at = place_in_task c n task

    abbrev o : Option ℕ
    o = written_by (access_in_task n task) (word_at c t.words at)

    same : written_by (access_in_task n task) (s.memory at) ≡ o
    same = ap (written_by (access_in_task n task)) (sym (word task of.range))

    next : IsStepOf c made (step_of n kind) n task
    next = record {
      seat_is = refl;
      may = (made_next c k t.words made (step_of n kind) at (written_by (access_in_task n task)) b.shows of.place of.range of.writes o same b.each lt of.may
          (of.fits (word_at c t.words at)
          (let small = word_small c k n made b.each at in let found = word task of.range in omega (arith, found, small)))).0;
      place_is = of.place;
      range = of.range;
      writes_are = of.writes;
    }

    -- the tape behind the step
    tape_is : IsTapeBehind c (tape_after c n task t) (step_of n kind ∷ made)
    tape_is =
        subst (λ u. IsTapeBehind c u (step_of n kind ∷ made)) (sym (after_is task of.range)) (step_behind c k made t b (step_of n kind) n task next)

    module _ (seat : SeatOf) (number : seat.state.seat ≡ n) where
      -- the seat and its view
      seat_there : (x : SeatOf) → IsSeat c n x (view_by c s n kind) → IsSeat c n x ((state_of c (step_of n kind ∷ made)).seats n)
      seat_there x is = subst (IsSeat c n x) (sym (set_at_here s.seats n (view_by c s n kind))) is

      -- the seat goes on with its call, or has ended it
      pub next_is : (log : List NotedVersion) (freed from : ℕ) (time : Option ℕ) (call : Call) (sweep : Sweep) (own : Option NextStep) (left : List CallOf)
          → learned task (s.memory at) seat ≡ seat_with n log freed from time call sweep own left → (view_by c s n kind).scan ≡ None
          → All (IsFitCallOf c) left
          → GoesSo c n (view_by c s n kind) log freed from time call sweep
          (then_after task c log (record { seat = n; time = time; from = from; freed = freed; call = call; sweep = sweep }) (s.memory at))
          → StepsSo c n made t task seat
      next_is log freed from time call sweep own left is no_scan before goes =
          let u = tape_after c n task t in
          subst (IsStepped c n made task) (sym (scene_is task of.range seat number ∙ ap (λ (x : SeatOf). went (then_after task c x.log x.state (s.memory at))
          (record { seat = x; tape = u })) is))
          (go _ goes)
        where
          go : (x : Then) → GoesSo c n (view_by c s n kind) log freed from time call sweep x
              → IsStepped c n made task (went x (record { seat = seat_with n log freed from time call sweep own left; tape = tape_after c n task t }))
          go x (by_step more e stands) =
              subst (λ y. IsStepped c n made task (went y (record {
                seat = seat_with n log freed from time call sweep own left;
                tape = tape_after c n task t;
              }))) (sym e)
              (record {
                kind = kind;
                is = of.is;
                next = next;
                behind = tape_is;
                seat_is = seat_there _ (seat_by c n (view_by c s n kind) log freed from time call sweep (Some more) left (inl no_scan) before stands);
              })
          go x (by_end answer e stands) =
              subst (λ y. IsStepped c n made task (went y (record {
                seat = seat_with n log freed from time call sweep own left;
                tape = tape_after c n task t;
              }))) (sym e)
              (record {
                kind = kind;
                is = of.is;
                next = next;
                behind = lined c (tape_after c n task t) (step_of n kind ∷ made) _ tape_is;
                seat_is = seat_there _ (seat_by c n (view_by c s n kind) log freed from time call sweep None left (inl no_scan) before stands);
              })

      -- the seat goes on with a scan
      pub scan_on : (log : List NotedVersion) (freed from : ℕ) (time : Option ℕ) (call : Call) (sweep : Sweep) (own : Option NextStep) (left : List CallOf)
          → learned task (s.memory at) seat ≡ seat_with n log freed from time call sweep own left → All (IsFitCallOf c) left → (mark : ℕ)
          → then_after task c log (record { seat = n; time = time; from = from; freed = freed; call = call; sweep = sweep }) (s.memory at)
          ≡ Goes (Tidies (LoadMark mark))
          → StandsFor c n (view_by c s n kind) log freed from time call sweep (Some (Tidies (LoadMark mark)))
          → StepsSo c n made t task seat
      scan_on log freed from time call sweep own left is before mark e stands =
          let u = tape_after c n task t in
          subst (IsStepped c n made task)
          (sym (scene_is task of.range seat number
          ∙ ap (λ (x : SeatOf). went (then_after task c x.log x.state (s.memory at)) (record { seat = x; tape = u })) is
          ∙ ap (λ y. went y (record { seat = seat_with n log freed from time call sweep own left; tape = u })) e))
          (record {
            kind = kind;
            is = of.is;
            next = next;
            behind = tape_is;
            seat_is = seat_there _
                (seat_by c n (view_by c s n kind) log freed from time call sweep (Some (Tidies (LoadMark mark))) left (inr (mark, refl)) before stands);
          })
