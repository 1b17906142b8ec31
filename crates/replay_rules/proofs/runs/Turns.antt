-- Behind the turns of a plan the domain is behind steps of the core.
use Rattle.std.proofs.Common.{◌≡◌, ◌≢◌, ℕ, zero, suc, ◌+◌, ◌-◌, ◌<◌, List, [], ◌∷◌, Option, Some, None, All, length, get_or, refl, sym, ap, ◌∙◌}
use Rattle.std.proofs.Common.{subst, arith, length-set, inl, inr, count_by, if◌then◌else◌, eq-eqb, ne_eqb}
use Rattle.std.proofs.lemmas.List.{get_or-set_same, get_or-set_other}
use Rattle.std.proofs.lemmas.List.Elements.{All-head, All-tail}
use Rattle.mv_core.proofs.Terms.{dite, ℕ_discrete, Config, Checked, set_at, empty_ring}
use Rattle.mv_core.specs.declared.view.Knowledge.{Knowledge}
use Rattle.mv_core.specs.declared.view.Phase.TheVariants.{Outside}
use Rattle.mv_core.specs.SeatSteps.{made_one, newly_made}
use Rattle.mv_core.specs.Start.{starting_view}
use Rattle.mv_core.specs.Moves.{opening_of}
use Rattle.mv_core.proofs.frames.FrameLaw.{set_at_all, set_at_here, set_at_else}
use Rattle.mv_layout.specs.Cells.{Shows}
use Rattle.seat_log.specs.Notes.{nothing_noted}
use Rattle.seat_log.specs.Stands.{is_free, is_won_cut}
use Rattle.seat_log.proofs.BuildsOn.{unpassed}
use Rattle.seat_log.proofs.StepCounts.{KeepsLocks, keeps_same, keeps_one, keeps_then}
use Rattle.seat_log.proofs.Beginning.{stands_new}
use Rattle.seat_log.proofs.Stays.{stands_same}
use Rattle.replay_rules.specs.declared.plan.Call.TheVariants.{Enter}
use Rattle.replay_rules.specs.declared.plan.CallOf.{CallOf}
use Rattle.replay_rules.specs.declared.seats.NotedVersion.{NotedVersion}
use Rattle.replay_rules.specs.declared.seats.Sweep.{Sweep}
use Rattle.replay_rules.specs.declared.seats.NextStep.{NextStep}
use Rattle.replay_rules.specs.declared.seats.NextStep.TheVariants.{Tidies}
use Rattle.replay_rules.specs.declared.seats.Sweeping.TheVariants.{LoadMark}
use Rattle.replay_rules.specs.Plans.{PlanOf}
use Rattle.replay_rules.specs.FitPlans.{IsFitCallOf}
use Rattle.replay_rules.specs.Begins.{new_sweep}
use Rattle.replay_rules.specs.Tasks.{place_in_task}
use Rattle.replay_rules.specs.Lines.{idle_line}
use Rattle.replay_rules.specs.Words.{new_words}
use Rattle.replay_rules.specs.States.{zeros, with_made, opened, Made, state_of, AreMade}
use Rattle.replay_rules.specs.Runs.{SeatOf, TapeOf, Scene, Looked, Replay, looked, step_made, turn_begun, turned, new_seat, new_seats}
use Rattle.replay_rules.specs.Runs.{seat_in, turn_taken, replay_begun, with_line, tape_stepped}
use Rattle.replay_rules.specs.ReplayLaws.{IsRuled}
use Rattle.replay_rules.specs.Behind.{IsTapeBehind, IsRuledTape}
use Rattle.replay_rules.specs.InPlans.{Running, InPlan, Calls, calls_of, calls_before, with_call}
use Rattle.replay_rules.specs.RuledRuns.{view_behind, AreStepless, IsCallOf, GoesOrEnds}
use Rattle.replay_rules.specs.RuledRuns.{IsTurnOf, prints_only, makes_one, AreTurns, RunsAreRuled, IsRuledPlan}
use Rattle.replay_rules.specs.FitPlans.{IsFitPlan}
use Rattle.replay_rules.proofs.Machines.{shows_opened}
use Rattle.replay_rules.proofs.Ruled.{is_ruled}
use Rattle.replay_rules.proofs.OneStep.{no_lines, more_lines}
use Rattle.replay_rules.proofs.NewSeats.{seats_long}
use Rattle.replay_rules.proofs.NextSteps.{lined}
use Rattle.replay_rules.proofs.runs.Sections.{seat_with, Logs}
use Rattle.replay_rules.proofs.runs.Standing.{IsSeat, StandsFor, ScanAt, step_of, seat_by}
use Rattle.replay_rules.proofs.runs.Stepping.{view_by}
use Rattle.replay_rules.proofs.runs.Steps.{step_is}
use Rattle.replay_rules.proofs.runs.Looking.{BeginsFar, LooksAt, IsLooked, looks}
use Rattle.replay_rules.proofs.runs.InCalls.{InCall, IsIn, call_steps}
use Rattle.replay_rules.proofs.answers.Progress.{state_with}
use Rattle.replay_rules.proofs.answers.Far.{FarIn}
use Rattle.replay_rules.proofs.answers.TasksOf.{task_of}

-- a seat, and where it is in its plan
abbrev IsSeatIn : Config → ℕ → SeatOf → Knowledge → InPlan → Type 0
IsSeatIn c n s v here = IsSeat c n s v × IsIn c n v s here

-- What a turn of a seat leads to, from a tape and where the seats are: the steps behind it, where they are then, and the seat; the others stay.
record IsTurned (c : Config) (n : ℕ) (made : List Made) (old : TapeOf) (calls : Calls) (y : Scene) : Type 0 where
  next : List Made
  after : Calls
  behind : IsTapeBehind c y.tape next
  seat_is : IsSeatIn c n y.seat (view_behind c next n) (after n)
  others : (m : ℕ) → m ≢ n → (view_behind c next m ≡ view_behind c made m) × (after m ≡ calls m)
  turn : IsTurnOf c n made next calls after old y.tape

-- one seat is here now, and the others where they were
here_now : (calls : Calls) (n : ℕ) (here : InPlan) → with_call calls n here n ≡ here
here_now calls n here = ap (λ e. if e then here else calls n) (eq-eqb n n refl)

others_there : (calls : Calls) (n : ℕ) (here : InPlan) (m : ℕ) → m ≢ n → with_call calls n here m ≡ calls m
others_there calls n here m other = ap (λ e. if e then here else calls m) (ne_eqb m n other)

module _ (c : Config) (k : Checked c) (n : ℕ) (lt : n < c.seats) (made : List Made) (old : TapeOf) (calls : Calls) where
  abbrev v : Knowledge
  v = view_behind c made n

  abbrev So : Scene → Type 0
  So y = IsTurned c n made old calls y

  -- a step is made of the call that the seat is in, or that it begins
  by_step : (t : TapeOf) (lines : List ℕ) → t ≡ with_line old lines → IsTapeBehind c t made
      → (run : Running) (log : List NotedVersion) (freed from : ℕ) (time : Option ℕ) (sweep : Sweep) (own : Option NextStep) (left : List CallOf)
      → All (IsFitCallOf c) left → IsCallOf c n made (calls n).now (calls n).left run (calls_of left n) lines
      → (task : NextStep) → ScanAt v (Some task) → StandsFor c n v log freed from time run.call sweep (Some task)
      → FarIn run.call c n (view_behind c run.before n) v log (state_with n time from freed run.call sweep) task
      → So (step_made c task (record { seat = seat_with n log freed from time run.call sweep own left; tape = t }))
  by_step t lines printed b run log freed from time sweep own left before called task scans stands far =
      let s = step_is c k n lt made t b log freed from time run.call sweep own left before task scans stands in
      let seats = (state_of c made).seats in
      let w = view_by c (state_of c made) n s.kind in
      let view : view_behind c (step_of n s.kind ∷ made) n ≡ w = set_at_here seats n w in
      let y : Scene = step_made c task (record { seat = seat_with n log freed from time run.call sweep own left; tape = t }) in
      let seat_is : IsSeat c n y.seat w = subst (IsSeat c n y.seat) view s.seat_is in
      let x = call_steps c k n lt made t b log freed from time run sweep own left task s.kind s.next s.is scans stands far seat_is in
      let here : InPlan = record { now = x.now; left = calls_of left n } in
      record {
        next = step_of n s.kind ∷ made;
        after = with_call calls n here;
        behind = s.behind;
        seat_is = (
          s.seat_is,
          (let there = subst (λ u. IsIn c n u y.seat here) (sym view) x.is_in in subst (IsIn c n _ y.seat) (sym (here_now calls n here)) there),
        );
        others = λ m other. (set_at_else seats n w m other, others_there calls n here m other);
        turn = makes_one (step_of n s.kind) task run (calls_of left n) x.now lines x.lines called
            (task_of c n (view_behind c run.before n) v log freed from time sweep run.call task stands far) s.next s.is refl
            (subst (λ u. GoesOrEnds c n run u x.now x.lines) (sym view) x.goes) refl
            (x.tape_is ∙ ap (λ u. with_line (tape_stepped c n task (place_in_task c n task) u) x.lines) printed);
      }

  module _ (no_scan : ((state_of c made).seats n).scan ≡ None) (outside : (calls n).now ≡ None) where
    -- the first step of a call that begins is made, or the seat is idle
    looked_is : (l : Looked) (log : List NotedVersion) (freed from : ℕ) (time : Option ℕ) → IsLooked c n made log freed from time old (calls n).left l
        → So (turn_begun c l.task l.scene)
    looked_is l log freed from time is = go l.task l.scene.seat l.scene.tape is.is is.printed is.behind is.stands is.calls_are is.far
      where
        go : (task : Option NextStep) (seat : SeatOf) (t : TapeOf) → seat ≡ seat_with n log freed from time is.call is.sweep None is.left
            → t ≡ with_line old is.lines → IsTapeBehind c t made → StandsFor c n v log freed from time is.call is.sweep task
            → LooksAt task is.call (calls n).left is.looked (calls_of is.left n)
            → BeginsFar c n v log (state_with n time from freed is.call is.sweep) task → So (turn_begun c task (record { seat = seat; tape = t }))
        go None seat t e printed b stands all far =
            let here : InPlan = record { now = None; left = [] } in
            subst (λ x. So (turn_begun c None (record { seat = x; tape = t }))) (sym e)
            (record {
              next = made;
              after = with_call calls n here;
              behind = lined c t made (idle_line n) b;
              seat_is = (
                seat_by c n v log freed from time is.call is.sweep None is.left (inl no_scan) is.before stands,
                subst (IsIn c n v (seat_with n log freed from time is.call is.sweep None is.left)) (sym (here_now calls n here)) (tt, all.1),
              );
              others = λ m other. (refl, others_there calls n here m other);
              turn = prints_only is.lines outside (subst (λ xs. AreStepless c n v xs is.lines) (sym all.0) is.stepless)
                  (ap (λ u. with_line u (idle_line n)) printed ∙ more_lines old is.lines (idle_line n)) refl refl;
            })
        go (Some task) seat t e printed b stands all far =
            let run : Running = record { call = is.call; before = made } in
            let left = calls_of is.left n in
            subst (λ x. So (step_made c task (record { seat = x; tape = t }))) (sym e)
            (by_step t is.lines printed b run log freed from time is.sweep None is.left is.before
            (subst (λ o. IsCallOf c n made o (calls n).left run left is.lines) (sym outside) (refl, is.looked, all, is.stepless)) task (inl no_scan) stands far)

  -- a turn of the seat
  turned_is : (seat : SeatOf) → IsTapeBehind c old made → IsSeatIn c n seat v (calls n) → So (turned c (record { seat = seat; tape = old }))
  turned_is seat b (s, is_in) =
      subst (λ x. IsIn c n v x (calls n) → So (turned c (record { seat = x; tape = old }))) (sym s.is)
      (λ there. go s.task s.scans s.stands (calls n).now refl there.0 there.1) is_in
    where
      go : (task : Option NextStep) → ScanAt v task → StandsFor c n v s.log s.freed s.from s.time s.call s.sweep task
          → (run : Option Running) → (calls n).now ≡ run → InCall c n v s.log (state_with n s.time s.from s.freed s.call s.sweep) task run
          → calls_of s.left n ≡ (calls n).left
          → So (turned c (record { seat = seat_with n s.log s.freed s.from s.time s.call s.sweep task s.left; tape = old }))
      go (Some task) scans stands None e far left = absurd far
      go (Some task) scans stands (Some run) e far left =
          let same : run.call ≡ s.call = far.0 in
          subst (λ x. So (step_made c task (record { seat = seat_with n s.log s.freed s.from s.time x s.sweep (Some task) s.left; tape = old }))) same
          (by_step old [] (no_lines old) b run s.log s.freed s.from s.time s.sweep (Some task) s.left s.before
          (subst (λ o. IsCallOf c n made o (calls n).left run (calls_of s.left n) []) (sym e) (refl, left, refl)) task scans
          (subst (λ x. StandsFor c n v s.log s.freed s.from s.time x s.sweep (Some task)) (sym same) stands)
          (subst (λ x. FarIn run.call c n (view_behind c run.before n) v s.log (state_with n s.time s.from s.freed x s.sweep) task) (sym same) far.1))
      go None scans stands (Some run) e far left = absurd far
      go None (inl no_scan) stands None e far left =
          let x : Scene = record { seat = seat_with n s.log s.freed s.from s.time s.call s.sweep None s.left; tape = old } in
          looked_is no_scan e (looked c s.left x) s.log s.freed s.from s.time
          (subst (λ all. IsLooked c n made s.log s.freed s.from s.time old all (looked c s.left x)) left
          (looks c k n lt made b.each s.log s.freed s.from s.left s.before s.time stands s.call s.sweep old b))
      go None (inr scan) stands None e far left = let one : None ≡ Some (Tidies (LoadMark scan.0)) = scan.1 in absurd (cc)

-- a replay behind steps of the core, with each of its seats, and where they are in the plan
record AreSeats (c : Config) (r : Replay) (made : List Made) (calls : Calls) : Type 0 where
  behind : IsTapeBehind c r.tape made
  long : length r.seats ≡ c.seats
  each : (m : ℕ) → m < c.seats → IsSeatIn c m (seat_in r m) (view_behind c made m) (calls m)

-- a turn more
module _ (c : Config) (k : Checked c) (r : Replay) (n : ℕ) (lt : n < c.seats) (made : List Made) (calls : Calls) (are : AreSeats c r made calls) where
  abbrev y : Scene
  y = turned c (record { seat = seat_in r n; tape = r.tape })

  turn_is : IsTurned c n made r.tape calls y
  turn_is = turned_is c k n lt made r.tape calls (seat_in r n) are.behind (are.each n lt)

  -- the seats behind the turn: that of the turn, and the others as before
  seats_behind : (x : IsTurned c n made r.tape calls y) (m : ℕ) → m < c.seats
      → IsSeatIn c m (seat_in (turn_taken c r n) m) (view_behind c x.next m) (x.after m)
  seats_behind x m in_range =
      dite (ℕ_discrete m n)
      (λ same. subst (λ (i : ℕ). IsSeatIn c i (seat_in (turn_taken c r n) i) (view_behind c x.next i) (x.after i)) (sym same)
      (subst (λ s. IsSeatIn c n s (view_behind c x.next n) (x.after n))
      (sym (get_or-set_same r.seats n y.seat (new_seat [] 0) (let long = are.long in omega (arith, lt, long)))) x.seat_is))
      (λ other. subst (λ s. IsSeatIn c m s (view_behind c x.next m) (x.after m)) (sym (get_or-set_other r.seats n m y.seat (new_seat [] 0) other))
      (subst (λ u. IsSeatIn c m (seat_in r m) u (x.after m)) (sym (x.others m other).0)
      (subst (IsSeatIn c m (seat_in r m) (view_behind c made m)) (sym (x.others m other).1) (are.each m in_range))))

  -- the steps behind the turn, with the seats there, and where they are
  abbrev Goes_on : Type 0
  Goes_on =
      (next : List Made) × (after : Calls) × AreSeats c (turn_taken c r n) next after
      × IsTurnOf c n made next calls after r.tape (turn_taken c r n).tape

  one_turn : Goes_on
  one_turn =
      let x = turn_is in (
        x.next,
        x.after,
        record { behind = x.behind; long = length-set r.seats n y.seat ∙ are.long; each = seats_behind x },
        x.turn,
      )

-- behind these steps the tape is at a state of the rule
tape_ruled : (c : Config) → Checked c → (tape : TapeOf) (made : List Made) → IsTapeBehind c tape made → IsRuledTape c tape made
tape_ruled c k tape made b = record {
  behind = b;
  ruled = λ key numbers from.
      let back = sym numbers in
      subst (λ d. IsRuled key d tape.words made) numbers
      (is_ruled key (subst Checked back k) (from ∙ ap zeros back) made (subst (λ d. AreMade d made) back b.each) tape.words
      (subst (λ d. Shows d tape.words (state_of d made).memory) back b.shows));
}

-- all turns of a schedule
all_turns : (c : Config) → Checked c → (turns : List ℕ) → All (λ seat. seat < c.seats) turns → (r : Replay) (made : List Made) (calls : Calls)
    → AreSeats c r made calls → AreTurns c r made calls turns
all_turns c k [] within_range r made calls are = tape_ruled c k r.tape made are.behind
all_turns c k (n ∷ turns) within_range r made calls are =
    let next = one_turn c k r n (All-head (λ (seat : ℕ). seat < c.seats) n turns within_range) made calls are in (
      tape_ruled c k r.tape made are.behind,
      (
        next.0,
        next.1,
        next.3,
        all_turns c k turns (All-tail (λ (seat : ℕ). seat < c.seats) n turns within_range) (turn_taken c r n) next.0 next.1 next.2,
      ),
    )

-- the seat of a number in a new replay
new_seat_in : (calls : List CallOf) (first count n : ℕ) → n < count
    → get_or (new_seats calls first count) n (new_seat [] 0) ≡ new_seat calls (first + n)
new_seat_in calls first zero n lt = absurd (omega (arith, lt))
new_seat_in calls first (suc count) zero lt = ap (new_seat calls) (omega arith)
new_seat_in calls first (suc count) (suc n) lt = new_seat_in calls (first + 1) count n (omega (arith, lt)) ∙ ap (new_seat calls) (omega arith)

-- a seat that has made no step but those that make other seats
record IsNew (c : Config) (n : ℕ) (v : Knowledge) : Type 0 where
  number : v.number ≡ n
  phase : v.phase ≡ Outside
  scan : v.scan ≡ None
  ring : v.ring ≡ empty_ring c
  mine : v.past.mine ≡ []
  rests : v.past.rests ≡ 0
  frees : count_by is_free v.trail ≡ 0
  cuts : count_by is_won_cut v.trail ≡ 0
  keeps : KeepsLocks [] v.trail

new_made : (c : Config) (count n : ℕ) → IsNew c n ((with_made c count (opening_of c (zeros c))).seats n)
new_made c zero n =
    record { number = refl; phase = refl; scan = refl; ring = refl; mine = refl; rests = refl; frees = refl; cuts = refl; keeps = keeps_same [] }
new_made c (suc count) n =
    let s = with_made c count (opening_of c (zeros c)) in
    let first = new_made c count 0 in
    let maker : IsNew c 0 (made_one c (s.seats 0)) = record {
      number = first.number;
      phase = first.phase;
      scan = first.scan;
      ring = first.ring;
      mine = first.mine;
      rests = first.rests;
      frees = unpassed is_free (s.seats 0).trail _ refl ∙ first.frees;
      cuts = unpassed is_won_cut (s.seats 0).trail _ refl ∙ first.cuts;
      keeps = keeps_then [] (s.seats 0).trail _ first.keeps (keeps_one (s.seats 0).trail _ refl refl);
    } in
    set_at_all (IsNew c) (set_at s.seats 0 (made_one c (s.seats 0))) (s.seats 0).made (newly_made c (s.seats 0))
    (record { number = refl; phase = refl; scan = refl; ring = refl; mine = refl; rests = refl; frees = refl; cuts = refl; keeps = keeps_same [] })
    (λ t _. set_at_all (IsNew c) s.seats 0 (made_one c (s.seats 0)) maker (λ u _. new_made c count u) t) n

-- the notes of a seat of a new domain stand for its view
new_logs : (c : Config) → Checked c → (n : ℕ) → n < c.seats → (v : Knowledge) → IsNew c n v → Logs c v [] 0 0
new_logs c k n lt v new =
    let old = stands_new c (zeros c) n k lt in record {
      noted = nothing_noted n c.slots;
      stands = stands_same c (starting_view c (zeros c) n) v (nothing_noted n c.slots) (new.number ∙ old.seat) (new.ring ∙ sym (begins n).0)
          (new.mine ∙ sym (begins n).1) (new.rests ∙ sym (begins n).2) (new.frees ∙ old.frees) (new.cuts ∙ old.backs)
          (record { locks = new.keeps.locks ∙ old.locks; aborts = new.keeps.aborts ∙ old.aborts; settled = λ _. new.keeps.settled refl }) old;
      is = record { live = refl; gone = refl; within = omega arith; unbuilt = refl; held = refl; few = omega arith };
    }
  where
    begins : (m : ℕ) → ((starting_view c (zeros c) m).ring ≡ empty_ring c) × ((starting_view c (zeros c) m).past.mine ≡ [])
        × ((starting_view c (zeros c) m).past.rests ≡ 0)
    begins zero = (refl, refl, refl)
    begins (suc m) = (refl, refl, refl)

-- a new replay
begun_seats : (p : PlanOf) → Checked p.config → All (IsFitCallOf p.config) p.calls → AreSeats p.config (replay_begun p) [] (calls_before p)
begun_seats p k fit =
    let c = p.config in
    record {
      behind = record { each = tt; shows = shows_opened c k (new_words c) refl; count = refl };
      long = seats_long p.calls 0 c.seats;
      each = λ n lt.
          let new = new_made c (c.seats - 1) n in
          let is : seat_in (replay_begun p) n ≡ new_seat p.calls n = new_seat_in p.calls 0 c.seats n lt ∙ ap (new_seat p.calls) (omega arith) in (
            record {
              log = [];
              freed = 0;
              from = 0;
              time = None;
              call = Enter;
              sweep = new_sweep 0;
              task = None;
              left = p.calls;
              is = is;
              scans = inl new.scan;
              before = fit;
              stands = (new.phase, refl, new_logs c k n lt ((opened c).seats n) new);
            },
            subst (λ s. IsIn c n (view_behind c [] n) s (calls_before p n)) (sym is) (tt, refl),
          );
    }

pub runs_ruled : RunsAreRuled
runs_ruled p fit turns in_range =
    let k = fit.config.checked in
    all_turns p.config k turns in_range (replay_begun p) [] (calls_before p) (begun_seats p k fit.calls)

-- and of its own schedule
pub plan_ruled : (p : PlanOf) → IsFitPlan p → IsRuledPlan p
plan_ruled p fit = runs_ruled p fit p.steps fit.steps.0
