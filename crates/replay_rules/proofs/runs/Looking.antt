-- A seat looks at its calls: it makes no step, and stands at the first step of the next one, or has none left.
use Rattle.std.proofs.Common.{◌≡◌, ◌⊎◌, ℕ, ◌-◌, ◌<◌, ◌≤◌, ◌^◌, ◌==◌, List, [], ◌∷◌, ◌++◌, length, true, false, Option, Some, None}
use Rattle.std.proofs.Common.{All, Bool, refl, sym, ap, ◌∙◌, subst, arith, inl, inr, eqb-true, if◌then◌else◌, slice_index}
use Rattle.std.proofs.lemmas.Bool.{cases_lt}
use Rattle.std.proofs.lemmas.List.{get_or_past}
use Rattle.std.proofs.lemmas.List.Elements.{All-head, All-tail, All-get_or}
use Rattle.mv_core.proofs.Terms.{Config, Checked}
use Rattle.mv_core.specs.declared.view.Knowledge.{Knowledge}
use Rattle.mv_history.specs.declared.answers.LockAnswer.TheVariants as refusals
use Rattle.commit_abort.proofs.AbortParts.{abort_begins}
use Rattle.replay_rules.specs.declared.plan.Call.{Call}
use Rattle.replay_rules.specs.declared.plan.Call.TheVariants.{Enter, Read, Lock, Write, Commit, Abort, Leave, Tidy}
use Rattle.replay_rules.specs.declared.plan.CallOf.{CallOf}
use Rattle.replay_rules.specs.declared.seats.NotedVersion.{NotedVersion}
use Rattle.replay_rules.specs.declared.seats.Sweep.{Sweep}
use Rattle.replay_rules.specs.declared.seats.State.{State}
use Rattle.replay_rules.specs.declared.seats.Entering.TheVariants as enter
use Rattle.replay_rules.specs.declared.seats.Walking.TheVariants as walk
use Rattle.replay_rules.specs.declared.seats.Ending.TheVariants as finish
use Rattle.replay_rules.specs.declared.seats.Leaving.TheVariants.{Plainly}
use Rattle.replay_rules.specs.declared.seats.Sweeping.TheVariants as sweeping
use Rattle.replay_rules.specs.declared.seats.CallAnswer.TheVariants.{Locked}
use Rattle.replay_rules.specs.declared.seats.NextStep.{NextStep}
use Rattle.replay_rules.specs.declared.seats.NextStep.TheVariants.{Enters, Walks, EndsSection, Tidies}
use Rattle.replay_rules.specs.declared.seats.Then.{Then}
use Rattle.replay_rules.specs.declared.seats.Then.TheVariants.{Goes, Ends}
use Rattle.replay_rules.specs.declared.seats.Test.TheVariants.{IsOf}
use Rattle.replay_rules.specs.FitPlans.{AreSixWords, IsFitCall, IsFitCallOf}
use Rattle.replay_rules.specs.SeatNotes.{held, holds, live, place_held}
use Rattle.replay_rules.specs.Begins.{unlock, begin_abort, begin_call, may_begin, new_sweep}
use Rattle.replay_rules.specs.States.{Made, AreMade}
use Rattle.replay_rules.specs.Lines.{skip_line, answer_line}
use Rattle.replay_rules.specs.Runs.{TapeOf, Scene, Looked, with_line, begun_so, call_looked, looked_on, looked}
use Rattle.replay_rules.specs.Behind.{IsTapeBehind}
use Rattle.replay_rules.specs.InPlans.{calls_of}
use Rattle.replay_rules.specs.RuledRuns.{view_behind, AreStepless, no_call, skips, answers}
use Rattle.replay_rules.specs.Answers.{AnswersSo}
use Rattle.replay_rules.specs.Skips.{MayNotBegin}
use Rattle.replay_rules.proofs.OneStep.{no_lines, more_lines}
use Rattle.replay_rules.proofs.NextSteps.{lined}
use Rattle.replay_rules.proofs.runs.Sections.{seat_with, InSection, RestsAt}
use Rattle.replay_rules.proofs.runs.Standing.{StandsFor, GoesSo, by_step, by_end}
use Rattle.replay_rules.proofs.runs.Known.{if_so, eqb_ne, ltb_lt, ltb_ge}
use Rattle.replay_rules.proofs.runs.LogFacts.{held_are, log_short}
use Rattle.replay_rules.proofs.runs.Searches.{first_after, none_of}
use Rattle.replay_rules.proofs.answers.Progress.{Comes, state_with}
use Rattle.replay_rules.proofs.answers.Far.{FarIn, call_begins}
use Rattle.replay_rules.proofs.answers.Skips.{may_not}

-- how far a call has come that begins here
abbrev pub BeginsFar : Config → ℕ → Knowledge → List NotedVersion → State → Option NextStep → Type 0
BeginsFar c n v log state None = Unit {0}
BeginsFar c n v log state (Some task) = FarIn state.call c n v v log state task

-- Which calls of a seat were looked at: all of them, and none is left; or those before one that begins.
abbrev pub LooksAt : Option NextStep → Call → List Call → List Call → List Call → Type 0
LooksAt None call all looked left = (all ≡ looked) × (left ≡ [])
LooksAt (Some task) call all looked left = all ≡ looked ++ call ∷ left

-- What a seat comes to that looks at its calls, from this tape: the tape is behind the same steps, with the lines of calls that need none, and the
-- next call begins, if there is one.
pub record IsLooked (c : Config) (n : ℕ) (made : List Made) (log : List NotedVersion) (freed from : ℕ) (time : Option ℕ) (t : TapeOf) (all : List Call)
    (l : Looked) : Type 0 where
  pub call : Call
  pub sweep : Sweep
  pub left : List CallOf
  pub is : l.scene.seat ≡ seat_with n log freed from time call sweep None left
  pub before : All (IsFitCallOf c) left
  pub behind : IsTapeBehind c l.scene.tape made
  pub stands : StandsFor c n (view_behind c made n) log freed from time call sweep l.task
  pub lines : List ℕ
  pub printed : l.scene.tape ≡ with_line t lines
  pub looked : List Call
  pub stepless : AreStepless c n (view_behind c made n) looked lines
  pub calls_are : LooksAt l.task call all looked (calls_of left n)
  pub far : BeginsFar c n (view_behind c made n) log (state_with n time from freed call sweep) l.task

-- the words of a write are of 64 bits
words_small : (words : List ℕ) → AreSixWords words → (i : ℕ) → slice_index words i < 2 ^ 64
words_small words fit i = go (cases_lt i (length words))
  where
    go : (i < length words) ⊎ (length words ≤ i) → slice_index words i < 2 ^ 64
    go (inl lt) = All-get_or (λ (w : ℕ). w < 2 ^ 64) words i 0 lt fit.1
    go (inr ge) = let e = get_or_past words i 0 ge in omega (arith, e)

-- the condition of a call reads neither the last call nor its tidy
may_same : (log : List NotedVersion) (n : ℕ) (time : Option ℕ) (from freed : ℕ) (a b : Call) (x y : Sweep) (what : Call)
    → may_begin log (state_with n time from freed a x) what ≡ may_begin log (state_with n time from freed b y) what
may_same log n time from freed a b x y Enter = refl
may_same log n time from freed a b x y (Read o) = refl
may_same log n time from freed a b x y (Lock o) = refl
may_same log n time from freed a b x y (Write o words) = refl
may_same log n time from freed a b x y Commit = refl
may_same log n time from freed a b x y Abort = refl
may_same log n time from freed a b x y Leave = refl
may_same log n time from freed a b x y Tidy = refl

module _ (c : Config) (k : Checked c) (n : ℕ) (lt : n < c.seats) (made : List Made) (each : AreMade c made)
    (log : List NotedVersion) (freed from : ℕ) where
  abbrev v : Knowledge
  v = view_behind c made n

  abbrev state : Option ℕ → Call → State
  state time call = state_with n time from freed call (new_sweep freed)

  -- how a call begins in a section
  module _ (t : ℕ) (inside : InSection c v log freed from (Some t)) where
    from_low : from ≤ length log
    from_low = let h = held_are c k v log freed from inside.logs in omega (arith, h)

    lock_so : (o : ℕ) → o < c.objects → GoesSo c n v log freed from (Some t) (Lock o) (new_sweep freed) (begin_call (Lock o) c log (state (Some t) (Lock o)))
    lock_so o range =
        let s = state (Some t) (Lock o) in
        let P = GoesSo c n v log freed from (Some t) (Lock o) (new_sweep freed) in
        let few = inside.logs.is.few in
        let all = inside.logs.is.held in
        let short = log_short c k v log freed from inside.logs in
        if_so P (holds log s o) (Ends (Locked refusals.Held))
        (if held log s == c.write_max then Ends (Locked refusals.SetFull)
        else (if live log s == c.slots then Ends (Locked refusals.LogFull) else Goes (Walks o walk.LoadHead)))
        (λ e. by_end (Locked refusals.Held) refl inside)
        (λ free. if_so P (held log s == c.write_max) (Ends (Locked refusals.SetFull))
        (if live log s == c.slots then Ends (Locked refusals.LogFull) else Goes (Walks o walk.LoadHead))
        (λ e. by_end (Locked refusals.SetFull) refl inside)
        (λ some. if_so P (live log s == c.slots) (Ends (Locked refusals.LogFull)) (Goes (Walks o walk.LoadHead))
        (λ e. by_end (Locked refusals.LogFull) refl inside)
        (λ room. by_step (Walks o walk.LoadHead) refl (
          inside,
          range,
          (
            refl,
            record {
              unheld = none_of log from o (ltb_ge (place_held log s o) (length log) free);
              few = (let ne = eqb_ne (held log s) c.write_max some in omega (arith, ne, few, all));
              room = (let ne = eqb_ne (live log s) c.slots room in omega (arith, ne, short));
            },
          ),
          tt,
        ))))

    abort_so : GoesSo c n v log freed from (Some t) Abort (new_sweep freed) (begin_call Abort c log (state (Some t) Abort))
    abort_so =
        let s = state (Some t) Abort in
        let low = from_low in
        by_step (begin_abort log s) refl
        (if_so (λ (task : NextStep). StandsFor c n v log freed from (Some t) Abort (new_sweep freed) (Some task)) (held log s == 0)
        (EndsSection (finish.Leave Plainly)) (unlock log from)
        (λ none. (inside, (let z = eqb-true (held log s) 0 none in omega (arith, z, low))))
        (λ some. (
          0,
          record {
            before = v;
            noted = inside.logs.noted;
            aborting = abort_begins c v inside.logs.noted inside.section (record { phase = inside.walking.phase; open_is = inside.walking.open_is })
                inside.logs.stands inside.logs.is.unbuilt;
            is = inside.logs.is;
          },
          omega arith,
          (let ne = eqb_ne (held log s) 0 some in omega (arith, ne, low)),
          refl,
          refl,
        )))

    write_so : (o : ℕ) (words : List ℕ) → AreSixWords words → holds log (state (Some t) (Write o words)) o ≡ true
        → GoesSo c n v log freed from (Some t) (Write o words) (new_sweep freed) (begin_call (Write o words) c log (state (Some t) (Write o words)))
    write_so o words fit there = by_step _ refl (record {
      inside = inside;
      held = first_after log from (IsOf o) from_low;
      live = ltb_lt (place_held log (state (Some t) (Write o words)) o) (length log) there;
      in_range = omega arith;
      small = words_small words fit;
    })

  abbrev scene : Option ℕ → Call → Sweep → List CallOf → TapeOf → Scene
  scene time call sweep left t = record { seat = seat_with n log freed from time call sweep None left; tape = t }

  abbrev So : List Call → Option ℕ → TapeOf → Looked → Type 0
  So all time t l = IsLooked c n made log freed from time t all l

  -- what comes of the calls behind
  abbrev Next : List CallOf → Option ℕ → Type 0
  Next calls time = (call : Call) (sweep : Sweep) (t : TapeOf) → IsTapeBehind c t made
      → So (calls_of calls n) time t (looked c calls (scene time call sweep calls t))

  -- a call that is looked at, and then those behind it
  abbrev Goes_on : List CallOf → List Call → Option ℕ → TapeOf → Looked → Type 0
  Goes_on calls all time t this = So all time t (looked_on this.task this (looked c calls this.scene))

  -- what a call says that begins
  abbrev Comes_so : Option ℕ → Call → Then → Type 0
  Comes_so time what x = Comes (FarIn what c n v v log (state time what)) (AnswersSo c what v v) x

  -- a call that needs no step, and then the calls behind it
  also_looked : (task : Option NextStep) (call what : Call) (all looked left : List Call) → LooksAt task call all looked left
      → LooksAt task call (what ∷ all) (what ∷ looked) left
  also_looked None call what all looked left is = (ap (λ xs. what ∷ xs) is.0, is.1)
  also_looked (Some task) call what all looked left is = ap (λ xs. what ∷ xs) is

  behind_line : (all : List Call) (time : Option ℕ) (t : TapeOf) (what : Call) (line : List ℕ) (l : Looked)
      → ((calls : List Call) (lines : List ℕ) → AreStepless c n v calls lines → AreStepless c n v (what ∷ calls) (line ++ lines))
      → So all time (with_line t line) l → So (what ∷ all) time t l
  behind_line all time t what line l first is = record {
    call = is.call;
    sweep = is.sweep;
    left = is.left;
    is = is.is;
    before = is.before;
    behind = is.behind;
    stands = is.stands;
    lines = line ++ is.lines;
    printed = is.printed ∙ more_lines t line is.lines;
    looked = what ∷ is.looked;
    stepless = first is.looked is.lines is.stepless;
    calls_are = also_looked l.task is.call what all is.looked (calls_of is.left n) is.calls_are;
    far = is.far;
  }

  module _ (calls : List CallOf) (before : All (IsFitCallOf c) calls) (call : Call) (sweep : Sweep) (t : TapeOf) (b : IsTapeBehind c t made) (time : Option ℕ)
      (next : Next calls time) where
    -- the calls of this seat from this one on
    abbrev from_here : Call → List Call
    from_here what = what ∷ calls_of calls n

    -- a call is begun, or is answered by what the seat knows
    begun : (what : Call) → (x : Then) → GoesSo c n v log freed from time what (new_sweep freed) x → Comes_so time what x
        → Goes_on calls (from_here what) time t (begun_so x what (scene time what (new_sweep freed) calls t))
    begun what x (by_step task e stands) comes =
        subst (λ y. Goes_on calls (from_here what) time t (begun_so y what (scene time what (new_sweep freed) calls t))) (sym e)
        (record {
          call = what;
          sweep = new_sweep freed;
          left = calls;
          is = refl;
          before = before;
          behind = b;
          stands = stands;
          lines = [];
          printed = no_lines t;
          looked = [];
          stepless = no_call;
          calls_are = refl;
          far = subst (Comes_so time what) e comes;
        })
    begun what x (by_end answer e rests) comes =
        let line = answer_line n what answer in
        let known : AnswersSo c what v v answer = subst (Comes_so time what) e comes in
        subst (λ y. Goes_on calls (from_here what) time t (begun_so y what (scene time what (new_sweep freed) calls t))) (sym e)
        (behind_line (calls_of calls n) time t what line _ (λ others lines. answers what answer others lines known)
        (next what (new_sweep freed) (with_line t line) (lined c t made line b)))

    -- or skipped, where its condition is false
    call_is : (what : Call)
        → (may_begin log (state_with n time from freed call sweep) what ≡ true
        → GoesSo c n v log freed from time what (new_sweep freed) (begin_call what c log (state time what)))
        → (may_begin log (state time what) what ≡ true → Comes_so time what (begin_call what c log (state time what)))
        → (may_begin log (state_with n time from freed call sweep) what ≡ false → MayNotBegin c v what)
        → Goes_on calls (from_here what) time t (call_looked c what (scene time call sweep calls t))
    call_is what goes comes skip =
        let may = may_begin log (state_with n time from freed call sweep) what in
        let line = skip_line n what in
        if_so (Goes_on calls (from_here what) time t) may
        (begun_so (begin_call what c log (state time what)) what (scene time what (new_sweep freed) calls t))
        (record { scene = scene time call sweep calls (with_line t line); task = None })
        (λ e. begun what (begin_call what c log (state time what)) (goes e)
        (comes (may_same log n time from freed what call (new_sweep freed) sweep what ∙ e)))
        (λ e. behind_line (calls_of calls n) time t what line _ (λ others lines. skips what others lines (skip e))
        (next call sweep (with_line t line) (lined c t made line b)))

  -- how each call begins
  begins_outside : (what : Call) (call : Call) (sweep : Sweep) → RestsAt c v log freed from None
      → may_begin log (state_with n None from freed call sweep) what ≡ true
      → GoesSo c n v log freed from None what (new_sweep freed) (begin_call what c log (state None what))
  begins_outside Enter call sweep rests e = by_step (Enters enter.LoadLow) refl (rests.0, tt, refl, rests.1, rests.2)
  begins_outside Tidy call sweep rests e = by_step (Tidies (sweeping.LoadGrace false)) refl ((rests, refl), refl)
  begins_outside (Read o) call sweep rests e = absurd (cc)
  begins_outside (Lock o) call sweep rests e = absurd (cc)
  begins_outside (Write o words) call sweep rests e = absurd (cc)
  begins_outside Commit call sweep rests e = absurd (cc)
  begins_outside Abort call sweep rests e = absurd (cc)
  begins_outside Leave call sweep rests e = absurd (cc)

  begins_inside : (what : Call) (call : Call) (sweep : Sweep) (t : ℕ) → IsFitCall c what → InSection c v log freed from (Some t)
      → may_begin log (state_with n (Some t) from freed call sweep) what ≡ true
      → GoesSo c n v log freed from (Some t) what (new_sweep freed) (begin_call what c log (state (Some t) what))
  begins_inside Enter call sweep t fit inside e = absurd (cc)
  begins_inside Tidy call sweep t fit inside e = absurd (cc)
  begins_inside (Read o) call sweep t fit inside e = by_step (Walks o walk.LoadHead) refl (inside, fit, refl, tt)
  begins_inside (Lock o) call sweep t fit inside e = lock_so t inside o fit
  begins_inside (Write o words) call sweep t fit inside e = write_so t inside o words fit.1 e
  begins_inside Commit call sweep t fit inside e =
      by_step (EndsSection finish.LoadNow) refl
      (inl (inside, (let some = ltb_lt 0 (length log - from) e in omega (arith, some)), refl))
  begins_inside Abort call sweep t fit inside e = abort_so t inside
  begins_inside Leave call sweep t fit inside e =
      let low = from_low t inside in
      by_step (EndsSection (finish.Leave Plainly)) refl (inside, (let none = eqb-true (length log - from) 0 e in omega (arith, none, low)))

  begins : (what : Call) (call : Call) (sweep : Sweep) (time : Option ℕ) → IsFitCall c what → RestsAt c v log freed from time
      → may_begin log (state_with n time from freed call sweep) what ≡ true
      → GoesSo c n v log freed from time what (new_sweep freed) (begin_call what c log (state time what))
  begins what call sweep None fit rests = begins_outside what call sweep rests
  begins what call sweep (Some t) fit rests = begins_inside what call sweep t fit rests

  pub looks : (calls : List CallOf) → All (IsFitCallOf c) calls → (time : Option ℕ) → RestsAt c v log freed from time
      → (call : Call) (sweep : Sweep) (t : TapeOf) → IsTapeBehind c t made
      → So (calls_of calls n) time t (looked c calls (scene time call sweep calls t))
  looks [] before time rests call sweep t b =
      record {
        call = call;
        sweep = sweep;
        left = [];
        is = refl;
        before = before;
        behind = b;
        stands = rests;
        lines = [];
        printed = no_lines t;
        looked = [];
        stepless = no_call;
        calls_are = (refl, refl);
        far = tt;
      }
  looks (one ∷ calls) before time rests call sweep t b =
      let behind = All-tail (IsFitCallOf c) one calls before in
      let next : Next calls time = λ other swept u a. looks calls behind time rests other swept u a in
      let fit = (All-head (IsFitCallOf c) one calls before).1 in
      let of : Bool → List Call = λ own. if own then one.call ∷ calls_of calls n else calls_of calls n in
      let P = Goes_on calls (calls_of (one ∷ calls) n) time t in
      let this = call_looked c one.call (scene time call sweep calls t) in
      let other : Looked = record { scene = scene time call sweep calls t; task = None } in
      if_so P (one.seat == n) this other
      (λ e. subst (λ all. Goes_on calls all time t this) (sym (ap of e))
      (call_is calls behind call sweep t b time next one.call (begins one.call call sweep time fit rests)
      (call_begins one.call c k fit n lt made each log freed from time rests)
      (may_not c k n v log freed from call sweep time rests one.call)))
      (λ e. subst (λ all. Goes_on calls all time t other) (sym (ap of e)) (next call sweep t b))
