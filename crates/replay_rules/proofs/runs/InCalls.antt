-- The call that a seat is in: how far it has come, and what a step of the seat makes of it.
use Rattle.std.proofs.Common.{◌≡◌, ◌∙◌, ℕ, ◌<◌, List, [], Option, Some, None, refl, sym, subst}
use Rattle.mv_core.proofs.Terms.{Config, Checked}
use Rattle.mv_core.specs.declared.view.Knowledge.{Knowledge}
use Rattle.mv_core.specs.Moves.{Moment, MoveKind}
use Rattle.replay_rules.specs.declared.plan.Call.{Call}
use Rattle.replay_rules.specs.declared.plan.CallOf.{CallOf}
use Rattle.replay_rules.specs.declared.seats.NotedVersion.{NotedVersion}
use Rattle.replay_rules.specs.declared.seats.Sweep.{Sweep}
use Rattle.replay_rules.specs.declared.seats.State.{State}
use Rattle.replay_rules.specs.declared.seats.NextStep.{NextStep}
use Rattle.replay_rules.specs.declared.seats.Then.{Then}
use Rattle.replay_rules.specs.declared.seats.Then.TheVariants.{Goes, Ends}
use Rattle.replay_rules.specs.States.{Made, state_of}
use Rattle.replay_rules.specs.Tasks.{place_in_task}
use Rattle.replay_rules.specs.Kinds.{IsKindOf}
use Rattle.replay_rules.specs.Answers.{AnswersSo}
use Rattle.replay_rules.specs.SeatNotes.{applied}
use Rattle.replay_rules.specs.Learns.{state_after, edit_of}
use Rattle.replay_rules.specs.Lines.{answer_line}
use Rattle.replay_rules.specs.Sweeps.{then_after}
use Rattle.replay_rules.specs.Runs.{SeatOf, TapeOf, Scene, with_line, tape_stepped, tape_after, learned, went, step_made}
use Rattle.replay_rules.specs.Behind.{IsTapeBehind}
use Rattle.replay_rules.specs.NextSteps.{IsStepOf}
use Rattle.replay_rules.specs.InPlans.{Running, InPlan, calls_of}
use Rattle.replay_rules.specs.RuledRuns.{view_behind, GoesOrEnds, goes_on, has_ended}
use Rattle.replay_rules.proofs.OneStep.{no_lines}
use Rattle.replay_rules.proofs.runs.Sections.{seat_with}
use Rattle.replay_rules.proofs.runs.Kept.{state_keeps}
use Rattle.replay_rules.proofs.runs.Standing.{IsSeat, StandsFor, ScanAt, step_of}
use Rattle.replay_rules.proofs.runs.Stepping.{view_by, after_is, scene_is}
use Rattle.replay_rules.proofs.answers.Progress.{Comes, StandsThen, state_with}
use Rattle.replay_rules.proofs.answers.Far.{FarIn, call_goes}

-- a seat is in no call, and has no next step; or it is in one that has come so far
abbrev pub InCall : Config → ℕ → Knowledge → List NotedVersion → State → Option NextStep → Option Running → Type 0
InCall c n v log state None None = Unit {0}
InCall c n v log state None (Some run) = ⊥
InCall c n v log state (Some task) None = ⊥
InCall c n v log state (Some task) (Some run) = (run.call ≡ state.call) × FarIn run.call c n (view_behind c run.before n) v log state task

-- where a seat is in its plan
abbrev pub IsIn : Config → ℕ → Knowledge → SeatOf → InPlan → Type 0
IsIn c n v s here = InCall c n v s.log s.state s.task here.now × (calls_of s.left n ≡ here.left)

-- what a seat is at, by all that is kept of it
abbrev StandsOf : Config → ℕ → Knowledge → SeatOf → Type 0
StandsOf c n v s = StandsFor c n v s.log s.state.freed s.state.from s.state.time s.state.call s.state.sweep s.task

stands_of : (c : Config) (n : ℕ) (v : Knowledge) (s : SeatOf) → IsSeat c n s v → StandsOf c n v s
stands_of c n v s is = subst (StandsOf c n v) (sym is.is) is.stands

-- What a step of a seat makes of its call, from this tape: the call goes on, and has come farther, or it has ended with its line.
pub record CallSteps (c : Config) (n : ℕ) (t : TapeOf) (task : NextStep) (run : Running) (left : List Call) (w : Knowledge) (y : Scene) : Type 0 where
  pub now : Option Running
  pub lines : List ℕ
  pub goes : GoesOrEnds c n run w now lines
  pub tape_is : y.tape ≡ with_line (tape_stepped c n task (place_in_task c n task) t) lines
  pub is_in : IsIn c n w y.seat (record { now = now; left = left })

module _ (c : Config) (k : Checked c) (n : ℕ) (lt : n < c.seats) (made : List Made) (t : TapeOf) (b : IsTapeBehind c t made)
    (log : List NotedVersion) (freed from : ℕ) (time : Option ℕ) (run : Running) (sweep : Sweep) (own : Option NextStep) (left : List CallOf)
    (task : NextStep) (kind : MoveKind) (next : IsStepOf c made (step_of n kind) n task) where
  abbrev m : Moment
  m = state_of c made

  abbrev v0 : Knowledge
  v0 = view_behind c run.before n

  abbrev w : Knowledge
  w = view_by c m n kind

  abbrev seat : SeatOf
  seat = seat_with n log freed from time run.call sweep own left

  abbrev found : ℕ
  found = m.memory (place_in_task c n task)

  abbrev s : State
  s = state_after task log (state_with n time from freed run.call sweep) found

  abbrev notes : List NotedVersion
  notes = applied (edit_of task (state_with n time from freed run.call sweep) found) log

  -- what the call goes on to, or ends with, and the seat and the tape then
  abbrev going : Then → Scene
  going x = went x (record { seat = learned task found seat; tape = tape_after c n task t })

  went_so : (x : Then) → Comes (FarIn run.call c n v0 w notes s) (AnswersSo c run.call v0 w) x → CallSteps c n t task run (calls_of left n) w (going x)
  went_so (Goes more) far =
      let same = state_keeps task log (state_with n time from freed run.call sweep) found in record {
        now = Some run;
        lines = [];
        goes = goes_on refl refl;
        tape_is = after_is c k n lt made t b task next.range ∙ no_lines (tape_stepped c n task (place_in_task c n task) t);
        is_in = ((sym same.1, far), refl);
      }
  went_so (Ends answer) said =
      let same = state_keeps task log (state_with n time from freed run.call sweep) found in
      let tape = after_is c k n lt made t b task next.range in record {
        now = None;
        lines = answer_line n run.call answer;
        goes = has_ended answer refl refl said;
        tape_is = (λ i. with_line (tape i) (answer_line (same.0 i) (same.1 i) answer));
        is_in = (tt, refl);
      }

  stands_then : (x : Then) → StandsOf c n w (going x).seat → StandsThen c n w notes s x
  stands_then (Goes more) stands = stands
  stands_then (Ends answer) stands = stands

  pub call_steps : IsKindOf task kind → ScanAt ((state_of c made).seats n) (Some task)
      → StandsFor c n ((state_of c made).seats n) log freed from time run.call sweep (Some task)
      → FarIn run.call c n (view_behind c run.before n) ((state_of c made).seats n) log (state_with n time from freed run.call sweep) task
      → IsSeat c n (step_made c task (record { seat = seat_with n log freed from time run.call sweep own left; tape = t })).seat
      (view_by c (state_of c made) n kind)
      → CallSteps c n t task run (calls_of left n) (view_by c (state_of c made) n kind) (step_made c task (record {
        seat = seat_with n log freed from time run.call sweep own left;
        tape = t;
      }))
  call_steps is scans stands far seat_is =
      let there = scene_is c k n lt made t b task next.range seat refl in
      let x = then_after task c notes s found in
      let behind = stands_then x (subst (λ (y : Scene). StandsOf c n w y.seat) there (stands_of c n w _ seat_is)) in
      subst (CallSteps c n t task run (calls_of left n) w) (sym there)
      (went_so x (call_goes run.call c k n lt made b.each log freed from time sweep task stands scans kind next is v0 far behind))
