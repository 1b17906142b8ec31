-- How a call comes to its answer: what its proof says of its begin, and of each of its steps.
use Rattle.std.proofs.Common.{◌≡◌, ℕ, ◌<◌, true, List, Option, Some}
use Rattle.mv_core.proofs.Terms.{Config, Checked}
use Rattle.mv_core.specs.declared.view.Knowledge.{Knowledge}
use Rattle.mv_core.specs.Moves.{MoveKind}
use Rattle.replay_rules.specs.declared.plan.Call.{Call}
use Rattle.replay_rules.specs.declared.seats.NotedVersion.{NotedVersion}
use Rattle.replay_rules.specs.declared.seats.Sweep.{Sweep}
use Rattle.replay_rules.specs.declared.seats.State.{State}
use Rattle.replay_rules.specs.declared.seats.CallAnswer.{CallAnswer}
use Rattle.replay_rules.specs.declared.seats.NextStep.{NextStep}
use Rattle.replay_rules.specs.declared.seats.Then.{Then}
use Rattle.replay_rules.specs.declared.seats.Then.TheVariants.{Goes, Ends}
use Rattle.replay_rules.specs.FitPlans.{IsFitCall}
use Rattle.replay_rules.specs.States.{Made, state_of, AreMade}
use Rattle.replay_rules.specs.Tasks.{place_in_task}
use Rattle.replay_rules.specs.SeatNotes.{applied}
use Rattle.replay_rules.specs.Begins.{may_begin, begin_call, new_sweep}
use Rattle.replay_rules.specs.Learns.{state_after, edit_of}
use Rattle.replay_rules.specs.Sweeps.{then_after}
use Rattle.replay_rules.specs.NextSteps.{IsStepOf}
use Rattle.replay_rules.specs.Kinds.{IsKindOf}
use Rattle.replay_rules.specs.Answers.{AnswersSo}
use Rattle.replay_rules.proofs.runs.Sections.{RestsAt}
use Rattle.replay_rules.proofs.runs.Standing.{StandsFor, ScanAt, step_of}
use Rattle.replay_rules.proofs.runs.Stepping.{view_by}

-- how far a call has come: by the seat's view at its begin, its view now, its notes, what it is at, and the call's next step
abbrev pub FarOf : Type 1
FarOf = Config → ℕ → Knowledge → Knowledge → List NotedVersion → State → NextStep → Type 0

-- it goes on from there, or answers so
abbrev pub Comes : (NextStep → Type 0) → (CallAnswer → Type 0) → Then → Type 0
Comes Far Answers (Goes task) = Far task
Comes Far Answers (Ends answer) = Answers answer

-- a seat in this call, by its parts
abbrev pub state_with : ℕ → Option ℕ → ℕ → ℕ → Call → Sweep → State
state_with n time from freed call sweep = record { seat = n; time = time; from = from; freed = freed; call = call; sweep = sweep }

-- what the seat is at behind a step
abbrev pub StandsThen : Config → ℕ → Knowledge → List NotedVersion → State → Then → Type 0
StandsThen c n w log s (Goes task) = StandsFor c n w log s.freed s.from s.time s.call s.sweep (Some task)
StandsThen c n w log s (Ends answer) = RestsAt c w log s.freed s.from s.time

-- the call begins, where its condition holds
abbrev pub BeginsSo : Call → FarOf → Type 0
BeginsSo call Far =
    (c : Config) → Checked c → IsFitCall c call → (n : ℕ) → n < c.seats → (made : List Made) → AreMade c made
    → (log : List NotedVersion) (freed from : ℕ) (time : Option ℕ) → RestsAt c ((state_of c made).seats n) log freed from time
    → may_begin log (state_with n time from freed call (new_sweep freed)) call ≡ true
    → Comes (Far c n ((state_of c made).seats n) ((state_of c made).seats n) log (state_with n time from freed call (new_sweep freed)))
    (AnswersSo c call ((state_of c made).seats n) ((state_of c made).seats n))
    (begin_call call c log (state_with n time from freed call (new_sweep freed)))

-- and goes on behind each of its steps
abbrev pub GoesOnSo : Call → FarOf → Type 0
GoesOnSo call Far =
    (c : Config) → Checked c → (n : ℕ) → n < c.seats → (made : List Made) → AreMade c made
    → (log : List NotedVersion) (freed from : ℕ) (time : Option ℕ) (sweep : Sweep) (task : NextStep)
    → StandsFor c n ((state_of c made).seats n) log freed from time call sweep (Some task) → ScanAt ((state_of c made).seats n) (Some task)
    → (kind : MoveKind) → IsStepOf c made (step_of n kind) n task → IsKindOf task kind
    → (v0 : Knowledge) → Far c n v0 ((state_of c made).seats n) log (state_with n time from freed call sweep) task
    → let found = (state_of c made).memory (place_in_task c n task) in
    let s = state_after task log (state_with n time from freed call sweep) found in
    let notes = applied (edit_of task (state_with n time from freed call sweep) found) log in
    StandsThen c n (view_by c (state_of c made) n kind) notes s (then_after task c notes s found)
    → Comes (Far c n v0 (view_by c (state_of c made) n kind) notes s) (AnswersSo c call v0 (view_by c (state_of c made) n kind))
    (then_after task c notes s found)
