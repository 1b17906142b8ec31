-- A step of a tidy: what the seat knows behind it, and what it goes on with.
use Rattle.std.proofs.Common.{◌≡◌, ℕ, ◌+◌, List, ◌∷◌, length, Option, subst, arith}
use Rattle.mv_layout.specs.Words.{clock_time_of}
use Rattle.mv_core.proofs.Terms.{Config, Checked, Clock}
use Rattle.mv_core.specs.declared.view.Knowledge.{Knowledge}
use Rattle.mv_core.specs.HistoryFacts.{BeginsWith}
use Rattle.mv_core.specs.Known.{Known}
use Rattle.mv_core.specs.Moves.{Moment, MoveKind}
use Rattle.mv_core.proofs.frames.FrameLaw.{set_at_here}
use Rattle.replay_rules.specs.declared.plan.Call.TheVariants.{Tidy}
use Rattle.replay_rules.specs.declared.seats.NotedVersion.{NotedVersion}
use Rattle.replay_rules.specs.declared.seats.Sweep.{Sweep}
use Rattle.replay_rules.specs.declared.seats.State.{State}
use Rattle.replay_rules.specs.declared.seats.NextStep.{NextStep}
use Rattle.replay_rules.specs.declared.seats.Then.{Then}
use Rattle.replay_rules.specs.Tasks.{place_in_task}
use Rattle.replay_rules.specs.SeatNotes.{applied}
use Rattle.replay_rules.specs.Learns.{state_after, edit_of}
use Rattle.replay_rules.specs.Sweeps.{then_after}
use Rattle.replay_rules.specs.NextSteps.{IsStepOf}
use Rattle.replay_rules.specs.Answers.{AnswersSo}
use Rattle.replay_rules.specs.States.{any_commit, any_start, Made, state_of, AreMade}
use Rattle.replay_rules.proofs.Replays.{holds_behind}
use Rattle.replay_rules.proofs.runs.Standing.{step_of}
use Rattle.replay_rules.proofs.runs.Stepping.{view_by}
use Rattle.replay_rules.proofs.runs.Known.{facts, knows}
use Rattle.replay_rules.proofs.answers.Progress.{Comes, StandsThen}
use Rattle.replay_rules.proofs.answers.Tidying.Far.{TidyFar}

-- a seat in a tidy, by its parts
abbrev pub tidying : ℕ → Option ℕ → ℕ → ℕ → Sweep → State
tidying n time from freed sweep = record { seat = n; time = time; from = from; freed = freed; call = Tidy; sweep = sweep }

-- the tidy goes on, or has its answer, where the seat stands so
abbrev pub ComesSo : Config → ℕ → Knowledge → Knowledge → List NotedVersion → State → Then → Type 0
ComesSo c n v0 w log s x = StandsThen c n w log s x → Comes (TidyFar c n v0 w log s) (AnswersSo c Tidy v0 w) x

module _ (c : Config) (k : Checked c) (n : ℕ) (made : List Made) (each : AreMade c made) where
  abbrev s : Moment
  s = state_of c made

  pub base_is : ((state_of c made).seats n).base ≡ c.base
  base_is = ((holds_behind c k made each).seats.own n).2

  -- what it has seen begins the history, which is as long as CLOCK says
  pub front : BeginsWith (state_of c made).history ((state_of c made).seats n).past.seen
  front = ((facts c k n made each).history.seats n).seen

  pub clock_long : clock_time_of ((state_of c made).memory Clock) ≡ ((state_of c made).seats n).base + length (state_of c made).history
  clock_long = let long = (facts c k n made each).history.long in let base = base_is in omega (arith, long, base)

  -- the seat is at a state of the rule behind the step too
  pub known_by : (kind : MoveKind) (task : NextStep) → IsStepOf c made (step_of n kind) n task → Known any_start any_commit (view_by c (state_of c made) n kind)
  known_by kind task next =
      subst (Known any_start any_commit) (set_at_here (state_of c made).seats n (view_by c (state_of c made) n kind))
      (knows c k n (step_of n kind ∷ made) (next.may, each))

  -- how the tidy goes on behind a step of this kind
  abbrev pub GoesBy : Knowledge → List NotedVersion → State → NextStep → MoveKind → Type 0
  GoesBy v0 log state task kind =
      ComesSo c n v0 (view_by c (state_of c made) n kind)
      (applied (edit_of task state ((state_of c made).memory (place_in_task c n task))) log)
      (state_after task log state ((state_of c made).memory (place_in_task c n task)))
      (then_after task c (applied (edit_of task state ((state_of c made).memory (place_in_task c n task))) log)
      (state_after task log state ((state_of c made).memory (place_in_task c n task))) ((state_of c made).memory (place_in_task c n task)))
