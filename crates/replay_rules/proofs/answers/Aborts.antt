-- An abort gives up what its section held, by an unlock of each object, a load of the time of death and a leave.
use Rattle.std.proofs.Common.{◌≡◌, ℕ, zero, suc, ◌+◌, ◌-◌, ◌<◌, ◌≤◌, ◌==◌, ltb, List, [], ◌∷◌, ◌++◌, length, Some, None, true, false, if◌then◌else◌}
use Rattle.std.proofs.Common.{refl, sym, ap, ◌∙◌, subst, arith, append-nil}
use Rattle.mv_history.specs.declared.Step.{Step}
use Rattle.mv_core.proofs.Terms.{Config, Checked, Clock}
use Rattle.mv_core.specs.declared.view.Knowledge.{Knowledge}
use Rattle.mv_core.specs.declared.view.Phase.TheVariants.{Outside}
use Rattle.mv_core.specs.declared.view.WalkStage.TheVariants.{Nowhere}
use Rattle.mv_core.specs.Rings.{held_count}
use Rattle.mv_core.specs.Views.{no_clocks}
use Rattle.mv_core.specs.HistoryFacts.{BeginsWith}
use Rattle.mv_core.specs.EnterSteps.{mark_cleared}
use Rattle.mv_core.specs.LockSteps.{head_unlocked, death_loaded}
use Rattle.mv_core.proofs.history.Fronts.{begins_by}
use Rattle.commit_abort.specs.Aborts.{IsAbortStep, Aborts, abort_cost}
use Rattle.commit_abort.proofs.Aborted.{cost_some}
use Rattle.replay_rules.specs.declared.plan.Call.TheVariants.{Abort}
use Rattle.replay_rules.specs.declared.seats.NotedVersion.{NotedVersion}
use Rattle.replay_rules.specs.declared.seats.Ending.{Ending}
use Rattle.replay_rules.specs.declared.seats.Ending.TheVariants.{LoadNow, Name, StampOwn, StoreSuper, Unlock, LoadDeath, Leave}
use Rattle.replay_rules.specs.declared.seats.Leaving.TheVariants.{Plainly, WithCommit, WithAbort}
use Rattle.replay_rules.specs.declared.seats.NextStep.TheVariants.{Enters, Helps, Walks, Locks, Writes, EndsSection, Tidies}
use Rattle.replay_rules.specs.declared.seats.Then.{Then}
use Rattle.replay_rules.specs.declared.seats.Then.TheVariants.{Goes}
use Rattle.replay_rules.specs.Begins.{unlock, new_sweep}
use Rattle.replay_rules.specs.States.{Made, state_of}
use Rattle.replay_rules.specs.Answers.{AnswersSo}
use Rattle.replay_rules.proofs.runs.Stepping.{view_by}
use Rattle.replay_rules.proofs.runs.Known.{if_so, eqb_ne, ltb_lt, ltb_ge, facts}
use Rattle.replay_rules.proofs.runs.LogFacts.{held_are}
use Rattle.replay_rules.proofs.answers.Trails.{Grows, grows_none, grows_one, grows_within}
use Rattle.replay_rules.proofs.answers.Progress.{FarOf, Comes, state_with, BeginsSo, GoesOnSo}

-- Since the view v at most so many steps were made, each of an abort. What was seen is only longer, and nothing else changed but the phase and the log.
pub record GivingUp (v w : Knowledge) (made : ℕ) : Type 0 where
  pub seen : BeginsWith w.past.seen v.past.seen
  pub trail : Grows IsAbortStep made v.trail w.trail
  pub rest : w ≡ record v { past = record v.past { seen = w.past.seen }; phase = w.phase; ring = w.ring; trail = w.trail }

-- how far an abort has come, by its next step: each unlock is behind those of the versions before its own
abbrev pub AbortingFar : Knowledge → Knowledge → List NotedVersion → ℕ → Ending → Type 0
AbortingFar v0 v log from (Unlock at object previous) =
    (given : ℕ) × (at ≡ from + given) × (at < length log) × (held_count v0.ring + from ≡ length log) × GivingUp v0 v given
AbortingFar v0 v log from LoadDeath = (0 < held_count v0.ring) × GivingUp v0 v (held_count v0.ring)
AbortingFar v0 v log from (Leave Plainly) = GivingUp v0 v 0
AbortingFar v0 v log from (Leave (WithAbort dead)) = (0 < held_count v0.ring) × GivingUp v0 v (held_count v0.ring + 1)
AbortingFar v0 v log from (Leave (WithCommit time)) = ⊥
AbortingFar v0 v log from LoadNow = ⊥
AbortingFar v0 v log from (Name word new) = ⊥
AbortingFar v0 v log from (StampOwn first time) = ⊥
AbortingFar v0 v log from (StoreSuper at link time) = ⊥

abbrev pub AbortFar : FarOf
AbortFar c n v0 v log s (EndsSection step) = AbortingFar v0 v log s.from step
AbortFar c n v0 v log s (Enters step) = ⊥
AbortFar c n v0 v log s (Helps step) = ⊥
AbortFar c n v0 v log s (Walks object next) = ⊥
AbortFar c n v0 v log s (Locks version at next) = ⊥
AbortFar c n v0 v log s (Writes at words word) = ⊥
AbortFar c n v0 v log s (Tidies step) = ⊥

-- nothing was done yet
none_given : (v : Knowledge) → GivingUp v v 0
none_given v = record { seen = ([], sym (append-nil v.past.seen)); trail = grows_none IsAbortStep v.trail; rest = refl }

-- one step more was made
one_given : (v0 v w : Knowledge) (given : ℕ) (s : Step) → GivingUp v0 v given → BeginsWith w.past.seen v.past.seen → w.trail ≡ v.trail ++ s ∷ []
    → IsAbortStep s.kind → w ≡ record v { past = record v.past { seen = w.past.seen }; phase = w.phase; ring = w.ring; trail = w.trail }
    → GivingUp v0 w (given + 1)
one_given v0 v w given s k seen trail is rest = record {
  seen = begins_by w.past.seen v.past.seen v0.past.seen seen k.seen;
  trail = subst (Grows IsAbortStep (given + 1) v0.trail) (sym trail) (grows_one IsAbortStep given v0.trail v.trail s is k.trail);
  rest = rest
      ∙ ap (λ (u : Knowledge). record u { past = record u.past { seen = w.past.seen }; phase = w.phase; ring = w.ring; trail = w.trail }) k.rest;
}

-- the section was left
given_up : (c : Config) (v0 v : Knowledge) (given most : ℕ) → GivingUp v0 v given → given + 1 ≤ most → Aborts v0 (mark_cleared c v) most
given_up c v0 v given most k few = record {
  outside = refl;
  seen = k.seen;
  trail = grows_within IsAbortStep (given + 1) most v0.trail (mark_cleared c v).trail few (grows_one IsAbortStep given v0.trail v.trail _ tt k.trail);
  rest = ap
      (λ (u : Knowledge).
      record u { phase = Outside; clocks = no_clocks; walk = Nowhere; back = None; ring = v.ring; trail = (mark_cleared c v).trail })
      k.rest;
}

-- the steps that an abort may make are one at least
cost_one : (held : ℕ) → 1 ≤ abort_cost held
cost_one zero = omega arith
cost_one (suc held) = omega arith

pub abort_begins : BeginsSo Abort AbortFar
abort_begins c k fit n lt made each log freed from None rests may = let no : false ≡ true = may in absurd (cc)
abort_begins c k fit n lt made each log freed from (Some time) rests may =
    let v = (state_of c made).seats n in
    let held = held_are c k v log freed from rests.logs in
    if_so (AbortFar c n v v log (state_with n (Some time) from freed Abort (new_sweep freed))) (length log - from == 0)
    (EndsSection (Leave Plainly)) (unlock log from)
    (λ none. none_given v)
    (λ some. (
      0,
      (omega arith),
      (let ne = eqb_ne (length log - from) 0 some in omega (arith, ne)),
      held,
      none_given v,
    ))

module _ (c : Config) (k : Checked c) (n : ℕ) (made : List Made) (log : List NotedVersion) (from : ℕ) (v0 w : Knowledge) (P : Then → Type 0)
    (on : (step : Ending) → AbortingFar v0 w log from step → P (Goes (EndsSection step))) where
  -- behind an unlock comes that of the next version, or the load of the time of death
  unlocked : (at given : ℕ) → at ≡ from + given → at < length log → held_count v0.ring + from ≡ length log → GivingUp v0 w (given + 1)
      → P (if ltb (at + 1) (length log) then Goes (unlock log (at + 1)) else Goes (EndsSection LoadDeath))
  unlocked at given at_is live held more =
      if_so P (ltb (at + 1) (length log)) (Goes (unlock log (at + 1))) (Goes (EndsSection LoadDeath))
      (λ e. on _ (given + 1, omega (arith, at_is), ltb_lt (at + 1) (length log) e, held, more))
      (λ e.
      let ge = ltb_ge (at + 1) (length log) e in
      let all : given + 1 ≡ held_count v0.ring = omega (arith, ge, live, at_is, held) in
      on LoadDeath (omega (arith, all), subst (GivingUp v0 w) all more))

pub abort_goes : GoesOnSo Abort AbortFar
abort_goes c k n lt made each log freed from time sweep (EndsSection (Unlock at o previous)) stands scans kind next is v0 far behind =
    let m = state_of c made in
    let v = m.seats n in
    let w = view_by c m n kind in
    let view : w ≡ head_unlocked c v o previous is.0 is.1 is.2 = ap (view_by c m n) is.3 in
    let more : GivingUp v0 w (far.0 + 1) =
    subst (λ (u : Knowledge). GivingUp v0 u (far.0 + 1)) (sym view)
    (one_given v0 v (head_unlocked c v o previous is.0 is.1 is.2) far.0 _ far.4 ([], sym (append-nil v.past.seen)) refl tt refl) in
    unlocked c k n made log from v0 w
    (Comes (AbortFar c n v0 w log (state_with n time from freed Abort sweep)) (AnswersSo c Abort v0 w))
    (λ step a. a) at far.0 far.1 far.2 far.3 more
abort_goes c k n lt made each log freed from time sweep (EndsSection LoadDeath) stands scans kind next is v0 far behind =
    let m = state_of c made in
    let v = m.seats n in
    let w = view_by c m n kind in
    let f = facts c k n made each in
    let view : w ≡ death_loaded c v (m.memory Clock) m.history = ap (view_by c m n) is in (
      far.0,
      subst (λ (u : Knowledge). GivingUp v0 u (held_count v0.ring + 1)) (sym view)
          (one_given v0 v (death_loaded c v (m.memory Clock) m.history) (held_count v0.ring) _ far.1 (f.history.seats n).seen refl tt refl),
    )
abort_goes c k n lt made each log freed from time sweep (EndsSection (Leave Plainly)) stands scans kind next is v0 far behind =
    subst (λ (u : Knowledge). Aborts v0 u (abort_cost (held_count v0.ring))) (sym (ap (view_by c (state_of c made) n) is))
    (given_up c v0 ((state_of c made).seats n) 0 (abort_cost (held_count v0.ring)) far (cost_one (held_count v0.ring)))
abort_goes c k n lt made each log freed from time sweep (EndsSection (Leave (WithAbort dead))) stands scans kind next is v0 far behind =
    let held = held_count v0.ring in
    let cost = cost_some held (λ none. let some = far.0 in omega (arith, none, some)) in
    subst (λ (u : Knowledge). Aborts v0 u (abort_cost held)) (sym (ap (view_by c (state_of c made) n) is))
    (given_up c v0 ((state_of c made).seats n) (held + 1) (abort_cost held) far.1 (omega (arith, cost)))
abort_goes c k n lt made each log freed from time sweep (EndsSection (Leave (WithCommit t))) stands scans kind next is v0 far behind = absurd far
abort_goes c k n lt made each log freed from time sweep (EndsSection LoadNow) stands scans kind next is v0 far behind = absurd far
abort_goes c k n lt made each log freed from time sweep (EndsSection (Name word new)) stands scans kind next is v0 far behind = absurd far
abort_goes c k n lt made each log freed from time sweep (EndsSection (StampOwn first t)) stands scans kind next is v0 far behind = absurd far
abort_goes c k n lt made each log freed from time sweep (EndsSection (StoreSuper at link t)) stands scans kind next is v0 far behind = absurd far
abort_goes c k n lt made each log freed from time sweep (Enters step) stands scans kind next is v0 far behind = absurd far
abort_goes c k n lt made each log freed from time sweep (Helps step) stands scans kind next is v0 far behind = absurd far
abort_goes c k n lt made each log freed from time sweep (Walks o step) stands scans kind next is v0 far behind = absurd far
abort_goes c k n lt made each log freed from time sweep (Locks version at step) stands scans kind next is v0 far behind = absurd far
abort_goes c k n lt made each log freed from time sweep (Writes at words word) stands scans kind next is v0 far behind = absurd far
abort_goes c k n lt made each log freed from time sweep (Tidies step) stands scans kind next is v0 far behind = absurd far
