-- The stores of a lock into the version that it builds.
use Rattle.std.proofs.Common.{◌≡◌, ℕ, zero, suc, ◌+◌, ◌<◌, ◌==◌, ◌&&◌, ltb, not, List, [], ◌∷◌, length, Option, Some, refl, sym, ap, ◌∙◌, subst}
use Rattle.std.proofs.Common.{arith, inl, inr, eqb-true, if◌then◌else◌}
use Rattle.std.specs.Prelude.{unwrap_or}
use Rattle.std.proofs.lemmas.List.{length-set}
use Rattle.mv_history.specs.declared.Step.{Step}
use Rattle.mv_core.proofs.Terms.{Config, Checked}
use Rattle.mv_core.specs.declared.ring.Build as core
use Rattle.mv_core.specs.declared.view.Knowledge.{Knowledge}
use Rattle.mv_core.specs.LockSteps.{nothing_built, built_too, built_stored}
use Rattle.mv_core.specs.Moves.{Moment, MoveKind, store_built}
use Rattle.seat_log.specs.Builds.{build_at}
use Rattle.object_lock.specs.Locks.{lost_step, KeepsOwn}
use Rattle.object_lock.proofs.Holding.{own_kept}
use Rattle.replay_rules.specs.declared.plan.Call.TheVariants.{Lock}
use Rattle.replay_rules.specs.declared.seats.NotedVersion.{NotedVersion}
use Rattle.replay_rules.specs.declared.seats.State.{State}
use Rattle.replay_rules.specs.declared.seats.Locking.{Locking}
use Rattle.replay_rules.specs.declared.seats.Locking.TheVariants.{Build, LockHead, ClearPrevious}
use Rattle.replay_rules.specs.declared.seats.NextStep.TheVariants.{Locks}
use Rattle.replay_rules.specs.declared.seats.Then.TheVariants.{Goes}
use Rattle.replay_rules.specs.States.{Made, state_of}
use Rattle.replay_rules.specs.Tasks.{field_word}
use Rattle.replay_rules.specs.GoesOn.{after_field}
use Rattle.replay_rules.specs.NextSteps.{IsStepOf}
use Rattle.replay_rules.specs.Answers.{AnswersSo}
use Rattle.replay_rules.proofs.runs.Sections.{Logs, InSection}
use Rattle.replay_rules.proofs.runs.Standing.{step_of}
use Rattle.replay_rules.proofs.runs.Stepping.{view_by}
use Rattle.replay_rules.proofs.runs.Known.{if_so, and_left}
use Rattle.replay_rules.proofs.runs.Building.{logs_built}
use Rattle.replay_rules.proofs.answers.Progress.{Comes}
use Rattle.replay_rules.proofs.answers.Seen.{all_seen}
use Rattle.replay_rules.proofs.answers.Locks.Far.{HasDone, LockFar, done_more, load_done}

-- a section holds the same where its notes are the same
logs_keep : (c : Config) (v w : Knowledge) (log : List NotedVersion) (freed from : ℕ) → Logs c v log freed from → Logs c w log freed from → KeepsOwn c v w
logs_keep c v w log freed from a b =
    own_kept c v w a.noted b.noted a.stands b.stands (b.is.live ∙ sym a.is.live) (let x = a.is.held in let y = b.is.held in omega (arith, x, y))

-- a build has six words still
wide_too : (b : core.Build) (field x : ℕ) → length b.words ≡ 6 → length (built_too b field x).words ≡ 6
wide_too b zero x wide = wide
wide_too b (suc zero) x wide = wide
wide_too b (suc (suc zero)) x wide = wide
wide_too b (suc (suc (suc zero))) x wide = wide
wide_too b (suc (suc (suc (suc w)))) x wide = length-set b.words w (Some x) ∙ wide

module _ (o : ℕ) (c : Config) (k : Checked c) (n : ℕ) (made : List Made) (log : List NotedVersion) (freed from : ℕ) (time : Option ℕ) (u : Knowledge)
    (inside : InSection c ((state_of c made).seats n) log freed from time) (room : length log < freed + c.slots) (notes : List NotedVersion) (state : State)
    (version : NotedVersion) (at : ℕ) (at_is : at ≡ length log) (same : version.object ≡ o) where
  abbrev s : Moment
  s = state_of c made

  abbrev v : Knowledge
  v = s.seats n

  -- the step of the core is of this kind
  abbrev Steps : Locking → MoveKind → Type 0
  Steps next kind = IsStepOf c made (step_of n kind) n (Locks version at next)

  -- a store leaves what is held
  built_keeps : (field x : ℕ) (build : core.Build) → build_at c v at ≡ build → length (build_at c v at).words ≡ 6
      → KeepsOwn c v (built_stored c v at field x build)
  built_keeps field x build is wide =
      subst (λ (b : core.Build). KeepsOwn c v (built_stored c v at field x b)) is
      (logs_keep c v (built_stored c v at field x (build_at c v at)) log freed from inside.logs
      (logs_built c k v log freed from time at inside room at_is field x (wide_too (build_at c v at) field x wide)))

  -- and is one step
  built_done : (field x most : ℕ) (tried : List Step) (build : core.Build) (next : Locking) → Steps next (store_built at field x build)
      → length (build_at c v at).words ≡ 6 → HasDone c u v version.object most tried
      → HasDone c u (view_by c s n (store_built at field x build)) version.object (most + 1) tried
  built_done field x most tried build next step wide done =
      let is : build_at c v at ≡ build = ap (λ (z : Option core.Build). unwrap_or z nothing_built) step.may.may.build in
      load_done c u v (view_by c s n (store_built at field x build)) version.object most tried _ done (all_seen v) refl tt refl refl
      (built_keeps field x build is wide)

  -- what comes behind the store of a field
  pub field_so : (field : ℕ) (build : core.Build) → field < 10 → Steps (Build field) (store_built at field (field_word version at field) build)
      → length (build_at c v at).words ≡ 6 → HasDone c u v version.object (9 + field) []
      → let w = view_by c s n (store_built at field (field_word version at field) build) in
      Comes (LockFar o c n u w notes state) (AnswersSo c (Lock o) u w) (after_field version at field)
  field_so field build less step wide far =
      let w = view_by c s n (store_built at field (field_word version at field) build) in
      let P = Comes (LockFar o c n u w notes state) (AnswersSo c (Lock o) u w) in
      let done = built_done field (field_word version at field) (9 + field) [] build (Build field) step wide far in
      if_so P ((field == 0) && not (version.first == at)) (Goes (Locks version at (Build 2)))
      (if ltb field 9 then Goes (Locks version at (Build (field + 1))) else Goes (Locks version at LockHead))
      (λ e.
      let none : field ≡ 0 = eqb-true field 0 (and_left (field == 0) (not (version.first == at)) e) in
      (same, done_more c u w version.object (9 + field + 1) 11 [] (omega (arith, none)) done))
      (λ e.
      if_so P (ltb field 9) (Goes (Locks version at (Build (field + 1)))) (Goes (Locks version at LockHead))
      (λ on. (same, done_more c u w version.object (9 + field + 1) (9 + (field + 1)) [] (omega arith) done))
      (λ last. (same, inl (done_more c u w version.object (9 + field + 1) 19 [] (omega (arith, less)) done))))

  -- PREV is cleared, and the exchange is tried once more
  pub clear_so : (build : core.Build) → Steps ClearPrevious (store_built at 2 0 build) → length (build_at c v at).words ≡ 6
      → version.previous ≡ 0 → HasDone c u v version.object 20 (lost_step c version.object 0 ∷ [])
      → let w = view_by c s n (store_built at 2 0 build) in LockFar o c n u w notes state (Locks version at LockHead)
  clear_so build step wide none far = (same, inr (none, built_done 2 0 20 (lost_step c version.object 0 ∷ []) build ClearPrevious step wide far))
