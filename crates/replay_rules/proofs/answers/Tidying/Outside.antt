-- The steps of a tidy outside its sections: GRACE is loaded, and slots are freed.
use Rattle.std.proofs.Common.{◌≡◌, ℕ, ◌+◌, ◌-◌, ◌<◌, leb, List, [], ◌∷◌, ◌++◌, length, All, Bool, true, false, Some, None}
use Rattle.std.proofs.Common.{if◌then◌else◌, refl, sym, subst, arith, lt-ltb}
use Rattle.mv_history.specs.declared.Step.{Step}
use Rattle.mv_history.specs.declared.StepKind.TheVariants as steps
use Rattle.mv_layout.specs.declared.SharedWord.TheVariants.{Grace, Stamp}
use Rattle.mv_layout.specs.Places.{place_of}
use Rattle.mv_core.proofs.Terms.{Config, Checked}
use Rattle.mv_core.specs.declared.view.Knowledge.{Knowledge}
use Rattle.mv_core.specs.Rings.{index_of}
use Rattle.mv_core.specs.Moves.{Moment, load_grace, store_free}
use Rattle.seat_log.proofs.FreedLogs.{few_freed}
use Rattle.mv_history.specs.Trail.{clock_exchanges}
use Rattle.log_reclaim.specs.Parts.{BeginsNoScan, grace_load}
use Rattle.replay_rules.specs.declared.seats.Scanned.{Scanned}
use Rattle.replay_rules.specs.declared.seats.NotedVersion.{NotedVersion}
use Rattle.replay_rules.specs.declared.seats.Sweep.{Sweep}
use Rattle.replay_rules.specs.declared.seats.State.{State}
use Rattle.replay_rules.specs.declared.seats.Sweeping.TheVariants.{LoadGrace, Free}
use Rattle.replay_rules.specs.declared.seats.NextStep.TheVariants.{Tidies}
use Rattle.replay_rules.specs.declared.seats.Then.TheVariants.{Goes}
use Rattle.replay_rules.specs.Sweeps.{free, after_free}
use Rattle.replay_rules.specs.NextSteps.{IsStepOf}
use Rattle.replay_rules.specs.States.{Made, state_of, AreMade}
use Rattle.replay_rules.proofs.runs.Sections.{RestsAt}
use Rattle.replay_rules.proofs.runs.Standing.{IsFreeing, step_of}
use Rattle.replay_rules.proofs.runs.Stepping.{view_by}
use Rattle.replay_rules.proofs.runs.Known.{if_so}
use Rattle.replay_rules.proofs.runs.LogFacts.{noted_long}
use Rattle.replay_rules.proofs.answers.Tidying.Further.{Further, further_one, begins_same, one_all}
use Rattle.replay_rules.proofs.answers.Tidying.Far.{HasCome, KnowsUntimed, Frees, TidyFar}
use Rattle.replay_rules.proofs.answers.Tidying.Grown.{come_on, opens_on, rested_on, second_on, tries_on, unrested_on, within_on, scanned_on}
use Rattle.replay_rules.proofs.answers.Tidying.Rounds.{free_so}
use Rattle.replay_rules.proofs.answers.Tidying.Stepping.{tidying, ComesSo, known_by, GoesBy}

-- fewer versions are left
abbrev pub freed_more : (c : Config) (v0 v : Knowledge) (log : List NotedVersion) (freed from began : ℕ) → HasCome c v0 v log freed from began
    → HasCome c v0 v log (freed + 1) from began
freed_more c v0 v log freed from began k = record {
  old = k.old;
  rests = k.rests;
  known = k.known;
  made = k.made;
  further = k.further;
  same = record {
    long = k.same.long;
    low = (let low = k.same.low in omega (arith, low));
    each = λ i low lt. k.same.each i (omega (arith, low)) lt;
  };
}

tried_more : (c : Config) (v0 v : Knowledge) (made : List Step) (log : List NotedVersion) (freed up : ℕ) (first : Scanned)
    → KnowsUntimed c v0 v made log freed up first
    → KnowsUntimed c v0 v made log (freed + 1) up first
tried_more c v0 v made log freed up first k = record {
  read = k.read;
  known = k.known;
  after = k.after;
  ends = λ i low lt. k.ends i (omega (arith, low)) lt;
  untimed = λ i low lt. k.untimed i (omega (arith, low)) lt;
}

-- what is known of a round that frees
pub frees_more : (c : Config) (v0 v : Knowledge) (made : List Step) (old log : List NotedVersion) (freed : ℕ) (sweep : Sweep) (again swept : Bool)
    → Frees c v0 v made old log freed sweep again swept → Frees c v0 v made old log (freed + 1) sweep again swept
frees_more c v0 v made old log freed sweep false false k = k
frees_more c v0 v made old log freed sweep false true k = record {
  again = k.again;
  swept = k.swept;
  tried = tried_more c v0 v made log freed (length log) sweep.first k.tried;
  unrested = k.unrested;
  latest = k.latest;
  same = k.same;
}
frees_more c v0 v made old log freed sweep true false k = (
  k.0,
  λ some.
      let f = k.1 (omega (arith, some)) in
      record { tried = tried_more c v0 v made log freed (length log) sweep.first f.tried; deaths = λ i low. f.deaths i (omega (arith, low)) },
)
frees_more c v0 v made old log freed sweep true true k = (
  k.0,
  λ some.
      let f = k.1 (omega (arith, some)) in (
        record { tried = tried_more c v0 v made log freed (length log) sweep.first f.0.tried; deaths = λ i low. f.0.deaths i (omega (arith, low)) },
        f.1,
      ),
)

module _ (c : Config) (v w : Knowledge) (step : Step) (f : Further v w (step ∷ [])) (rests : w.past.rests ≡ v.past.rests) where
  -- and behind a step that makes no rest and begins no scan
  pub frees_on : All (λ s. BeginsNoScan s.kind) (step ∷ []) → clock_exchanges (step ∷ []) ≡ [] → (v0 : Knowledge) (made : List Step)
      → (old log : List NotedVersion) (freed : ℕ) (sweep : Sweep) (again swept : Bool)
      → Frees c v0 v made old log freed sweep again swept → Frees c v0 w (made ++ step ∷ []) old log freed sweep again swept
  frees_on none exchanges v0 made old log freed sweep false false k = opens_on c v w made (step ∷ []) f v0 old log sweep.latest rests exchanges k
  frees_on none exchanges v0 made old log freed sweep false true k = record {
    again = k.again;
    swept = k.swept;
    tried = tries_on c v w made (step ∷ []) f v0 log freed (length log) sweep.first k.tried;
    unrested = unrested_on c v w made (step ∷ []) f v0 rests exchanges k.unrested;
    latest = within_on c v w made (step ∷ []) f sweep.latest k.latest;
    same = k.same;
  }
  frees_on none exchanges v0 made old log freed sweep true false k = (
    rested_on c v w made (step ∷ []) f v0 rests exchanges k.0,
    λ some. second_on c v w made (step ∷ []) f v0 log freed sweep.first (k.1 some),
  )
  frees_on none exchanges v0 made old log freed sweep true true k = (
    rested_on c v w made (step ∷ []) f v0 rests exchanges k.0,
    λ some. (
      second_on c v w made (step ∷ []) f v0 log freed sweep.first (k.1 some).0,
      scanned_on c v w made (step ∷ []) f sweep.last sweep.bound rests none (k.1 some).1,
    ),
  )

module _ (c : Config) (k : Checked c) (n : ℕ) (made : List Made) (each : AreMade c made) (log : List NotedVersion) (freed from : ℕ) (sweep : Sweep)
    (no_scan : ((state_of c made).seats n).scan ≡ None) (v0 : Knowledge) where
  abbrev s : Moment
  s = state_of c made

  abbrev v : Knowledge
  v = s.seats n

  -- GRACE is loaded, with which a round begins
  pub grace_goes : (again : Bool) → RestsAt c v log freed from None → IsStepOf c made (step_of n load_grace) n (Tidies (LoadGrace again))
      → TidyFar c n v0 v log (tidying n None from freed sweep) (Tidies (LoadGrace again))
      → GoesBy c k n made each v0 log (tidying n None from freed sweep) (Tidies (LoadGrace again)) load_grace
  grace_goes false rests next far =
      let w = view_by c s n load_grace in
      let found = s.memory Grace in
      let step = grace_load c found in
      let f : Further v w (step ∷ []) = further_one v w step (begins_same v) refl (omega arith) refl tt refl in
      let sweep2 : Sweep = record sweep { again = false; swept = false; bound = found } in
      let come = come_on c v w far.0.made (step ∷ []) f v0 log freed from sweep.began far.0 refl in
      free_so c n v0 w log freed from sweep2 come (known_by c k n made each load_grace (Tidies (LoadGrace false)) next) no_scan rests.2.is.within
      (opens_on c v w far.0.made (step ∷ []) f v0 far.0.old log sweep.latest refl refl far.1)
  grace_goes true rests next far =
      let w = view_by c s n load_grace in
      let found = s.memory Grace in
      let step = grace_load c found in
      let f : Further v w (step ∷ []) = further_one v w step (begins_same v) refl (omega arith) refl tt refl in
      let sweep2 : Sweep = record sweep { again = true; swept = false; bound = found } in
      let come = come_on c v w far.0.made (step ∷ []) f v0 log freed from sweep.began far.0 refl in
      free_so c n v0 w log freed from sweep2 come (known_by c k n made each load_grace (Tidies (LoadGrace true)) next) no_scan rests.2.is.within
      (frees_on c v w step f refl (one_all (λ s. BeginsNoScan s.kind) step tt) refl v0 far.0.made far.0.old log freed sweep2 true false far.1)

  -- a slot of the oldest write set is freed
  pub free_goes : (at left : ℕ) → IsFreeing c v log freed from sweep at left → IsStepOf c made (step_of n (store_free at)) n (Tidies (Free at left))
      → TidyFar c n v0 v log (tidying n None from freed sweep) (Tidies (Free at left))
      → GoesBy c k n made each v0 log (tidying n None from freed sweep) (Tidies (Free at left)) (store_free at)
  free_goes at left freeing next far =
      let w = view_by c s n (store_free at) in
      let step : Step = record { kind = steps.StoreFree; word = place_of c (Stamp v.number (index_of c at)); found = None; stored = Some 0 } in
      let f : Further v w (step ∷ []) = further_one v w step (begins_same v) refl (omega arith) refl tt refl in
      let few = few_freed freeing.noted sweep.bound freeing.all freeing.frees in
      let long = noted_long c freeing.noted log freeing.first from freeing.is in
      let freed_is = freeing.freed_is in
      let left_is = freeing.left_is in
      let some = freeing.some in
      let room : freed < length log = omega (arith, freed_is, left_is, some, few, long) in
      let come = come_on c v w far.0.made (step ∷ []) f v0 log (freed + 1) from sweep.began (freed_more c v0 v log freed from sweep.began far.0) refl in
      let frees = frees_on c v w step f refl (one_all (λ s. BeginsNoScan s.kind) step tt) refl v0 far.0.made far.0.old log (freed + 1) sweep sweep.again
      sweep.swept (frees_more c v0 v far.0.made far.0.old log freed sweep sweep.again sweep.swept far.1) in
      let state2 : State = tidying n None from (freed + 1) sweep in
      subst (λ (b : Bool). ComesSo c n v0 w log (if b then state2 else tidying n None from freed sweep)
      (after_free log (if b then state2 else tidying n None from freed sweep) left))
      (sym (lt-ltb freed (length log) room))
      (if_so (ComesSo c n v0 w log state2) (leb left 1) (free log state2) (Goes (Tidies (Free (freed + 1) (left - 1))))
      (λ e. free_so c n v0 w log (freed + 1) from sweep come (known_by c k n made each (store_free at) (Tidies (Free at left)) next) no_scan
      (omega (arith, room)) frees)
      (λ e. λ stands. (come, frees)))
