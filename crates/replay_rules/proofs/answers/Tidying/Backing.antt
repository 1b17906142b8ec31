-- The steps of a tidy's write-back in which nothing is decided: the section is entered, its clock word helped, and words are stored.
use Rattle.std.proofs.Common.{◌≡◌, ℕ, ◌+◌, ◌≤◌, ◌==◌, ltb, List, [], ◌∷◌, ◌++◌, length, true, Option, Some, None, refl, arith, slice_index, eqb-true}
use Rattle.mv_history.specs.declared.Step.{Step}
use Rattle.mv_history.specs.declared.StepKind.TheVariants as steps
use Rattle.mv_history.specs.Trail.{clock_exchanges}
use Rattle.mv_layout.specs.declared.SharedWord.TheVariants.{Clock, Mark, Master}
use Rattle.mv_layout.specs.Places.{place_of}
use Rattle.mv_layout.specs.Words.{clock_time_of, clock_slot_of}
use Rattle.mv_core.proofs.Terms.{Config, Checked}
use Rattle.mv_core.specs.declared.ring.CommitNote.{CommitNote}
use Rattle.mv_core.specs.declared.ring.Version as core
use Rattle.mv_core.specs.declared.view.Knowledge.{Knowledge}
use Rattle.mv_core.specs.declared.view.OwnSection.{OwnSection}
use Rattle.mv_core.specs.Moves.{Moment, load_low, store_mark, load_time, store_master}
use Rattle.replay_rules.specs.declared.seats.NotedVersion.{NotedVersion}
use Rattle.replay_rules.specs.declared.seats.Sweep.{Sweep}
use Rattle.replay_rules.specs.declared.seats.Entering.TheVariants.{LoadLow, StoreMark, LoadTime}
use Rattle.replay_rules.specs.declared.seats.Helping.TheVariants.{LoadNamed}
use Rattle.replay_rules.specs.declared.seats.Sweeping.TheVariants.{LoadGrace, StoreMaster, CutHead, NameRest}
use Rattle.replay_rules.specs.declared.seats.NextStep.TheVariants.{Enters, Helps, Tidies}
use Rattle.replay_rules.specs.declared.seats.Then.TheVariants.{Goes}
use Rattle.replay_rules.specs.Tasks.{next_clock}
use Rattle.replay_rules.specs.GoesOn.{is_last, helped_in_tidy}
use Rattle.replay_rules.specs.States.{Made, state_of, AreMade}
use Rattle.replay_rules.proofs.runs.Sections.{later}
use Rattle.replay_rules.proofs.runs.Stepping.{view_by}
use Rattle.replay_rules.proofs.runs.Known.{if_so}
use Rattle.replay_rules.proofs.answers.Tidying.Further.{Further, further_one, begins_same}
use Rattle.replay_rules.proofs.answers.Tidying.Far.{HasCome, IsFirst, Backs, HelpsIn, TidyFar}
use Rattle.replay_rules.proofs.answers.Tidying.Grown.{come_on, tries_on, unrested_on, within_on, looked_on}
use Rattle.replay_rules.proofs.answers.Tidying.Rounds.{rested_of}
use Rattle.replay_rules.proofs.answers.Tidying.Stepping.{tidying, ComesSo, front, clock_long, GoesBy}

module _ (c : Config) (v w : Knowledge) (step : Step) (f : Further v w (step ∷ [])) (rests : w.past.rests ≡ v.past.rests)
    (exchanges : clock_exchanges (step ∷ []) ≡ []) (v0 : Knowledge) (made : List Step) (old log : List NotedVersion) (freed : ℕ) (sweep : Sweep) where
  -- the first round is as far behind a step that leaves the log alone
  pub first_goes : (up : ℕ) → IsFirst c v0 v made log freed up sweep → IsFirst c v0 w (made ++ step ∷ []) log freed up sweep
  first_goes up x = record {
    again = x.again;
    swept = x.swept;
    tried = tries_on c v w made (step ∷ []) f v0 log freed up sweep.first x.tried;
    unrested = unrested_on c v w made (step ∷ []) f v0 rests exchanges x.unrested;
    latest = within_on c v w made (step ∷ []) f sweep.latest x.latest;
    same = x.same;
  }

  -- and so is a write-back
  pub backs_goes : (at : ℕ) → Backs c v0 v made old log freed sweep at → Backs c v0 w (made ++ step ∷ []) old log freed sweep at
  backs_goes at x =
      let below = x.0.tried.read.low in
      let seen = x.0.tried.read.within in
      (first_goes at x.0, looked_on c v w made (step ∷ []) f log freed sweep.first at (omega (arith, below, seen)) x.1)

  -- also where it keeps a time of CLOCK in mind that was seen
  module _ (word : ℕ) (heard : clock_time_of word ≤ w.base + length w.past.seen) where
    pub first_later : (up : ℕ) → IsFirst c v0 v made log freed up sweep → IsFirst c v0 w (made ++ step ∷ []) log freed up (later sweep word)
    first_later up x =
        let y = first_goes up x in
        let latest = y.latest in
        record {
          again = y.again;
          swept = y.swept;
          tried = y.tried;
          unrested = y.unrested;
          latest = omega (arith, latest, heard);
          same = y.same;
        }

    pub backs_later : (at : ℕ) → Backs c v0 v made old log freed sweep at → Backs c v0 w (made ++ step ∷ []) old log freed (later sweep word) at
    backs_later at x = (first_later at x.0, (backs_goes at x).1)

-- what a tidy does once a clock word is helped
pub helped_far : (c : Config) (n : ℕ) (v0 w : Knowledge) (log : List NotedVersion) (freed from : ℕ) (time : Option ℕ) (sweep : Sweep)
    (k : HasCome c v0 w log freed from sweep.began) (word : ℕ) → HelpsIn c v0 w k.made k.old log freed sweep time word
    → ComesSo c n v0 w log (tidying n time from freed sweep) (helped_in_tidy log (tidying n time from freed sweep) word)
helped_far c n v0 w log freed from (Some time) sweep k word x = λ stands. (k, x)
helped_far c n v0 w log freed from None sweep k word x =
    if_so (ComesSo c n v0 w log (tidying n None from freed sweep)) (is_last (clock_time_of word)) (Goes (Tidies (LoadGrace true)))
    (Goes (Tidies (NameRest word (next_clock word n 8191))))
    (λ last. λ stands. (
      k,
      (
        rested_of v0 w k.made x.0.unrested,
        λ some. record {
          tried = x.0.tried;
          deaths = λ i low lt in_time.
              let is = eqb-true (clock_time_of word) 35184372088831 last in let seen = x.1 in omega (arith, in_time, is, seen);
        },
      ),
    ))
    (λ more. λ stands. (k, x))

module _ (c : Config) (k : Checked c) (n : ℕ) (made : List Made) (each : AreMade c made) (log : List NotedVersion) (freed from : ℕ) (sweep : Sweep)
    (v0 : Knowledge)
  where
    abbrev s : Moment
    s = state_of c made

    abbrev v : Knowledge
    v = s.seats n

    pub low_goes : TidyFar c n v0 v log (tidying n None from freed sweep) (Enters LoadLow)
        → GoesBy c k n made each v0 log (tidying n None from freed sweep) (Enters LoadLow) load_low
    low_goes far stands =
        let w = view_by c s n load_low in
        let word = s.memory Clock in
        let step : Step = record { kind = steps.LoadLow; word = place_of c Clock; found = Some word; stored = None } in
        let f : Further v w (step ∷ []) = further_one v w step (begins_same v) refl (omega arith) refl tt refl in (
          come_on c v w far.0.made (step ∷ []) f v0 log freed from sweep.began far.0 refl,
          backs_goes c v w step f refl refl v0 far.0.made far.0.old log freed sweep sweep.at far.1,
        )

    pub mark_goes : (mark low : ℕ) → TidyFar c n v0 v log (tidying n None from freed sweep) (Enters (StoreMark mark))
        → GoesBy c k n made each v0 log (tidying n None from freed sweep) (Enters (StoreMark mark)) (store_mark low)
    mark_goes mark low far stands =
        let w = view_by c s n (store_mark low) in
        let step : Step = record { kind = steps.StoreMark; word = place_of c (Mark v.number); found = None; stored = Some (1 + low) } in
        let f : Further v w (step ∷ []) = further_one v w step (begins_same v) refl (omega arith) refl tt refl in (
          come_on c v w far.0.made (step ∷ []) f v0 log freed from sweep.began far.0 refl,
          backs_goes c v w step f refl refl v0 far.0.made far.0.old log freed sweep sweep.at far.1,
        )

    -- the section begins
    pub time_goes : TidyFar c n v0 v log (tidying n None from freed sweep) (Enters LoadTime)
        → GoesBy c k n made each v0 log (tidying n None from freed sweep) (Enters LoadTime) load_time
    time_goes far =
        let w = view_by c s n load_time in
        let word = s.memory Clock in
        let step : Step = record { kind = steps.LoadTime; word = place_of c Clock; found = Some word; stored = None } in
        let f : Further v w (step ∷ []) = further_one v w step (front c k n made each) refl (omega arith) refl tt refl in
        let long : clock_time_of word ≡ w.base + length w.past.seen = clock_long c k n made each in
        let heard : clock_time_of word ≤ w.base + length w.past.seen = omega (arith, long) in
        let come = come_on c v w far.0.made (step ∷ []) f v0 log freed from sweep.began far.0 refl in
        let was = within_on c v0 w [] come.made come.further (v0.base + length v0.past.seen) (omega arith) in
        let x : HelpsIn c v0 w (far.0.made ++ step ∷ []) far.0.old log freed (later sweep word) (Some (clock_time_of word)) word =
        (backs_later c v w step f refl refl v0 far.0.made far.0.old log freed sweep word heard sweep.at far.1, omega (arith, was, long)) in
        if_so (ComesSo c n v0 w log (tidying n (Some (clock_time_of word)) from freed (later sweep word))) (clock_slot_of word == 8191)
        (helped_in_tidy log (tidying n (Some (clock_time_of word)) from freed (later sweep word)) word) (Goes (Helps (LoadNamed word)))
        (λ nobody. helped_far c n v0 w log freed from (Some (clock_time_of word)) (later sweep word) come word x)
        (λ some. λ stands. (come, x))

    -- a word is stored into the master
    pub store_goes : (at o word : ℕ) (words : List ℕ) (version : core.Version) (note : CommitNote) (inside : OwnSection) (time : Option ℕ)
        → TidyFar c n v0 v log (tidying n time from freed sweep) (Tidies (StoreMaster at o words word))
        → GoesBy c k n made each v0 log (tidying n time from freed sweep) (Tidies (StoreMaster at o words word))
        (store_master o word (slice_index words word) at version note inside)
    store_goes at o word words version note inside time far =
        let w = view_by c s n (store_master o word (slice_index words word) at version note inside) in
        let step : Step = record { kind = steps.StoreMaster; word = place_of c (Master o word); found = None; stored = Some (slice_index words word) } in
        let f : Further v w (step ∷ []) = further_one v w step (begins_same v) refl (omega arith) refl tt refl in
        let come = come_on c v w far.0.made (step ∷ []) f v0 log freed from sweep.began far.0 refl in
        let x = backs_goes c v w step f refl refl v0 far.0.made far.0.old log freed sweep at far.1 in
        if_so (ComesSo c n v0 w log (tidying n time from freed sweep)) (ltb word 5) (Goes (Tidies (StoreMaster at o words (word + 1))))
        (Goes (Tidies (CutHead at o))) (λ e. λ stands. (come, x)) (λ e. λ stands. (come, x))
