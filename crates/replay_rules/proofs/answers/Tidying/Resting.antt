-- The steps of a tidy that help a clock word, and that try a rest.
use Rattle.std.proofs.Common.{◌≡◌, ◌≢◌, ℕ, ◌+◌, ◌-◌, ◌≤◌, ◌==◌, List, [], ◌∷◌, ◌++◌, length, true, Option, Some, None}
use Rattle.std.proofs.Common.{refl, ap, arith, inl, inr, eqb-true, length-append}
use Rattle.mv_history.specs.declared.Entry.TheVariants.{Rest}
use Rattle.mv_history.specs.declared.Step.{Step}
use Rattle.mv_history.specs.declared.StepKind.TheVariants as steps
use Rattle.mv_history.specs.Trail.{clock_exchanges}
use Rattle.mv_layout.specs.declared.SharedWord.TheVariants.{Clock}
use Rattle.mv_layout.specs.Places.{place_of}
use Rattle.mv_layout.specs.Words.{clock_time_of, clock_slot_of}
use Rattle.mv_core.proofs.Terms.{Config, Checked}
use Rattle.mv_core.specs.declared.view.Knowledge.{Knowledge}
use Rattle.mv_core.specs.EnterSteps.{stamp_place, stamp_swapped, stored_if}
use Rattle.mv_core.specs.NameSteps.{rest_word, rest_named, rest_lost}
use Rattle.mv_core.specs.Moves.{Moment, load_named, load_check, stamp, name_rest}
use Rattle.mv_core.proofs.history.Fronts.{begins_by, begins_long}
use Rattle.mv_core.proofs.kinds.naming.LostClock.{lost_overtaken}
use Rattle.log_reclaim.proofs.rests.Exchanges.{one_last}
use Rattle.log_reclaim.proofs.Needed.{death_known}
use Rattle.replay_rules.specs.declared.seats.NotedVersion.{NotedVersion}
use Rattle.replay_rules.specs.declared.seats.Sweep.{Sweep}
use Rattle.replay_rules.specs.declared.seats.Helping.TheVariants.{LoadNamed, LoadCheck, SwapStamp}
use Rattle.replay_rules.specs.declared.seats.Ending.TheVariants.{LoadNow}
use Rattle.replay_rules.specs.declared.seats.Sweeping.TheVariants.{LoadGrace, NameRest}
use Rattle.replay_rules.specs.declared.seats.NextStep.TheVariants.{Helps, EndsSection, Tidies}
use Rattle.replay_rules.specs.declared.seats.Then.TheVariants.{Goes}
use Rattle.replay_rules.specs.GoesOn.{is_unset, helped_in_tidy}
use Rattle.replay_rules.specs.NextSteps.{IsStepOf}
use Rattle.replay_rules.specs.States.{any_commit, any_start, Made, state_of, AreMade}
use Rattle.replay_rules.proofs.runs.Sections.{RestsAt, later}
use Rattle.replay_rules.proofs.runs.Standing.{step_of}
use Rattle.replay_rules.proofs.runs.Stepping.{view_by}
use Rattle.replay_rules.proofs.runs.Known.{if_so, eqb_ne, facts, knows, view_there}
use Rattle.replay_rules.proofs.runs.LogFacts.{noted_at}
use Rattle.replay_rules.proofs.answers.Tidying.Further.{Further, further_one, begins_same}
use Rattle.replay_rules.proofs.answers.Tidying.Far.{AreRested, Rests, HelpsIn, TidyFar, note_in}
use Rattle.replay_rules.proofs.answers.Tidying.Grown.{come_on, tries_on, within_on}
use Rattle.replay_rules.proofs.answers.Tidying.Backing.{first_goes, first_later, backs_goes, backs_later, helped_far}
use Rattle.replay_rules.proofs.answers.Tidying.Stepping.{tidying, ComesSo, front, clock_long, GoesBy}

module _ (c : Config) (v w : Knowledge) (step : Step) (f : Further v w (step ∷ [])) (rests : w.past.rests ≡ v.past.rests)
    (exchanges : clock_exchanges (step ∷ []) ≡ []) (v0 : Knowledge) (made : List Step) (old log : List NotedVersion) (freed : ℕ) (sweep : Sweep)
    (word : ℕ) where
  -- a help goes on behind a step that leaves the log alone
  helps_goes : (time : Option ℕ) → HelpsIn c v0 v made old log freed sweep time word → HelpsIn c v0 w (made ++ step ∷ []) old log freed sweep time word
  helps_goes (Some time) x = (backs_goes c v w step f rests exchanges v0 made old log freed sweep sweep.at x.0, x.1)
  helps_goes None x = (
    first_goes c v w step f rests exchanges v0 made old log freed sweep (length log) x.0,
    within_on c v w made (step ∷ []) f (clock_time_of word) x.1,
    x.2,
  )

  -- also where it keeps a time of CLOCK in mind that was seen
  helps_later : (found : ℕ) → clock_time_of found ≤ w.base + length w.past.seen → (time : Option ℕ) → HelpsIn c v0 v made old log freed sweep time word
      → HelpsIn c v0 w (made ++ step ∷ []) old log freed (later sweep found) time word
  helps_later found heard (Some time) x =
      (backs_later c v w step f rests exchanges v0 made old log freed sweep found heard sweep.at x.0, x.1)
  helps_later found heard None x = (
    first_later c v w step f rests exchanges v0 made old log freed sweep found heard (length log) x.0,
    within_on c v w made (step ∷ []) f (clock_time_of word) x.1,
    x.2,
  )

module _ (c : Config) (k : Checked c) (n : ℕ) (made : List Made) (each : AreMade c made) (log : List NotedVersion) (freed from : ℕ) (sweep : Sweep)
    (v0 : Knowledge)
  where
    abbrev s : Moment
    s = state_of c made

    abbrev v : Knowledge
    v = s.seats n

    pub named_goes : (time : Option ℕ) (word : ℕ) → TidyFar c n v0 v log (tidying n time from freed sweep) (Helps (LoadNamed word))
        → GoesBy c k n made each v0 log (tidying n time from freed sweep) (Helps (LoadNamed word)) (load_named word)
    named_goes time word far =
        let w = view_by c s n (load_named word) in
        let found = s.memory (stamp_place word) in
        let step : Step = record { kind = steps.LoadNamed; word = place_of c (stamp_place word); found = Some found; stored = None } in
        let f : Further v w (step ∷ []) = further_one v w step (begins_same v) refl (omega arith) refl tt refl in
        let come = come_on c v w far.0.made (step ∷ []) f v0 log freed from sweep.began far.0 refl in
        let x = helps_goes c v w step f refl refl v0 far.0.made far.0.old log freed sweep word time far.1 in
        if_so (ComesSo c n v0 w log (tidying n time from freed sweep)) (is_unset found) (Goes (Helps (LoadCheck word found)))
        (helped_in_tidy log (tidying n time from freed sweep) word)
        (λ e. λ stands. (come, x))
        (λ e. helped_far c n v0 w log freed from time sweep come word x)

    pub check_goes : (time : Option ℕ) (word unset : ℕ) → TidyFar c n v0 v log (tidying n time from freed sweep) (Helps (LoadCheck word unset))
        → GoesBy c k n made each v0 log (tidying n time from freed sweep) (Helps (LoadCheck word unset)) load_check
    check_goes time word unset far =
        let w = view_by c s n load_check in
        let found = s.memory Clock in
        let step : Step = record { kind = steps.LoadCheck; word = place_of c Clock; found = Some found; stored = None } in
        let f : Further v w (step ∷ []) = further_one v w step (front c k n made each) refl (omega arith) refl tt refl in
        let long : clock_time_of found ≡ w.base + length w.past.seen = clock_long c k n made each in
        let come = come_on c v w far.0.made (step ∷ []) f v0 log freed from sweep.began far.0 refl in
        let x = helps_later c v w step f refl refl v0 far.0.made far.0.old log freed sweep word found (omega (arith, long)) time far.1 in
        if_so (ComesSo c n v0 w log (tidying n time from freed (later sweep found))) (found == word) (Goes (Helps (SwapStamp word unset)))
        (helped_in_tidy log (tidying n time from freed (later sweep found)) word)
        (λ e. λ stands. (come, x))
        (λ e. helped_far c n v0 w log freed from time (later sweep found) come word x)

    pub stamp_goes : (time : Option ℕ) (word unset : ℕ) → TidyFar c n v0 v log (tidying n time from freed sweep) (Helps (SwapStamp word unset))
        → GoesBy c k n made each v0 log (tidying n time from freed sweep) (Helps (SwapStamp word unset)) (stamp word unset)
    stamp_goes time word unset far =
        let found = s.memory (stamp_place word) in
        if_so (λ u. ComesSo c n v0 u log (tidying n time from freed sweep) (helped_in_tidy log (tidying n time from freed sweep) word)) (found == unset)
        (stamp_swapped c v word unset unset) (stamp_swapped c v word unset found) (λ e. so unset) (λ e. so found)
      where
        so : (y : ℕ)
            → ComesSo c n v0 (stamp_swapped c v word unset y) log (tidying n time from freed sweep) (helped_in_tidy log (tidying n time from freed sweep) word)
        so y =
            let w = stamp_swapped c v word unset y in
            let step : Step = record {
              kind = steps.SwapStamp;
              word = place_of c (stamp_place word);
              found = Some y;
              stored = stored_if y unset (clock_time_of word);
            } in
            let f : Further v w (step ∷ []) = further_one v w step (begins_same v) refl (omega arith) refl tt refl in
            helped_far c n v0 w log freed from time sweep (come_on c v w far.0.made (step ∷ []) f v0 log freed from sweep.began far.0 refl) word
            (helps_goes c v w step f refl refl v0 far.0.made far.0.old log freed sweep word time far.1)

    -- CLOCK is loaded before a rest
    pub now_goes : RestsAt c v log freed from None → TidyFar c n v0 v log (tidying n None from freed sweep) (EndsSection LoadNow)
        → GoesBy c k n made each v0 log (tidying n None from freed sweep) (EndsSection LoadNow) load_check
    now_goes rests far =
        let w = view_by c s n load_check in
        let word = s.memory Clock in
        let step : Step = record { kind = steps.LoadCheck; word = place_of c Clock; found = Some word; stored = None } in
        let f : Further v w (step ∷ []) = further_one v w step (front c k n made each) refl (omega arith) refl tt refl in
        let long : clock_time_of word ≡ w.base + length w.past.seen = clock_long c k n made each in
        let more = begins_long s.history v.past.seen (front c k n made each) in
        let come = come_on c v w far.0.made (step ∷ []) f v0 log freed from sweep.began far.0 refl in
        let x : Rests c v0 w (far.0.made ++ step ∷ []) far.0.old log freed sweep word = (
          first_goes c v w step f refl refl v0 far.0.made far.0.old log freed sweep (length log) far.1,
          omega (arith, long),
          λ i low lt.
              let at = noted_at c rests.2.noted log freed from i rests.2.is low lt in
              let most = death_known c v rests.2.noted (i - freed) (note_in log i) rests.2.stands at any_start any_commit ∣ knows c k n made each ∣₁ in
              omega (arith, most, long, more),
        ) in
        if_so (ComesSo c n v0 w log (tidying n None from freed sweep)) (clock_slot_of word == 8191)
        (helped_in_tidy log (tidying n None from freed sweep) word) (Goes (Helps (LoadNamed word)))
        (λ nobody. helped_far c n v0 w log freed from None sweep come word x)
        (λ some. λ stands. (come, x))

    -- the rest is made, or another entry came first
    module _ (word new : ℕ) (next : IsStepOf c made (step_of n (name_rest word)) n (Tidies (NameRest word new)))
        (far : TidyFar c n v0 ((state_of c made).seats n) log (tidying n None from freed sweep) (Tidies (NameRest word new))) where
      abbrev found : ℕ
      found = (state_of c made).memory Clock

      -- behind either the second round begins
      second : (u : Knowledge) (step : Step) → Further v u (step ∷ []) → AreRested v0 u (far.0.made ++ step ∷ [])
          → clock_time_of word + 1 ≤ u.base + length u.past.seen
          → ComesSo c n v0 u log (tidying n None from freed sweep) (Goes (Tidies (LoadGrace true)))
      second u step f rested reached stands = (
        come_on c v u far.0.made (step ∷ []) f v0 log freed from sweep.began far.0 refl,
        (
          rested,
          λ some. record {
            tried = tries_on c v u far.0.made (step ∷ []) f v0 log freed (length log) sweep.first far.1.0.tried;
            deaths = λ i low lt in_time. let most = far.1.2 i low lt in omega (arith, most, reached);
          },
        ),
      )

      was_named : found ≡ word → ComesSo c n v0 (rest_named c v word s.history) log (tidying n None from freed sweep) (Goes (Tidies (LoadGrace true)))
      was_named is =
          let u = rest_named c v word s.history in
          let step : Step = record { kind = steps.NameRest; word = place_of c Clock; found = Some word; stored = Some (rest_word v word) } in
          let f : Further v u (step ∷ []) =
          further_one v u step (begins_by u.past.seen s.history v.past.seen (Rest v.number ∷ [], refl) (front c k n made each)) refl
          (omega arith) refl tt refl in
          let long = clock_long c k n made each in
          let same = ap clock_time_of is in
          let more = length-append s.history (Rest v.number ∷ []) in
          let unrested = far.1.0.unrested in
          second u step f (inr (ap (λ x. x + 1) unrested.0), one_last far.0.made step unrested.1) (omega (arith, long, same, more))

      was_lost : found ≢ word → ComesSo c n v0 (rest_lost c v found s.history) log (tidying n None from freed sweep) (Goes (Tidies (LoadGrace true)))
      was_lost other =
          let u = rest_lost c v found s.history in
          let step : Step = record { kind = steps.NameRest; word = place_of c Clock; found = Some found; stored = None } in
          let f : Further v u (step ∷ []) = further_one v u step (front c k n made each) refl (omega arith) refl tt refl in
          let long = clock_long c k n made each in
          let over = lost_overtaken v s.seats (facts c k n made each) (view_there c k n made each) word next.may.may.loaded other in
          let later_time = over.later in
          let unrested = far.1.0.unrested in
          second u step f (inl unrested.0, one_last far.0.made step unrested.1) (omega (arith, long, later_time))

      pub rest_goes : GoesBy c k n made each v0 log (tidying n None from freed sweep) (Tidies (NameRest word new)) (name_rest word)
      rest_goes =
          if_so (λ u. ComesSo c n v0 u log (tidying n None from freed sweep) (Goes (Tidies (LoadGrace true)))) (found == word)
          (rest_named c v word s.history) (rest_lost c v found s.history) (λ e. was_named (eqb-true found word e)) (λ e. was_lost (eqb_ne found word e))
