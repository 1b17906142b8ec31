-- The loads of marks of a tidy's scan.
use Rattle.std.proofs.Common.{◌≡◌, ℕ, ◌+◌, ◌-◌, ◌==◌, nat_lt, leb, List, [], ◌∷◌, ◌++◌, Bool, true, false}
use Rattle.std.proofs.Common.{None, if◌then◌else◌, refl, sym, ap, ◌∙◌, subst, arith, Contains}
use Rattle.std.proofs.lemmas.List.Elements.{Contains-append_left, Contains-push}
use Rattle.mv_history.specs.declared.Step.{Step}
use Rattle.mv_core.proofs.Terms.{Config, Checked, Clock, Mark}
use Rattle.mv_core.specs.declared.view.Knowledge.{Knowledge}
use Rattle.mv_core.specs.declared.view.Scan.{Scan}
use Rattle.mv_core.specs.declared.view.Phase.TheVariants.{Outside}
use Rattle.mv_core.specs.SectionFacts.{MarkedAs}
use Rattle.mv_core.specs.ReclaimSteps.{other_from, least_with}
use Rattle.mv_core.specs.Moves.{Moment, load_mark}
use Rattle.reader_marks.specs.Scans.{mark_step}
use Rattle.log_reclaim.specs.Parts.{BeginsNoScan}
use Rattle.replay_rules.specs.declared.seats.NotedVersion.{NotedVersion}
use Rattle.replay_rules.specs.declared.seats.Scanned.{Scanned}
use Rattle.replay_rules.specs.declared.seats.Sweep.{Sweep}
use Rattle.replay_rules.specs.declared.seats.Sweeping.TheVariants.{LoadMark}
use Rattle.replay_rules.specs.declared.seats.NextStep.TheVariants.{Tidies}
use Rattle.replay_rules.specs.Learns.{lowered}
use Rattle.replay_rules.specs.NextSteps.{IsStepOf}
use Rattle.replay_rules.specs.States.{Made, state_of, AreMade}
use Rattle.replay_rules.proofs.runs.Standing.{step_of}
use Rattle.replay_rules.proofs.runs.Stepping.{view_by}
use Rattle.replay_rules.proofs.runs.Known.{if_so, eqb_ne, leb_gt, facts, number_is}
use Rattle.replay_rules.proofs.answers.Tidying.Further.{Further, further_one, begins_same, one_all}
use Rattle.replay_rules.proofs.answers.Tidying.Far.{HasCome, HasMarks, HasBegun}
use Rattle.replay_rules.proofs.answers.Tidying.Far.{Scans, TidyFar}
use Rattle.replay_rules.proofs.answers.Tidying.Grown.{last_found_on, come_on, opens_on, rested_on, second_on, scan_on}
use Rattle.replay_rules.proofs.answers.Tidying.Scanning.{risen, look_far}
use Rattle.replay_rules.proofs.answers.Tidying.Stepping.{tidying, GoesBy}

module _ (c : Config) (k : Checked c) (n : ℕ) (made : List Made) (each : AreMade c made) (log : List NotedVersion) (freed from : ℕ) (sweep : Sweep)
    (v0 : Knowledge)
  where
    abbrev s : Moment
    s = state_of c made

    abbrev v : Knowledge
    v = s.seats n

    -- the mark of a seat is loaded
    module _ (outside : ((state_of c made).seats n).phase ≡ Outside) (seat : ℕ) (scan : Scan)
        (next : IsStepOf c made (step_of n (load_mark seat scan)) n (Tidies (LoadMark seat))) where
      abbrev mark : ℕ
      mark = (state_of c made).memory (Mark seat)

      abbrev w : Knowledge
      w = view_by c (state_of c made) n (load_mark seat scan)

      abbrev step : Step
      step = mark_step c seat mark

      f : Further v w (step ∷ [])
      f = further_one v w step (begins_same v) refl (risen (nat_lt (other_from v.number (seat + 1)) c.seats) v.grace (least_with scan.least mark)) refl tt refl

      -- the own mark is 0 outside
      unmarked : seat ≡ n → mark ≡ 0
      unmarked own =
          let marks = (facts c k n made each).marks n in
          ap (λ (i : ℕ). s.memory (Mark i)) own ∙ subst (MarkedAs (s.memory Clock) (s.memory (Mark n))) outside marks

      -- the views before and behind it have the same number, and have seen the same
      moved : (before : List Step) → HasMarks c v before sweep.last → HasMarks c w before sweep.last
      moved before r = record { low = r.low; marked = r.marked; within = r.within }

      reads : (before : List Step) → HasMarks c w before sweep.last → HasMarks c w (before ++ step ∷ []) (lowered sweep.last seat mark)
      reads before r =
          if_so (HasMarks c w (before ++ step ∷ [])) (mark == 0) sweep.last
          (if leb sweep.last.low (mark - 1) then sweep.last else record sweep.last { low = mark - 1; seat = seat })
          (λ e. kept)
          (λ some. if_so (HasMarks c w (before ++ step ∷ [])) (leb sweep.last.low (mark - 1)) sweep.last (record sweep.last { low = mark - 1; seat = seat })
          (λ e. kept)
          (λ less.
          let ne = eqb_ne mark 0 some in
          let lt = leb_gt sweep.last.low (mark - 1) less in
          let low = r.low in
          let is : mark ≡ 1 + (mark - 1) = omega (arith, ne) in
          record {
            low = omega (arith, lt, low);
            marked = λ below. record {
              not_own = λ own. ne (unmarked (own ∙ number_is c k n made each));
              in_range = next.may.may.in_range;
              read = subst (λ (m : ℕ). Contains (before ++ step ∷ []) (mark_step c seat m)) is (Contains-push before step);
            };
            within = r.within;
          }))
        where
          kept : HasMarks c w (before ++ step ∷ []) sweep.last
          kept = record {
            low = r.low;
            marked = λ lt.
                let m = r.marked lt in
                record {
                  not_own = m.not_own;
                  in_range = m.in_range;
                  read = Contains-append_left before (step ∷ []) (mark_step c sweep.last.seat (1 + sweep.last.low)) m.read;
                };
            within = r.within;
          }

      abbrev sweep2 : Sweep
      sweep2 = record sweep { last = lowered sweep.last seat mark }

      clock_kept : (lowered sweep.last seat mark).clock ≡ sweep.last.clock
      clock_kept =
          if_so (λ (x : Scanned). x.clock ≡ sweep.last.clock) (mark == 0) sweep.last
          (if leb sweep.last.low (mark - 1) then sweep.last else record sweep.last { low = mark - 1; seat = seat })
          (λ e. refl)
          (λ e. if_so (λ (x : Scanned). x.clock ≡ sweep.last.clock) (leb sweep.last.low (mark - 1)) sweep.last
          (record sweep.last { low = mark - 1; seat = seat }) (λ e. refl) (λ e. refl))

      by : (again : Bool) → (k0 : HasCome c v0 v log freed from sweep.began) → Scans c v0 v k0.made k0.old log freed sweep again
          → Scans c v0 w (k0.made ++ step ∷ []) k0.old log freed sweep2 again
      by false k0 scans =
          let after = scans.2 in
          let same = clock_kept in (
            opens_on c v w k0.made (step ∷ []) f v0 k0.old log sweep.latest refl refl scans.0,
            reads k0.made (moved k0.made scans.1),
            omega (arith, after, same),
            λ i low lt late. last_found_on k0.made (step ∷ []) (scans.3 i low lt late),
          )
      by true k0 scans =
          let t = scan_on c v w k0.made (step ∷ []) f sweep.last refl (one_all (λ s. BeginsNoScan s.kind) step tt) scans.2 in
          let from_then = t.from in
          let same = clock_kept in (
            rested_on c v w k0.made (step ∷ []) f v0 refl refl scans.0,
            second_on c v w k0.made (step ∷ []) f v0 log freed sweep.first scans.1,
            record {
              before = t.before;
              known = t.known;
              number = t.number;
              base = t.base;
              seen = t.seen;
              mine = t.mine;
              rests = t.rests;
              from = omega (arith, from_then, same);
              read = reads k0.made (moved k0.made scans.2.read);
              begun = subst (HasBegun c (k0.made ++ step ∷ [])) (sym same) t.begun;
            },
          )

      pub mark_goes : TidyFar c n v0 v log (tidying n None from freed sweep) (Tidies (LoadMark seat))
          → GoesBy c k n made each v0 log (tidying n None from freed sweep) (Tidies (LoadMark seat)) (load_mark seat scan)
      mark_goes far =
          let come = come_on c v w far.0.made (step ∷ []) f v0 log freed from sweep.began far.0 refl in
          look_far c n v0 w log freed from sweep2 come (by sweep.again far.0 far.1) (seat + 1)
