-- The end of a tidy's scan, by which GRACE is raised.
use Rattle.std.proofs.Common.{◌≡◌, ℕ, List, [], ◌∷◌, ◌++◌, Bool, true, false, None, if◌then◌else◌, refl, sym, ap, subst, arith}
use Rattle.mv_history.specs.declared.Step.{Step}
use Rattle.mv_core.proofs.Terms.{Config, Checked, Grace}
use Rattle.mv_core.specs.declared.view.Knowledge.{Knowledge}
use Rattle.mv_core.specs.Moves.{Moment, raise_grace}
use Rattle.reader_marks.specs.Scans.{grace_step}
use Rattle.log_reclaim.specs.Parts.{BeginsNoScan}
use Rattle.replay_rules.specs.declared.seats.NotedVersion.{NotedVersion}
use Rattle.replay_rules.specs.declared.seats.Sweep.{Sweep}
use Rattle.replay_rules.specs.declared.seats.Sweeping.TheVariants.{RaiseGrace}
use Rattle.replay_rules.specs.declared.seats.NextStep.TheVariants.{Tidies}
use Rattle.replay_rules.specs.Learns.{scanned_to, scanned}
use Rattle.replay_rules.specs.NextSteps.{IsStepOf}
use Rattle.replay_rules.specs.States.{Made, state_of, AreMade}
use Rattle.replay_rules.proofs.runs.Sections.{RestsAt}
use Rattle.replay_rules.proofs.runs.Standing.{step_of}
use Rattle.replay_rules.proofs.runs.Stepping.{view_by}
use Rattle.replay_rules.proofs.answers.Tidying.Further.{Further, further_one, begins_same, one_all}
use Rattle.replay_rules.proofs.answers.Tidying.Far.{HasCome, HasMarks, KnowsUntimed, IsSecond}
use Rattle.replay_rules.proofs.answers.Tidying.Far.{Scans, Looks, TidyFar}
use Rattle.replay_rules.proofs.answers.Tidying.Grown.{last_found_on, come_on, opens_on, rested_on, second_on, read_on, scan_on}
use Rattle.replay_rules.proofs.answers.Tidying.Rounds.{settle_so}
use Rattle.replay_rules.proofs.answers.Tidying.Stepping.{tidying, known_by, GoesBy}

module _ (c : Config) (k : Checked c) (n : ℕ) (made : List Made) (each : AreMade c made) (log : List NotedVersion) (freed from : ℕ) (sweep : Sweep)
    (v0 : Knowledge)
  where
    abbrev s : Moment
    s = state_of c made

    abbrev v : Knowledge
    v = s.seats n

    -- GRACE is raised, and the scan is whole
    module _ (low : ℕ) (rests : RestsAt c ((state_of c made).seats n) log freed from None) (no_scan : ((state_of c made).seats n).scan ≡ None)
        (next : IsStepOf c made (step_of n (raise_grace low)) n (Tidies (RaiseGrace low))) where
      abbrev found : ℕ
      found = (state_of c made).memory Grace

      abbrev w : Knowledge
      w = view_by c (state_of c made) n (raise_grace low)

      abbrev step : Step
      step = grace_step c low found

      f : Further v w (step ∷ [])
      f = further_one v w step (begins_same v) refl (omega arith) refl tt refl

      abbrev sweep2 : Sweep
      sweep2 = scanned sweep found

      reads : (before : List Step) → HasMarks c v before sweep.last → HasMarks c w (before ++ step ∷ []) (scanned_to sweep.last found)
      reads before r =
          let more = read_on c v w before (step ∷ []) f sweep.last r in
          record { low = more.low; marked = more.marked; within = more.within }

      by : (again : Bool) → sweep.again ≡ again → (k0 : HasCome c v0 v log freed from sweep.began) → Scans c v0 v k0.made k0.old log freed sweep again
          → Looks c v0 w (k0.made ++ step ∷ []) k0.old log freed sweep2 again freed
      by false is k0 scans =
          let opens = opens_on c v w k0.made (step ∷ []) f v0 k0.old log sweep.latest refl refl scans.0 in
          let first_is : sweep2.first ≡ scanned_to sweep.last found = ap (λ x. if x then sweep.first else scanned_to sweep.last found) is in
          let tried : KnowsUntimed c v0 w (k0.made ++ step ∷ []) log freed freed (scanned_to sweep.last found) = record {
            read = reads k0.made scans.1;
            known = omega arith;
            after = scans.2;
            ends = λ i low lt late. last_found_on k0.made (step ∷ []) (scans.3 i low lt late);
            untimed = λ i low lt before none. absurd (omega (arith, low, before));
          } in
          record {
            again = is;
            swept = refl;
            tried = subst (KnowsUntimed c v0 w (k0.made ++ step ∷ []) log freed freed) (sym first_is) tried;
            unrested = opens.unrested;
            latest = opens.within;
            same = sym first_is;
          }
      by true is k0 scans =
          let first_is : sweep2.first ≡ sweep.first = ap (λ x. if x then sweep.first else scanned_to sweep.last found) is in
          let t = scan_on c v w k0.made (step ∷ []) f sweep.last refl (one_all (λ s. BeginsNoScan s.kind) step tt) scans.2 in (
            refl,
            rested_on c v w k0.made (step ∷ []) f v0 refl refl scans.0,
            subst (IsSecond c v0 w (k0.made ++ step ∷ []) log freed) (sym first_is)
                (second_on c v w k0.made (step ∷ []) f v0 log freed sweep.first scans.1),
            record {
              scan = record {
                before = t.before;
                known = t.known;
                number = t.number;
                base = t.base;
                seen = t.seen;
                mine = t.mine;
                rests = t.rests;
                from = t.from;
                read = reads k0.made scans.2.read;
                begun = t.begun;
              };
              known = omega arith;
              bound_is = refl;
            },
          )

      pub raise_goes : TidyFar c n v0 v log (tidying n None from freed sweep) (Tidies (RaiseGrace low))
          → GoesBy c k n made each v0 log (tidying n None from freed sweep) (Tidies (RaiseGrace low)) (raise_grace low)
      raise_goes far =
          let come = come_on c v w far.0.made (step ∷ []) f v0 log freed from sweep.began far.0 refl in
          let within = rests.2.is.within in
          settle_so c n v0 w log freed from sweep2 come (known_by c k n made each (raise_grace low) (Tidies (RaiseGrace low)) next) no_scan within freed
          within (by sweep.again refl far.0 far.1)
