-- The steps of a scan of a tidy.
use Rattle.std.proofs.Common.{◌≡◌, ℕ, ◌+◌, ◌-◌, ◌<◌, ◌≤◌, ◌==◌, ◌&&◌, nat_lt, ltb, max, not, List, [], ◌∷◌, ◌++◌, length, Bool, true, false}
use Rattle.std.proofs.Common.{None, if◌then◌else◌, refl, sym, ap, subst, arith}
use Rattle.std.proofs.lemmas.List.Elements.{All-nil, Contains-push}
use Rattle.mv_history.specs.declared.Step.{Step}
use Rattle.mv_layout.specs.Words.{clock_time_of}
use Rattle.mv_core.proofs.Terms.{Config, Checked, Clock}
use Rattle.mv_core.specs.declared.view.Knowledge.{Knowledge}
use Rattle.mv_core.specs.ReclaimSteps.{other_from}
use Rattle.mv_core.specs.Moves.{Moment, load_scan}
use Rattle.reader_marks.specs.Scans.{scan_step}
use Rattle.log_reclaim.specs.Parts.{BeginsNoScan}
use Rattle.log_reclaim.proofs.Needed.{death_known}
use Rattle.replay_rules.specs.declared.seats.NotedVersion.{NotedVersion}
use Rattle.replay_rules.specs.declared.seats.Sweep.{Sweep}
use Rattle.replay_rules.specs.declared.seats.Sweeping.TheVariants.{LoadScan, LoadMark, RaiseGrace}
use Rattle.replay_rules.specs.declared.seats.NextStep.TheVariants.{Tidies}
use Rattle.replay_rules.specs.declared.seats.Then.TheVariants.{Goes}
use Rattle.replay_rules.specs.Learns.{scan_begun}
use Rattle.replay_rules.specs.Sweeps.{look_at}
use Rattle.replay_rules.specs.SeatNotes.{version_at}
use Rattle.replay_rules.specs.NextSteps.{IsStepOf}
use Rattle.replay_rules.specs.States.{any_commit, any_start, Made, state_of, AreMade}
use Rattle.replay_rules.proofs.runs.Sections.{later}
use Rattle.replay_rules.proofs.runs.Standing.{step_of}
use Rattle.replay_rules.proofs.runs.Stepping.{view_by}
use Rattle.replay_rules.proofs.runs.Known.{if_so, facts, knows}
use Rattle.replay_rules.proofs.runs.LogFacts.{noted_at}
use Rattle.replay_rules.proofs.answers.Tidying.Further.{Further, further_one}
use Rattle.replay_rules.proofs.answers.Tidying.Far.{HasCome, HasMarks, IsOpening}
use Rattle.replay_rules.proofs.answers.Tidying.Far.{Frees, Scans, TidyFar, note_in}
use Rattle.replay_rules.proofs.answers.Tidying.Grown.{come_on, opens_on, rested_on, second_on, within_on}
use Rattle.replay_rules.proofs.answers.Tidying.Stepping.{tidying, ComesSo, front, clock_long, GoesBy}

-- the watermark isn't lowered where a scan goes on or is finished
pub risen : (b : Bool) (g least : ℕ) → g ≤ (if b then g else max g least)
risen true g least = omega arith
risen false g least = omega arith

-- which mark is loaded next is nothing to what the scan has found
pub look_far : (c : Config) (n : ℕ) (v0 w : Knowledge) (log : List NotedVersion) (freed from : ℕ) (sweep : Sweep)
    (k : HasCome c v0 w log freed from sweep.began)
    → Scans c v0 w k.made k.old log freed sweep sweep.again → (seat : ℕ)
    → ComesSo c n v0 w log (tidying n None from freed sweep) (look_at c (tidying n None from freed sweep) seat)
look_far c n v0 w log freed from sweep k scans seat =
    let P = ComesSo c n v0 w log (tidying n None from freed sweep) in
    if_so P (not (seat == n) && ltb seat c.seats) (Goes (Tidies (LoadMark seat)))
    (if ltb (seat + 1) c.seats then Goes (Tidies (LoadMark (seat + 1))) else Goes (Tidies (RaiseGrace sweep.last.low)))
    (λ e. λ stands. (k, scans))
    (λ e. if_so P (ltb (seat + 1) c.seats) (Goes (Tidies (LoadMark (seat + 1)))) (Goes (Tidies (RaiseGrace sweep.last.low)))
    (λ e. λ stands. (k, scans)) (λ e. λ stands. (k, scans)))

-- a time of death that was noted before a tidy, and is after the last time, is the one after what was seen then
late_before : (c : Config) (v0 v : Knowledge) (log : List NotedVersion) (freed from began : ℕ) → (k : HasCome c v0 v log freed from began) → log ≡ k.old
    → (i : ℕ) → freed ≤ i → i < length log → 35184372088831 < (version_at log i).dead → 35184372088831 ≤ v0.base + length v0.past.seen
late_before c v0 v log freed from began k same i low lt late =
    let l = k.rests.2.noted in
    let first = k.same.low in
    let long = k.same.long in
    let at = noted_at c l k.old began from i k.rests.2.is (omega (arith, low, first)) (omega (arith, lt, long)) in
    let most = death_known c v0 l (i - began) (note_in k.old i) k.rests.2.stands at any_start any_commit ∣ k.known ∣₁ in
    let is : (version_at log i).dead ≡ (version_at k.old i).dead = ap (λ (x : List NotedVersion). (version_at x i).dead) same in
    omega (arith, most, late, is)

module _ (c : Config) (k : Checked c) (n : ℕ) (made : List Made) (each : AreMade c made) (log : List NotedVersion) (freed from : ℕ) (sweep : Sweep)
    (v0 : Knowledge)
  where
    abbrev s : Moment
    s = state_of c made

    abbrev v : Knowledge
    v = s.seats n

    -- CLOCK is loaded
    module _ (next : IsStepOf c made (step_of n load_scan) n (Tidies LoadScan)) where
      abbrev word : ℕ
      word = (state_of c made).memory Clock

      abbrev w : Knowledge
      w = view_by c (state_of c made) n load_scan

      abbrev step : Step
      step = scan_step c word

      f : Further v w (step ∷ [])
      f = further_one v w step (front c k n made each) refl (risen (nat_lt (other_from v.number 0) c.seats) v.grace (clock_time_of word)) refl tt refl

      abbrev sweep2 : Sweep
      sweep2 = later (record sweep { last = scan_begun word }) word

      clock : clock_time_of word ≡ w.base + length w.past.seen
      clock = clock_long c k n made each

      reads : (steps : List Step) → HasMarks c w steps (scan_begun word)
      reads steps = record { low = omega arith; marked = λ lt. absurd (omega (arith, lt)); within = (let e = clock in omega (arith, e)) }

      scan_first : (k0 : HasCome c v0 v log freed from sweep.began) → IsOpening v0 v k0.made k0.old log sweep.latest
          → Scans c v0 w (k0.made ++ step ∷ []) k0.old log freed sweep2 false
      scan_first k0 opens =
          let more = opens_on c v w k0.made (step ∷ []) f v0 k0.old log sweep.latest refl refl opens in
          let e = clock in
          let old = within_on c v w k0.made (step ∷ []) f (v0.base + length v0.past.seen) (was k0) in (
            record { log_is = more.log_is; unrested = more.unrested; within = (let in_time = more.within in omega (arith, in_time, e)) },
            reads (k0.made ++ step ∷ []),
            omega (arith, old, e),
            λ i low lt late. record {
              step = step;
              there = Contains-push k0.made step;
              clock = refl;
              word = word;
              found = refl;
              last = (let reached = late_before c v0 v log freed from sweep.began k0 opens.log_is i low lt late in
                  let top = (facts c k n made each).history.in_time in
                  let long = (facts c k n made each).history.long in
                  omega (arith, reached, old, e, top, long));
            },
          )
        where
          was : (k0 : HasCome c v0 v log freed from sweep.began) → v0.base + length v0.past.seen ≤ v.base + length v.past.seen
          was k0 = within_on c v0 v [] k0.made k0.further (v0.base + length v0.past.seen) (omega arith)

      scan_second : (k0 : HasCome c v0 v log freed from sweep.began) → freed < length log → Frees c v0 v k0.made k0.old log freed sweep true false
          → Scans c v0 w (k0.made ++ step ∷ []) k0.old log freed sweep2 true
      scan_second k0 some frees =
          let e = clock in (
            rested_on c v w k0.made (step ∷ []) f v0 refl refl frees.0,
            second_on c v w k0.made (step ∷ []) f v0 log freed sweep.first (frees.1 some),
            record {
              before = v;
              known = knows c k n made each;
              number = refl;
              base = refl;
              seen = f.seen;
              mine = refl;
              rests = refl;
              from = (let old = within_on c v w k0.made (step ∷ []) f (v.base + length v.past.seen) (omega arith) in omega (arith, old, e));
              read = reads (k0.made ++ step ∷ []);
              begun = record {
                word = word;
                before = k0.made;
                after = [];
                made_is = refl;
                last = All-nil (λ s. BeginsNoScan s.kind);
                clock_is = refl;
              };
            },
          )

      pub scan_goes : TidyFar c n v0 v log (tidying n None from freed sweep) (Tidies LoadScan)
          → GoesBy c k n made each v0 log (tidying n None from freed sweep) (Tidies LoadScan) load_scan
      scan_goes far =
          let come = come_on c v w far.2.0.made (step ∷ []) f v0 log freed from sweep.began far.2.0 refl in
          look_far c n v0 w log freed from sweep2 come (by sweep.again refl far.2.1) 0
        where
          by : (again : Bool) → sweep.again ≡ again → Frees c v0 v far.2.0.made far.2.0.old log freed sweep sweep.again false
              → Scans c v0 w (far.2.0.made ++ step ∷ []) far.2.0.old log freed sweep2 sweep.again
          by false is frees =
              subst (Scans c v0 w (far.2.0.made ++ step ∷ []) far.2.0.old log freed sweep2) (sym is)
              (scan_first far.2.0 (subst (λ b. Frees c v0 v far.2.0.made far.2.0.old log freed sweep b false) is frees))
          by true is frees =
              subst (Scans c v0 w (far.2.0.made ++ step ∷ []) far.2.0.old log freed sweep2) (sym is)
              (scan_second far.2.0 far.0 (subst (λ b. Frees c v0 v far.2.0.made far.2.0.old log freed sweep b false) is frees))
