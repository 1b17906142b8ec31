-- How a tidy goes on outside its sections: it frees, scans, looks at versions, tries a rest, or answers.
use Rattle.std.proofs.Common.{◌≡◌, ℕ, ◌+◌, ◌-◌, ◌<◌, ◌≤◌, ◌==◌, ◌&&◌, ltb, not, List, length, Bool, true, false, Some, None}
use Rattle.std.proofs.Common.{if◌then◌else◌, refl, sym, ap, ◌∙◌, subst, arith, inl, ⊎_elim, eqb-true}
use Rattle.std.proofs.lemmas.Bool.{cases_lt}
use Rattle.mv_history.specs.Trail.{clock_exchanges}
use Rattle.mv_core.proofs.Terms.{Config}
use Rattle.mv_core.specs.declared.view.Knowledge.{Knowledge}
use Rattle.mv_core.specs.Known.{Known}
use Rattle.log_reclaim.specs.Holders.{TidyHolds, HeldSo}
use Rattle.replay_rules.specs.declared.plan.Call.TheVariants.{Tidy}
use Rattle.replay_rules.specs.declared.seats.NotedVersion.{NotedVersion}
use Rattle.replay_rules.specs.declared.seats.Sweep.{Sweep}
use Rattle.replay_rules.specs.declared.seats.State.{State}
use Rattle.replay_rules.specs.declared.seats.Ending.TheVariants.{LoadNow}
use Rattle.replay_rules.specs.declared.seats.Sweeping.TheVariants.{LoadGrace, Free, LoadScan, LoadSuper}
use Rattle.replay_rules.specs.declared.seats.NextStep.TheVariants.{EndsSection, Tidies}
use Rattle.replay_rules.specs.declared.seats.Then.{Then}
use Rattle.replay_rules.specs.declared.seats.Then.TheVariants.{Goes}
use Rattle.replay_rules.specs.declared.seats.Test.TheVariants.{IsUntimed, IsDeadAbove, EndsSet}
use Rattle.replay_rules.specs.SeatNotes.{version_at, live, dead_count, first_from}
use Rattle.replay_rules.specs.GoesOn.{is_last}
use Rattle.replay_rules.specs.Sweeps.{rest_is_due, holder_of, holder, tidied, after_frees, free, settle}
use Rattle.replay_rules.specs.States.{any_commit, any_start}
use Rattle.replay_rules.specs.Answers.{AnswersSo}
use Rattle.replay_rules.specs.Tidied.{TidiesSo}
use Rattle.replay_rules.proofs.runs.Sections.{RestsAt}
use Rattle.replay_rules.proofs.runs.Known.{if_so, eqb_ne, ltb_lt, ltb_ge, and_left, and_right}
use Rattle.replay_rules.proofs.runs.LogFacts.{noted_long}
use Rattle.replay_rules.proofs.runs.Searches.{first_within, first_after, first_before}
use Rattle.replay_rules.proofs.answers.Progress.{Comes, StandsThen}
use Rattle.replay_rules.proofs.answers.Tidying.Far.{HasCome, ScanIsWhole, IsFirst, IsSecond, AreRested, AreUnrested, DeathsAreSeen}
use Rattle.replay_rules.proofs.answers.Tidying.Far.{Frees, Looks, TidyFar}
use Rattle.replay_rules.proofs.answers.Tidying.Ended.{before_noted, after_noted, after_stands, after_shrinks, after_reclaims}
use Rattle.replay_rules.proofs.answers.Tidying.Holding.{is_due, holds_so}

-- where no rest was tried at most one was
pub rested_of : (v0 v : Knowledge) (made : List _) → AreUnrested v0 v made → AreRested v0 v made
rested_of v0 v made k = (inl k.0, (let none = ap length k.1 in let le : length (clock_exchanges made) ≤ 1 = omega (arith, none) in le))

module _ (c : Config) (n : ℕ) (v0 v : Knowledge) (log : List NotedVersion) (freed from : ℕ) (sweep : Sweep) (k : HasCome c v0 v log freed from sweep.began)
    (known : Known any_start any_commit v) (no_scan : v.scan ≡ None) where
  abbrev state : State
  state = record { seat = n; time = None; from = from; freed = freed; call = Tidy; sweep = sweep }

  -- it goes on from here, or answers so, where the seat is at rest then
  abbrev pub So : Then → Type 0
  So x = StandsThen c n v log (record { seat = n; time = None; from = from; freed = freed; call = Tidy; sweep = sweep }) x
      → Comes (TidyFar c n v0 v log (record { seat = n; time = None; from = from; freed = freed; call = Tidy; sweep = sweep })) (AnswersSo c Tidy v0 v) x

  -- what it answers
  answers : RestsAt c v log freed from None → AreRested v0 v k.made
      → (freed < length log → IsSecond c v0 v k.made log freed sweep.first × ScanIsWhole c v k.made sweep.last sweep.bound)
      → dead_count log state sweep.bound ≡ 0
      → TidiesSo c v0 v (record { freed = freed - sweep.began; live = live log state; held = holder log state })
  answers rests rested left none =
      let long = noted_long c rests.2.noted log freed from rests.2.is in
      let m = after_noted c v0 v log freed from sweep.began k rests in
      record {
        before = before_noted c v0 v log freed from sweep.began k rests;
        after = m;
        stood = k.rests.2.stands;
        stands = after_stands c v0 v log freed from sweep.began k rests;
        live = omega (arith, long);
        shrinks = after_shrinks c v0 v log freed from sweep.began k rests;
        rests = rested.0;
        made = k.made;
        reclaims = after_reclaims c v0 v log freed from sweep.began k rests known no_scan;
        held = if_so (HeldSo (TidyHolds c v m k.made) m) (ltb freed (length log))
            (Some (holder_of (version_at log (first_from log freed (EndsSet freed sweep.last.time))) sweep)) None
            (λ e.
            let some = ltb_lt freed (length log) e in
            let both = left some in
            let zero_is = ap (dead_count log state) (sym both.1.bound_is) ∙ none in (
              omega (arith, long, some),
              holds_so c v0 v log freed from sweep.began sweep k rests known both.0 both.1 (first_from log freed (EndsSet freed sweep.last.time))
                  (is_due c v log freed from rests some sweep.last.time zero_is),
            ))
            (λ e. let ge = ltb_ge freed (length log) e in omega (arith, long, ge));
        few = rested.1;
      }

  -- nothing was found that is dead only from above the latest time, or the last time is reached
  not_due : rest_is_due log state ≡ false → freed ≤ length log → sweep.latest ≤ v.base + length v.past.seen → DeathsAreSeen v log freed
  not_due none within latest i low lt in_time =
      go (is_last sweep.latest) refl (ltb (first_from log freed (IsDeadAbove sweep.latest)) (length log)) refl none
    where
      go : (a : Bool) → is_last sweep.latest ≡ a → (b : Bool) → ltb (first_from log freed (IsDeadAbove sweep.latest)) (length log) ≡ b
          → (not a && b) ≡ false → (version_at log i).dead ≤ v.base + length v.past.seen
      go true p b q e = let last = eqb-true sweep.latest 35184372088831 p in omega (arith, last, latest, in_time)
      go false p true q e = absurd (cc)
      go false p false q e =
          let past = ltb_ge _ _ q in
          let low_time = ltb_ge sweep.latest (version_at log i).dead
          (first_before log freed (IsDeadAbove sweep.latest) i low (omega (arith, lt, past)) lt) in
          omega (arith, low_time, latest)

  -- behind the frees of a round
  frees_so : freed ≤ length log → (again swept : Bool) → sweep.again ≡ again → sweep.swept ≡ swept
      → Frees c v0 v k.made k.old log freed sweep again swept → dead_count log state sweep.bound ≡ 0 → So (after_frees log state)
  frees_so within again swept again_is swept_is frees none =
      if_so So (not sweep.swept && ltb 0 (live log state)) (Goes (Tidies LoadScan))
      (if sweep.again then tidied log state
      else (if rest_is_due log state then Goes (EndsSection LoadNow) else Goes (Tidies (LoadGrace true))))
      (λ e. λ stands.
      let more = ltb_lt 0 (live log state) (and_right (not sweep.swept) (ltb 0 (live log state)) e) in
      let unswept = not_true sweep.swept (and_left (not sweep.swept) (ltb 0 (live log state)) e) in (
        omega (arith, more),
        unswept,
        (
          k,
          subst (λ (x : Bool). Frees c v0 v k.made k.old log freed sweep x false) (sym again_is)
              (subst (Frees c v0 v k.made k.old log freed sweep again) (sym swept_is ∙ unswept) frees),
        ),
      ))
      (λ e.
      let done = scanned (not sweep.swept) (ltb 0 (live log state)) refl refl e in
      if_so So sweep.again (tidied log state) (if rest_is_due log state then Goes (EndsSection LoadNow) else Goes (Tidies (LoadGrace true)))
      (λ second. λ stands.
      let f = subst (λ (x : Bool). Frees c v0 v k.made k.old log freed sweep x swept) (sym again_is ∙ second) frees in
      answers stands (rested swept f) (left swept swept_is f done) none)
      (λ first.
      let f = subst (λ (x : Bool). Frees c v0 v k.made k.old log freed sweep x swept) (sym again_is ∙ first) frees in
      if_so So (rest_is_due log state) (Goes (EndsSection LoadNow)) (Goes (Tidies (LoadGrace true)))
      (λ due. λ stands. (k, first_of swept swept_is f done (due_some due)))
      (λ undue. λ stands. (k, (rested_of v0 v k.made (unrested swept f), λ some. second_of undue (first_of swept swept_is f done some))))))
    where
      not_true : (b : Bool) → not b ≡ true → b ≡ false
      not_true true e = absurd (cc)
      not_true false e = refl

      scanned : (a b : Bool) → not sweep.swept ≡ a → ltb 0 (live log state) ≡ b → (a && b) ≡ false → (freed < length log → sweep.swept ≡ true)
      scanned false b p q e some = is_true sweep.swept p
        where
          is_true : (b : Bool) → not b ≡ false → b ≡ true
          is_true true e = refl
          is_true false e = absurd (cc)
      scanned true true p q e some = absurd (cc)
      scanned true false p q e some = let none_left = ltb_ge 0 (live log state) q in absurd (omega (arith, none_left, some))

      rested : (s : Bool) → Frees c v0 v k.made k.old log freed sweep true s → AreRested v0 v k.made
      rested true f = f.0
      rested false f = f.0

      left : (s : Bool) → sweep.swept ≡ s → Frees c v0 v k.made k.old log freed sweep true s → (freed < length log → sweep.swept ≡ true)
          → freed < length log → IsSecond c v0 v k.made log freed sweep.first × ScanIsWhole c v k.made sweep.last sweep.bound
      left true is f done some = f.1 some
      left false is f done some = let t : false ≡ true = sym is ∙ done some in absurd (cc)

      unrested : (s : Bool) → Frees c v0 v k.made k.old log freed sweep false s → AreUnrested v0 v k.made
      unrested true f = f.unrested
      unrested false f = f.unrested

      first_of : (s : Bool) → sweep.swept ≡ s → Frees c v0 v k.made k.old log freed sweep false s → (freed < length log → sweep.swept ≡ true)
          → freed < length log → IsFirst c v0 v k.made log freed (length log) sweep
      first_of true is f done some = f
      first_of false is f done some = let t : false ≡ true = sym is ∙ done some in absurd (cc)

      due_some : rest_is_due log state ≡ true → freed < length log
      due_some due =
          let lt = ltb_lt _ _ (and_right (not (is_last sweep.latest)) (ltb (first_from log freed (IsDeadAbove sweep.latest)) (length log)) due) in
          let after = first_after log freed (IsDeadAbove sweep.latest) within in
          omega (arith, lt, after)

      second_of : rest_is_due log state ≡ false → IsFirst c v0 v k.made log freed (length log) sweep → IsSecond c v0 v k.made log freed sweep.first
      second_of undue f = record { tried = f.tried; deaths = not_due undue within f.latest }

  -- the oldest write set is freed where it is dead
  pub free_so : freed ≤ length log → Frees c v0 v k.made k.old log freed sweep sweep.again sweep.swept → So (free log state)
  free_so within frees =
      let left = dead_count log state sweep.bound in
      if_so So (left == 0) (after_frees log state) (Goes (Tidies (Free freed left)))
      (λ none. frees_so within sweep.again sweep.swept refl refl frees (eqb-true left 0 none))
      (λ some. λ stands. (k, frees))

  -- a round in which each version was looked at frees
  looked_all : (again : Bool) → sweep.again ≡ again → Looks c v0 v k.made k.old log freed sweep again (length log)
      → Frees c v0 v k.made k.old log freed sweep sweep.again sweep.swept
  looked_all false is f =
      subst (λ (x : Bool). Frees c v0 v k.made k.old log freed sweep x sweep.swept) (sym is)
      (subst (Frees c v0 v k.made k.old log freed sweep false) (sym f.swept) f)
  looked_all true is f =
      subst (λ (x : Bool). Frees c v0 v k.made k.old log freed sweep x sweep.swept) (sym is)
      (subst (Frees c v0 v k.made k.old log freed sweep true) (sym f.0) (f.1, λ some. (f.2, f.3)))

  -- the versions before the next one without a time of death have one
  looked_to : (again : Bool) (start at : ℕ) → at ≡ first_from log start IsUntimed → start ≤ length log
      → Looks c v0 v k.made k.old log freed sweep again start → Looks c v0 v k.made k.old log freed sweep again at
  looked_to true start at is within f = f
  looked_to false start at is within f = record {
    again = f.again;
    swept = f.swept;
    tried = record {
      read = f.tried.read;
      known = f.tried.known;
      after = f.tried.after;
      ends = f.tried.ends;
      untimed = λ i low lt before none.
          ⊎_elim (λ earlier. f.tried.untimed i low lt earlier none)
          (λ late.
          let alive = eqb_ne (version_at log i).dead 0 (first_before log start IsUntimed i late (omega (arith, before, is)) lt) in
          absurd (alive none))
          (cases_lt i start);
    };
    unrested = f.unrested;
    latest = f.latest;
    same = f.same;
  }

  -- the next version that has no time of death is looked at
  pub settle_so : freed ≤ length log → (start : ℕ) → start ≤ length log → Looks c v0 v k.made k.old log freed sweep sweep.again start
      → So (settle log state (first_from log start IsUntimed))
  settle_so within start low looks =
      let at = first_from log start IsUntimed in
      let to = looked_to sweep.again start at refl low looks in
      if_so So (ltb at (length log)) (Goes (Tidies (LoadSuper at))) (free log state)
      (λ e. λ stands. (k, to))
      (λ e.
      let all : at ≡ length log = (let ge = ltb_ge at (length log) e in let le = first_within log start IsUntimed low in omega (arith, ge, le)) in
      free_so within (looked_all sweep.again refl (subst (Looks c v0 v k.made k.old log freed sweep sweep.again) all to)))
