-- A tidy comes to its answer: it begins so, and goes on so behind each of its steps.
use Rattle.std.proofs.Common.{◌≡◌, ℕ, ◌<◌, ◌≤◌, List, [], length, true, false, not, Option, Some, None, refl, sym, ◌∙◌, subst, arith, inl, inr, is_some}
use Rattle.mv_core.proofs.Terms.{Config, Checked}
use Rattle.mv_core.specs.declared.view.Knowledge.{Knowledge}
use Rattle.mv_core.specs.Moves.{Moment, MoveKind, load_low, store_mark, load_time, clear_mark, load_named, load_check, stamp, load_head, load_death, name_rest}
use Rattle.mv_core.specs.Moves.{load_scan, load_mark, load_grace, raise_grace, load_super, cut_head, store_free}
use Rattle.replay_rules.specs.declared.plan.Call.TheVariants.{Tidy}
use Rattle.replay_rules.specs.declared.seats.NotedVersion.{NotedVersion}
use Rattle.replay_rules.specs.declared.seats.Sweep.{Sweep}
use Rattle.replay_rules.specs.declared.seats.Entering.{Entering}
use Rattle.replay_rules.specs.declared.seats.Entering.TheVariants.{LoadLow, StoreMark, LoadTime}
use Rattle.replay_rules.specs.declared.seats.Helping.{Helping}
use Rattle.replay_rules.specs.declared.seats.Helping.TheVariants.{LoadNamed, LoadCheck, SwapStamp}
use Rattle.replay_rules.specs.declared.seats.Ending.{Ending}
use Rattle.replay_rules.specs.declared.seats.Ending.TheVariants.{LoadNow, Name, StampOwn, StoreSuper, Unlock, LoadDeath, Leave}
use Rattle.replay_rules.specs.declared.seats.WriteBackEnd.TheVariants.{WasCut, WasGone, WasAbove}
use Rattle.replay_rules.specs.declared.seats.Sweeping.{Sweeping}
use Rattle.replay_rules.specs.declared.seats.Sweeping.TheVariants.{LoadGrace, Free, LoadScan, LoadMark, RaiseGrace, LoadSuper, LoadTop, StoreMaster}
use Rattle.replay_rules.specs.declared.seats.Sweeping.TheVariants.{CutHead, LoadCutDeath, LeaveBack, LoadSuperAgain, NameRest}
use Rattle.replay_rules.specs.declared.seats.NextStep.{NextStep}
use Rattle.replay_rules.specs.declared.seats.NextStep.TheVariants.{Enters, Helps, Walks, Locks, Writes, EndsSection, Tidies}
use Rattle.replay_rules.specs.Begins.{new_sweep}
use Rattle.replay_rules.specs.SeatNotes.{version_at}
use Rattle.replay_rules.specs.NextSteps.{IsStepOf}
use Rattle.replay_rules.specs.Kinds.{IsKindOf}
use Rattle.replay_rules.specs.States.{Made, state_of, AreMade}
use Rattle.replay_rules.proofs.runs.Sections.{RestsAt, IsBack}
use Rattle.replay_rules.proofs.runs.Standing.{StandsFor, ScanAt, TidiesAt, EndsAt, step_of}
use Rattle.replay_rules.proofs.runs.Known.{knows}
use Rattle.replay_rules.proofs.answers.Progress.{BeginsSo, GoesOnSo}
use Rattle.replay_rules.proofs.answers.Tidying.Further.{further_none}
use Rattle.replay_rules.proofs.answers.Tidying.Far.{TidyFar}
use Rattle.replay_rules.proofs.answers.Tidying.Stepping.{tidying, GoesBy}
use Rattle.replay_rules.proofs.answers.Tidying.Outside.{grace_goes, free_goes}
use Rattle.replay_rules.proofs.answers.Tidying.Scanning.{scan_goes}
use Rattle.replay_rules.proofs.answers.Tidying.Marking as marking
use Rattle.replay_rules.proofs.answers.Tidying.Raising.{raise_goes}
use Rattle.replay_rules.proofs.answers.Tidying.Looking.{kind, same_kind}
use Rattle.replay_rules.proofs.answers.Tidying.Supers.{super_goes}
use Rattle.replay_rules.proofs.answers.Tidying.Backing as backing
use Rattle.replay_rules.proofs.answers.Tidying.Deciding.{top_goes, cut_goes}
use Rattle.replay_rules.proofs.answers.Tidying.Leaving.{death_goes, leave_cut, leave_above, leave_gone, again_goes}
use Rattle.replay_rules.proofs.answers.Tidying.Resting.{named_goes, check_goes, stamp_goes, now_goes, rest_goes}

-- it begins with a load of GRACE
pub tidy_begins : BeginsSo Tidy TidyFar
tidy_begins c k fit n lt made each log freed from time rests may = by time rests may
  where
    by : (time : Option ℕ) → RestsAt c ((state_of c made).seats n) log freed from time → not (is_some time) ≡ true
        → TidyFar c n ((state_of c made).seats n) ((state_of c made).seats n) log (tidying n time from freed (new_sweep freed)) (Tidies (LoadGrace false))
    by (Some t) rests may = absurd (cc)
    by None rests may = (
      record {
        old = log;
        rests = rests;
        known = knows c k n made each;
        made = [];
        further = further_none ((state_of c made).seats n);
        same = record {
          long = refl;
          low = (let e : freed ≤ freed = omega arith in e);
          each = λ i low lt. record { same = refl; once = λ e. refl };
        };
      },
      record { log_is = refl; unrested = (refl, refl); within = omega arith },
    )

module _ (c : Config) (k : Checked c) (n : ℕ) (lt : n < c.seats) (made : List Made) (each : AreMade c made) (log : List NotedVersion) (freed from : ℕ)
    (time : Option ℕ) (sweep : Sweep) (v0 : Knowledge) where
  abbrev s : Moment
  s = state_of c made

  abbrev v : Knowledge
  v = s.seats n

  -- it goes on so behind a step of this kind
  abbrev Goes : Option ℕ → NextStep → MoveKind → Type 0
  Goes t task kind = IsStepOf c made (step_of n kind) n task → TidyFar c n v0 v log (tidying n t from freed sweep) task
      → GoesBy c k n made each v0 log (tidying n t from freed sweep) task kind

  of_kind : (t : Option ℕ) (task : NextStep) (this other : MoveKind) → other ≡ this → Goes t task this → Goes t task other
  of_kind t task this other is goes = subst (Goes t task) (sym is) goes

  at_rest : (task : NextStep) (kind : MoveKind) → time ≡ None → Goes None task kind → Goes time task kind
  at_rest task kind none goes = subst (λ t. Goes t task kind) (sym none) goes

  enters_go : (no_scan : v.scan ≡ None) (step : Entering) (kind : MoveKind) → IsKindOf (Enters step) kind → Goes None (Enters step) kind
  enters_go no_scan LoadLow kind is = of_kind None _ load_low kind is (λ next far. backing.low_goes c k n made each log freed from sweep v0 far)
  enters_go no_scan (StoreMark mark) kind is =
      of_kind None _ (store_mark is.0) kind is.1 (λ next far. backing.mark_goes c k n made each log freed from sweep v0 mark is.0 far)
  enters_go no_scan LoadTime kind is = of_kind None _ load_time kind is (λ next far. backing.time_goes c k n made each log freed from sweep v0 far)

  helps_go : (step : Helping) (kind : MoveKind) → IsKindOf (Helps step) kind → Goes time (Helps step) kind
  helps_go (LoadNamed word) kind is =
      of_kind time _ (load_named word) kind is (λ next far. named_goes c k n made each log freed from sweep v0 time word far)
  helps_go (LoadCheck word unset) kind is =
      of_kind time _ load_check kind is (λ next far. check_goes c k n made each log freed from sweep v0 time word unset far)
  helps_go (SwapStamp word unset) kind is =
      of_kind time _ (stamp word unset) kind is (λ next far. stamp_goes c k n made each log freed from sweep v0 time word unset far)

  ends_go : (step : Ending) (kind : MoveKind) → EndsAt c n v log freed from time Tidy step → IsKindOf (EndsSection step) kind
      → Goes time (EndsSection step) kind
  ends_go LoadNow kind (inl at) is = let f = at.2 in absurd (cc)
  ends_go LoadNow kind (inr at) is =
      at_rest _ kind at.1 (of_kind None _ load_check kind is (λ next far. now_goes c k n made each log freed from sweep v0 at.0 far))
  ends_go (Name word new) kind at is = λ next far. absurd far
  ends_go (StampOwn first t) kind at is = λ next far. absurd far
  ends_go (StoreSuper place link t) kind at is = λ next far. absurd far
  ends_go (Unlock place o previous) kind at is = λ next far. absurd far
  ends_go LoadDeath kind at is = λ next far. absurd far
  ends_go (Leave leaving) kind at is = λ next far. absurd far

  -- SUPER of a version without a time of death
  supers_go : (no_scan : ((state_of c made).seats n).scan ≡ None) (place : ℕ) (rests : RestsAt c v log freed from None) (low : freed ≤ place)
      (live : place < length log) (alive : (version_at log place).dead ≡ 0) (task : NextStep) (this : MoveKind) → IsKindOf (Tidies (LoadSuper place)) this
      → Goes None task (kind c k n lt made each log freed from rests no_scan place low live alive) → Goes None task this
  supers_go no_scan place rests low live alive task this is goes next far =
      let same = same_kind c k n lt made each log freed from rests no_scan place low live alive is.0 is.1
      (subst (λ (x : MoveKind). IsStepOf c made (step_of n x) n task) is.2 next).may.may in
      of_kind None task (kind c k n lt made each log freed from rests no_scan place low live alive) this
      (is.2 ∙ (λ i. load_super place (same.0 i) (same.1 i))) goes next far

  module _ (no_scan : ((state_of c made).seats n).scan ≡ None) where
    tidies_go : (step : Sweeping) (this : MoveKind) → TidiesAt c n v log freed from time sweep step → IsKindOf (Tidies step) this → Goes time (Tidies step) this
    tidies_go (LoadGrace again) this at is =
        at_rest _ this at.1
        (of_kind None _ load_grace this is (λ next far. grace_goes c k n made each log freed from sweep no_scan v0 again at.0 next far))
    tidies_go (Free place left) this at is =
        at_rest _ this at.1
        (of_kind None _ (store_free place) this is (λ next far. free_goes c k n made each log freed from sweep no_scan v0 place left at.0 next far))
    tidies_go LoadScan this at is =
        at_rest _ this at.1 (of_kind None _ load_scan this is (λ next far. scan_goes c k n made each log freed from sweep v0 next far))
    tidies_go (LoadMark seat) this at is =
        at_rest _ this at.1
        (of_kind None _ (load_mark seat is.0) this is.1
        (λ next far. marking.mark_goes c k n made each log freed from sweep v0 at.0.0 seat is.0 next far))
    tidies_go (RaiseGrace low) this at is =
        at_rest _ this at.1
        (of_kind None _ (raise_grace low) this is (λ next far. raise_goes c k n made each log freed from sweep v0 low at.0 no_scan next far))
    tidies_go (LoadSuper place) this at is =
        at_rest _ this at.1
        (supers_go no_scan place at.0 at.3 at.4 at.5 _ this is
        (λ next far. super_goes c k n lt made each log freed from at.0 no_scan place at.3 at.4 at.5 sweep at.2 v0 next far))
    tidies_go (LoadTop place o) this at is =
        let back : IsBack v.grace log freed place = subst (IsBack v.grace log freed) (sym at.2) at.1.0 in
        subst (λ p. IsKindOf (Tidies (LoadTop place p)) this → Goes time (Tidies (LoadTop place p)) this) (sym at.3)
        (λ of. of_kind time _ (load_head (version_at log place).object of.0) this of.1
        (λ next far. top_goes c k n lt made each log freed from sweep v0 place time at.0.logs at.1.2 back.no_death back.unfreed back.live
        at.0.section at.0.walking.phase at.0.time_is of.0 next far)) is
    tidies_go (StoreMaster place o words word) this at is =
        of_kind time _ _ this is.3
        (λ next far. backing.store_goes c k n made each log freed from sweep v0 place o word words is.0 is.1 is.2 time far)
    tidies_go (CutHead place o) this at is =
        subst (λ p. IsKindOf (Tidies (CutHead place p)) this → Goes time (Tidies (CutHead place p)) this) (sym at.object_is)
        (λ of. of_kind time _ (cut_head (version_at log place).object place of.0 of.1) this of.2
        (λ next far. cut_goes c k n lt made each log freed from sweep v0 place time at.logs at.nothing at.back.no_death at.back.unfreed at.back.live of.0 of.1
        next far)) is
    tidies_go (LoadCutDeath place) this at is =
        of_kind time _ load_death this is (λ next far. death_goes c k n lt made each log freed from sweep no_scan v0 place time far)
    tidies_go (LeaveBack place (WasCut dead)) this at is =
        of_kind time _ clear_mark this is
        (λ next far.
        leave_cut c k n lt made each log freed from sweep no_scan v0 place time at.back.unfreed at.back.live at.back.no_death (WasCut dead) next far dead
        (let d = at.view_is.3 in omega (arith, d)) far.1.1)
    tidies_go (LeaveBack place WasGone) this at is =
        of_kind time _ clear_mark this is
        (λ next far stands.
        leave_gone c k n lt made each log freed from sweep no_scan v0 place time at.back.unfreed at.back.live at.back.no_death WasGone next far far.1.1)
    tidies_go (LeaveBack place (WasAbove seat)) this at is =
        of_kind time _ clear_mark this is
        (λ next far. leave_above c k n lt made each log freed from sweep no_scan v0 place time at.back.unfreed at.back.live at.back.no_death (WasAbove seat)
        next far seat far.1.1)
    tidies_go (LoadSuperAgain place) this at is =
        at_rest _ this at.1
        (supers_go no_scan place at.0 at.3 at.4 at.5 _ this is
        (λ next far. again_goes c k n lt made each log freed from sweep no_scan v0 place at.0 at.3 at.4 at.5 next far))
    tidies_go (NameRest word new) this at is =
        at_rest _ this at.1
        (of_kind None _ (name_rest word) this is (λ next far. rest_goes c k n made each log freed from sweep v0 word new next far))

  quiet_goes : v.scan ≡ None → (task : NextStep) (this : MoveKind) → StandsFor c n v log freed from time Tidy sweep (Some task) → IsKindOf task this
      → Goes time task this
  quiet_goes no_scan (Enters step) this at is = at_rest _ this at.2 (enters_go no_scan step this is)
  quiet_goes no_scan (Helps step) this at is = helps_go step this is
  quiet_goes no_scan (Walks o next) this at is = λ next far. absurd far
  quiet_goes no_scan (Locks version place next) this at is = λ next far. absurd far
  quiet_goes no_scan (Writes place words word) this at is = λ next far. absurd far
  quiet_goes no_scan (EndsSection step) this at is = ends_go step this at is
  quiet_goes no_scan (Tidies step) this at is = tidies_go no_scan step this at.0 is

  marks_go : (seat : ℕ) (this : MoveKind) → StandsFor c n v log freed from time Tidy sweep (Some (Tidies (LoadMark seat)))
      → IsKindOf (Tidies (LoadMark seat)) this
      → Goes time (Tidies (LoadMark seat)) this
  marks_go seat this at is =
      at_rest _ this at.0.1
      (of_kind None _ (load_mark seat is.0) this is.1
      (λ next far. marking.mark_goes c k n made each log freed from sweep v0 at.0.0.0 seat is.0 next far))

  task_goes : (task : NextStep) (this : MoveKind) → ScanAt v (Some task) → StandsFor c n v log freed from time Tidy sweep (Some task) → IsKindOf task this
      → Goes time task this
  task_goes task this (inl no_scan) at is = quiet_goes no_scan task this at is
  task_goes task this (inr scan) at is =
      let one : Some task ≡ Some (Tidies (LoadMark scan.0)) = scan.1 in
      let same : task ≡ Tidies (LoadMark scan.0) = cc in
      subst (λ (x : NextStep). StandsFor c n v log freed from time Tidy sweep (Some x) → IsKindOf x this → Goes time x this) (sym same)
      (marks_go scan.0 this) at is

-- and goes on so behind each of its steps
pub tidy_goes : GoesOnSo Tidy TidyFar
tidy_goes c k n lt made each log freed from time sweep task stands scans kind next is v0 far behind =
    task_goes c k n lt made each log freed from time sweep v0 task kind scans stands is next far behind
