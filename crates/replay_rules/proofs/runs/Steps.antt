-- Each step that a seat stands at.
use Rattle.std.proofs.Common.{◌≡◌, ℕ, ◌<◌, List, Option, Some, None, All, sym, subst, inl, inr}
use Rattle.mv_core.proofs.Terms.{Config, Checked}
use Rattle.mv_core.specs.declared.view.Knowledge.{Knowledge}
use Rattle.replay_rules.specs.declared.plan.Call.{Call}
use Rattle.replay_rules.specs.declared.plan.Call.TheVariants.{Tidy}
use Rattle.replay_rules.specs.declared.seats.WriteBackEnd.TheVariants.{WasCut, WasGone, WasAbove}
use Rattle.replay_rules.specs.declared.plan.CallOf.{CallOf}
use Rattle.replay_rules.specs.declared.seats.NotedVersion.{NotedVersion}
use Rattle.replay_rules.specs.declared.seats.Sweep.{Sweep}
use Rattle.replay_rules.specs.declared.seats.Ending.{Ending}
use Rattle.replay_rules.specs.declared.seats.Ending.TheVariants.{LoadNow, Name, StampOwn, StoreSuper, Unlock, LoadDeath, Leave}
use Rattle.replay_rules.specs.declared.seats.Leaving.TheVariants.{Plainly, WithCommit, WithAbort}
use Rattle.replay_rules.specs.declared.seats.Sweeping.{Sweeping}
use Rattle.replay_rules.specs.declared.seats.Sweeping.TheVariants.{LoadGrace, Free, LoadScan, LoadMark, RaiseGrace, LoadSuper, LoadTop, StoreMaster}
use Rattle.replay_rules.specs.declared.seats.Sweeping.TheVariants.{CutHead, LoadCutDeath, LeaveBack, LoadSuperAgain, NameRest}
use Rattle.replay_rules.specs.declared.seats.NextStep.{NextStep}
use Rattle.replay_rules.specs.declared.seats.NextStep.TheVariants.{Enters, Helps, Walks, Locks, Writes, EndsSection, Tidies}
use Rattle.replay_rules.specs.FitPlans.{IsFitCallOf}
use Rattle.replay_rules.specs.States.{Made, state_of}
use Rattle.replay_rules.specs.Runs.{TapeOf}
use Rattle.replay_rules.specs.Behind.{IsTapeBehind}
use Rattle.replay_rules.proofs.runs.Sections.{seat_with}
use Rattle.replay_rules.proofs.runs.Standing.{StepsSo, EndsAt, TidiesAt, StandsFor, ScanAt}
use Rattle.replay_rules.proofs.runs.Entering.{entering_made}
use Rattle.replay_rules.proofs.runs.Helping.{helping_made}
use Rattle.replay_rules.proofs.runs.Walking.{walking_made}
use Rattle.replay_rules.proofs.runs.Locking.{locking_made}
use Rattle.replay_rules.proofs.runs.Writing.{writing_made}
use Rattle.replay_rules.proofs.runs.Aborting.{unlocking_made, dying_made, abort_made, leave_made}
use Rattle.replay_rules.proofs.runs.Committing.{loading_made, naming_made, stamping_made, telling_made, ending_made}
use Rattle.replay_rules.proofs.runs.Reclaiming.{grace_is, scan_is, mark_is, raise_is, now_rests, rest_is, free_is}
use Rattle.replay_rules.proofs.runs.Settling.{super_is, again_is}
use Rattle.replay_rules.proofs.runs.LeavingBack.{death_is, cut_leaves, gone_leaves, above_leaves}
use Rattle.replay_rules.proofs.runs.BackingUp.{top_is, store_is, cut_is}

module _ (c : Config) (k : Checked c) (n : ℕ) (lt : n < c.seats) (made : List Made) (t : TapeOf) (b : IsTapeBehind c t made)
    (log : List NotedVersion) (freed from : ℕ) (time : Option ℕ) (call : Call) (sweep : Sweep) (own : Option NextStep) (left : List CallOf)
    (before : All (IsFitCallOf c) left) where
  abbrev view : Knowledge
  view = (state_of c made).seats n

  abbrev Step_made : NextStep → Type 0
  Step_made task = StepsSo c n made t task (seat_with n log freed from time call sweep own left)

  module _ (no_scan : ((state_of c made).seats n).scan ≡ None) where
    now_is : EndsAt c n view log freed from time call LoadNow → Step_made (EndsSection LoadNow)
    now_is (inl at) = loading_made c k n lt made t b log freed from time call sweep own left no_scan before at.0 at.1 at.2
    now_is (inr at) =
        let P = λ (x : Option ℕ) (y : Call). StepsSo c n made t (EndsSection LoadNow) (seat_with n log freed from x y sweep own left) in
        subst (λ x. P x call) (sym at.1)
        (subst (P None) (sym at.2) (now_rests c k n lt made t b log freed from sweep own left before at.0 no_scan))

    ends_made : (step : Ending) → EndsAt c n view log freed from time call step → Step_made (EndsSection step)
    ends_made LoadNow at = now_is at
    ends_made (Name word new) at =
        naming_made c k n lt made t b log freed from time call sweep own left no_scan before word new at.0 at.1 at.2 at.3 at.4 at.5
    ends_made (StampOwn first t2) at = stamping_made c k n lt made t b log freed from time call sweep own left no_scan before first t2 at
    ends_made (StoreSuper place link t2) at =
        telling_made c k n lt made t b log freed from time call sweep own left no_scan before place link at.0 t2 at.1 at.2 at.3 at.4 at.5
    ends_made (Unlock place o previous) at =
        unlocking_made c k n lt made t b log freed from time call sweep own left no_scan before place o previous at.0 at.1 at.2 at.3 at.4 at.5
    ends_made LoadDeath at = dying_made c k n lt made t b log freed from time call sweep own left no_scan before at.0 at.1 at.2 at.3
    ends_made (Leave Plainly) at = leave_made c k n lt made t b log freed from time call sweep own left no_scan before at.0 at.1
    ends_made (Leave (WithCommit t2)) at = ending_made c k n lt made t b log freed from time call sweep own left no_scan before t2 at.0 at.1 at.2
    ends_made (Leave (WithAbort dead)) at = abort_made c k n lt made t b log freed from time call sweep own left no_scan before dead at

  -- a step outside a section, of a tidy
  module _ (tidies : call ≡ Tidy) where
    at_rest : (step : Sweeping) → time ≡ None
        → StepsSo c n made t (Tidies step) (seat_with n log freed from None Tidy sweep own left)
        → Step_made (Tidies step)
    at_rest step none made_so =
        let P = λ (x : Option ℕ) (y : Call). StepsSo c n made t (Tidies step) (seat_with n log freed from x y sweep own left) in
        subst (λ x. P x call) (sym none) (subst (P None) (sym tidies) made_so)

    in_section : (step : Sweeping)
        → StepsSo c n made t (Tidies step) (seat_with n log freed from time Tidy sweep own left)
        → Step_made (Tidies step)
    in_section step made_so =
        let P = λ (y : Call). StepsSo c n made t (Tidies step) (seat_with n log freed from time y sweep own left) in
        subst P (sym tidies) made_so

    marks_made : (seat : ℕ) → TidiesAt c n view log freed from time sweep (LoadMark seat) → Step_made (Tidies (LoadMark seat))
    marks_made seat at =
        let scan = at.2 in
        at_rest (LoadMark seat) at.1
        (mark_is c k n lt made t b log freed from sweep own left before at.0 seat scan.0 scan.1 scan.2 scan.3 scan.4)

    module _ (no_scan : ((state_of c made).seats n).scan ≡ None) where
      tidies_made : (step : Sweeping) → TidiesAt c n view log freed from time sweep step → Step_made (Tidies step)
      tidies_made (LoadGrace again) at = at_rest (LoadGrace again) at.1 (grace_is c k n lt made t b log freed from sweep own left before at.0 no_scan again)
      tidies_made (Free place rest) at = at_rest (Free place rest) at.1 (free_is c k n lt made t b log freed from sweep own left before no_scan place rest at.0)
      tidies_made LoadScan at = at_rest LoadScan at.1 (scan_is c k n lt made t b log freed from sweep own left before at.0 no_scan)
      tidies_made (LoadMark seat) at = marks_made seat at
      tidies_made (RaiseGrace low) at =
          at_rest (RaiseGrace low) at.1 (raise_is c k n lt made t b log freed from sweep own left before at.0 no_scan low at.2 at.3)
      tidies_made (LoadSuper place) at =
          at_rest (LoadSuper place) at.1 (super_is c k n lt made t b log freed from sweep own left no_scan before at.0 at.2 place at.3 at.4 at.5)
      tidies_made (LoadTop place o) at =
          in_section (LoadTop place o) (top_is c k n lt made t b log freed from time sweep own left no_scan before place o at.0 at.1 at.2 at.3)
      tidies_made (StoreMaster place o words word) at =
          in_section (StoreMaster place o words word)
          (store_is c k n lt made t b log freed from time sweep own left no_scan before place o word words at.0 at.1 at.2)
      tidies_made (CutHead place o) at =
          in_section (CutHead place o) (cut_is c k n lt made t b log freed from time sweep own left no_scan before place o at)
      tidies_made (LoadCutDeath place) at =
          in_section (LoadCutDeath place) (death_is c k n lt made t b log freed from time sweep own left no_scan before place at)
      tidies_made (LeaveBack place (WasCut dead)) at =
          in_section (LeaveBack place (WasCut dead)) (cut_leaves c k n lt made t b log freed from time sweep own left no_scan before place dead at)
      tidies_made (LeaveBack place WasGone) at =
          in_section (LeaveBack place WasGone) (gone_leaves c k n lt made t b log freed from time sweep own left no_scan before place at)
      tidies_made (LeaveBack place (WasAbove seat)) at =
          in_section (LeaveBack place (WasAbove seat)) (above_leaves c k n lt made t b log freed from time sweep own left no_scan before place at seat)
      tidies_made (LoadSuperAgain place) at =
          at_rest (LoadSuperAgain place) at.1 (again_is c k n lt made t b log freed from sweep own left no_scan before at.0 at.2 place at.3 at.4 at.5)
      tidies_made (NameRest word new) at =
          at_rest (NameRest word new) at.1
          (rest_is c k n lt made t b log freed from sweep own left before at.0 no_scan word new at.2 at.3 at.4 at.5)

  -- each step that a seat stands at, where no scan runs
  quiet_is : view.scan ≡ None → (task : NextStep) → StandsFor c n view log freed from time call sweep (Some task) → Step_made task
  quiet_is no_scan (Enters step) at =
      let P = λ (x : Option ℕ). StepsSo c n made t (Enters step) (seat_with n log freed from x call sweep own left) in
      subst P (sym at.2) (entering_made c k n lt made t b log freed from call sweep own left no_scan before at.1 at.3 at.4 step at.0)
  quiet_is no_scan (Helps step) at = helping_made c k n lt made t b log freed from time call sweep own left no_scan before step at.0 at.1
  quiet_is no_scan (Walks o next) at = walking_made c k n lt made t b log freed from time call sweep own left no_scan before at.0 o at.1 at.2 next at.3
  quiet_is no_scan (Locks version place next) at =
      let l = at.0 in
      locking_made c k n lt made t b log freed from time call sweep own left no_scan before at.1 l.inside l.object l.range l.may version place l.builds next
      l.locks
  quiet_is no_scan (Writes place words word) at = writing_made c k n lt made t b log freed from time call sweep own left no_scan before place words word at
  quiet_is no_scan (EndsSection step) at = ends_made no_scan step at
  quiet_is no_scan (Tidies step) at = tidies_made at.1 no_scan step at.0

  -- and each at all
  pub step_is : (task : NextStep) → ScanAt view (Some task) → StandsFor c n view log freed from time call sweep (Some task) → Step_made task
  step_is task (inl no_scan) at = quiet_is no_scan task at
  step_is task (inr scan) at =
      let one : Some task ≡ Some (Tidies (LoadMark scan.0)) = scan.1 in
      let same : task ≡ Tidies (LoadMark scan.0) = cc in
      let stands = subst (λ (x : NextStep). StandsFor c n view log freed from time call sweep (Some x)) same at in
      subst Step_made (sym same) (marks_made stands.1 scan.0 stands.0)
