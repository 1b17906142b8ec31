-- A leave ends its section by one step.
use Rattle.std.proofs.Common.{◌≡◌, refl, ap, ◌∙◌, subst}
use Rattle.mv_core.specs.declared.view.Knowledge.{Knowledge}
use Rattle.mv_core.specs.EnterSteps.{mark_cleared}
use Rattle.reader_marks.specs.Sections.{IsOpen}
use Rattle.replay_rules.specs.declared.plan.Call.TheVariants.{Leave}
use Rattle.replay_rules.specs.declared.seats.Ending.TheVariants as finish
use Rattle.replay_rules.specs.declared.seats.Ending.{Ending}
use Rattle.replay_rules.specs.declared.seats.Leaving.TheVariants.{Plainly, WithCommit, WithAbort}
use Rattle.replay_rules.specs.declared.seats.NextStep.TheVariants.{Enters, Helps, Walks, Locks, Writes, EndsSection, Tidies}
use Rattle.replay_rules.specs.States.{state_of}
use Rattle.replay_rules.proofs.runs.Stepping.{view_by}
use Rattle.replay_rules.proofs.runs.Aborting.{holds_nothing}
use Rattle.replay_rules.proofs.answers.Progress.{FarOf, BeginsSo, GoesOnSo}

-- a leave has its one step before it
abbrev pub LeavingFar : Knowledge → Knowledge → Ending → Type 0
LeavingFar v w (finish.Leave Plainly) = w ≡ v
LeavingFar v w (finish.Leave (WithCommit time)) = ⊥
LeavingFar v w (finish.Leave (WithAbort dead)) = ⊥
LeavingFar v w finish.LoadNow = ⊥
LeavingFar v w (finish.Name word new) = ⊥
LeavingFar v w (finish.StampOwn first time) = ⊥
LeavingFar v w (finish.StoreSuper at link time) = ⊥
LeavingFar v w (finish.Unlock at object previous) = ⊥
LeavingFar v w finish.LoadDeath = ⊥

abbrev pub LeaveFar : FarOf
LeaveFar c n v0 v log s (EndsSection step) = LeavingFar v0 v step
LeaveFar c n v0 v log s (Enters step) = ⊥
LeaveFar c n v0 v log s (Helps step) = ⊥
LeaveFar c n v0 v log s (Walks o next) = ⊥
LeaveFar c n v0 v log s (Locks version at next) = ⊥
LeaveFar c n v0 v log s (Writes at words word) = ⊥
LeaveFar c n v0 v log s (Tidies step) = ⊥

pub leave_begins : BeginsSo Leave LeaveFar
leave_begins c k fit n lt made each log freed from time rests may = refl

pub leave_goes : GoesOnSo Leave LeaveFar
leave_goes c k n lt made each log freed from time sweep (EndsSection (finish.Leave Plainly)) stands scans kind next is v0 far behind =
    let v = (state_of c made).seats n in
    let inside = stands.0 in
    let open_now : IsOpen v = record {
      inside = inside.section;
      phase = inside.walking.phase;
      open_is = inside.walking.open_is;
      nothing = holds_nothing c v log freed from inside.logs stands.1;
    } in
    (subst IsOpen far open_now, ap (view_by c (state_of c made) n) is ∙ ap (mark_cleared c) far)
leave_goes c k n lt made each log freed from time sweep (EndsSection (finish.Leave (WithCommit t))) stands scans kind next is v0 far behind = absurd far
leave_goes c k n lt made each log freed from time sweep (EndsSection (finish.Leave (WithAbort t))) stands scans kind next is v0 far behind = absurd far
leave_goes c k n lt made each log freed from time sweep (EndsSection finish.LoadNow) stands scans kind next is v0 far behind = absurd far
leave_goes c k n lt made each log freed from time sweep (EndsSection (finish.Name word new)) stands scans kind next is v0 far behind = absurd far
leave_goes c k n lt made each log freed from time sweep (EndsSection (finish.StampOwn first t)) stands scans kind next is v0 far behind = absurd far
leave_goes c k n lt made each log freed from time sweep (EndsSection (finish.StoreSuper at link t)) stands scans kind next is v0 far behind = absurd far
leave_goes c k n lt made each log freed from time sweep (EndsSection (finish.Unlock at o previous)) stands scans kind next is v0 far behind = absurd far
leave_goes c k n lt made each log freed from time sweep (EndsSection finish.LoadDeath) stands scans kind next is v0 far behind = absurd far
leave_goes c k n lt made each log freed from time sweep (Enters step) stands scans kind next is v0 far behind = absurd far
leave_goes c k n lt made each log freed from time sweep (Helps step) stands scans kind next is v0 far behind = absurd far
leave_goes c k n lt made each log freed from time sweep (Walks o step) stands scans kind next is v0 far behind = absurd far
leave_goes c k n lt made each log freed from time sweep (Locks version at step) stands scans kind next is v0 far behind = absurd far
leave_goes c k n lt made each log freed from time sweep (Writes at words word) stands scans kind next is v0 far behind = absurd far
leave_goes c k n lt made each log freed from time sweep (Tidies step) stands scans kind next is v0 far behind = absurd far
