-- An enter answers the time of the section that it begins.
use Rattle.std.proofs.Common.{◌≡◌, ℕ, ◌+◌, ◌==◌, List, ◌∷◌, [], Option, None, refl, sym, ap, ◌∙◌, subst, Contains, if◌then◌else◌, eqb-true}
use Rattle.std.proofs.lemmas.List.Elements.{Contains-push}
use Rattle.mv_history.specs.declared.Entry.{Entry}
use Rattle.mv_layout.specs.Words.{clock_time_of, clock_slot_of}
use Rattle.mv_core.proofs.Terms.{Config, Checked, Clock}
use Rattle.mv_core.specs.declared.view.Knowledge.{Knowledge}
use Rattle.mv_core.specs.declared.view.Phase.TheVariants.{Lowered}
use Rattle.mv_core.specs.Rings.{HoldsNothing}
use Rattle.mv_core.specs.EnterSteps.{IsWhole, low_loaded, mark_stored, time_loaded}
use Rattle.mv_core.specs.Moves.{Moment, MoveKind, load_time}
use Rattle.reader_marks.specs.Sections.{Begins}
use Rattle.reader_marks.proofs.Entered.{begins}
use Rattle.replay_rules.specs.declared.plan.Call.TheVariants.{Enter}
use Rattle.replay_rules.specs.declared.seats.NotedVersion.{NotedVersion}
use Rattle.replay_rules.specs.declared.seats.State.{State}
use Rattle.replay_rules.specs.declared.seats.Entering.{Entering}
use Rattle.replay_rules.specs.declared.seats.Entering.TheVariants.{LoadLow, StoreMark, LoadTime}
use Rattle.replay_rules.specs.declared.seats.Helping.{Helping}
use Rattle.replay_rules.specs.declared.seats.Helping.TheVariants.{LoadNamed}
use Rattle.replay_rules.specs.declared.seats.NextStep.TheVariants.{Enters, Helps, Walks, Locks, Writes, EndsSection, Tidies}
use Rattle.replay_rules.specs.declared.seats.Then.{Then}
use Rattle.replay_rules.specs.declared.seats.Then.TheVariants.{Goes}
use Rattle.replay_rules.specs.Tasks.{entering_place, helping_place}
use Rattle.replay_rules.specs.Learns.{state_after}
use Rattle.replay_rules.specs.Answers.{AnswersSo}
use Rattle.replay_rules.specs.GoesOn.{helped_in, after_entering}
use Rattle.replay_rules.specs.Kinds.{IsKindOfEntering}
use Rattle.replay_rules.specs.States.{Made, state_of, AreMade}
use Rattle.replay_rules.specs.NextSteps.{IsStepOf}
use Rattle.replay_rules.proofs.runs.Sections.{helped_word}
use Rattle.replay_rules.proofs.runs.Standing.{step_of}
use Rattle.replay_rules.proofs.runs.Stepping.{view_by}
use Rattle.replay_rules.proofs.runs.Known.{if_so, eqb_ne}
use Rattle.replay_rules.proofs.runs.Kept.{state_keeps}
use Rattle.replay_rules.proofs.runs.Aborting.{holds_nothing}
use Rattle.replay_rules.proofs.answers.Progress.{FarOf, Comes, state_with, BeginsSo, GoesOnSo}
use Rattle.replay_rules.proofs.answers.Helps.{HelpFar, HasHelped, helped_at_once, whole_now, help_goes}

-- the view behind the load of a low time and the store of its mark
abbrev pub marked : Config → Knowledge → ℕ → Knowledge
marked c v low = mark_stored c (low_loaded c v low) (clock_time_of low)

-- how far an entering has come before its help
abbrev pub EnteringFar : Config → Knowledge → Knowledge → Entering → Type 0
EnteringFar c v w LoadLow = w ≡ v
EnteringFar c v w (StoreMark mark) = (low : ℕ) × (w ≡ low_loaded c v low)
EnteringFar c v w LoadTime = (low : ℕ) × (w ≡ marked c v low)

-- the time was taken, of this word
pub record HasTaken (c : Config) (v w : Knowledge) (word : ℕ) : Type 0 where
  pub low : ℕ
  pub h : List Entry
  pub whole : IsWhole c (marked c v low) word h
  pub view_is : w ≡ time_loaded c (marked c v low) word h
  pub nothing : HoldsNothing w.ring

-- the section begins once the word is helped
pub section_begins : (c : Config) (v taken w : Knowledge) (word : ℕ) (last : Option ℕ) → HasTaken c v taken word → HasHelped c taken w word last
    → Begins c v w (clock_time_of word)
section_begins c v taken w word last t helped =
    begins c v (low_loaded c v t.low) (marked c v t.low) taken w t.low (clock_time_of t.low) word (clock_time_of word) t.h last refl refl refl t.whole
    t.view_is t.nothing helped.helps helped.finds helped.none refl

-- how far an enter has come
abbrev pub EnterFar : FarOf
EnterFar c n v0 v log s (Enters step) = EnteringFar c v0 v step
EnterFar c n v0 v log s (Helps step) = (taken : Knowledge) × HasTaken c v0 taken (helped_word step) × HelpFar c taken v step
EnterFar c n v0 v log s (Walks o next) = ⊥
EnterFar c n v0 v log s (Locks version at next) = ⊥
EnterFar c n v0 v log s (Writes at words word) = ⊥
EnterFar c n v0 v log s (EndsSection step) = ⊥
EnterFar c n v0 v log s (Tidies step) = ⊥

module _ (c : Config) (k : Checked c) (n : ℕ) (made : List Made) (each : AreMade c made) (v : Knowledge) (log : List NotedVersion) (s : State)
    (P : Then → Type 0) where
  abbrev m : Moment
  m = state_of c made

  -- a step of an entering goes on to the next one, or to the help of its word, or that is done
  pub entering_goes : (step : Entering) (kind : MoveKind) → IsKindOfEntering step kind → IsStepOf c made (step_of n kind) n (Enters step)
      → HoldsNothing ((state_of c made).seats n).ring → EnteringFar c v ((state_of c made).seats n) step
      → ((next : Entering) → EnteringFar c v (view_by c (state_of c made) n kind) next → P (Goes (Enters next)))
      → ((word : ℕ) → HasTaken c v (view_by c (state_of c made) n kind) word → (next : Helping) → helped_word next ≡ word
      → HelpFar c (view_by c (state_of c made) n kind) (view_by c (state_of c made) n kind) next → P (Goes (Helps next)))
      → ((word : ℕ) → HasTaken c v (view_by c (state_of c made) n kind) word
      → HasHelped c (view_by c (state_of c made) n kind) (view_by c (state_of c made) n kind) word None → P (helped_in s.call c log s word))
      → P (after_entering step c log s ((state_of c made).memory (entering_place n step)))
  entering_goes LoadLow kind is next nothing far on help done =
      on (StoreMark (1 + clock_time_of (m.memory Clock)))
      (m.memory Clock, ap (view_by c m n) is ∙ ap (λ (u : Knowledge). low_loaded c u (m.memory Clock)) far)
  entering_goes (StoreMark mark) kind is next nothing far on help done =
      let low = is.0 in
      let step = subst (λ x. IsStepOf c made (step_of n x) n (Enters (StoreMark mark))) is.1 next in
      let lowered : Lowered (clock_time_of far.0) ≡ Lowered low = sym (ap (λ (u : Knowledge). u.phase) far.1) ∙ step.may.may in
      let same : low ≡ clock_time_of far.0 = cc in
      on LoadTime (
        far.0,
        ap (view_by c m n) is.1 ∙ ap (λ x. mark_stored c (m.seats n) x) same
            ∙ ap (λ (u : Knowledge). mark_stored c u (clock_time_of far.0)) far.1,
      )
  entering_goes LoadTime kind is next nothing far on help done =
      let word = m.memory Clock in
      let w = view_by c m n load_time in
      let w_is : view_by c m n kind ≡ w = ap (view_by c m n) is in
      let view : view_by c m n kind ≡ time_loaded c (marked c v far.0) word m.history =
      w_is ∙ ap (λ (u : Knowledge). time_loaded c u word m.history) far.1 in
      let taken : HasTaken c v (view_by c m n kind) word = record {
        low = far.0;
        h = m.history;
        whole = subst (λ (u : Knowledge). IsWhole c u word m.history) far.1 (whole_now c k n made each);
        view_is = view;
        nothing = subst (λ (u : Knowledge). HoldsNothing u.ring) (sym w_is) nothing;
      } in
      if_so P (clock_slot_of word == 8191) (helped_in s.call c log s word) (Goes (Helps (LoadNamed word)))
      (λ e. done word taken (helped_at_once c (view_by c m n kind) word (eqb-true (clock_slot_of word) 8191 e)
      (subst (λ (u : Knowledge). Contains u.clocks.helped word) (sym w_is)
      (subst (λ x. Contains (if x then word ∷ [] else []) word) (sym e) (Contains-push [] word)))))
      (λ e. help word taken (LoadNamed word) refl (eqb_ne (clock_slot_of word) 8191 e, refl))

pub enter_begins : BeginsSo Enter EnterFar
enter_begins c k fit n lt made each log freed from time rests may = refl

-- a word that is helped ends an enter
ends_so : (c : Config) (n : ℕ) (v0 w : Knowledge) (log : List NotedVersion) (s : State) (word : ℕ) → s.call ≡ Enter → Begins c v0 w (clock_time_of word)
    → Comes (EnterFar c n v0 w log s) (AnswersSo c Enter v0 w) (helped_in s.call c log s word)
ends_so c n v0 w log s word same begun = subst (λ x. Comes (EnterFar c n v0 w log s) (AnswersSo c Enter v0 w) (helped_in x c log s word)) (sym same) begun

pub enter_goes : GoesOnSo Enter EnterFar
enter_goes c k n lt made each log freed from time sweep (Enters step) stands scans kind next is v0 far behind =
    let m = state_of c made in
    let w = view_by c m n kind in
    let old = state_with n time from freed Enter sweep in
    let found = m.memory (entering_place n step) in
    let s = state_after (Enters step) log old found in
    entering_goes c k n made each v0 log s (Comes (EnterFar c n v0 w log s) (AnswersSo c Enter v0 w)) step kind is next
    (holds_nothing c (m.seats n) log freed from stands.4 stands.3) far
    (λ other so. so)
    (λ word taken other of so. (w, subst (HasTaken c v0 w) (sym of) taken, so))
    (λ word taken helped. ends_so c n v0 w log s word (state_keeps (Enters step) log old found).1 (section_begins c v0 w w word None taken helped))
enter_goes c k n lt made each log freed from time sweep (Helps step) stands scans kind next is v0 far behind =
    let m = state_of c made in
    let w = view_by c m n kind in
    let old = state_with n time from freed Enter sweep in
    let found = m.memory (helping_place step) in
    let s = state_after (Helps step) log old found in
    let word = helped_word step in
    help_goes c k n made each far.0 log s (Comes (EnterFar c n v0 w log s) (AnswersSo c Enter v0 w)) step kind is far.2
    (λ other of so. (far.0, subst (HasTaken c v0 far.0) (sym of) far.1, so))
    (λ last helped. ends_so c n v0 w log s word (state_keeps (Helps step) log old found).1 (section_begins c v0 far.0 w word last far.1 helped))
enter_goes c k n lt made each log freed from time sweep (Walks o step) stands scans kind next is v0 far behind = absurd far
enter_goes c k n lt made each log freed from time sweep (Locks version at step) stands scans kind next is v0 far behind = absurd far
enter_goes c k n lt made each log freed from time sweep (Writes at words word) stands scans kind next is v0 far behind = absurd far
enter_goes c k n lt made each log freed from time sweep (EndsSection step) stands scans kind next is v0 far behind = absurd far
enter_goes c k n lt made each log freed from time sweep (Tidies step) stands scans kind next is v0 far behind = absurd far
