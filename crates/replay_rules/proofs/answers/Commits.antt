-- A commit tries its exchange of CLOCK once, and comes to what the contract of the runtime's commit says.
use Rattle.std.proofs.Common.{◌≡◌, ◌≢◌, ℕ, ◌+◌, ◌-◌, ◌<◌, ◌≤◌, ◌==◌, ltb, List, [], ◌∷◌, ◌++◌, length, Option, Some, None, true, false}
use Rattle.std.proofs.Common.{refl, sym, ap, ◌∙◌, subst, arith, eq-eqb, ne_eqb, eqb-true, if◌then◌else◌, Contains}
use Rattle.mv_history.specs.declared.Step.{Step}
use Rattle.mv_history.specs.declared.answers.Rival.{Rival}
use Rattle.mv_layout.specs.Words.{clock_time_of, clock_seat_of, clock_slot_of}
use Rattle.mv_core.proofs.Terms.{dite, ℕ_discrete, Config, Checked, Clock, Stamp}
use Rattle.mv_core.specs.declared.view.Knowledge.{Knowledge}
use Rattle.mv_core.specs.declared.view.Phase.TheVariants.{Outside, Inside}
use Rattle.mv_core.specs.declared.view.OwnSection.{OwnSection}
use Rattle.mv_core.specs.declared.view.WalkStage.TheVariants.{Nowhere}
use Rattle.mv_core.specs.Known.{Known}
use Rattle.mv_core.specs.Rings.{held_count}
use Rattle.mv_core.specs.Views.{no_clocks}
use Rattle.mv_core.specs.EnterSteps.{IsWhole, check_loaded, stamp_swapped, mark_cleared}
use Rattle.mv_core.specs.NameSteps.{MayNameCommit, commit_named, commit_lost, super_stored}
use Rattle.mv_core.specs.Moves.{Moment, MoveKind, act, stamp}
use Rattle.mv_core.proofs.frames.FrameLaw.{set_at_here}
use Rattle.mv_core.proofs.kinds.naming.LostClock.{lost_overtaken}
use Rattle.reader_marks.specs.Sections.{inside_of, section_in}
use Rattle.commit_clock.specs.Names.{IsLost}
use Rattle.commit_clock.proofs.Views.{loaded_now}
use Rattle.commit_abort.specs.declared.committing.Ended.TheVariants as ends
use Rattle.commit_abort.specs.Commits.{Commits, IsOvertakenBy}
use Rattle.commit_abort.specs.Finishes.{IsFinishStep}
use Rattle.commit_abort.specs.Finishes as finishes
use Rattle.commit_abort.proofs.Tried.{at_end, phase_next}
use Rattle.commit_abort.proofs.TriedEnds.{committed, overtaken}
use Rattle.replay_rules.specs.declared.plan.Call.TheVariants.{Commit}
use Rattle.replay_rules.specs.declared.seats.NotedVersion.{NotedVersion}
use Rattle.replay_rules.specs.declared.seats.State.{State}
use Rattle.replay_rules.specs.declared.seats.Sweep.{Sweep}
use Rattle.replay_rules.specs.declared.seats.Helping.{Helping}
use Rattle.replay_rules.specs.declared.seats.Helping.TheVariants.{LoadNamed, LoadCheck, SwapStamp}
use Rattle.replay_rules.specs.declared.seats.Ending.TheVariants.{LoadNow, Name, StampOwn, StoreSuper, Unlock, LoadDeath, Leave}
use Rattle.replay_rules.specs.declared.seats.Leaving.TheVariants.{Plainly, WithCommit, WithAbort}
use Rattle.replay_rules.specs.declared.seats.NextStep.{NextStep}
use Rattle.replay_rules.specs.declared.seats.NextStep.TheVariants.{Enters, Helps, Walks, Locks, Writes, EndsSection, Tidies}
use Rattle.replay_rules.specs.declared.seats.CallAnswer.TheVariants.{Committed}
use Rattle.replay_rules.specs.declared.seats.Then.{Then}
use Rattle.replay_rules.specs.declared.seats.Then.TheVariants.{Goes, Ends}
use Rattle.replay_rules.specs.declared.seats.Test.TheVariants.{IsLinked}
use Rattle.replay_rules.specs.SeatNotes.{version_at, first_from}
use Rattle.replay_rules.specs.Tasks.{helping_place, commit_clock, stamp_from}
use Rattle.replay_rules.specs.GoesOn.{is_last, name, help, store_super, after_now, after_name, after_helping}
use Rattle.replay_rules.specs.NextSteps.{IsStepOf}
use Rattle.replay_rules.specs.Kinds.{IsKindOf, no_tag}
use Rattle.replay_rules.specs.States.{any_commit, any_start, Made, state_of, AreMade}
use Rattle.replay_rules.specs.Answers.{AnswersSo}
use Rattle.replay_rules.proofs.runs.Sections.{InSection, helped_word, later}
use Rattle.replay_rules.proofs.runs.Standing.{step_of}
use Rattle.replay_rules.proofs.runs.Stepping.{view_by}
use Rattle.replay_rules.proofs.runs.Known.{if_so, eqb_ne, ltb_lt, facts, view_there, knows}
use Rattle.replay_rules.proofs.runs.LogFacts.{held_are}
use Rattle.replay_rules.proofs.runs.Searches.{first_within, first_after}
use Rattle.replay_rules.proofs.answers.Trails.{Grows, grows_none, grows_one, grows_within}
use Rattle.replay_rules.proofs.answers.Helps.{helped_at_once, whole_now, help_goes}
use Rattle.replay_rules.proofs.answers.Progress.{Comes, state_with, BeginsSo, GoesOnSo}
use Rattle.replay_rules.proofs.answers.CommitFar.{Opens, LoadedNow, HelpingNow, HelpedNow, NamedNow, FinishingBy, Finishing, CommitFar}

-- a seat that is in a section and in no call is in an open one
opens_now : (c : Config) → Checked c → (v : Knowledge) (log : List NotedVersion) (freed from : ℕ) (time : Option ℕ) → InSection c v log freed from time
    → Opens v log from
opens_now c k v log freed from time i =
    let is : section_in v ≡ i.section = ap inside_of i.walking.phase in
    record {
      phase = i.walking.phase ∙ (λ j. Inside (sym is j));
      open_is = ap (λ (s : OwnSection). s.mode) is ∙ i.walking.open_is;
      past_help = subst (λ (s : OwnSection). Contains v.clocks.helped s.word) (sym is) i.walking.helped;
      held = held_are c k v log freed from i.logs;
    }

-- a finish has made one step more
finish_one : (z v w : Knowledge) (made : ℕ) (s : Step) → FinishingBy z v made → w.trail ≡ v.trail ++ s ∷ [] → IsFinishStep s.kind
    → w ≡ record v { phase = w.phase; clocks = w.clocks; ring = w.ring; trail = w.trail } → FinishingBy z w (made + 1)
finish_one z v w made s f trail is rest = record {
  trail = subst (Grows IsFinishStep (made + 1) z.trail) (sym trail) (grows_one IsFinishStep made z.trail v.trail s is f.trail);
  rest = rest ∙ ap (λ (u : Knowledge). record u { phase = w.phase; clocks = w.clocks; ring = w.ring; trail = w.trail }) f.rest;
}

-- and none yet
finish_none : (z : Knowledge) → FinishingBy z z 0
finish_none z = record { trail = grows_none IsFinishStep z.trail; rest = refl }

-- a finish whose section was left
finished : (c : Config) (z v : Knowledge) (made most : ℕ) → FinishingBy z v made → made + 1 ≤ most → finishes.Finishes z (mark_cleared c v) most
finished c z v made most f few = record {
  outside = refl;
  trail = grows_within IsFinishStep (made + 1) most z.trail (mark_cleared c v).trail few (grows_one IsFinishStep made z.trail v.trail _ tt f.trail);
  rest = ap
      (λ (u : Knowledge).
      record u { phase = Outside; clocks = no_clocks; walk = Nowhere; back = None; ring = v.ring; trail = (mark_cleared c v).trail })
      f.rest;
}

-- more steps than were made
finishing_within : (c : Config) (v w : Knowledge) (time made more : ℕ) → made ≤ more → Finishing c v w time made → Finishing c v w time more
finishing_within c v w time made more le f = record {
  at_name = f.at_name;
  named = f.named;
  by_steps = record {
    trail = grows_within IsFinishStep made more f.at_name.trail w.trail le f.by_steps.trail;
    rest = f.by_steps.rest;
  };
}

-- the section of a commit that was finished has ended, and its answer is the time
commit_ends : (c : Config) (v0 v : Knowledge) (log : List NotedVersion) (from time : ℕ) → Opens v0 log from → Finishing c v0 v time (held_count v0.ring + 1)
    → Commits c v0 (mark_cleared c v) (section_in v0) no_tag time
commit_ends c v0 v log from time opens f =
    let won = f.named in
    let load = won.helped.loaded in
    let held = held_count v0.ring in
    committed c v0 won.helped.loaded_by won.word load.history load.whole load.is (section_in v0) opens.phase opens.past_help won.before
    won.helped.helps opens.open_is no_tag f.at_name (mark_cleared c v) time held won.history won.time_is won.whole won.is
    (finished c f.at_name v (held + 1) (held + 2) f.by_steps (omega arith)) refl

module _ (c : Config) (k : Checked c) (n : ℕ) (made : List Made) (each : AreMade c made) (v0 : Knowledge) (log : List NotedVersion) (freed from : ℕ)
    (time : Option ℕ) (sweep : Sweep) (opens : Opens v0 log from) where
  abbrev m : Moment
  m = state_of c made

  abbrev v : Knowledge
  v = m.seats n

  abbrev s : State
  s = state_with n time from freed Commit sweep

  -- what a commit of this seat comes to, by the view behind its step
  abbrev To : Knowledge → Then → Type 0
  To w = Comes (CommitFar c n v0 w log s) (AnswersSo c Commit v0 w)

  -- what is known behind a step
  known_behind : (task : NextStep) (kind : MoveKind) → IsStepOf c made (step_of n kind) n task → Known any_start any_commit (view_by c m n kind)
  known_behind task kind next =
      subst (Known any_start any_commit) (set_at_here m.seats n (view_by c m n kind)) (knows c k n (step_of n kind ∷ made) (next.may, each))

  -- once the word is helped the exchange is next
  name_next : (w : Knowledge) (word : ℕ) → HelpedNow c v0 w word → To w (name c s word)
  name_next w word h =
      if_so (To w) (is_last (clock_time_of word)) (Ends (Committed ends.End)) (Goes (EndsSection (Name word (commit_clock c word n from))))
      (λ last. absurd (h.loaded.early (eqb-true (clock_time_of word) 35184372088831 last)))
      (λ more. (opens, h))

  -- CLOCK was loaded
  pub now_goes : (w : Knowledge) → v ≡ v0 → w ≡ check_loaded c v (m.memory Clock) m.history → Known any_start any_commit w
      → To w (after_now Commit c log s (m.memory Clock))
  now_goes w same is known =
      let word = m.memory Clock in
      let h = m.history in
      let whole : IsWhole c v0 word h = subst (λ (u : Knowledge). IsWhole c u word h) same (whole_now c k n made each) in
      let view : w ≡ check_loaded c v0 word h = is ∙ ap (λ (u : Knowledge). check_loaded c u word h) same in
      if_so (To w) (is_last (clock_time_of word)) (Ends (Committed ends.End)) (help c log s word)
      (λ last. at_end c v0 w word h whole view (section_in v0) opens.phase opens.past_help (eqb-true (clock_time_of word) 35184372088831 last))
      (λ more.
      let loaded : LoadedNow c v0 w word = record {
        history = h;
        whole = whole;
        is = view;
        knows = known;
        early = eqb_ne (clock_time_of word) 35184372088831 more;
      } in
      if_so (To w) (clock_slot_of word == 8191) (name c s word) (Goes (Helps (LoadNamed word)))
      (λ nobody.
      let none = eqb-true (clock_slot_of word) 8191 nobody in
      let done = helped_at_once c w word none (known.none word (loaded_now c v0 w word h view) none) in
      name_next w word (record { loaded_by = w; loaded = loaded; helps = done.helps }))
      (λ other. (opens, record { loaded_by = w; loaded = loaded; far = (eqb_ne (clock_slot_of word) 8191 other, refl) })))

  -- a step of the help was made
  pub helping_goes : (step : Helping) (kind : MoveKind) → IsKindOf (Helps step) kind → HelpingNow c v0 v step
      → To (view_by c m n kind) (after_helping step c log s (m.memory (helping_place step)))
  helping_goes step kind is h =
      let w = view_by c m n kind in
      let x = h.loaded_by in
      help_goes c k n made each x log s (To w) step kind is h.far
      (λ next same far. (opens, record { loaded_by = x; loaded = subst (LoadedNow c v0 x) (sym same) h.loaded; far = far }))
      (λ last has. name_next w (helped_word step) (record { loaded_by = x; loaded = h.loaded; helps = has.helps }))

  module _ (word : ℕ) (h : HelpedNow c v0 v word) (inside : OwnSection) (may : MayNameCommit any_commit c v word no_tag inside) where
    -- the exchange was won
    name_won : m.memory Clock ≡ word → NamedNow c v0 (commit_named c v inside no_tag word m.history) (clock_time_of word + 1)
    name_won won =
        let load = h.loaded in
        let still = phase_next c v0 h.loaded_by word load.history load.whole load.is (section_in v0) opens.phase opens.past_help v h.helps opens.open_is in
        let both : Inside inside ≡ Inside (section_in v0) = sym may.phase ∙ still in
        let same : inside ≡ section_in v0 = cc in
        record {
          word = word;
          before = v;
          helped = h;
          time_is = refl;
          history = m.history;
          whole = subst (λ (x : ℕ). IsWhole c v x m.history) won (whole_now c k n made each);
          is = ap (λ (i : OwnSection). commit_named c v i no_tag word m.history) same;
        }

    -- and lost
    abbrev rival : Rival
    rival = record { seat = clock_seat_of (m.memory Clock); time = clock_time_of (m.memory Clock) }

    name_lost : m.memory Clock ≢ word → Known any_start any_commit (commit_lost c v (m.memory Clock) m.history)
        → IsOvertakenBy c v0 (commit_lost c v (m.memory Clock) m.history) (section_in v0) rival
    name_lost lost known =
        let load = h.loaded in
        let f = facts c k n made each in
        let told : IsLost c v word (m.memory Clock) rival m.history = record {
          is_word = f.loaded_words.clock_is;
          rival_is = refl;
          whole = whole_now c k n made each;
          overtaken = lost_overtaken v m.seats f (view_there c k n made each) word may.loaded lost;
        } in
        overtaken c v0 h.loaded_by word load.history load.whole load.is (section_in v0) opens.phase opens.past_help v h.helps opens.open_is
        (commit_lost c v (m.memory Clock) m.history) (m.memory Clock) m.history rival told refl any_start any_commit ∣ load.knows ∣₁ ∣ known ∣₁

  -- the exchange of CLOCK was tried
  pub name_goes : (word new : ℕ) (kind : MoveKind) → IsKindOf (EndsSection (Name word new)) kind
      → IsStepOf c made (step_of n kind) n (EndsSection (Name word new))
      → HelpedNow c v0 v word → To (view_by c m n kind) (after_name s word (m.memory Clock))
  name_goes word new kind is next h =
      let found = m.memory Clock in
      let w = view_by c m n kind in
      let inside = is.0 in
      let may : MayNameCommit any_commit c v word no_tag inside = subst (λ (q : MoveKind). (act any_commit c v q).may) is.1 next.may.may in
      let A = commit_named c v inside no_tag word m.history in
      let B = commit_lost c v found m.history in
      let view : w ≡ (if found == word then A else B) = ap (view_by c m n) is.1 in
      let goes = Goes (EndsSection (StampOwn from (clock_time_of word + 1))) in
      let again = Ends (Committed (ends.Again (record { seat = clock_seat_of found; time = clock_time_of found }))) in
      dite (ℕ_discrete found word)
      (λ won.
      let yes = eq-eqb found word won in
      subst (λ (u : Knowledge). To u (if found == word then goes else again)) (sym (view ∙ ap (λ b. if b then A else B) yes))
      (subst (To A) (sym (ap (λ b. if b then goes else again) yes)) (opens, name_won word h inside may won)))
      (λ lost.
      let no = ne_eqb found word lost in
      let lost_is : w ≡ B = view ∙ ap (λ b. if b then A else B) no in
      subst (λ (u : Knowledge). To u (if found == word then goes else again)) (sym lost_is)
      (subst (To B) (sym (ap (λ b. if b then goes else again) no))
      (name_lost word h inside may lost (subst (Known any_start any_commit) lost_is (known_behind (EndsSection (Name word new)) kind next)))))

  -- SUPER is stored next below a version from this place on, or the section is left
  super_next : (w : Knowledge) (at t2 : ℕ) → from ≤ at → at ≤ length log → Finishing c v0 w t2 (at + 1 - from)
      → To w (store_super log (first_from log at IsLinked) t2)
  super_next w at t2 first within f =
      let next = first_from log at IsLinked in
      let low = first_after log at IsLinked within in
      let high = first_within log at IsLinked within in
      let held = opens.held in
      if_so (To w) (ltb next (length log)) (Goes (EndsSection (StoreSuper next (version_at log next).previous t2)))
      (Goes (EndsSection (Leave (WithCommit t2))))
      (λ e. (
        opens,
        (omega (arith, first, low)),
        ltb_lt next (length log) e,
        finishing_within c v0 w t2 (at + 1 - from) (next + 1 - from) (omega (arith, low)) f,
      ))
      (λ e. (opens, finishing_within c v0 w t2 (at + 1 - from) (held_count v0.ring + 1) (omega (arith, within, held)) f))

  -- the own stamp was exchanged
  pub stamp_goes : (first t2 : ℕ) (kind : MoveKind) → IsKindOf (EndsSection (StampOwn first t2)) kind → first ≡ from → from ≤ length log → NamedNow c v0 v t2
      → To (view_by c m n kind) (store_super log (first_from log first IsLinked) t2)
  stamp_goes first t2 kind is at within named =
      let unset = stamp_from first in
      let w = view_by c m n kind in
      let found = m.memory (Stamp (clock_seat_of is.0) (clock_slot_of is.0)) in
      let so : (x : ℕ) → FinishingBy v (stamp_swapped c v is.0 unset x) 1 =
      λ x. finish_one v v (stamp_swapped c v is.0 unset x) 0 _ (finish_none v) refl tt refl in
      let both : FinishingBy v (view_by c m n (stamp is.0 unset)) 1 =
      if_so (λ (u : Knowledge). FinishingBy v u 1) (found == unset) (stamp_swapped c v is.0 unset unset) (stamp_swapped c v is.0 unset found)
      (λ e. so unset) (λ e. so found) in
      let by_steps : FinishingBy v w 1 = subst (λ (q : MoveKind). FinishingBy v (view_by c m n q) 1) (sym is.1) both in
      let one : 1 ≡ first + 1 - from = omega (arith, at) in
      super_next w first t2 (omega (arith, at)) (omega (arith, at, within))
      (record { at_name = v; named = named; by_steps = subst (FinishingBy v w) one by_steps })

  -- SUPER was stored below one version more
  pub super_goes : (at link t2 : ℕ) (kind : MoveKind) → IsKindOf (EndsSection (StoreSuper at link t2)) kind → from ≤ at → at < length log
      → Finishing c v0 v t2 (at + 1 - from) → To (view_by c m n kind) (store_super log (first_from log (at + 1) IsLinked) t2)
  super_goes at link t2 kind is first live f =
      let stored = super_stored c v link t2 is.0 is.1 is.2 in
      let one : at + 1 - from + 1 ≡ at + 1 + 1 - from = omega (arith, first) in
      let more : Finishing c v0 stored t2 (at + 1 + 1 - from) = record {
        at_name = f.at_name;
        named = f.named;
        by_steps = subst (FinishingBy f.at_name stored) one (finish_one f.at_name v stored (at + 1 - from) _ f.by_steps refl tt refl);
      } in
      super_next (view_by c m n kind) (at + 1) t2 (omega (arith, first)) (omega (arith, live))
      (subst (λ (u : Knowledge). Finishing c v0 u t2 (at + 1 + 1 - from)) (sym (ap (view_by c m n) is.3)) more)

pub commit_begins : BeginsSo Commit CommitFar
commit_begins c k fit n lt made each log freed from None rests may = let no : false ≡ true = may in absurd (cc)
commit_begins c k fit n lt made each log freed from (Some time) rests may =
    (opens_now c k ((state_of c made).seats n) log freed from (Some time) rests, refl)

pub commit_goes : GoesOnSo Commit CommitFar
commit_goes c k n lt made each log freed from time sweep (EndsSection LoadNow) stands scans kind next is v0 far behind =
    now_goes c k n made each v0 log freed from time sweep far.0 (view_by c (state_of c made) n kind) far.1 (ap (view_by c (state_of c made) n) is)
    (known_behind c k n made each v0 log freed from time sweep far.0 (EndsSection LoadNow) kind next)
commit_goes c k n lt made each log freed from time sweep (Helps (LoadNamed word)) stands scans kind next is v0 far behind =
    helping_goes c k n made each v0 log freed from time sweep far.0 (LoadNamed word) kind is far.1
commit_goes c k n lt made each log freed from time sweep (Helps (LoadCheck word unset)) stands scans kind next is v0 far behind =
    helping_goes c k n made each v0 log freed from time (later sweep ((state_of c made).memory Clock)) far.0 (LoadCheck word unset) kind is far.1
commit_goes c k n lt made each log freed from time sweep (Helps (SwapStamp word unset)) stands scans kind next is v0 far behind =
    helping_goes c k n made each v0 log freed from time sweep far.0 (SwapStamp word unset) kind is far.1
commit_goes c k n lt made each log freed from time sweep (EndsSection (Name word new)) stands scans kind next is v0 far behind =
    name_goes c k n made each v0 log freed from time sweep far.0 word new kind is next far.1
commit_goes c k n lt made each log freed from time sweep (EndsSection (StampOwn first t)) stands scans kind next is v0 far behind =
    let held = far.0.held in
    stamp_goes c k n made each v0 log freed from time sweep far.0 first t kind is stands.first_is (omega (arith, held)) far.1
commit_goes c k n lt made each log freed from time sweep (EndsSection (StoreSuper at link t)) stands scans kind next is v0 far behind =
    super_goes c k n made each v0 log freed from time sweep far.0 at link t kind is far.1 far.2 far.3
commit_goes c k n lt made each log freed from time sweep (EndsSection (Leave (WithCommit t))) stands scans kind next is v0 far behind =
    subst (λ (u : Knowledge). Commits c v0 u (section_in v0) no_tag t) (sym (ap (view_by c (state_of c made) n) is))
    (commit_ends c v0 ((state_of c made).seats n) log from t far.0 far.1)
commit_goes c k n lt made each log freed from time sweep (EndsSection (Leave Plainly)) stands scans kind next is v0 far behind = absurd far
commit_goes c k n lt made each log freed from time sweep (EndsSection (Leave (WithAbort dead))) stands scans kind next is v0 far behind = absurd far
commit_goes c k n lt made each log freed from time sweep (EndsSection (Unlock at o previous)) stands scans kind next is v0 far behind = absurd far
commit_goes c k n lt made each log freed from time sweep (EndsSection LoadDeath) stands scans kind next is v0 far behind = absurd far
commit_goes c k n lt made each log freed from time sweep (Enters step) stands scans kind next is v0 far behind = absurd far
commit_goes c k n lt made each log freed from time sweep (Walks o step) stands scans kind next is v0 far behind = absurd far
commit_goes c k n lt made each log freed from time sweep (Locks version at step) stands scans kind next is v0 far behind = absurd far
commit_goes c k n lt made each log freed from time sweep (Writes at words word) stands scans kind next is v0 far behind = absurd far
commit_goes c k n lt made each log freed from time sweep (Tidies step) stands scans kind next is v0 far behind = absurd far
