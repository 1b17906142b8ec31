-- How a help of a clock word comes to its end: what each of its steps makes of the view at its begin.
use Rattle.std.proofs.Common.{◌≡◌, ◌≢◌, ℕ, ◌≤◌, ◌^◌, ◌==◌, List, Option, Some, None, refl, ap, ◌∙◌, subst, inl, Contains, if◌then◌else◌, eqb-true}
use Rattle.mv_history.specs.declared.Entry.{Entry}
use Rattle.mv_layout.specs.Words.{clock_slot_of}
use Rattle.mv_core.proofs.Terms.{Config, Checked, Clock}
use Rattle.mv_core.specs.declared.view.Knowledge.{Knowledge}
use Rattle.mv_core.specs.EnterSteps.{IsWhole, named_loaded, check_loaded, stamp_swapped}
use Rattle.mv_core.specs.Moves.{Moment, MoveKind, load_named, load_check, stamp}
use Rattle.commit_clock.specs.Helps.{Helps, FindsClock}
use Rattle.commit_clock.proofs.Views.{helps_set, helps_gone, helps_stamped, helps_at_once}
use Rattle.replay_rules.specs.declared.seats.NotedVersion.{NotedVersion}
use Rattle.replay_rules.specs.declared.seats.State.{State}
use Rattle.replay_rules.specs.declared.seats.Helping.{Helping}
use Rattle.replay_rules.specs.declared.seats.Helping.TheVariants.{LoadNamed, LoadCheck, SwapStamp}
use Rattle.replay_rules.specs.declared.seats.NextStep.TheVariants as task
use Rattle.replay_rules.specs.declared.seats.Then.{Then}
use Rattle.replay_rules.specs.declared.seats.Then.TheVariants.{Goes}
use Rattle.replay_rules.specs.Tasks.{helping_place, named_place}
use Rattle.replay_rules.specs.GoesOn.{is_unset, helped_in, after_helping}
use Rattle.replay_rules.specs.Kinds.{IsKindOfHelping}
use Rattle.replay_rules.specs.States.{Made, state_of, AreMade}
use Rattle.replay_rules.proofs.runs.Sections.{helped_word}
use Rattle.replay_rules.proofs.runs.Stepping.{view_by}
use Rattle.replay_rules.proofs.runs.Known.{if_so, eqb_ne, leb_le, leb_gt, facts}

-- how far a help has come, by its view at the begin, its view now, and its next step
abbrev pub HelpFar : Config → Knowledge → Knowledge → Helping → Type 0
HelpFar c v w (LoadNamed word) = (clock_slot_of word ≢ 8191) × (w ≡ v)
HelpFar c v w (LoadCheck word unset) = (clock_slot_of word ≢ 8191) × (2 ^ 63 ≤ unset) × (w ≡ named_loaded c v word unset)
HelpFar c v w (SwapStamp word unset) =
    (clock_slot_of word ≢ 8191) × (2 ^ 63 ≤ unset)
    × ((h : List Entry) × IsWhole c (named_loaded c v word unset) word h × (w ≡ check_loaded c (named_loaded c v word unset) word h))

-- the help of a word is done, in which CLOCK was found to have this word, if it was loaded
pub record HasHelped (c : Config) (v w : Knowledge) (word : ℕ) (last : Option ℕ) : Type 0 where
  pub helps : Helps c v w word
  pub finds : FindsClock c v w last
  pub none : clock_slot_of word ≡ 8191 → w ≡ v

-- nothing is to be done where a word names no commit and counts as helped
pub helped_at_once : (c : Config) (v : Knowledge) (word : ℕ) → clock_slot_of word ≡ 8191 → Contains v.clocks.helped word → HasHelped c v v word None
helped_at_once c v word nobody helped = record {
  helps = helps_at_once c v v word 0 0 (λ e. helped) (inl (nobody, refl, refl));
  finds = refl;
  none = λ e. refl;
}

-- a load of CLOCK finds the word of the whole history
pub whole_now : (c : Config) → Checked c → (n : ℕ) (made : List Made) → AreMade c made
    → IsWhole c ((state_of c made).seats n) ((state_of c made).memory Clock) (state_of c made).history
whole_now c k n made each = let f = facts c k n made each in ((f.history.seats n).seen, f.history.long, f.history.makers)

module _ (c : Config) (k : Checked c) (n : ℕ) (made : List Made) (each : AreMade c made) (v : Knowledge) (log : List NotedVersion) (s : State)
    (P : Then → Type 0) where
  abbrev m : Moment
  m = state_of c made

  -- what is to be shown of the calls behind: they go on with the next step of the help, or the word is helped
  abbrev Goes_on : Knowledge → ℕ → Type 0
  Goes_on w word = (next : Helping) → helped_word next ≡ word → HelpFar c v w next → P (Goes (task.Helps next))

  abbrev Is_done : Knowledge → ℕ → Type 0
  Is_done w word = (last : Option ℕ) → HasHelped c v w word last → P (helped_in s.call c log s word)

  named_goes : (word : ℕ) (w : Knowledge) → HelpFar c v (m.seats n) (LoadNamed word) → w ≡ view_by c m n (load_named word)
      → Goes_on w word → Is_done w word → P (after_helping (LoadNamed word) c log s (m.memory (named_place word)))
  named_goes word w far is on done =
      let found = m.memory (named_place word) in
      let view : w ≡ named_loaded c v word found = is ∙ ap (λ (u : Knowledge). named_loaded c u word found) far.1 in
      if_so P (is_unset found) (Goes (task.Helps (LoadCheck word found))) (helped_in s.call c log s word)
      (λ unset. on (LoadCheck word found) refl (far.0, leb_le 9223372036854775808 found unset, view))
      (λ set. done None (record {
        helps = helps_set c v word w found view (leb_gt 9223372036854775808 found set);
        finds = ap (λ (u : Knowledge). u.past) view;
        none = λ e. absurd (far.0 e);
      }))

  check_goes : (word unset : ℕ) (w : Knowledge) → HelpFar c v (m.seats n) (LoadCheck word unset) → w ≡ view_by c m n load_check
      → Goes_on w word → Is_done w word → P (after_helping (LoadCheck word unset) c log s (m.memory Clock))
  check_goes word unset w far is on done =
      let found = m.memory Clock in
      let before = named_loaded c v word unset in
      let whole : IsWhole c before found m.history = subst (λ (u : Knowledge). IsWhole c u found m.history) far.2 (whole_now c k n made each) in
      let view : w ≡ check_loaded c before found m.history = is ∙ ap (λ (u : Knowledge). check_loaded c u found m.history) far.2 in
      if_so P (found == word) (Goes (task.Helps (SwapStamp word unset))) (helped_in s.call c log s word)
      (λ same.
      let e = eqb-true found word same in
      on (SwapStamp word unset) refl (
        far.0,
        far.1,
        (
          m.history,
          subst (λ x. IsWhole c before x m.history) e whole,
          view ∙ ap (λ x. check_loaded c before x m.history) e,
        ),
      ))
      (λ other. done (Some found) (record {
        helps = helps_gone c v word unset far.1 before w found m.history refl whole.0 view (eqb_ne found word other);
        finds = (m.history, whole, ap (λ (u : Knowledge). u.past) view);
        none = λ e. absurd (far.0 e);
      }))

  swap_goes : (word unset : ℕ) (w : Knowledge) → HelpFar c v (m.seats n) (SwapStamp word unset) → w ≡ view_by c m n (stamp word unset)
      → Is_done w word → P (after_helping (SwapStamp word unset) c log s (m.memory (named_place word)))
  swap_goes word unset w far is done =
      let found = m.memory (named_place word) in
      let before = named_loaded c v word unset in
      let h = far.2 in
      let checked = check_loaded c before word h.0 in
      let there : ℕ = if found == unset then unset else found in
      let swapped : view_by c m n (stamp word unset) ≡ stamp_swapped c (m.seats n) word unset there =
      if_so (λ x. (if found == unset then stamp_swapped c (m.seats n) word unset unset else stamp_swapped c (m.seats n) word unset found)
      ≡ stamp_swapped c (m.seats n) word unset x) (found == unset) unset found
      (λ e. ap (λ x. if x then stamp_swapped c (m.seats n) word unset unset else stamp_swapped c (m.seats n) word unset found) e)
      (λ e. ap (λ x. if x then stamp_swapped c (m.seats n) word unset unset else stamp_swapped c (m.seats n) word unset found) e) in
      let view : w ≡ stamp_swapped c checked word unset there =
      is ∙ swapped ∙ ap (λ (u : Knowledge). stamp_swapped c u word unset there) h.2 in
      done (Some word) (record {
        helps = helps_stamped c v word unset far.1 before checked w word there h.0 refl h.1.0 refl view;
        finds = (h.0, h.1, ap (λ (u : Knowledge). u.past) view);
        none = λ e. absurd (far.0 e);
      })

  -- a step of a help goes on to the next one, or the word is helped
  pub help_goes : (step : Helping) (kind : MoveKind) → IsKindOfHelping step kind → HelpFar c v ((state_of c made).seats n) step
      → ((next : Helping) → helped_word next ≡ helped_word step → HelpFar c v (view_by c (state_of c made) n kind) next → P (Goes (task.Helps next)))
      → ((last : Option ℕ) → HasHelped c v (view_by c (state_of c made) n kind) (helped_word step) last → P (helped_in s.call c log s (helped_word step)))
      → P (after_helping step c log s ((state_of c made).memory (helping_place step)))
  help_goes (LoadNamed word) kind is far on done = named_goes word (view_by c m n kind) far (ap (view_by c m n) is) on done
  help_goes (LoadCheck word unset) kind is far on done = check_goes word unset (view_by c m n kind) far (ap (view_by c m n) is) on done
  help_goes (SwapStamp word unset) kind is far on done = swap_goes word unset (view_by c m n kind) far (ap (view_by c m n) is) done
