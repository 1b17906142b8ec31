-- The views that the steps of a help leave.
use Rattle.std.proofs.Common.{◌≡◌, ◌≢◌, ℕ, ◌+◌, ◌<◌, ◌≤◌, ◌^◌, ◌==◌, Bool, true, false, cond, List, [], ◌∷◌}
use Rattle.std.proofs.Common.{◌++◌, length, sym, refl, ap, ◌∙◌, subst, ⊎_elim, inl, inr, append-nil, append_assoc, length-append, le-leb}
use Rattle.std.proofs.Common.{eq-eqb, ne_eqb, arith, All, Option, Some, None}
use Rattle.std.proofs.lemmas.Bool.{lt-leb}
use mathlib.Core.Logic.{dite}
use native.Mathlib.Decide.{ℕ_discrete}
use Rattle.std.specs.Prelude.{Contains}
use Rattle.std.proofs.lemmas.List.Elements.{Contains-append_left, Contains-append_right, Contains-push, All-nil, All-push}
use Rattle.mv_history.specs.declared.Entry.{Entry}
use Rattle.mv_history.specs.declared.Step.{Step}
use Rattle.mv_layout.specs.declared.Config.{Config}
use Rattle.mv_layout.specs.Words.{clock_slot_of}
use Rattle.mv_core.specs.declared.view.Knowledge.{Knowledge}
use Rattle.mv_core.specs.declared.view.LoadedClocks.{LoadedClocks}
use Rattle.mv_core.specs.HistoryFacts.{BeginsWith}
use Rattle.mv_core.specs.EnterSteps.{if_none, helped_too, named_clocks, named_loaded, checked_found, checked_helped, check_loaded, stamp_swapped}
use Rattle.mv_core.specs.declared.view.FoundStamp.{FoundStamp}
use Rattle.mv_core.proofs.kinds.helping.stamp.SwapStamp.{IsOwn, phase_after, own_says}
use Rattle.commit_clock.specs.declared.helping.StartedHelp.{StartedHelp}
use Rattle.commit_clock.specs.declared.helping.CheckedHelp.{CheckedHelp}
use Rattle.commit_clock.specs.Helps.{HasLoaded, IsHelpStep, Helps, HelpStarts, IsStarted, StartsHelp, FindsStamped, IsChecked, EndsHelp}

-- a word that a load of CLOCK has just found
pub loaded_now : (c : Config) (v w : Knowledge) (word : ℕ) (h : List Entry) → w ≡ check_loaded c v word h → HasLoaded w word
loaded_now c v w word h is = subst (λ (u : Knowledge). Contains u.clocks.loaded word) (sym is) (Contains-push v.clocks.loaded word)

-- a trail with at most so many steps more, all of a help
abbrev Grows : ℕ → List Step → List Step → Type 0
Grows n before after = (steps : List Step) × (after ≡ before ++ steps) × (length steps ≤ n) × All (λ s. IsHelpStep s.kind) steps

grows_none : (n : ℕ) (before : List Step) → Grows n before before
grows_none n before = ([], sym (append-nil before), (omega arith), All-nil (λ s. IsHelpStep s.kind))

-- and one step more
grows_one : (n : ℕ) (before after : List Step) (s : Step) → IsHelpStep s.kind → Grows n before after → Grows (n + 1) before (after ++ s ∷ [])
grows_one n before after s is t =
    let long : length (t.0 ++ s ∷ []) ≡ length t.0 + 1 = length-append t.0 (s ∷ []) in
    let few = t.2 in
    (t.0 ++ s ∷ [], ap (λ (l : List Step). l ++ s ∷ []) t.1 ∙ append_assoc before t.0 (s ∷ []), (omega arith), All-push (λ s. IsHelpStep s.kind) t.0 s t.3 is)

module _ (c : Config) (v : Knowledge) (word : ℕ) where
  -- nothing to help
  helps_none : Contains v.clocks.helped word → Helps c v v word
  helps_none helped = record {
    helped = helped;
    still_helped = λ x a. a;
    still_loaded = λ x a. a;
    phase = inl refl;
    past = (v.past.seen, ([], sym (append-nil v.past.seen)), refl);
    trail = grows_none 3 v.trail;
    rest = refl;
  }

  -- the stamp wasn't unset
  pub helps_set : (w : Knowledge) (found : ℕ) → w ≡ named_loaded c v word found → found < 2 ^ 63 → Helps c v w word
  helps_set w found is low =
      let set : named_clocks v.clocks word found ≡ helped_too v.clocks word =
      ap (λ (b : Bool). cond b (record v.clocks { found = Some (record { word = word; unset = found; checked = false }) }) (helped_too v.clocks word))
      (lt-leb 9223372036854775808 found low) in
      subst (λ (u : Knowledge). Helps c v u word) (sym is) (record {
        helped = subst (λ (x : LoadedClocks). Contains x.helped word) (sym set) (Contains-push v.clocks.helped word);
        still_helped = λ x a. subst (λ (y : LoadedClocks). Contains y.helped x) (sym set) (Contains-append_left v.clocks.helped (word ∷ []) x a);
        still_loaded = λ x a. subst (λ (y : LoadedClocks). Contains y.loaded x) (sym set) a;
        phase = inl refl;
        past = (v.past.seen, ([], sym (append-nil v.past.seen)), refl);
        trail = grows_one 2 v.trail v.trail _ tt (grows_none 2 v.trail);
        rest = refl;
      })

  module _ (found : ℕ) (big : 2 ^ 63 ≤ found) where
    -- what is noted after an unset stamp was found
    abbrev kept : LoadedClocks
    kept = record v.clocks { found = Some (record { word = word; unset = found; checked = false }) }

    kept_is : named_clocks v.clocks word found ≡ kept
    kept_is = ap (λ (b : Bool). cond b kept (helped_too v.clocks word)) (le-leb 9223372036854775808 found big)

    abbrev keeping : Knowledge
    keeping = record (named_loaded c v word found) { clocks = kept }

    -- the clock has another word
    pub helps_gone : (w x : Knowledge) (clock : ℕ) (h : List Entry) → w ≡ named_loaded c v word found → BeginsWith h w.past.seen → x ≡ check_loaded c w clock h
        → clock ≢ word → Helps c v x word
    helps_gone w x clock h is front is' ne =
        let same : x ≡ check_loaded c keeping clock h =
        is' ∙ ap (λ (u : Knowledge). check_loaded c u clock h) is
        ∙ ap (λ (y : LoadedClocks). check_loaded c (record (named_loaded c v word found) { clocks = y }) clock h) kept_is in
        let one : Contains (cond (word == clock) [] (word ∷ [])) word =
        subst (λ (b : Bool). Contains (cond b [] (word ∷ [])) word) (sym (ne_eqb word clock (λ e. ne (sym e)))) (Contains-push [] word) in
        subst (λ (u : Knowledge). Helps c v u word) (sym same) (record {
          helped = Contains-append_right v.clocks.helped (if_none clock ++ cond (word == clock) [] (word ∷ [])) word
              (Contains-append_right (if_none clock) (cond (word == clock) [] (word ∷ [])) word one);
          still_helped = λ y a. Contains-append_left v.clocks.helped (if_none clock ++ cond (word == clock) [] (word ∷ [])) y a;
          still_loaded = λ y a. Contains-append_left v.clocks.loaded (clock ∷ []) y a;
          phase = inl refl;
          past = (h, subst (λ (u : Knowledge). BeginsWith h u.past.seen) is front, refl);
          trail = grows_one 2 v.trail _ _ tt (grows_one 1 v.trail v.trail _ tt (grows_none 1 v.trail));
          rest = refl;
        })

    -- the clock has the word, and the exchange was made
    pub helps_stamped : (w x y : Knowledge) (clock there : ℕ) (h : List Entry) → w ≡ named_loaded c v word found → BeginsWith h w.past.seen
        → x ≡ check_loaded c w clock h → y ≡ stamp_swapped c x word found there → Helps c v y word
    helps_stamped w x y clock there h is front is' is'' =
        let before : x ≡ check_loaded c keeping clock h =
        is' ∙ ap (λ (u : Knowledge). check_loaded c u clock h) is
        ∙ ap (λ (y : LoadedClocks). check_loaded c (record (named_loaded c v word found) { clocks = y }) clock h) kept_is in
        let same : y ≡ stamp_swapped c (check_loaded c keeping clock h) word found there =
        is'' ∙ ap (λ (u : Knowledge). stamp_swapped c u word found there) before in
        let old : Knowledge = check_loaded c keeping clock h in
        let new : Knowledge = stamp_swapped c old word found there in
        subst (λ (u : Knowledge). Helps c v u word) (sym same) (record {
          helped = Contains-push old.clocks.helped word;
          still_helped =
              λ z a. Contains-append_left old.clocks.helped (word ∷ []) z
              (Contains-append_left v.clocks.helped (if_none clock ++ checked_helped kept.found clock) z a);
          still_loaded = λ z a. Contains-append_left v.clocks.loaded (clock ∷ []) z a;
          phase = ⊎_elim inl
              (λ (o : IsOwn c v.number word found v.phase).
              inr (record {
                inside = o.inside;
                naming = o.naming;
                phase = o.phase_is;
                mode = o.mode_is;
                word_is = (own_says c v.number word found o.naming o.own).0;
                after = o.after_is;
              }))
              (phase_after c v.number word found v.phase);
          past = (h, subst (λ (u : Knowledge). BeginsWith h u.past.seen) is front, refl);
          trail = grows_one 2 v.trail _ _ tt (grows_one 1 v.trail _ _ tt (grows_one 0 v.trail v.trail _ tt (grows_none 0 v.trail)));
          rest = refl;
        })

-- a help that has loaded CLOCK knows whether its stamp is checked, or its word helped
pub checks : (c : Config) (v w : Knowledge) (help : StartedHelp) (clock : ℕ) (h : List Entry) → IsStarted v help → w ≡ check_loaded c v clock h
    → IsChecked w (record { word = help.word; unset = help.unset; clock = clock })
checks c v w help clock h started is =
    let kept : FoundStamp = record { word = help.word; unset = help.unset; checked = false } in
    let good : FoundStamp = record { word = help.word; unset = help.unset; checked = true } in
    let front : List ℕ = if_none clock in record {
      due = λ e.
          ap (λ (u : Knowledge). u.clocks.found) is
          ∙ ap (λ (f : Option FoundStamp). checked_found f clock) started
          ∙ ap (λ (b : Bool). cond b (Some good) None) (eq-eqb help.word clock (sym e));
      gone = λ ne.
          let one : Contains (cond (help.word == clock) [] (help.word ∷ [])) help.word =
          subst (λ (b : Bool). Contains (cond b [] (help.word ∷ [])) help.word) (sym (ne_eqb help.word clock (λ e. ne (sym e)))) (Contains-push [] help.word) in
          let there : Contains (checked_helped v.clocks.found clock) help.word =
          subst (λ (f : Option FoundStamp). Contains (checked_helped f clock) help.word) (sym started) one in
          subst (λ (u : Knowledge). Contains u.clocks.helped help.word) (sym is)
          (Contains-append_right v.clocks.helped (front ++ checked_helped v.clocks.found clock) help.word
          (Contains-append_right front (checked_helped v.clocks.found clock) help.word there));
    }

-- a help that was done at its start, where a word that names no commit counts as helped
pub helps_at_once : (c : Config) (v w : Knowledge) (word before after : ℕ) → (clock_slot_of word ≡ 8191 → Contains v.clocks.helped word)
    → HelpStarts c v w word before after None → Helps c v w word
helps_at_once c v w word before after helped starts =
    ⊎_elim
    (λ (none : (clock_slot_of word ≡ 8191) × (w ≡ v) × (after ≡ before)).
    subst (λ (u : Knowledge). Helps c v u word) (sym none.1) (helps_none c v word (helped none.0)))
    (λ (one : FindsStamped c v w word × (after ≡ before + 1)). helps_set c v word w one.0.found one.0.view one.0.set)
    starts

-- a help by its three parts
pub helps_by_parts : (c : Config) (v w x y : Knowledge) (word : ℕ) (help : StartedHelp) (k : CheckedHelp) (h : List Entry) (before after : ℕ)
    → StartsHelp c v w word help → k ≡ record { word = help.word; unset = help.unset; clock = k.clock } → BeginsWith h w.past.seen
    → x ≡ check_loaded c w k.clock h → EndsHelp c x y k before after → Helps c v y word
helps_by_parts c v w x y word help k h before after starts same front is end =
    let ends = subst (λ (m : CheckedHelp). EndsHelp c x y m before after) same end in
    dite (ℕ_discrete k.clock help.word)
    (λ e.
    let t = ends.stamps e in
    helps_stamped c v word help.unset starts.unset w x y k.clock t.0 h starts.view front is
    (t.1 ∙ ap (λ (n : ℕ). stamp_swapped c x n help.unset t.0) starts.word_is))
    (λ ne.
    let t = ends.none ne in
    subst (λ (u : Knowledge). Helps c v u word) (sym t.0)
    (helps_gone c v word help.unset starts.unset w x k.clock h starts.view front is (λ e. ne (e ∙ sym starts.word_is))))
