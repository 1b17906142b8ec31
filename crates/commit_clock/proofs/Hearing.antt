-- What loads of CLOCK found, put together from part to part.
use Rattle.std.proofs.Common.{◌≡◌, ℕ, ◌+◌, ◌≤◌, List, [], ◌∷◌, ◌++◌, All, refl, sym, ap, ◌∙◌, subst, ⊎_elim, arith, append-nil, append_assoc}
use Rattle.std.proofs.Common.{Option, Some, None, unwrap_or}
use Rattle.std.proofs.lemmas.List.Elements.{All-nil, All-cons, All-append, All-weaker}
use mathlib.Core.Logic.{dite}
use native.Mathlib.Decide.{ℕ_discrete}
use Rattle.mv_history.specs.declared.Entry.{Entry}
use Rattle.mv_history.specs.declared.Step.{Step}
use Rattle.mv_history.specs.declared.StepKind.TheVariants.{LoadNamed, LoadCheck, SwapStamp}
use Rattle.mv_layout.specs.declared.Config.{Config}
use Rattle.mv_layout.specs.declared.SharedWord.TheVariants.{Clock}
use Rattle.mv_layout.specs.Places.{place_of}
use Rattle.mv_layout.specs.Words.{clock_slot_of, clock_time_of}
use Rattle.mv_core.specs.declared.view.Knowledge.{Knowledge}
use Rattle.mv_core.specs.EnterSteps.{stamp_place, named_loaded, check_loaded, stamp_swapped, stored_if}
use Rattle.commit_clock.specs.declared.helping.StartedHelp.{StartedHelp}
use Rattle.commit_clock.specs.declared.helping.CheckedHelp.{CheckedHelp}
use Rattle.commit_clock.specs.Helps.{HelpStarts, StartsHelp, FindsStamped, EndsHelp}
use Rattle.commit_clock.specs.Hears.{TellsTime, FindsJust, HearsJust, FindsUpTo, Hears}

-- a part that makes no step
pub hears_none : (v w : Knowledge) (top : ℕ) → w.trail ≡ v.trail → Hears v w top
hears_none v w top same = record { made = []; trail = same ∙ sym (append-nil v.trail); most = All-nil (λ s. FindsUpTo top s) }

-- one step
pub hears_one : (v w : Knowledge) (top : ℕ) (s : Step) → w.trail ≡ v.trail ++ s ∷ [] → FindsUpTo top s → Hears v w top
hears_one v w top s trail up = record { made = s ∷ []; trail = trail; most = All-cons (λ s. FindsUpTo top s) s [] up (All-nil (λ s. FindsUpTo top s)) }

-- steps that load no time
pub hears_quiet : (v w : Knowledge) (top : ℕ) (made : List Step) → w.trail ≡ v.trail ++ made → All (λ s. TellsTime s.kind → ⊥) made → Hears v w top
hears_quiet v w top made trail none = record {
  made = made;
  trail = trail;
  most = All-weaker (λ (s : Step). TellsTime s.kind → ⊥) (λ s. FindsUpTo top s) (λ s quiet tells. absurd (quiet tells)) made none;
}

-- two parts, one after the other
pub hears_on : (v u w : Knowledge) (top : ℕ) → Hears v u top → Hears u w top → Hears v w top
hears_on v u w top a b = record {
  made = a.made ++ b.made;
  trail = b.trail ∙ ap (λ (l : List Step). l ++ b.made) a.trail ∙ append_assoc v.trail a.made b.made;
  most = All-append (λ s. FindsUpTo top s) a.made b.made a.most b.most;
}

-- a greater time
pub hears_more : (v w : Knowledge) (low top : ℕ) → low ≤ top → Hears v w low → Hears v w top
hears_more v w low top le k = record {
  made = k.made;
  trail = k.trail;
  most = All-weaker (λ (s : Step). FindsUpTo low s) (λ s. FindsUpTo top s) (λ s up tells word found. let first = up tells word found in omega arith) k.made
      k.most;
}

-- the time of the word that each load found, or of another where there is none
pub hears_just : (v w : Knowledge) (word : Option ℕ) (other x : ℕ) → x ≡ unwrap_or word other → HearsJust v w word → Hears v w (clock_time_of x)
hears_just v w None other x is k = hears_quiet v w (clock_time_of x) k.made k.trail k.just
hears_just v w (Some word) other x is k = record {
  made = k.made;
  trail = k.trail;
  most = All-weaker (λ (s : Step). TellsTime s.kind → s.found ≡ Some word) (λ s. FindsUpTo (clock_time_of x) s)
      (λ s just tells found there.
      let same : Some found ≡ Some word = sym there ∙ just tells in
      let e : found ≡ word = cc in
      let le : clock_time_of found ≡ clock_time_of x = ap clock_time_of (e ∙ sym is) in
      omega arith) k.made k.just;
}

-- a help that was done at its start
pub hears_start : (c : Config) (v w : Knowledge) (word before after : ℕ) → HelpStarts c v w word before after None → HearsJust v w None
hears_start c v w word before after starts =
    ⊎_elim
    (λ (none : (clock_slot_of word ≡ 8191) × (w ≡ v) × (after ≡ before)).
    record { made = []; trail = ap (λ (u : Knowledge). u.trail) none.1 ∙ sym (append-nil v.trail); just = All-nil (λ s. FindsJust None s) })
    (λ (one : FindsStamped c v w word × (after ≡ before + 1)).
    let s : Step = record { kind = LoadNamed; word = place_of c (stamp_place word); found = Some one.0.found; stored = None } in
    record {
      made = s ∷ [];
      trail = ap (λ (u : Knowledge). u.trail) one.0.view;
      just = All-cons (λ s. FindsJust None s) s [] (λ tells. tells) (All-nil (λ s. FindsJust None s));
    })
    starts

module _ (c : Config) (v w x : Knowledge) (word unset clock : ℕ) (h : List Entry) (first : w ≡ named_loaded c v word unset)
    (then : x ≡ check_loaded c w clock h)
  where
    abbrev named : Step
    named = record { kind = LoadNamed; word = place_of c (stamp_place word); found = Some unset; stored = None }

    abbrev checked : Step
    checked = record { kind = LoadCheck; word = place_of c Clock; found = Some clock; stored = None }

    two : x.trail ≡ v.trail ++ named ∷ checked ∷ []
    two = ap (λ (u : Knowledge). u.trail) then ∙ ap (λ (u : Knowledge). u.trail ++ checked ∷ []) first ∙ append_assoc v.trail (named ∷ []) (checked ∷ [])

    hears_checked : HearsJust v x (Some clock)
    hears_checked = record {
      made = named ∷ checked ∷ [];
      trail = two;
      just = All-cons (λ s. FindsJust (Some clock) s) named (checked ∷ []) (λ tells. absurd tells)
          (All-cons (λ s. FindsJust (Some clock) s) checked [] (λ tells. refl) (All-nil (λ s. FindsJust (Some clock) s)));
    }

    hears_swapped : (y : Knowledge) (named_word old found : ℕ) → y ≡ stamp_swapped c x named_word old found → HearsJust v y (Some clock)
    unfolding hears_checked
    hears_swapped y named_word old found is =
        let s : Step = record {
          kind = SwapStamp;
          word = place_of c (stamp_place named_word);
          found = Some found;
          stored = stored_if found old (clock_time_of named_word);
        } in
        record {
          made = (named ∷ checked ∷ []) ++ s ∷ [];
          trail = ap (λ (u : Knowledge). u.trail) is ∙ ap (λ (l : List Step). l ++ s ∷ []) two ∙ append_assoc v.trail (named ∷ checked ∷ []) (s ∷ []);
          just = All-append (λ s. FindsJust (Some clock) s) (named ∷ checked ∷ []) (s ∷ []) hears_checked.just
              (All-cons (λ s. FindsJust (Some clock) s) s [] (λ tells. absurd tells) (All-nil (λ s. FindsJust (Some clock) s)));
        }

-- a help by its three parts
pub hears_by_parts : (c : Config) (v w x y : Knowledge) (word : ℕ) (help : StartedHelp) (k : CheckedHelp) (h : List Entry) (before after : ℕ)
    → StartsHelp c v w word help → x ≡ check_loaded c w k.clock h → EndsHelp c x y k before after → HearsJust v y (Some k.clock)
hears_by_parts c v w x y word help k h before after starts is ends =
    dite (ℕ_discrete k.clock k.word)
    (λ e. let t = ends.stamps e in hears_swapped c v w x word help.unset k.clock h starts.view is y k.word k.unset t.0 t.1)
    (λ ne.
    subst (λ (u : Knowledge). HearsJust v u (Some k.clock)) (sym (ends.none ne).0) (hears_checked c v w x word help.unset k.clock h starts.view is))
