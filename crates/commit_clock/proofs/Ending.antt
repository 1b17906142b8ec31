-- How a help that has loaded CLOCK ends.
use Rattle.std.proofs.Common.{◌≡◌, ◌≢◌, ℕ, ◌+◌, refl, sym, subst}
use Rattle.std.specs.Prelude.{Contains}
use Rattle.std.proofs.lemmas.List.Elements.{Contains-push}
use Rattle.mv_layout.specs.declared.Config.{Config}
use Rattle.mv_core.specs.declared.view.Knowledge.{Knowledge}
use Rattle.mv_core.specs.EnterSteps.{stamp_swapped}
use Rattle.commit_clock.specs.declared.helping.CheckedHelp.{CheckedHelp}
use Rattle.commit_clock.specs.Helps.{IsChecked, EndsHelp}

-- CLOCK had the word, and the stamp was exchanged
pub ends_stamped : (c : Config) (v w : Knowledge) (help : CheckedHelp) (found before after : ℕ) → help.clock ≡ help.word
    → w ≡ stamp_swapped c v help.word help.unset found → after ≡ before + 1 → EndsHelp c v w help before after
ends_stamped c v w help found before after same is step = record {
  stamps = λ e. (found, is, step);
  none = λ ne. absurd (ne same);
  helped = subst (λ (u : Knowledge). Contains u.clocks.helped help.word) (sym is) (Contains-push v.clocks.helped help.word);
}

-- CLOCK had another word, and nothing was done
pub ends_gone : (c : Config) (v : Knowledge) (help : CheckedHelp) (steps : ℕ) → IsChecked v help → help.clock ≢ help.word → EndsHelp c v v help steps steps
ends_gone c v help steps checked other = record { stamps = λ e. absurd (other e); none = λ ne. (refl, refl); helped = checked.gone other }
