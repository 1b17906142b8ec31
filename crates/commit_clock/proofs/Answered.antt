-- What naming an entry answers, by what the exchange of CLOCK told.
use Rattle.std.proofs.Common.{◌≡◌, ◌≢◌, ℕ, ◌+◌, List, refl, sym, subst}
use Rattle.mv_history.specs.declared.Entry.{Entry}
use Rattle.mv_layout.specs.declared.Config.{Config}
use Rattle.mv_layout.specs.Words.{clock_time_of, clock_seat_of}
use Rattle.mv_core.specs.declared.swap.Swap.{Swap}
use Rattle.mv_core.specs.declared.swap.Swap.TheVariants.{Won, Found}
use Rattle.mv_core.specs.declared.view.Knowledge.{Knowledge}
use Rattle.mv_core.specs.SectionFacts.{IsWord}
use Rattle.mv_core.specs.Swaps.{found_by, IsSwap}
use Rattle.mv_core.specs.EnterSteps.{IsWhole}
use Rattle.mv_core.specs.NameSteps.{LogTold, IsOvertaken}
use Rattle.commit_clock.specs.declared.naming.Named.{Named}
use Rattle.commit_clock.specs.declared.naming.Named.TheVariants.{Done, Lost}
use Rattle.commit_clock.specs.Names.{Names, LogNamed, named_by}

-- what the exchange left, by whether it was won or lost
pub names_told : (c : Config) (v w : Knowledge) (word : ℕ) (won : List Entry → Knowledge) (lost : ℕ → List Entry → Knowledge) (swap : Swap) (named : Named)
    → (swap ≡ Won → named ≡ Done (clock_time_of word + 1))
    → ((found : ℕ) → swap ≡ Found found → named ≡ Lost (record { seat = clock_seat_of found; time = clock_time_of found }))
    → IsWord c (found_by word swap) → IsSwap word swap
    → (found_by word swap ≡ word → (h : List Entry) × IsWhole c v word h × (w ≡ won h))
    → (found_by word swap ≢ word
    → (h : List Entry) × IsWhole c v (found_by word swap) h × (w ≡ lost (found_by word swap) h) × IsOvertaken c word (found_by word swap) h)
    → Names c v word won lost named w
names_told c v w word won lost Won named is_done is_lost is_word swapped told_won told_lost =
    subst (λ (n : Named). Names c v word won lost n w) (sym (is_done refl)) (refl, told_won refl)
names_told c v w word won lost (Found found) named is_done is_lost is_word other told_won told_lost =
    let told = told_lost other in
    subst (λ (n : Named). Names c v word won lost n w) (sym (is_lost found refl))
    (found, told.0, record { is_word = is_word; rival_is = refl; whole = told.1; overtaken = told.3 }, told.2)

-- the own log just before a commit that was named
pub log_told : (c : Config) (v : Knowledge) (word : ℕ) (swap : Swap) (named : Named) → named ≡ named_by word swap → LogTold c v (found_by word swap)
    → LogNamed c v word named
log_told c v word Won named is told = subst (LogNamed c v word) (sym is) told
log_told c v word (Found found) named is told = subst (LogNamed c v word) (sym is) tt
