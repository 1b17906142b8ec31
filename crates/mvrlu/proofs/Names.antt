-- The name of a domain tells its numbers and its table, so a pass that fits a domain is of it.
use Rattle.std.proofs.Common.{◌≡◌, ◌<◌, ℕ, List, length, arith, sym, ap, ◌∙◌, subst}
use Rattle.mv_history.specs.declared.Protocol.{Ghosts}
use Rattle.mv_history.specs.State.{State, Writes}
use Rattle.mv_layout.specs.declared.Config.{Config}
use Rattle.object_lock.specs.mv_core.declared.shared.Shared.{Shared}
use Rattle.object_lock.specs.mv_core.declared.shared.Pass.{Pass}
use Rattle.object_lock.specs.mv_core.Passes.{IsOf, IsSame, config_of, home_of, start_of, table_of}
use Rattle.object_lock.proofs.mv_core_lemmas.Homes.{homes_apart}
use Rattle.object_lock.specs.seat_log.Notes.{Noted}
use Rattle.mvrlu.specs.Placed.{Placed, placed, IsPlaced, Fits}

module _ {P : Type 0} (s : Shared P) (p : Placed) (f : Fits s p) where
  pub fits_config : config_of s ≡ p.config
  fits_config = sym (homes_apart p.config (config_of s) p.table (table_of s) f.0).0

  pub fits_table : p.table ≡ table_of s
  fits_table = (homes_apart p.config (config_of s) p.table (table_of s) f.0).1

-- its pass is of the domain
pub fits_pass : {P : Type 0} {g : Ghosts P} (starts : State → Type 0) (allows : List ℕ → State → Writes → Type 0) (s : Shared P)
    (pass : Pass P g) (log : Noted) → Fits s (placed pass log) → IsPlaced starts allows (placed pass log) → IsOf s pass
fits_pass starts allows s pass log fits is =
    let config = sym (fits_config s (placed pass log) fits) in (
      fits_table s (placed pass log) fits,
      subst (λ (d : Config). pass.number < d.seats) config (subst (λ (n : ℕ). n < pass.domain.seats) (sym pass.numbered) is.range),
      is.base ∙ ap (λ (d : Config). d.base) config,
      fits.1,
      config,
    )

-- and it fits it still
pub fits_on : {P : Type 0} {g : Ghosts P} (s : Shared P) (p q : Pass P g) (l m : Noted) → IsSame p q → Fits s (placed p l) → Fits s (placed q m)
fits_on s p q l m same fits = ((λ i. home_of (same.2 i) (same.0 i)) ∙ fits.0, same.4 ∙ fits.1)

-- an object of its opening state is one of the domain
pub range_of : {P : Type 0} (s : Shared P) (object : ℕ) → object < length (start_of s) → object < (config_of s).objects
range_of s object lt = let long = s.opening in let same = ap (λ (c : Config). c.objects) s.about in omega arith
