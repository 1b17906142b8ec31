-- A seat's pass and log behind their block: what holds of them there holds of the loan of them.
use Rattle.std.proofs.Common.{◌≡◌, ℕ, List, sym, ap, ◌∙◌, subst}
use Rattle.mv_history.specs.State.{State, Writes}
use Rattle.mv_history.specs.declared.Protocol.{Ghosts}
use Rattle.mv_layout.specs.declared.Config.{Config}
use Rattle.object_lock.specs.mv_core.declared.shared.Shared.{Shared}
use Rattle.object_lock.specs.mv_core.Passes.{IsOf, config_of, view}
use Rattle.object_lock.specs.seat_log.Stands.{Stands}
use Rattle.mvrlu.specs.declared.places.SeatState.{SeatState}
use Rattle.mvrlu.specs.Placed.{Placed, placed, IsPlaced, IsIdle, IsBusy, Fits}
use Rattle.mvrlu.proofs.Names.{fits_config, fits_pass}

module _ {P : Type 0} {g : Ghosts P} (lent there : SeatState P g) (same : lent ≡ there) where
  pub lent_view : (p : Placed) → placed there.pass there.log ≡ p → placed lent.pass lent.log ≡ p
  lent_view p is = ap (λ (v : SeatState P g). placed v.pass v.log) same ∙ is

  lent_as : (Is : Placed → Type 0) → Is (placed there.pass there.log) → Is (placed lent.pass lent.log)
  lent_as Is is = subst (λ (v : SeatState P g). Is (placed v.pass v.log)) (sym same) is

  pub lent_idle : (starts : State → Type 0) (allows : List ℕ → State → Writes → Type 0) → IsIdle starts allows (placed there.pass there.log)
      → IsIdle starts allows (placed lent.pass lent.log)
  lent_idle starts allows is = lent_as (IsIdle starts allows) is

  pub lent_busy : (starts : State → Type 0) (allows : List ℕ → State → Writes → Type 0) → IsBusy starts allows (placed there.pass there.log)
      → IsBusy starts allows (placed lent.pass lent.log)
  lent_busy starts allows is = lent_as (IsBusy starts allows) is

-- the loan of a seat's pass and log, which stand for this place of a seat of the domain
pub record Lent {P : Type 0} {g : Ghosts P} (s : Shared P) (Is : Placed → Type 0) (old : Placed) (lent : SeatState P g) : Type 0 where
  pub view_is : placed lent.pass lent.log ≡ old
  pub is : Is (placed lent.pass lent.log)
  pub fits : Fits s (placed lent.pass lent.log)
  pub config : config_of s ≡ lent.pass.domain
  pub of : IsOf s lent.pass
  pub stands : Stands (config_of s) (view lent.pass) lent.log

module _ {P : Type 0} {g : Ghosts P} (s : Shared P) {old : Placed} {lent there : SeatState P g} (same : lent ≡ there)
    (view_is : placed there.pass there.log ≡ old) (fits : Fits s old) where
  lend : (Is : Placed → Type 0) → (Is (placed lent.pass lent.log) → IsPlaced g.start g.allowed (placed lent.pass lent.log))
      → Is (placed there.pass there.log) → Lent s Is old lent
  lend Is its is =
      let on = lent_view lent there same old view_is in
      let here = lent_as lent there same Is is in
      let fitting : Fits s (placed lent.pass lent.log) = subst (Fits s) (sym on) fits in
      let config : config_of s ≡ lent.pass.domain = fits_config s (placed lent.pass lent.log) fitting in
      record {
        view_is = on;
        is = here;
        fits = fitting;
        config = config;
        of = fits_pass g.start g.allowed s lent.pass lent.log fitting (its here);
        stands = subst (λ (d : Config). Stands d (view lent.pass) lent.log) (sym config) (its here).stands;
      }

  pub lend_idle : IsIdle g.start g.allowed (placed there.pass there.log) → Lent s (IsIdle g.start g.allowed) old lent
  lend_idle is = lend (IsIdle g.start g.allowed) (λ idle. idle.placed) is

  pub lend_busy : IsBusy g.start g.allowed (placed there.pass there.log) → Lent s (IsBusy g.start g.allowed) old lent
  lend_busy is = lend (IsBusy g.start g.allowed) (λ busy. busy.placed) is
