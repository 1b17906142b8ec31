-- How a work was done from one seat to another.
use Rattle.std.specs.Prelude.{◌≤◌, ⊤}
use Rattle.mv_history.specs.Meaning.{Seat}
use Rattle.section_work.specs.declared.place.Place.{Place}
use Rattle.section_work.specs.Causes.{Causes}
use Rattle.section_work.specs.Works.{Meaning}
use Rattle.section_work.specs.Attempts.{Attempted}
use Rattle.section_work.specs.declared.attempting.Attempt.TheVariants.{Done}
use Rattle.work_runner.specs.Tries.{DoneBehind}

-- a work may be begun on the seat: it may hold what any of them locks, and what is remembered is right for it
pub record MayBegin {W R M : Type 0} (accepts : W → Type 0) (means : W → Meaning R) (knows : M → Seat → Type 0) (memo : M) (s : Seat) : Type 0 where
  pub most : (w : W) → accepts w → (means w).most ≤ s.write_max
  pub known : knows memo s

-- Behind attempts that made no commit there was one of this work that was done.
abbrev pub LinkedWork : {R : Type 0} → Causes → Meaning R → Seat → Seat → Place → R → Type 0
LinkedWork k m s t place reply = DoneBehind (λ old new. Attempted k m old new (Done reply place)) (λ u. ⊤) s t
