-- What leaving a section means, with all that it held given up, and how it is counted.
use Rattle.std.proofs.Common.{◌≡◌, ℕ, ◌+◌, ◌==◌, Bool, false, List, [], ◌∷◌, length, refl, sym, ap, ◌∙◌, eq-eqb, ne_eqb, arith}
use Rattle.std.specs.Prelude.{None, if◌then◌else◌}
use Rattle.mv_history.specs.declared.StepKind.{StepKind}
use Rattle.mv_history.specs.declared.StepKind.TheVariants.{UnlockHead, LoadDeath, ClearMark}
use Rattle.mv_history.specs.State.{State, Writes}
use Rattle.mv_history.specs.Trail.{is_clock_exchange, clock_exchanges}
use Rattle.mv_history.specs.Calls.{Leaves}
use Rattle.object_lock.specs.mv_core.declared.view.Knowledge.{Knowledge}
use Rattle.object_lock.specs.mv_core.Known.{Known}
use Rattle.object_lock.specs.seat_log.Stands.{Stands}
use Rattle.commit_abort.specs.Aborts.{Aborts, IsAbortStep}
use Rattle.mvrlu.specs.Placed.{Placed, seat_from, section_from, IsIdle, IsBusy}
use Rattle.mvrlu.specs.Meant.{aborts_with}
use Rattle.mvrlu.proofs.Trails.{made, none_exchanged}
use Rattle.mvrlu.proofs.Continuing.{continues, placed_on}

no_exchange : (k : StepKind) → IsAbortStep k → is_clock_exchange k ≡ false
no_exchange UnlockHead h = refl
no_exchange LoadDeath h = refl
no_exchange ClearMark h = refl
no_exchange _ h = absurd h

module _ (p q : Placed) (most : ℕ) (config : q.config ≡ p.config) (table : q.table ≡ p.table) (a : Aborts p.view q.view most) where
  pub left_leaves : Leaves (section_from p) (seat_from q)
  left_leaves = record {
    continues = continues p q config table a.trail.0 (ap (λ (u : Knowledge). u.number) a.rest) (ap (λ (u : Knowledge). u.start) a.rest)
        (ap (λ (u : Knowledge). u.base) a.rest) a.seen a.trail.1;
    mine = ap (λ (u : Knowledge). u.past.mine) a.rest;
    rests = ap (λ (u : Knowledge). u.past.rests) a.rest;
    names_nothing = ap clock_exchanges (made p.view.trail q.view.trail a.trail.0 a.trail.1) ∙ none_exchanged IsAbortStep no_exchange a.trail.0 a.trail.3;
  }

  pub left_idle : (starts : State → Type 0) (allows : List ℕ → State → Writes → Type 0) → IsBusy starts allows p
      → ∥ Known starts allows q.view ∥₁ → Stands q.config q.view q.log → q.log.built ≡ None → IsIdle starts allows q
  left_idle starts allows is known stands unbuilt = record {
    placed = placed_on starts allows p q config is.placed (ap (λ (u : Knowledge). u.number) a.rest)
        (ap (λ (u : Knowledge). u.base) a.rest) known stands unbuilt;
    outside = record { outside = a.outside; no_scan = ap (λ (u : Knowledge). u.scan) a.rest ∙ is.no_scan };
  }

-- an abort is counted exactly where something was held
pub counted : (own : Writes) (held aborts : ℕ) → length own ≡ held → (if held == 0 then aborts else aborts + 1) ≡ aborts_with own aborts
counted [] held aborts long = ap (λ (none : Bool). if none then aborts else aborts + 1) (eq-eqb held 0 (sym long))
counted (w ∷ more) held aborts long =
    ap (λ (none : Bool). if none then aborts else aborts + 1)
    (ne_eqb held 0 (λ e. let none : length (w ∷ more) ≡ 0 = long ∙ e in absurd (omega arith)))
