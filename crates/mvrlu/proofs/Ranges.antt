-- How many objects there are, and when a section began.
use Rattle.std.proofs.Common.{◌≡◌, ℕ, ◌≤◌, List, length, sym, ap, ◌∙◌, subst, arith}
use Rattle.std.proofs.Math.Logic.{∥∥₁_elim}
use Rattle.std.proofs.Props.{props}
use Rattle.mv_history.specs.State.{State, Writes}
use Rattle.mv_history.specs.Meaning.{state_of}
use Rattle.mv_history.proofs.Snapshots.{length-state_of}
use Rattle.object_lock.specs.mv_core.declared.shared.Shared.{Shared}
use Rattle.object_lock.specs.mv_core.Passes.{start_of}
use Rattle.object_lock.specs.mv_core.Times.{last_own}
use Rattle.object_lock.specs.mv_core.Views.{IsUnnamed}
use Rattle.object_lock.specs.version_chain.Walks.{time_at, section_in}
use Rattle.mvrlu.specs.Placed.{Placed, section_from, IsBusy}
use Rattle.mvrlu.specs.Placed.{Fits}

pub objects_are : {P : Type 0} (s : Shared P) (p : Placed) → Fits s p → length (state_of (section_from p)) ≡ length (start_of s)
objects_are s p f = length-state_of (section_from p) ∙ ap length f.1

le_prop : {a b : ℕ} → IsProp (a ≤ b)
le_prop {a} {b} = hlevel props

pub begun_late : (starts : State → Type 0) (allows : List ℕ → State → Writes → Type 0) (p : Placed) → IsBusy starts allows p → p.config.base ≤ time_at p.view
begun_late starts allows p is =
    ∥∥₁_elim is.placed.known le_prop (λ k.
    let own : last_own p.view.base p.view.past.seen p.view.number ≤ time_at p.view = (k.section (section_in p.view) is.may.phase).own (subst IsUnnamed
    (sym is.may.open_is) tt) in
    let base = is.placed.base in
    omega arith)
