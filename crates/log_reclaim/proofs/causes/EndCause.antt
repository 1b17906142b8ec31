-- A round with a death after the last time has found that time in CLOCK.
use Rattle.std.proofs.Common.{◌≡◌, ℕ, ◌+◌, ◌<◌, ◌≤◌, length, Bool, List, ⊎_elim, arith}
use Rattle.std.proofs.Math.Logic.{∥∥₁_elim}
use Rattle.std.proofs.Math.Bridge.{le_prop}
use Rattle.mv_history.specs.State.{State, Writes}
use Rattle.mv_history.specs.declared.Step.{Step}
use Rattle.mv_layout.specs.declared.Config.{Config}
use Rattle.seat_log.specs.mv_core.declared.view.Knowledge.{Knowledge}
use Rattle.seat_log.specs.mv_core.Known.{Known}
use Rattle.seat_log.specs.declared.version.Note.{Note}
use Rattle.seat_log.specs.Notes.{Noted, IsNoteAt}
use Rattle.seat_log.specs.Stands.{Stands}
use Rattle.log_reclaim.specs.declared.settling.HeadHolders.{HeadHolders}
use Rattle.log_reclaim.specs.declared.rounds.RoundScan.{RoundScan}
use Rattle.log_reclaim.specs.Parts.{TimesDeath}
use Rattle.log_reclaim.specs.Sweeps.{Sweeps}
use Rattle.log_reclaim.specs.Holders.{FindsLast}
use Rattle.log_reclaim.proofs.causes.ScanCauses.{end_found}
use Rattle.log_reclaim.proofs.Needed.{death_known}

-- no time is above the last
pub time_in_range : (starts : State → Type 0) (allows : List ℕ → State → Writes → Type 0) (w : Knowledge) → ∥ Known starts allows w ∥₁
    → w.base + length w.past.seen ≤ 35184372088831
time_in_range starts allows w known = ∥∥₁_elim known le_prop (λ a. a.in_time)

-- a load of CLOCK that timed a death after the last time found that
timed_found : (made : List Step) (dead : ℕ) → TimesDeath made dead → dead ≡ 35184372088832 → FindsLast made
timed_found made dead t is =
    record { step = t.step; there = t.there; clock = t.clock; word = t.word; found = t.found; last = (let e = t.dead_is in omega arith) }

module _ (starts : State → Type 0) (allows : List ℕ → State → Writes → Type 0) (c : Config) (v w : Knowledge) (l m : Noted) (made : List Step) (back : Bool)
    (scanned : RoundScan) (found : HeadHolders) (freed : ℕ)
    (k : Sweeps c v w l m made back scanned found freed) (stands : Stands c v l) (before : ∥ Known starts allows v ∥₁)
    (after : ∥ Known starts allows w ∥₁) where
  pub end_cause : (i : ℕ) (n : Note) → IsNoteAt m i n → 35184372088831 < n.dead → FindsLast made
  end_cause i n at late =
      let r = k.notes i n at in
      let top = time_in_range starts allows w after in
      let low = k.after in
      let high = k.before in
      let within = k.within in
      ⊎_elim
      (λ same.
      let was = death_known c v l (i + freed) r.0 stands r.1 starts allows before in
      end_found c v.number made scanned.mark scanned.clock k.scan (omega arith))
      (λ new. ⊎_elim (λ seen. let was = seen.0 in absurd (omega arith)) (λ t. let up = t.1 in timed_found made n.dead t.2 (omega arith)) new)
      r.3
