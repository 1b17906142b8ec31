-- The watermark of a seat never falls, whatever moves are made, so no section is ever below it.
use Rattle.std.proofs.Common.{◌≡◌, ℕ, ◌+◌, ◌≤◌, max, nat_lt, Bool, true, false, if◌then◌else◌, List, sym, ap, subst, le_refl, le_trans, arith}
use Rattle.mv_history.specs.declared.Entry.{Entry}
use Rattle.mv_history.specs.State.{State, Writes}
use Rattle.mv_layout.specs.declared.Config.{Config}
use Rattle.object_lock.specs.mv_core.declared.view.Knowledge.{Knowledge}
use Rattle.object_lock.specs.mv_core.Views.{parts_of, set_at}
use Rattle.object_lock.specs.mv_core.SeatSteps.{made_one, newly_made, joined}
use Rattle.object_lock.specs.mv_core.ReclaimSteps.{other_from}
use Rattle.object_lock.specs.mv_core.Moves.{Moment, MoveKind, act, Move, steps, makes, joins}
use Rattle.object_lock.specs.mv_core.Moves.{stamp, lock_head, name_commit, name_rest, load_scan, load_mark, load_grace, raise_grace, cut_head}
use Rattle.object_lock.specs.mv_core.MoveLaws.{Holds}
use Rattle.object_lock.proofs.mv_core_lemmas.frames.FrameLaw.{set_at_all}
use Rattle.object_lock.proofs.mv_core_lemmas.frames.Watermarks.{lower_not_above}
use Rattle.object_lock.proofs.mv_core_lemmas.moves.Moving.{moves_keep}
use Rattle.mvrlu.specs.Grace.{IsSince, now, later, NeverBelow}

-- an exchange that leaves the watermark where it is won, and where it is lost
by_exchange : (b : Bool) (v w x : Knowledge) → v.grace ≤ w.grace → v.grace ≤ x.grace → v.grace ≤ (if b then w else x).grace
by_exchange true v w x won lost = won
by_exchange false v w x won lost = lost

-- a scan that goes on, or ends with this least time
by_scan : (b : Bool) (grace least : ℕ) → grace ≤ (if b then grace else max grace least)
by_scan true grace least = le_refl grace
by_scan false grace least = omega arith

-- a step on one word leaves the watermark of its seat as it is, or raises it
step_raises : (allows : List ℕ → State → Writes → Type 0) (c : Config) (v : Knowledge) (k : MoveKind) (found : ℕ) (h : List Entry)
    → v.grace ≤ ((act allows c v k).view found h).grace
step_raises allows c v load_scan found h = by_scan (nat_lt (other_from v.number 0) c.seats) v.grace _
step_raises allows c v (load_mark seat scan) found h = by_scan (nat_lt (other_from v.number (seat + 1)) c.seats) v.grace _
step_raises allows c v load_grace found h = omega arith
step_raises allows c v (raise_grace time) found h = omega arith
step_raises allows c v (stamp word unset) found h = by_exchange _ v _ _ (le_refl v.grace) (le_refl v.grace)
step_raises allows c v (lock_head object previous position words build inside) found h = by_exchange _ v _ _ (le_refl v.grace) (le_refl v.grace)
step_raises allows c v (name_commit word tag inside) found h = by_exchange _ v _ _ (le_refl v.grace) (le_refl v.grace)
step_raises allows c v (name_rest word) found h = by_exchange _ v _ _ (le_refl v.grace) (le_refl v.grace)
step_raises allows c v (cut_head object position version note) found h = by_exchange _ v _ _ (le_refl v.grace) (le_refl v.grace)
step_raises allows c v k found h = le_refl v.grace

module _ (starts : State → Type 0) (allows : List ℕ → State → Writes → Type 0) (c : Config) (start : State) where
  -- no move lowers the watermark of a seat
  move_raises : (s t : Moment) (m : ℕ) → Holds starts allows c start s → Move allows c m s t → (n : ℕ) → (s.seats n).grace ≤ (t.seats n).grace
  move_raises s t m k (steps kind may fits is) n =
      subst (λ (u : Moment). (s.seats n).grace ≤ (u.seats n).grace) (sym is)
      (set_at_all (λ i u. (s.seats i).grace ≤ u.grace) s.seats m _ (step_raises allows c (s.seats m) kind _ s.history)
      (λ i ne. le_refl (s.seats i).grace) n)
  move_raises s t m k (makes first room is) n =
      let v = s.seats m in
      let made : v.made ≡ (s.seats 0).made = ap (λ (i : ℕ). (s.seats i).made) first in
      let new : (s.seats v.made).grace ≡ c.base = ap (λ (u : Knowledge). u.grace) (k.seats.later v.made (omega arith)) in
      subst (λ (u : Moment). (s.seats n).grace ≤ (u.seats n).grace) (sym is)
      (set_at_all (λ i u. (s.seats i).grace ≤ u.grace) (set_at s.seats m (made_one c v)) v.made (newly_made c v) (omega arith)
      (λ i ne. set_at_all (λ j u. (s.seats j).grace ≤ u.grace) s.seats m (made_one c v) (le_refl v.grace) (λ j e. le_refl (s.seats j).grace) i) n)
  move_raises s t m k (joins other ne seat may is) n =
      let v = s.seats m in
      let w = s.seats other in
      subst (λ (u : Moment). (s.seats n).grace ≤ (u.seats n).grace) (sym is)
      (set_at_all (λ i u. (s.seats i).grace ≤ u.grace) (set_at s.seats m (joined c v w)) other (record w { spent = true }) (le_refl w.grace)
      (λ i e. set_at_all (λ j u. (s.seats j).grace ≤ u.grace) s.seats m (joined c v w) (le_refl v.grace) (λ j f. le_refl (s.seats j).grace) i) n)

  -- so none is lower in a later state, which is one of the rule too
  since_holds : (s t : Moment) → Holds starts allows c start s → IsSince allows c s t → Holds starts allows c start t
  since_holds s t k now = k
  since_holds s t k (later r t' since move) = (moves_keep starts allows c start r t' (since_holds s r k since) move).0

  since_raises : (s t : Moment) → Holds starts allows c start s → IsSince allows c s t → (n : ℕ) → (s.seats n).grace ≤ (t.seats n).grace
  since_raises s t k now n = le_refl (s.seats n).grace
  since_raises s t k (later r t' since move) n =
      le_trans (since_raises s r k since n) (move_raises r t' move.0 (since_holds s r k since) move.2 n)

-- no section is ever below a time up to the watermark
pub never_below : (starts : State → Type 0) (allows : List ℕ → State → Writes → Type 0) (c : Config) (v : Knowledge) (time : ℕ) → time ≤ v.grace
    → NeverBelow starts allows c v time
never_below starts allows c v time le start s t k is since n =
    let there = since_raises starts allows c start s t k since v.number in
    let was : (s.seats v.number).grace ≡ v.grace = ap (λ (u : Knowledge). u.grace) is in
    let g = (t.seats v.number).grace in
    lower_not_above g time ((parts_of t.seats).time n) (omega arith) (((since_holds starts allows c start s t k since).facts.grace.views v.number).1 n)
