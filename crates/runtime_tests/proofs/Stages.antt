-- What is known of a client by its stage.
use Rattle.std.proofs.Common.{◌≡◌, ℕ, sym, subst, Option}
use Rattle.mv_history.specs.declared.rules.AnyRules.{AnyRules}
use Rattle.mv_layout.specs.declared.Config.{Config}
use Rattle.mv_core.specs.declared.shared.Shared.{Shared}
use Rattle.mv_core.specs.declared.view.Knowledge.{Knowledge}
use Rattle.mv_core.specs.Passes.{view, config_of}
use Rattle.seat_log.specs.Notes.{Noted}
use Rattle.object_lock.specs.declared.locking.StartedLock.{StartedLock}
use Rattle.runtime_tests.specs.declared.clients.Client.{Client}
use Rattle.runtime_tests.specs.declared.clients.Stage.{Stage}
use Rattle.runtime_tests.specs.declared.clients.Stage.TheVariants.{Outside, Lowered, Marked, Taken, Inside, Named, Locking, Loaded, Helped, WritingBack}
use Rattle.runtime_tests.specs.Clients.{IsOutside, HasLowered, HasMarked, HasTaken, IsInside, HasJustNamed, HasStarted, HasClock, HasHelpedClock}
use Rattle.runtime_tests.specs.Clients.{IsWritingBack, IsAt, IsReady}

module _ (s : Shared AnyRules) (k : Client) (ready : IsReady s k) where
  pub at_outside : k.stage ≡ Outside → IsOutside (config_of s) (view k.pass) k.log
  at_outside e = subst (IsAt (config_of s) (view k.pass) k.log) e ready.1

  pub at_lowered : (low : ℕ) → k.stage ≡ Lowered low → HasLowered (config_of s) (view k.pass) k.log low
  at_lowered low e = subst (IsAt (config_of s) (view k.pass) k.log) e ready.1

  pub at_marked : k.stage ≡ Marked → HasMarked (config_of s) (view k.pass) k.log
  at_marked e = subst (IsAt (config_of s) (view k.pass) k.log) e ready.1

  pub at_taken : (word : ℕ) → k.stage ≡ Taken word → HasTaken (config_of s) (view k.pass) k.log word
  at_taken word e = subst (IsAt (config_of s) (view k.pass) k.log) e ready.1

  pub at_inside : (word : Option ℕ) → k.stage ≡ Inside word → IsInside (config_of s) (view k.pass) k.log word
  at_inside word e = subst (IsAt (config_of s) (view k.pass) k.log) e ready.1

  pub at_locking : (lock : StartedLock) → k.stage ≡ Locking lock → HasStarted (config_of s) (view k.pass) k.log lock
  at_locking lock e = subst (IsAt (config_of s) (view k.pass) k.log) e ready.1

  pub at_loaded : (word : ℕ) → k.stage ≡ Loaded word → HasClock (config_of s) (view k.pass) k.log word
  at_loaded word e = subst (IsAt (config_of s) (view k.pass) k.log) e ready.1

  pub at_helped : (word : ℕ) → k.stage ≡ Helped word → HasHelpedClock (config_of s) (view k.pass) k.log word
  at_helped word e = subst (IsAt (config_of s) (view k.pass) k.log) e ready.1

  pub at_writing_back : k.stage ≡ WritingBack → IsWritingBack (config_of s) (view k.pass) k.log
  at_writing_back e = subst (IsAt (config_of s) (view k.pass) k.log) e ready.1

  pub at_named : (time : ℕ) → k.stage ≡ Named time → HasJustNamed (config_of s) (view k.pass) k.log time
  at_named time e = subst (IsAt (config_of s) (view k.pass) k.log) e ready.1

-- still at that stage
pub in_stage : (c : Config) (v : Knowledge) (l : Noted) (stage : Stage) (word : Option ℕ) → stage ≡ Inside word → IsInside c v l word → IsAt c v l stage
in_stage c v l stage word e i = subst (IsAt c v l) (sym e) i

pub still_outside : (c : Config) (v : Knowledge) (l : Noted) (stage : Stage) → stage ≡ Outside → IsOutside c v l → IsAt c v l stage
still_outside c v l stage e o = subst (IsAt c v l) (sym e) o

pub still_writing_back : (c : Config) (v : Knowledge) (l : Noted) (stage : Stage) → stage ≡ WritingBack → IsWritingBack c v l → IsAt c v l stage
still_writing_back c v l stage e w = subst (IsAt c v l) (sym e) w
