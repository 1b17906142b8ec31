-- The log stands for the pass still after the steps of a lock that leave it: those of which none is a won exchange.
use Rattle.std.proofs.Common.{◌≡◌, false, List, ◌++◌, All}
use Rattle.std.specs.Prelude.{get_or}
use Rattle.mv_history.specs.declared.Step.{Step}
use Rattle.mv_layout.specs.declared.Config.{Config}
use Rattle.seat_log.specs.mv_core.declared.view.Knowledge.{Knowledge}
use Rattle.seat_log.specs.Notes.{Noted}
use Rattle.seat_log.specs.Stands.{is_won_lock, Stands}
use Rattle.seat_log.proofs.PlainSteps.{stands_plain}
use Rattle.object_lock.specs.Tops.{IsLockStep}
use Rattle.object_lock.proofs.LockKinds.{lock_plain}

pub stands_on : (c : Config) (v w : Knowledge) (l : Noted) (steps : List Step) → w.number ≡ v.number → w.ring ≡ v.ring → w.past.mine ≡ v.past.mine
    → w.past.rests ≡ v.past.rests → w.trail ≡ v.trail ++ steps → All (λ s. IsLockStep s.kind) steps
    → All (λ s. is_won_lock s ≡ false) steps → Stands c v l → Stands c w l
stands_on c v w l steps number ring mine rests trail all unwon s =
    stands_plain c v w l s number ring mine rests steps trail (λ i d lt. lock_plain (get_or steps i d) (all i d lt) (unwon i d lt))
