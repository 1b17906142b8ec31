-- compare_exchange HEAD (lock), won and lost.
use Rattle.std.proofs.Common.{◌≡◌, ◌≢◌, ℕ, true, List, sym, refl, subst, None}
use Rattle.mv_core.proofs.Terms.{State, Writes, Config, Head, link_of, link_seat_of, Build, Knowledge, OwnSection}
use Rattle.mv_core.specs.declared.view.Passed.TheVariants.{Nothing}
use Rattle.mv_core.specs.WalkSteps.{IsLinkOf, stand_at}
use Rattle.mv_core.specs.LockSteps.{MayLock, head_locked, lock_lost, LockTold, OneMoreWrite}
use Rattle.mv_core.specs.Rule.{Swaps, IsKept}
use Rattle.mv_core.proofs.kinds.locking.lock_head.LockWon.{lock_won}
use Rattle.mv_core.proofs.kinds.locking.lock_head.Lockable.{lost_right}
use Rattle.mv_core.proofs.logs.OwnTops.{lost_other}
use Rattle.mv_core.proofs.kinds.locking.lock_head.OwnWrites.{one_more_write}
use Rattle.mv_core.proofs.history.SectionWords.{time_is}
use Rattle.mv_core.proofs.kinds.walking.WalkOn.{head_link}
use Rattle.mv_core.proofs.kinds.walking.Walks.{walked}

module _ (starts : State → Type 0) (allows : List ℕ → State → Writes → Type 0) (c : Config) (start : State) (v : Knowledge)
    (write_max object previous position : ℕ)
    (words : List ℕ) (b : Build) (inside : OwnSection) (may : MayLock c write_max v object previous position words b inside) where
  lock_swaps_to : Swaps starts allows c start v (Head object) previous (link_of v.number position) (λ n w. (LockTold c v object previous position words n w
      × (n ≡ previous → OneMoreWrite c v object words w) × (n ≢ previous → IsLinkOf c n × (n ≢ 0 → link_seat_of n ≢ v.number))) × IsKept v w)
  lock_swaps_to = (
    (λ m h seats k is own begins won. (
      head_locked c v object previous position words,
      h,
      lock_won seats k v is own write_max object previous position words b inside may won,
      (
        (
          ((λ _. refl), (λ ne. absurd (ne refl))),
          (λ _. one_more_write seats k v is own write_max object previous position words b inside may),
          (λ ne. absurd (ne refl)),
        ),
        (refl, refl, refl, refl, refl, refl),
      ),
    )),
    (λ m h seats k is own begins lost wide.
        let n : ℕ = m (Head object) in
        let timed = time_is seats v inside k is may.walking.phase in (
          lock_lost c v object n,
          walked seats v k is inside may.walking.phase (stand_at object n Nothing true)
              (lost_right seats k v is inside may.walking object previous may.stands lost)
              (lock_lost c v object n) None None (refl, refl, refl, refl, refl, refl, refl, refl, refl, refl, refl) k.history k.phases_and_scan.seen
              k.succeeded_has_super k.deaths_seen,
          (
            (
              ((λ e. absurd (lost e)), (λ _. refl)),
              (λ e. absurd (lost e)),
              (λ _. (
                head_link k v.number v.clocks inside timed may.walking.helped object,
                lost_other seats k v is write_max object previous position words b inside may lost,
              )),
            ),
            (refl, refl, refl, refl, refl, refl),
          ),
        )),
  )

  pub lock_swaps : (new : ℕ) → new ≡ link_of v.number position
      → Swaps starts allows c start v (Head object) previous new (λ n w. (LockTold c v object previous position words n w
      × (n ≡ previous → OneMoreWrite c v object words w) × (n ≢ previous → IsLinkOf c n × (n ≢ 0 → link_seat_of n ≢ v.number))) × IsKept v w)
  lock_swaps new e = subst (λ (g : ℕ). Swaps starts allows c start v (Head object) previous g
      (λ n w. (LockTold c v object previous position words n w × (n ≡ previous → OneMoreWrite c v object words w) ×
      (n ≢ previous → IsLinkOf c n × (n ≢ 0 → link_seat_of n ≢ v.number))) × IsKept v w)) (sym e) lock_swaps_to
