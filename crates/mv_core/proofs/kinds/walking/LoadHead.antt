-- load HEAD: the walk stands at the held version of the object or at its top, or at a master that serves it.
use Rattle.std.proofs.Common.{◌≡◌, ℕ, ◌+◌, ◌≤◌, false, List, length, Some, None, refl, ap, ◌∙◌, subst, arith}
use Rattle.mv_core.proofs.Terms.{State, Writes, Config, Clock, Mark, Head, Super, Knowledge, OwnSection, EmptyHead, time_in, set_at}
use Rattle.mv_core.specs.declared.view.Passed.TheVariants.{Nothing}
use Rattle.mv_core.proofs.FactTerms.{MarkedAs, SucceededHasSuper, RunsOn, Loads, IsKept}
use Rattle.mv_core.specs.WalkSteps.{IsWalking, IsLinkOf, IsOwnTop, IsOwnLink, IsLastOwn, IsLastSeen, stand_at, empty_too, head_loaded}
use Rattle.mv_core.proofs.history.SectionWords.{time_is}
use Rattle.mv_core.proofs.kinds.walking.Walks.{walked}
use Rattle.mv_core.proofs.kinds.walking.WalkOn.{head_right, head_link}
use Rattle.mv_core.proofs.logs.NewerTops.{newer_top}
use Rattle.mv_core.proofs.logs.OwnTops.{own_top, own_top_link, own_top_last, own_top_seen}
use Rattle.mv_core.specs.Tops.{IsNewer}
use Rattle.mv_core.proofs.kinds.walking.EmptyHeads.{succeeded_after}

module _ (starts : State → Type 0) (allows : List ℕ → State → Writes → Type 0) (c : Config) (start : State) (v : Knowledge) where
  pub head_loads : (object : ℕ) (inside : OwnSection) → IsWalking v inside
      → Loads starts allows c start v (Head object)
      (λ n w. (((w ≡ head_loaded c v inside object n) × IsLinkOf c n × IsOwnTop c v object n × IsOwnLink c v n × IsLastOwn c v object n
      × IsLastSeen c v object n × IsNewer c v object n) × RunsOn v w) × IsKept v w)
  head_loads object inside may m h seats k is own begins small =
      let n : ℕ = m (Head object) in
      let w : Knowledge = head_loaded c v inside object n in
      let timed = time_is seats v inside k is may.phase in
      let past : time_in inside ≤ c.base + length h =
      (let marked = subst (MarkedAs (m Clock) (m (Mark v.number))) (ap (λ (u : Knowledge). u.phase) is ∙ may.phase) (k.marks v.number) in
      let long = k.history.long in let late = marked.2 in omega arith) in
      let empty : List EmptyHead = empty_too v.empty object (time_in inside) n in
      let succeeded : SucceededHasSuper c h (λ s i. m (Super s i)) (set_at (λ s. (seats s).empty) v.number empty) (λ s. (seats s).ring) =
      subst (λ (u : Knowledge). SucceededHasSuper c h (λ s i. m (Super s i))
      (set_at (λ s. (seats s).empty) v.number (empty_too u.empty object (time_in inside) n))
      (λ s. (seats s).ring)) is
      (succeeded_after seats k v.number object (time_in inside) past) in (
        w,
        walked seats v k is inside may.phase (stand_at object n Nothing false) (head_right k v.number v.clocks inside timed may.helped object)
            w None (Some empty) (refl, refl, refl, refl, refl, refl, refl, refl, refl, refl, refl) k.history k.phases_and_scan.seen succeeded k.deaths_seen,
        (
          (
            (
              refl,
              head_link k v.number v.clocks inside timed may.helped object,
              own_top seats k v is object,
              own_top_link seats k v is object,
              own_top_last seats k v is object,
              own_top_seen seats k v is object,
              newer_top seats k v is begins object,
            ),
            (λ t f a b. (a, b)),
          ),
          (refl, refl, refl, refl, refl, refl),
        ),
      )
