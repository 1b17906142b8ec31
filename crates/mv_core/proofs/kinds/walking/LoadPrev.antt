-- load PREV: the walk goes on to the version below the one it stood at, or to a master that serves it.
use Rattle.std.proofs.Common.{◌≡◌, ℕ, false, List, None, sym, refl, subst}
use Rattle.mv_core.proofs.Terms.{State, Writes, Config, Prev, link_seat_of, Knowledge, Stand, Names}
use Rattle.mv_core.specs.WalkSteps.{MayLoadPrev, IsLinkOf, slot_named, stand_at, passed_too, prev_loaded}
use Rattle.mv_core.proofs.FactTerms.{RunsOn, Loads, IsKept}
use Rattle.mv_core.proofs.history.SectionWords.{time_is}
use Rattle.mv_core.proofs.kinds.walking.Walks.{WalksRight, words_named, standing_of, walked}
use Rattle.mv_core.proofs.kinds.walking.WalkOn.{prev_right, prev_link}

module _ (starts : State → Type 0) (allows : List ℕ → State → Writes → Type 0) (c : Config) (start : State) (v : Knowledge) where
  pub prev_loads : (link : ℕ) (stand : Stand) → MayLoadPrev v link stand
      → Loads starts allows c start v (Prev (link_seat_of link) (slot_named c link))
      (λ n w. (((w ≡ prev_loaded c v stand n) × IsLinkOf c n) × RunsOn v w) × IsKept v w)
  prev_loads link stand may m h seats k is own begins small =
      let n : ℕ = m (Prev (link_seat_of link) (slot_named c link)) in
      let w : Knowledge = prev_loaded c v stand n in
      let inside = may.inside in
      let timed = time_is seats v inside k is may.phase in
      let r = standing_of seats v k is inside may.phase stand may.stands in
      let names : Names (λ s. (seats s).ring) link r.version r.status =
      subst (λ (l : ℕ). Names (λ s. (seats s).ring) l r.version r.status) may.link_is r.names in
      let found : r.version.previous ≡ n = sym (words_named seats k link r.version r.status names).prev_is in
      let right : WalksRight c start m h (λ s. (seats s).ring) v.clocks inside (stand_at stand.object n (passed_too stand.passed stand.stamp) false) =
      subst (λ (l : ℕ). WalksRight c start m h (λ s. (seats s).ring) v.clocks inside (stand_at stand.object l (passed_too stand.passed stand.stamp) false))
      found
      (prev_right k v.number v.clocks inside timed r.helped stand r may.found may.stamp_is may.goes_on) in (
        w,
        walked seats v k is inside may.phase (stand_at stand.object n (passed_too stand.passed stand.stamp) false) right
            w None None (refl, refl, refl, refl, refl, refl, refl, refl, refl, refl, refl) k.history k.phases_and_scan.seen k.succeeded_has_super k.deaths_seen,
        (
          (
            (refl, subst (IsLinkOf c) found (prev_link k v.number v.clocks inside timed r.helped stand r may.found may.stamp_is may.goes_on)),
            (λ t f a b. (a, b)),
          ),
          (refl, refl, refl, refl, refl, refl),
        ),
      )
