-- load FIRST: what is found is the first position of the version that the walk stands at.
use Rattle.std.proofs.Common.{◌≡◌, ℕ, List, Some, None, sym, refl, ◌∙◌, subst}
use Rattle.mv_core.proofs.Terms.{State, Writes, Config, First, link_seat_of, Knowledge, Stand, Names}
use Rattle.mv_core.specs.declared.view.WalkStage.TheVariants as walk
use Rattle.mv_core.specs.WalkSteps.{slot_named, MayLoadFirst, first_loaded}
use Rattle.mv_core.proofs.FactTerms.{RunsOn, Loads, IsKept}
use Rattle.mv_core.proofs.kinds.walking.Walks.{words_named, Standing, section_there, standing_of, walked}

module _ (starts : State → Type 0) (allows : List ℕ → State → Writes → Type 0) (c : Config) (start : State) (v : Knowledge) where
  pub first_loads : (link : ℕ) (stand : Stand) → MayLoadFirst v link stand
      → Loads starts allows c start v (First (link_seat_of link) (slot_named c link)) (λ n w. ((w ≡ first_loaded c v stand n) × RunsOn v w) × IsKept v w)
  first_loads link stand may m h seats k is own begins small =
      let n : ℕ = m (First (link_seat_of link) (slot_named c link)) in
      let w : Knowledge = first_loaded c v stand n in
      let there = section_there seats v k is stand may.stands in
      let inside = there.0 in
      let r = standing_of seats v k is inside there.1 stand may.stands in
      let found : n ≡ r.version.first =
      (words_named seats k link r.version r.status (subst (λ (l : ℕ). Names (λ s. (seats s).ring) l r.version r.status) may.link_is r.names)).first_is in
      let after : Stand = record stand { first = Some n; stamp = None } in
      let stands : Standing c start m h (λ s. (seats s).ring) v.clocks inside after = record {
        version = r.version;
        status = r.status;
        names = r.names;
        object_is = r.object_is;
        may = r.may;
        helped = r.helped;
        death = r.death;
        below = r.below;
        first = λ first e. let same : n ≡ first = cc in sym same ∙ found;
        stamp = λ found e low. absurd cc;
        unset = λ found note e high st. absurd cc;
        falls = r.falls;
        found = λ found passed e. absurd cc;
        late = r.late;
      } in (
        w,
        walked seats v k is inside there.1 (walk.At after) stands w None None (refl, refl, refl, refl, refl, refl, refl, refl, refl, refl, refl) k.history
            k.phases_and_scan.seen k.succeeded_has_super k.deaths_seen,
        ((refl, (λ t f a b. (a, b))), (refl, refl, refl, refl, refl, refl)),
      )
