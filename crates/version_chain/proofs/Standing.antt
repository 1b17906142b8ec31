-- Where a walk stands, and what its loads leave.
use Rattle.std.proofs.Common.{◌≡◌, ◌≢◌, ℕ, ◌<◌, ◌≤◌, Bool, false, if◌then◌else◌, List, sym, ap, ◌∙◌, subst, ne_eqb, Some, None}
use Rattle.mv_history.specs.declared.Entry.{Entry}
use Rattle.mv_layout.specs.declared.Config.{Config}
use Rattle.mv_core.specs.declared.view.Knowledge.{Knowledge}
use Rattle.mv_core.specs.declared.view.WalkStage.TheVariants as place
use Rattle.mv_core.specs.declared.view.Stand.{Stand}
use Rattle.mv_core.specs.declared.view.Passed.{Passed}
use Rattle.mv_core.specs.declared.view.Phase.TheVariants.{Inside}
use Rattle.mv_core.specs.WalkSteps.{IsLinkOf, stand_at, first_loaded, stamp_loaded, MayLoadData}
use Rattle.mv_history.specs.declared.Step.{Step}
use Rattle.version_chain.specs.declared.walking.FoundVersion.{FoundVersion}
use Rattle.mv_core.specs.Slots.{IsSlotLinked}
use Rattle.version_chain.specs.Walks.{time_at, stand_of, stand_in, section_in, with_first, with_stamp, MayWalk, StandsAtVersion, HasFound}

-- a walk at a link that isn't 0 stands at the version of that link
pub stands_here : (v : Knowledge) (object link : ℕ) (passed : Passed) → link ≢ 0 → v.walk ≡ stand_at object link passed false
    → v.walk ≡ place.At (record { object = object; link = link; first = None; stamp = None; passed = passed; late = false })
stands_here v object link passed ne is =
    subst (λ (b : Bool). v.walk
    ≡ (if b then place.Master object else place.At (record { object = object; link = link; first = None; stamp = None; passed = passed; late = false })))
    (ne_eqb link 0 ne) is

-- a walk that stands at a version does so at the one that the view says
pub stand_is : (v : Knowledge) (stand : Stand) → v.walk ≡ place.At stand → v.walk ≡ place.At (stand_in v)
stand_is v stand is = is ∙ ap place.At (sym (ap stand_of is))

module _ (c : Config) (v w x : Knowledge) (object link first found slot : ℕ) (seen : List Entry) (ne : link ≢ 0) (packed : IsLinkOf c link)
    (stands : v.walk ≡ stand_at object link (stand_in v).passed false) where
  -- where a walk stands once FIRST and STAMP of a version were loaded
  abbrev looked : Stand
  looked = record { object = object; link = link; first = Some first; stamp = Some found; passed = (stand_in v).passed; late = false }

  looked_is : w ≡ first_loaded c v (stand_in v) first → x ≡ stamp_loaded c w (stand_in w) first found seen → x.walk ≡ place.At looked
  looked_is firsts stamps =
      let here = ap stand_of (stands_here v object link (stand_in v).passed ne stands) in
      let at : stand_in w ≡ with_first (stand_in v) first = ap stand_in firsts in
      ap (λ (u : Knowledge). u.walk) stamps ∙ ap (λ (s : Stand). place.At (record s { stamp = Some found })) at
      ∙ ap (λ (s : Stand). place.At (with_stamp s first found)) here

  -- a walk that ends at a version stands at it
  pub found_here : w ≡ first_loaded c v (stand_in v) first → x ≡ stamp_loaded c w (stand_in w) first found seen → (time : ℕ) → time ≡ time_at x → found ≤ time
      → IsSlotLinked c link slot → HasFound c x object (Some (record { link = link; slot = slot }))
  found_here firsts stamps time time_is not_above slot_is =
      let is = looked_is firsts stamps in
      let stand : stand_in x ≡ looked = ap stand_of is in (
        record {
          stands = stand_is x looked is;
          link_is = ap (λ (s : Stand). s.link) stand;
          packed = packed ne;
          slot = slot_is;
          time = found;
          stamp_is = ap (λ (s : Stand). s.stamp) stand;
          not_above = subst (λ t. found ≤ t) time_is not_above;
        },
        ap (λ (s : Stand). s.object) stand,
      )

-- after a load that only joins the trail a further word of the version may be loaded
pub may_data : (c : Config) (v x : Knowledge) (at : FoundVersion) (word : ℕ) (steps : List Step) → MayWalk v → StandsAtVersion c v at
    → x ≡ record v { trail = steps } → word < 6 → MayLoadData x at.link word (stand_in x) (section_in x)
may_data c v x at word steps may here so lt = record {
  phase = ap (λ (u : Knowledge). u.phase) so ∙ may.phase ∙ ap Inside (sym (ap section_in so));
  stands = ap (λ (u : Knowledge). u.walk) so ∙ here.stands ∙ ap place.At (sym (ap stand_in so));
  link_is = ap (λ (u : Knowledge). (stand_in u).link) so ∙ here.link_is;
  found = here.time;
  stamp_is = ap (λ (u : Knowledge). (stand_in u).stamp) so ∙ here.stamp_is;
  time_is = subst (λ (u : Knowledge). here.time ≤ time_at u) (sym so) here.not_above;
  in_range = lt;
}
