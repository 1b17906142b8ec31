-- What the loads of one look at a link leave.
use Rattle.std.proofs.Common.{◌≡◌, ◌≢◌, ◌⊎◌, ℕ, ◌+◌, ◌<◌, ◌≤◌, ◌^◌, ◌==◌, true, false}
use Rattle.std.proofs.Common.{if◌then◌else◌, List, [], ◌∷◌}
use Rattle.std.proofs.Common.{refl, sym, ap, ◌∙◌, subst, arith, append-nil, append_assoc, Some, None}
use Rattle.std.specs.Bool.{IsTrue}
use Rattle.std.proofs.lemmas.List.Elements.{All-nil, All-cons}
use mathlib.Core.Logic.{dite}
use native.Mathlib.Decide.{dec_lt}
use Rattle.mv_history.specs.declared.Entry.{Entry}
use Rattle.mv_history.specs.declared.Step.{Step}
use Rattle.mv_history.specs.declared.StepKind.TheVariants.{LoadHead, LoadFirst, LoadStamp, LoadPrev}
use Rattle.mv_layout.specs.declared.Config.{Config}
use Rattle.mv_layout.specs.declared.SharedWord.TheVariants.{Head, First, Stamp, Prev}
use Rattle.mv_layout.specs.Places.{place_of}
use Rattle.mv_layout.specs.Words.{IsUnset, link_seat_of}
use Rattle.mv_core.specs.declared.view.Knowledge.{Knowledge}
use Rattle.mv_core.specs.declared.view.OwnSection.{OwnSection}
use Rattle.mv_core.specs.declared.view.WalkStage as core
use Rattle.mv_core.specs.declared.view.WalkStage.TheVariants as place
use Rattle.mv_core.specs.declared.view.Stand.{Stand}
use Rattle.mv_core.specs.declared.view.Passed.{Passed}
use Rattle.mv_core.specs.Rings.{index_of}
use Rattle.mv_core.specs.WalkSteps.{IsLinkOf, stand_at, head_loaded, first_loaded, stamp_loaded, prev_loaded, StampSays, slot_named, passed_too}
use Rattle.mv_core.specs.WalkSteps.{MayLoadFirst, MayLoadStamp, MayLoadPrev}
use Rattle.version_chain.specs.declared.walking.Walk.{Walk}
use Rattle.version_chain.specs.declared.walking.FoundVersion.{FoundVersion}
use Rattle.version_chain.specs.Walks.{section_in, time_at, stand_of, stand_in, StandsAt, IsWalkStep, Walks, EndsAt, GoesOn}
use Rattle.version_chain.specs.Walks.{with_first, with_stamp, version_looked_at, version_passed, LookSays, MayWalk}
use Rattle.version_chain.proofs.Going.{walks_on}
use Rattle.version_chain.proofs.Standing.{stands_here, stand_is}

-- a step of a walk
abbrev IsWalks : Step → Type 0
IsWalks s = IsWalkStep s.kind

-- the view z with all that a walk may change as it is in y
abbrev rest_of : Knowledge → Knowledge → Knowledge
rest_of y z = record z { past = record z.past { seen = y.past.seen }; walk = y.walk; empty = y.empty; trail = y.trail }

-- a look that makes no step
pub walks_none : (v : Knowledge) (steps : ℕ) → Walks v v steps steps
walks_none v steps = record {
  seen = ([], sym (append-nil v.past.seen));
  trail = ([], sym (append-nil v.trail), (omega arith), All-nil IsWalks);
  rest = refl;
}

-- where a walk stands that found this link, whatever it passed
stands_so : (object link : ℕ) (passed : Passed)
    → stand_at object link passed false ≡ stand_at object link (stand_of (stand_at object link passed false)).passed false
stands_so object link passed =
    let stand : Stand = record { object = object; link = link; first = None; stamp = None; passed = passed; late = false } in
    elim (link == 0) as
    (λ b. (if b then place.Master object else place.At stand) ≡ (if b then place.Master object
    else place.At (record stand { passed = (stand_of (if b then place.Master object else place.At stand)).passed }))) [
      | true ↦ refl
      | false ↦ refl
    ]

pub stands_at : (c : Config) (w : Knowledge) (object link : ℕ) (passed : Passed) → IsLinkOf c link → w.walk ≡ stand_at object link passed false
    → StandsAt c w (record { object = object; link = link })
stands_at c w object link passed packed is = record {
  link = packed;
  stands = is ∙ stands_so object link passed ∙ ap (λ (k : core.WalkStage). stand_at object link (stand_of k).passed false) (sym is);
}

-- at link 0 it is the master
pub at_master : (v : Knowledge) (object link : ℕ) (passed : Passed) → link ≡ 0 → v.walk ≡ stand_at object link passed false → v.walk ≡ place.Master
    object
at_master v object link passed none is = subst (λ (k : ℕ). v.walk ≡ stand_at object k passed false) none is

-- HEAD was loaded
pub walks_started : (c : Config) (v w : Knowledge) (inside : OwnSection) (object link before after : ℕ) → w ≡ head_loaded c v inside object link → after ≡
    before + 1
    → Walks v w before after
walks_started c v w inside object link before after is one =
    let step : Step = record { kind = LoadHead; word = place_of c (Head object); found = Some link; stored = None } in
    record {
      seen = ([], ap (λ (u : Knowledge). u.past.seen) is ∙ sym (append-nil v.past.seen));
      trail = (step ∷ [], ap (λ (u : Knowledge). u.trail) is, one, All-cons IsWalks step [] tt (All-nil IsWalks));
      rest = ap (rest_of w) is;
    }

-- FIRST of a version may be loaded where a walk stands at it
pub may_first : (v : Knowledge) (object link : ℕ) (passed : Passed) → link ≢ 0 → v.walk ≡ stand_at object link passed false → MayLoadFirst v link
    (stand_in v)
may_first v object link passed ne is =
    let stand : Stand = record { object = object; link = link; first = None; stamp = None; passed = passed; late = false } in
    let at = stands_here v object link passed ne is in
    record { stands = stand_is v stand at; link_is = ap (λ (k : core.WalkStage). (stand_of k).link) at }

module _ (c : Config) (v w : Knowledge) (link first : ℕ) (may : MayLoadFirst v link (stand_in v)) (firsts : w ≡ first_loaded c v (stand_in v) first) where
  at_first : stand_in w ≡ with_first (stand_in v) first
  at_first = ap stand_in firsts

  -- and then its STAMP
  pub may_stamp : MayLoadStamp w link first (stand_in w)
  may_stamp = record {
    stands = stand_is w (with_first (stand_in v) first) (ap (λ (u : Knowledge). u.walk) firsts);
    link_is = ap (λ (s : Stand). s.link) at_first ∙ may.link_is;
    first_is = ap (λ (s : Stand). s.first) at_first;
  }

  module _ (x : Knowledge) (found : ℕ) (stamps : x ≡ stamp_loaded c w (stand_in w) first found x.past.seen)
      (says : StampSays c w (stand_in w) found x.past.seen) where
    looked : x ≡ version_looked_at c v first found x.past.seen
    looked = stamps ∙ (λ i. stamp_loaded c (firsts i) (at_first i) first found x.past.seen)

    told : LookSays c v first found x.past.seen
    told = subst (λ (p : Knowledge × Stand). StampSays c p.0 p.1 found x.past.seen) (λ i. (firsts i, at_first i)) says

    at_stamp : stand_in x ≡ with_stamp (stand_in v) first found
    at_stamp = ap stand_in looked

    pub same_time : time_at x ≡ time_at v
    same_time = ap time_at looked

    -- and PREV where the walk goes on
    pub may_prev : MayWalk x → IsUnset found ⊎ (time_at x < found) → MayLoadPrev x link (stand_in x)
    may_prev walks later = record {
      inside = section_in x;
      phase = walks.phase;
      stands = stand_is x (with_stamp (stand_in v) first found) (ap (λ (u : Knowledge). u.walk) looked);
      link_is = ap (λ (s : Stand). s.link) at_stamp ∙ may.link_is;
      found = found;
      stamp_is = ap (λ (s : Stand). s.stamp) at_stamp;
      goes_on = later;
    }

    -- two steps were made
    pub walks_looked : (before here after : ℕ) → here ≡ before + 1 → after ≡ here + 1 → Walks v x before after
    walks_looked before here after one two =
        let at : Stand = stand_in v in
        let s : Step = record {
          kind = LoadFirst;
          word = place_of c (First (link_seat_of at.link) (slot_named c at.link));
          found = Some first;
          stored = None;
        } in
        let t : Step = record { kind = LoadStamp; word = place_of c (Stamp (link_seat_of at.link) (index_of c first)); found = Some found; stored = None } in
        record {
          seen = told.sees.more;
          trail = (
            s ∷ t ∷ [],
            ap (λ (u : Knowledge). u.trail) looked ∙ append_assoc v.trail (s ∷ []) (t ∷ []),
            (omega arith),
            All-cons IsWalks s (t ∷ []) tt (All-cons IsWalks t [] tt (All-nil IsWalks)),
          );
          rest = ap (rest_of x) looked;
        }

    -- the walk ends there
    pub ends_at : (walk : Walk) (at : FoundVersion) → walk.link ≡ link → at.link ≡ link → link ≢ 0 → (time : ℕ) → time ≡ time_at x
        → found ≤ time → found < 2 ^ 63 → (before here after : ℕ) → here ≡ before + 1 → after ≡ here + 1
        → EndsAt c v x walk at × (after ≡ before + 2)
    ends_at walk at is at_is ne time time_is le low before here after one two =
        let same = same_time in (
          record {
            linked = subst (λ (k : ℕ). k ≢ 0) (sym is) ne;
            link_is = is ∙ sym at_is;
            first = first;
            found = found;
            says = told;
            view = looked;
            time = low;
            not_above = omega arith;
          },
          (omega arith),
        )

    -- or goes on to PREV
    module _ (y : Knowledge) (next : ℕ) (prevs : y ≡ prev_loaded c x (stand_in x) next) where
      passed : y ≡ prev_loaded c (version_looked_at c v first found x.past.seen) (with_stamp (stand_in v) first found) next
      passed = prevs ∙ (λ i. prev_loaded c (looked i) (at_stamp i) next)

      pub goes_on : (walk : Walk) → walk.link ≡ link → link ≢ 0 → IsUnset found ⊎ (time_at x < found)
          → (before here there after : ℕ) → here ≡ before + 1 → there ≡ here + 1 → after ≡ there + 1
          → GoesOn c v y walk (record { object = walk.object; link = next }) × (after ≡ before + 3)
      goes_on walk is ne later before here there after one two three =
          let seen : y.past.seen ≡ x.past.seen = ap (λ (u : Knowledge). u.past.seen) prevs in (
            record {
              linked = subst (λ (k : ℕ). k ≢ 0) (sym is) ne;
              object = refl;
              first = first;
              found = found;
              says = subst (LookSays c v first found) (sym seen) told;
              view = passed ∙ ap (λ (h : List Entry). version_passed c v first found h next) (sym seen);
              later = subst (λ (t : ℕ). IsUnset found ⊎ (t < found)) same_time later;
            },
            (omega arith),
          )

      -- it stands there then
      pub stands_next : (object : ℕ) → (stand_in v).object ≡ object → IsLinkOf c next → StandsAt c y (record { object = object; link = next })
      stands_next object is packed =
          stands_at c y object next (passed_too (stand_in v).passed (Some found)) packed
          (ap (λ (u : Knowledge). u.walk) passed ∙ ap (λ (o : ℕ). stand_at o next (passed_too (stand_in v).passed (Some found)) false) is)

      pub walks_passed : (before here there after : ℕ) → here ≡ before + 1 → there ≡ here + 1 → after ≡ there + 1 → Walks v y before after
      walks_passed before here there after one two three =
          let at : Stand = stand_in x in
          let s : Step = record { kind = LoadPrev; word = place_of c (Prev (link_seat_of at.link) (slot_named c at.link)); found = Some next; stored = None } in
          walks_on v x y before there after (walks_looked before here there one two) (record {
            seen = ([], ap (λ (u : Knowledge). u.past.seen) prevs ∙ sym (append-nil x.past.seen));
            trail = (s ∷ [], ap (λ (u : Knowledge). u.trail) prevs, three, All-cons IsWalks s [] tt (All-nil IsWalks));
            rest = ap (rest_of y) prevs;
          })

-- a stamp that isn't unset is a time
pub is_time : (found : ℕ) → (IsUnset found → IsTrue false) → found < 2 ^ 63
is_time found unset = dite (dec_lt found 9223372036854775808) (λ lt. lt) (λ high. let clash : IsTrue false = unset (omega arith) in absurd (cc))
