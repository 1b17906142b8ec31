-- A step that changes live versions in their slots, and no other slot: what it keeps of the facts that read slots, where STAMP and SUPER stay.
use Rattle.std.proofs.Common.{◌≡◌, ℕ, ◌+◌, ◌-◌, ◌/◌, ◌%◌, ◌<◌, ◌≤◌, List, length, refl, sym, ap, ◌∙◌, subst}
use Rattle.std.specs.Prelude.{slice_set}
use Rattle.mv_core.proofs.Terms.{Entry, State, Writes, Config, Clock, Stamp, Super, Memory, Ring, Slot, Free, Built, Live, Freeing, Build, Version}
use Rattle.mv_core.proofs.Terms.{WriteSetStatus, slot_at, Lives, ViewParts, set_at}
use Rattle.mv_core.proofs.FactTerms.{Stamps, Successors, Positions, SucceededHasSuper, next_in, Facts}
use Rattle.mv_core.proofs.logs.Slots.{Becomes, Matches, live_within, slots_after, wide_after, mapped, slots_mapped, wide_mapped}
use Rattle.mv_core.proofs.frames.Matching.{KeepsPlace, LivesOn, on_place}
use Rattle.mv_core.proofs.frames.MatchedSets as set
use Rattle.mv_core.proofs.frames.MatchedStamps as stamped

-- no version is live there
abbrev pub IsUnlived : Slot → Type 0
IsUnlived Free = Unit {0}
IsUnlived (Built b) = Unit {0}
IsUnlived (Live x st) = ⊥
IsUnlived (Freeing p first) = Unit {0}

-- each slot with no live version was so before, and stays so
pub record StaysInPlace (before after : ℕ → Ring) : Type 0 where
  pub wide : (s : ℕ) → length (after s).slots ≡ length (before s).slots
  pub back : (s j : ℕ) (z : Slot) → IsUnlived z → slot_at (after s) j ≡ z → slot_at (before s) j ≡ z
  pub forth : (s j : ℕ) (z : Slot) → IsUnlived z → slot_at (before s) j ≡ z → slot_at (after s) j ≡ z

-- a live version was written over another one
pub in_place_put : (rings : ℕ → Ring) (n j : ℕ) (r : Ring) (x y : Version) (st su : WriteSetStatus)
    → Lives rings n j x st → r.slots ≡ slice_set (rings n).slots j (Live y su) → StaysInPlace rings (set_at rings n r)
in_place_put rings n j r x y st su lives written =
    let within = live_within (rings n) j x st lives in record {
      wide = wide_after rings n j (Live y su) r written within;
      back = λ s i z unlived. slots_after rings n j (Live y su) r written within (λ s i w. w ≡ z → slot_at (rings s) i ≡ z)
          (λ e. absurd (subst IsUnlived (sym e) unlived)) (λ s i other e. e) s i;
      forth = λ s i z unlived. slots_after rings n j (Live y su) r written within (λ s i w. slot_at (rings s) i ≡ z → w ≡ z)
          (λ e. absurd (subst IsUnlived (sym e ∙ lives) unlived)) (λ s i other e. e) s i;
    }

-- the slots of a log were mapped, and the map changes live versions alone
pub in_place_map : (rings : ℕ → Ring) (n : ℕ) (f : Slot → Slot) (free : f Free ≡ Free) → ((z : Slot) → IsUnlived z → f z ≡ z)
    → ((z : Slot) → IsUnlived (f z) → IsUnlived z)
    → StaysInPlace rings (mapped rings n f free)
in_place_map rings n f free same was = record {
  wide = wide_mapped rings n f free;
  back = λ s i z unlived. slots_mapped rings n f free (λ s i w. w ≡ z → slot_at (rings s) i ≡ z)
      (λ i e. sym (same (slot_at (rings n) i) (was (slot_at (rings n) i) (subst IsUnlived (sym e) unlived))) ∙ e) (λ s i ne e. e) s i;
  forth = λ s i z unlived. slots_mapped rings n f free (λ s i w. slot_at (rings s) i ≡ z → w ≡ z) (λ i e. ap f e ∙ same z unlived) (λ s i ne e. e) s i;
}

-- positions, and what of positions-and-grace reads places
pub record PlaceFacts (c : Config) (h : List Entry) (f : ViewParts) (rings : ℕ → Ring) : Type 0 where
  pub positions : Positions c h rings
  pub live : (s j : ℕ) (x : Version) (st : WriteSetStatus) → Lives rings s j x st → c.base + x.position / c.slots ≤ f.grace s
  pub free : (s j : ℕ) → j < c.slots → slot_at (rings s) j ≡ Free → c.base + next_in c (rings s) j / c.slots ≤ f.grace s
  pub built : (s j : ℕ) (b : Build) → slot_at (rings s) j ≡ Built b → c.base + (rings s).next / c.slots ≤ f.grace s
  pub freeing : (s j p first : ℕ) → slot_at (rings s) j ≡ Freeing p first → c.base + p / c.slots < f.grace s

-- and the facts that stay where each version lives on
pub record InPlaceFacts (c : Config) (m : Memory) (h : List Entry) (f : ViewParts) (rings : ℕ → Ring) : Type 0 where
  pub place : PlaceFacts c h f rings
  pub stamps : Stamps c (m Clock) (λ s j. m (Stamp s j)) rings
  pub successors : Successors c h (λ s j. m (Stamp s j)) (λ s j. m (Super s j)) f.section rings
  pub succeeded : SucceededHasSuper c h (λ s j. m (Super s j)) f.empty rings

module _ {starts : State → Type 0} {allows : List ℕ → State → Writes → Type 0} {c : Config} {start : State} {m : Memory} {h : List Entry} {f : ViewParts}
    (k : Facts starts allows c start m h f) (rings : ℕ → Ring) where
  pub place_facts : (R : Becomes) → KeepsPlace R → Matches R f.ring rings → StaysInPlace f.ring rings → PlaceFacts c h f rings
  place_facts R places same stays =
      let next_is : (s : ℕ) → (rings s).next ≡ (f.ring s).next = same.next in record {
        positions = set.positions_match R places c h f.ring rings same stays.wide (λ s j p first. stays.back s j (Freeing p first) tt)
            (λ s j p first. stays.forth s j (Freeing p first) tt) (λ s j b e. k.positions.built s j b (stays.back s j (Built b) tt e)) k.positions;
        live = λ s j x st lives.
            let b = same.back s j x st lives in
            subst (λ (p : ℕ). c.base + p / c.slots ≤ f.grace s) (sym (places b.0 b.1 x st b.3).position) (k.positions_and_grace.live s j b.0 b.1 b.2);
        free = λ s j low e. subst (λ (p : ℕ). c.base + (p + (j + c.slots - p % c.slots) % c.slots) / c.slots ≤ f.grace s) (sym (next_is s))
            (k.positions_and_grace.free s j low (stays.back s j Free tt e));
        built = λ s j b e. subst (λ (p : ℕ). c.base + p / c.slots ≤ f.grace s) (sym (next_is s))
            (k.positions_and_grace.built s j b (stays.back s j (Built b) tt e));
        freeing = λ s j p first e. k.positions_and_grace.freeing s j p first (stays.back s j (Freeing p first) tt e);
      }

  pub in_place_facts : Matches LivesOn f.ring rings → StaysInPlace f.ring rings → InPlaceFacts c m h f rings
  in_place_facts on stays =
      let stamp : ℕ → ℕ → ℕ = λ s j. m (Stamp s j) in
      let super : ℕ → ℕ → ℕ = λ s j. m (Super s j) in record {
        place = place_facts LivesOn on_place on stays;
        stamps = stamped.stamps_match c h f.ring rings on stamp stamp (λ s j x st l. refl) (m Clock)
            (λ s j b e. k.stamps.built s j b (stays.back s j (Built b) tt e)) k.stamps;
        successors = stamped.successors_match c h f.ring rings on super super (λ s j x st l. refl) stamp stamp (λ s j x st l. refl) f.section
            (λ s j b e. k.successors.built s j b (stays.back s j (Built b) tt e)) k.successors;
        succeeded = stamped.succeeded_match c h f.ring rings on super super (λ s j x st l. refl) f.empty k.succeeded_has_super;
      }
