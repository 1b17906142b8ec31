-- store DATA of a held slot: the version has another word, and is the same to all other seats.
use Rattle.std.proofs.Common.{◌≡◌, ℕ, ◌-◌, ◌<◌, List, length, refl, sym, ap, ◌∙◌, subst, arith, slice_index, Some}
use Rattle.std.specs.Prelude.{slice_set}
use Rattle.std.proofs.lemmas.List.{get_or-set_same, get_or-set_other, length-set}
use Rattle.mv_core.proofs.Terms.{dite, ℕ_discrete, Entry, State, Writes, Config, First, Stamp, Prev, Super, Data, Memory, put, Ring, Slot, Live}
use Rattle.mv_core.proofs.Terms.{Version, Held, Knowledge, slot_at, index_of, put_slot, is_held, held_count, Lives, ViewParts, parts_of, set_at}
use Rattle.mv_core.proofs.FactTerms.{HoldsVersion, HoldsSlot, SlotWords, RunsOn, Facts, Stores, IsKept}
use Rattle.mv_core.specs.LockSteps.{MayStoreData, data_stored}
use Rattle.mv_core.proofs.frames.FrameLaw.{unchanged, changed, settle}
use Rattle.mv_core.proofs.logs.Slots.{Matches, match_weaker, match_put, slots_after, live_within}
use Rattle.mv_core.proofs.frames.Matching.{LivesOn}
use Rattle.mv_core.proofs.kinds.reclaiming.cut_head.Cuts.{Steady, steady_self}
use Rattle.mv_core.proofs.frames.MatchedFacts.{steady_facts}
use Rattle.mv_core.proofs.frames.InPlace.{in_place_put, in_place_facts}
use Rattle.mv_core.proofs.logs.Counts.{held_same}
use Rattle.mv_core.proofs.logs.SlotWords.{data_word_here, data_word_else, data_word_other}

-- the version with another word
abbrev with_word : Version → ℕ → ℕ → Version
with_word x w value = record x { words = slice_set x.words w value }

module _ {starts : State → Type 0} {allows : List ℕ → State → Writes → Type 0} {c : Config} {start : State} {m : Memory} {h : List Entry} {f : ViewParts}
    (k : Facts starts allows c start m h f)
    (n slot w value : ℕ) (x : Version) (lives : Lives f.ring n slot x Held) (range : w < 6) where
  abbrev stored : Ring
  stored = put_slot (f.ring n) slot (Live (with_word x w value) Held)

  abbrev rings : ℕ → Ring
  rings = set_at f.ring n stored

  within : slot < length (f.ring n).slots
  within = live_within (f.ring n) slot x Held lives

  steady : Matches Steady f.ring rings
  steady = match_put Steady steady_self f.ring n slot (Live (with_word x w value) Held) stored refl within refl x Held (with_word x w value) Held lives refl
      ((((record { position = refl; first = refl; object = refl; previous = refl }, refl), refl), λ held. held), refl)

  -- what holds of the slot, and of each other, holds of all
  all_slots : (P : ℕ → ℕ → Slot → Type 0) → P n slot (Live (with_word x w value) Held) → ((s j : ℕ) → ¬ ((s ≡ n) × (j ≡ slot)) → P s j (slot_at (f.ring s) j))
      → (s j : ℕ) → P s j (slot_at (rings s) j)
  all_slots = slots_after f.ring n slot (Live (with_word x w value) Held) stored refl within

  holds : HoldsVersion (m (First n slot)) (m (Prev n slot)) (λ i. m (Data n slot i)) x
  holds = subst (HoldsSlot (m (First n slot)) (m (Prev n slot)) (λ i. m (Data n slot i))) lives (k.slot_words n slot)

  holds_after : HoldsVersion (m (First n slot)) (m (Prev n slot)) (λ i. put m (Data n slot w) value (Data n slot i)) (with_word x w value)
  holds_after = record {
    first_is = holds.first_is;
    prev_is = holds.prev_is;
    wide = length-set x.words w value ∙ holds.wide;
    words = λ i lt.
        dite (ℕ_discrete i w)
        (λ e.
        let there : w < length x.words = (let wide = holds.wide in omega arith) in
        subst (λ (j : ℕ). put m (Data n slot w) value (Data n slot j) ≡ slice_index (slice_set x.words w value) j) (sym e)
        (data_word_here n slot w value (m (Data n slot w)) ∙ sym (get_or-set_same x.words w value 0 there)))
        (λ ne. data_word_other n slot w i value (m (Data n slot i)) ne ∙ holds.words i lt ∙ sym (get_or-set_other x.words w i value 0 ne));
  }

  slot_words_after : SlotWords (λ s j. m (First s j)) (λ s j. m (Prev s j)) (λ s j i. put m (Data n slot w) value (Data s j i)) rings
  slot_words_after = all_slots (λ s j z. HoldsSlot (m (First s j)) (m (Prev s j)) (λ i. put m (Data n slot w) value (Data s j i)) z) holds_after
      (λ s j other. subst (λ (y : ℕ → ℕ). HoldsSlot (m (First s j)) (m (Prev s j)) y (slot_at (f.ring s) j))
      (λ t i. sym (data_word_else n slot w s j i value (m (Data s j i)) other) t) (k.slot_words s j))

  -- all facts after the store
  data_facts : Facts starts allows c start (put m (Data n slot w) value) h (changed f n (record unchanged { ring = Some stored }))
  data_facts =
      let stays = in_place_put f.ring n slot stored x (with_word x w value) Held Held lives refl in
      let on = match_weaker Steady LivesOn f.ring rings (λ y st z su a. a.0.0.0.0) steady in
      let in_place = in_place_facts k rings on stays in
      let steady_kept = steady_facts k rings (λ s j. m (Stamp s j)) (λ s j. m (Super s j)) (λ s j y st l. refl)
      (λ s j p used apart. apart) (λ s j y st l. refl) steady in
      assumption (slot_words_after, in_place, steady_kept, k)

module _ (starts : State → Type 0) (allows : List ℕ → State → Writes → Type 0) (c : Config) (start : State) (v : Knowledge) where
  pub data_stores : (position w value : ℕ) (x : Version) → MayStoreData c v position w x
      → Stores starts allows c start v (Data v.number (index_of c position) w) value (λ u. ((u ≡ data_stored c v position w value x) × RunsOn v u) × IsKept v u)
  data_stores position w value x may m h seats k is own begins =
      let u : Knowledge = data_stored c v position w value x in
      let n = v.number in
      let slot = index_of c position in
      let f : ViewParts = parts_of seats in
      let ring : (seats n).ring ≡ v.ring = ap (λ (y : Knowledge). y.ring) is in
      let lives : slot_at (seats n).ring slot ≡ Live x Held = ap (λ (r : Ring). slot_at r slot) ring ∙ may.held in
      let held : held_count u.ring ≡ held_count v.ring =
      held_same v.ring slot (Live (with_word x w value) Held) (live_within v.ring slot x Held may.held) (sym (ap is_held may.held)) in (
        u,
        h,
        settle starts allows c start (put m (Data n slot w) value) h seats n v u is
            (record unchanged { ring = Some (put_slot (seats n).ring slot (Live (with_word x w value) Held)) })
            (refl, refl, refl, refl, refl, refl, refl, ap (λ (r : Ring). put_slot r slot (Live (with_word x w value) Held)) (sym ring), refl, refl, refl)
            (data_facts k n slot w value x lives may.in_range),
        (
          (
            refl,
            (λ time first a begun.
                (a, λ i e mode some_held. begun i e mode (subst (λ (y : ℕ). 0 < y) held some_held) ∙ ap (λ (y : ℕ). v.ring.next - y) (sym held))),
          ),
          (refl, refl, refl, refl, refl, refl),
        ),
      )
