-- store into a built slot: each of its words.
use Rattle.std.proofs.Common.{◌^◌, ◌≡◌, ℕ, zero, suc, ◌-◌, ◌<◌, false, List, length, refl, sym, ap, ◌∙◌, subst, inl, inr}
use Rattle.std.proofs.Common.{arith, mod-lt, slice_index_or, Option, Some, None}
use Rattle.std.specs.Prelude.{slice_set}
use Rattle.std.proofs.lemmas.List.{get_or-set_same, get_or-set_other, length-set}
use Rattle.mv_core.proofs.Terms.{dite, ℕ_discrete, Entry, State, Writes, Config, Clock, Grace, Mark, Head, Master, First, Stamp, Prev, Super, Data}
use Rattle.mv_core.proofs.Terms.{Memory, put, unset_of, Ring, Slot, Free, Built, Live, Freeing, Build, Knowledge, slot_at, index_of, put_slot, is_held}
use Rattle.mv_core.proofs.Terms.{held_count, set_first, ViewParts, parts_of}
use Rattle.mv_core.proofs.FactTerms.{IsStored, HoldsBuild, RunsOn, Facts, Stores, IsKept}
use Rattle.mv_core.specs.LockSteps.{nothing_built, field_place, built_too, build_in, FitsField, MayStoreBuilt, built_stored}
use Rattle.mv_core.proofs.frames.FrameLaw.{unchanged, changed, settle}
use Rattle.mv_core.proofs.logs.Counts.{held_same}
use Rattle.mv_core.proofs.logs.SlotWords.{of_parts, parts_are, slot_word_here, slot_word_else, data_word_here, data_word_else, data_word_other}
use Rattle.mv_core.proofs.kinds.building.BuiltSlot.{IsBuilt, build_holds, next_fits, built_facts}

-- what is in a slot that may be built isn't held
unheld : (slot : Slot) (b : Build) → build_in slot ≡ Some b → is_held slot ≡ false
unheld Free b e = refl
unheld (Built a) b e = refl
unheld (Live x st) b e = let none : None ≡ Some b = e in absurd (cc)
unheld (Freeing p f) b e = refl

module _ {starts : State → Type 0} {allows : List ℕ → State → Writes → Type 0} {c : Config} {start : State} {m : Memory} {h : List Entry} {f : ViewParts}
    (k : Facts starts allows c start m h f)
    (n slot : ℕ) (b : Build) (own : n < c.seats) (was : build_in (slot_at (f.ring n) slot) ≡ Some b) (at : slot ≡ index_of c (f.ring n).next) where
  -- the stamp and SUPER that were stored before
  stored_before : IsStored b.stamp (m (Stamp n slot)) × IsStored b.successor (m (Super n slot))
  stored_before = go (slot_at (f.ring n) slot) refl was
    where
      go : (z : Slot) → slot_at (f.ring n) slot ≡ z → build_in z ≡ Some b → IsStored b.stamp (m (Stamp n slot)) × IsStored b.successor (m (Super n slot))
      go Free e a =
          let same : nothing_built ≡ b =
          cc in subst (λ (y : Build). IsStored y.stamp (m (Stamp n slot)) × IsStored y.successor (m (Super n slot))) same (tt, tt)
      go (Built a) e d =
          let same : a ≡ b = cc in
          subst (λ (y : Build). IsStored y.stamp (m (Stamp n slot)) × IsStored y.successor (m (Super n slot))) same
          (k.stamps.built n slot a e, k.successors.built n slot a e)
      go (Live x st) e a = let none : None ≡ Some b = a in absurd (cc)
      go (Freeing p q) e a = let none : None ≡ Some b = a in absurd (cc)

  before : HoldsBuild (m (First n slot)) (m (Prev n slot)) (λ i. m (Data n slot i)) b
  before = build_holds (m (First n slot)) (m (Prev n slot)) (λ i. m (Data n slot i)) (slot_at (f.ring n) slot) b was (k.slot_words n slot)

  -- all facts over the memory after a store that IsBuilt tells of
  after : (new : Build) (m' : Memory)
      → IsBuilt k n slot b new own was at (λ s j. m' (First s j)) (λ s j. m' (Stamp s j)) (λ s j. m' (Prev s j)) (λ s j. m' (Super s j))
      (λ s j i. m' (Data s j i))
      → Facts starts allows c start
      (of_parts (m Clock) (m Grace) (λ s. m (Mark s)) (λ o. m (Head o)) (λ o w. m (Master o w)) (λ s j. m' (First s j)) (λ s j. m' (Stamp s j))
      (λ s j. m' (Prev s j)) (λ s j. m' (Super s j)) (λ s j i. m' (Data s j i))) h
      (changed f n (record unchanged { ring = Some (put_slot (f.ring n) slot (Built new)) }))
  after new m' is = built_facts k n slot b new own was at _ _ _ _ _ is

  -- the first position, PREV and SUPER
  pub first_stored : (x : ℕ)
      → Facts starts allows c start (put m (First n slot) x) h
      (changed f n (record unchanged { ring = Some (put_slot (f.ring n) slot (Built (built_too b 0 x))) }))
  first_stored x =
      let m' : Memory = put m (First n slot) x in
      subst (λ (a : Memory). Facts starts allows c start a h
      (changed f n (record unchanged { ring = Some (put_slot (f.ring n) slot (Built (built_too b 0 x))) }))) (parts_are m')
      (after (built_too b 0 x) m' (record {
        firsts = λ s j other. slot_word_else n slot s j x (m (First s j)) other;
        stamps = λ s j other. refl;
        prevs = λ s j other. refl;
        supers = λ s j other. refl;
        words = λ s j i other. refl;
        holds = record { first_is = slot_word_here n slot x (m (First n slot)); prev_is = before.prev_is; wide = before.wide; words = before.words };
        stamp_holds = stored_before.0;
        super_holds = stored_before.1;
        stamp_is = inl refl;
      }))

  pub prev_stored : (x : ℕ)
      → Facts starts allows c start (put m (Prev n slot) x) h
      (changed f n (record unchanged { ring = Some (put_slot (f.ring n) slot (Built (built_too b 2 x))) }))
  prev_stored x =
      let m' : Memory = put m (Prev n slot) x in
      subst (λ (a : Memory). Facts starts allows c start a h
      (changed f n (record unchanged { ring = Some (put_slot (f.ring n) slot (Built (built_too b 2 x))) }))) (parts_are m')
      (after (built_too b 2 x) m' (record {
        firsts = λ s j other. refl;
        stamps = λ s j other. refl;
        prevs = λ s j other. slot_word_else n slot s j x (m (Prev s j)) other;
        supers = λ s j other. refl;
        words = λ s j i other. refl;
        holds = record { first_is = before.first_is; prev_is = slot_word_here n slot x (m (Prev n slot)); wide = before.wide; words = before.words };
        stamp_holds = stored_before.0;
        super_holds = stored_before.1;
        stamp_is = inl refl;
      }))

  pub super_stored : (x : ℕ)
      → Facts starts allows c start (put m (Super n slot) x) h
      (changed f n (record unchanged { ring = Some (put_slot (f.ring n) slot (Built (built_too b 3 x))) }))
  super_stored x =
      let m' : Memory = put m (Super n slot) x in
      subst (λ (a : Memory). Facts starts allows c start a h
      (changed f n (record unchanged { ring = Some (put_slot (f.ring n) slot (Built (built_too b 3 x))) }))) (parts_are m')
      (after (built_too b 3 x) m' (record {
        firsts = λ s j other. refl;
        stamps = λ s j other. refl;
        prevs = λ s j other. refl;
        supers = λ s j other. slot_word_else n slot s j x (m (Super s j)) other;
        words = λ s j i other. refl;
        holds = record { first_is = before.first_is; prev_is = before.prev_is; wide = before.wide; words = before.words };
        stamp_holds = stored_before.0;
        super_holds = slot_word_here n slot x (m (Super n slot));
        stamp_is = inl refl;
      }))

  -- the unset stamp of the next position
  pub stamp_stored : (x : ℕ) → x ≡ unset_of (f.ring n).next
      → Facts starts allows c start (put m (Stamp n slot) x) h
      (changed f n (record unchanged { ring = Some (put_slot (f.ring n) slot (Built (built_too b 1 x))) }))
  stamp_stored x unset =
      let m' : Memory = put m (Stamp n slot) x in
      subst (λ (a : Memory). Facts starts allows c start a h
      (changed f n (record unchanged { ring = Some (put_slot (f.ring n) slot (Built (built_too b 1 x))) }))) (parts_are m')
      (after (built_too b 1 x) m' (record {
        firsts = λ s j other. refl;
        stamps = λ s j other. slot_word_else n slot s j x (m (Stamp s j)) other;
        prevs = λ s j other. refl;
        supers = λ s j other. refl;
        words = λ s j i other. refl;
        holds = record { first_is = before.first_is; prev_is = before.prev_is; wide = before.wide; words = before.words };
        stamp_holds = slot_word_here n slot x (m (Stamp n slot));
        super_holds = stored_before.1;
        stamp_is = inr (slot_word_here n slot x (m (Stamp n slot)) ∙ unset);
      }))

  -- one of the six words of the version
  pub data_stored : (w x : ℕ) → w < 6
      → Facts starts allows c start (put m (Data n slot w) x) h
      (changed f n (record unchanged { ring = Some (put_slot (f.ring n) slot (Built (record b { words = slice_set b.words w (Some x) }))) }))
  data_stored w x range =
      let m' : Memory = put m (Data n slot w) x in
      let new : Build = record b { words = slice_set b.words w (Some x) } in
      let there : w < length b.words = (let wide = before.wide in omega arith) in
      let here : IsStored (slice_index_or new.words w None) (m' (Data n slot w)) =
      subst (λ (o : Option ℕ). IsStored o (m' (Data n slot w))) (sym (get_or-set_same b.words w (Some x) None there))
      (data_word_here n slot w x (m (Data n slot w))) in
      subst (λ (a : Memory). Facts starts allows c start a h (changed f n (record unchanged { ring = Some (put_slot (f.ring n) slot (Built new)) })))
      (parts_are m') (after new m' (record {
        firsts = λ s j other. refl;
        stamps = λ s j other. refl;
        prevs = λ s j other. refl;
        supers = λ s j other. refl;
        words = λ s j i other. data_word_else n slot w s j i x (m (Data s j i)) other;
        holds = record {
          first_is = before.first_is;
          prev_is = before.prev_is;
          wide = length-set b.words w (Some x) ∙ before.wide;
          words = λ i lt.
              dite (ℕ_discrete i w)
              (λ e. subst (λ (j : ℕ). IsStored (slice_index_or new.words j None) (m' (Data n slot j))) (sym e) here)
              (λ ne. subst (λ (y : ℕ). IsStored (slice_index_or new.words i None) y) (sym (data_word_other n slot w i x (m (Data n slot i)) ne))
              (subst (λ (o : Option ℕ). IsStored o (m (Data n slot i))) (sym (get_or-set_other b.words w i (Some x) None ne)) (before.words i lt)));
        };
        stamp_holds = stored_before.0;
        super_holds = stored_before.1;
        stamp_is = inl refl;
      }))

  -- each word of the slot, by its offset
  pub field_stored : (first position field x : ℕ) → position ≡ (f.ring n).next → FitsField first position field x
      → Facts starts allows c start (put m (field_place n slot field) x) h
      (changed f n (record unchanged { ring = Some (put_slot (f.ring n) slot (Built (built_too b field x))) }))
  field_stored first position zero x next fits = first_stored x
  field_stored first position (suc zero) x next fits = stamp_stored x (fits.1 ∙ ap unset_of next)
  field_stored first position (suc (suc zero)) x next fits = prev_stored x
  field_stored first position (suc (suc (suc zero))) x next fits = super_stored x
  field_stored first position (suc (suc (suc (suc w)))) x next fits = data_stored w x fits

module _ (starts : State → Type 0) (allows : List ℕ → State → Writes → Type 0) (c : Config) (start : State) (v : Knowledge) where
  pub built_stores : (position field x : ℕ) (b : Build) → MayStoreBuilt c v position field x b
      → Stores starts allows c start v (field_place v.number (index_of c position) field) x
      (λ w. (((w ≡ built_stored c v position field x b) × (position < 2 ^ 57)) × RunsOn v w) × IsKept v w)
  built_stores position field x b may m h seats k is own begins =
      let w : Knowledge = built_stored c v position field x b in
      let n = v.number in
      let slot = index_of c position in
      let f : ViewParts = parts_of seats in
      let ring : (seats n).ring ≡ v.ring = ap (λ (u : Knowledge). u.ring) is in
      let was : build_in (slot_at (seats n).ring slot) ≡ Some b = ap (λ (r : Ring). build_in (slot_at r slot)) ring ∙ may.build in
      let next : position ≡ (seats n).ring.next = may.next ∙ ap (λ (r : Ring). r.next) (sym ring) in
      let within : slot < length v.ring.slots =
      (let wide : length v.ring.slots ≡ c.slots = ap (λ (r : Ring). length r.slots) (sym ring) ∙ k.positions.wide n in
      let slots = k.checked.slots.0 in
      let low : index_of c position < c.slots = mod-lt position (omega arith) in
      omega arith) in
      let held : held_count w.ring ≡ held_count v.ring =
      held_same v.ring slot (Built (built_too b field x)) within (sym (unheld (slot_at v.ring slot) b may.build)) in (
        w,
        h,
        settle starts allows c start (put m (field_place n slot field) x) h seats n v w is
            (record unchanged { ring = Some (put_slot (seats n).ring slot (Built (built_too b field x))) })
            (refl, refl, refl, refl, refl, refl, refl, ap (λ (r : Ring). put_slot r slot (Built (built_too b field x))) (sym ring), refl, refl, refl)
            (field_stored k n slot b own was (ap (index_of c) next) (set_first v.ring) position field x next may.fits),
        (
          (
            (refl, subst (λ (p : ℕ). p < 2 ^ 57) (sym next) (next_fits k n slot b (built_too b field x) own was (ap (index_of c) next))),
            (λ time first a begun.
                (a, λ i e mode some_held. begun i e mode (subst (λ (u : ℕ). 0 < u) held some_held) ∙ ap (λ (u : ℕ). v.ring.next - u) (sym held))),
          ),
          (refl, refl, refl, refl, refl, refl),
        ),
      )
