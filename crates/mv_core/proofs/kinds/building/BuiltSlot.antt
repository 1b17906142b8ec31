-- A word was stored into a slot that is being built: the frame of each such store, over all facts.
use Rattle.std.proofs.Common.{◌≡◌, ◌≢◌, ◌⊎◌, ℕ, ◌+◌, ◌-◌, ◌/◌, ◌%◌, ◌<◌, ◌≤◌, List, length, refl, sym}
use Rattle.std.proofs.Common.{ap, ◌∙◌, subst, inl, inr, ⊎_elim, arith, mod-lt, Option, Some, None, ◌*◌, ◌^◌, mul-le-mul}
use Rattle.std.proofs.lemmas.List.{get_or-replicate}
use Rattle.std.proofs.Math.Nat.{mod_self, lt-mul-div-succ}
use Rattle.mv_core.proofs.Terms.{dite, ℕ_discrete, Entry, State, Writes, Config, Clock, Grace, Mark, Head, Master, First, Stamp, Prev, Super, Data}
use Rattle.mv_core.proofs.Terms.{Memory, clock_seat_of, clock_slot_of, unset_of, Ring, Slot, Free, Built, Live, Freeing, Build, Version, WriteSetStatus}
use Rattle.mv_core.proofs.Terms.{Committed, slot_at, index_of, put_slot, Lives, ViewParts, set_at}
use Rattle.mv_core.proofs.FactTerms.{IsStored, HoldsBuild, HoldsSlot, SlotWords, stamp_of, IsDone, HelpedWords, next_in, Facts}
use Rattle.mv_core.specs.LockSteps.{nothing_built, build_in}
use Rattle.mv_core.proofs.frames.FrameLaw.{unchanged, changed}
use Rattle.mv_core.proofs.logs.Slots.{Matches, match_weaker, match_unlived, slots_after, wide_after, next_after, here_or_else}
use Rattle.mv_core.proofs.frames.Matching.{LivesOn, on_place}
use Rattle.mv_core.proofs.kinds.reclaiming.cut_head.Cuts.{Steady, steady_self}
use Rattle.mv_core.proofs.frames.MatchedFacts.{steady_facts}
use Rattle.mv_core.proofs.frames.MatchedSets as set
use Rattle.mv_core.proofs.frames.MatchedStamps as stamped
use Rattle.mv_core.proofs.logs.SlotWords.{of_parts}

-- what was stored so far is in the words
pub build_holds : (first prev : ℕ) (data_word : ℕ → ℕ) (slot : Slot) (b : Build) → build_in slot ≡ Some b → HoldsSlot first prev data_word slot
    → HoldsBuild first prev data_word b
build_holds first prev data_word Free b e holds =
    let same : nothing_built ≡ b = cc in
    subst (HoldsBuild first prev data_word) same
    (record {
      first_is = tt;
      prev_is = tt;
      wide = refl;
      words = λ i lt. subst (λ (o : Option ℕ). IsStored o (data_word i)) (sym (get_or-replicate 6 i None None lt)) tt;
    })
build_holds first prev data_word (Built a) b e holds = let same : a ≡ b = cc in subst (HoldsBuild first prev data_word) same holds
build_holds first prev data_word (Live x st) b e holds = let none : None ≡ Some b = e in absurd (cc)
build_holds first prev data_word (Freeing p f) b e holds = let none : None ≡ Some b = e in absurd (cc)

-- no version is where something may be built
pub unlived : (slot : Slot) (b : Build) → build_in slot ≡ Some b → (x : Version) (st : WriteSetStatus) → slot ≢ Live x st
unlived slot b e x st is = let none : None ≡ Some b = sym (ap build_in is) ∙ e in absurd (cc)

-- and nothing is being freed there
unfreed : (slot : Slot) (b : Build) → build_in slot ≡ Some b → (p f : ℕ) → slot ≢ Freeing p f
unfreed slot b e p f is = let none : None ≡ Some b = sym (ap build_in is) ∙ e in absurd (cc)

module _ {starts : State → Type 0} {allows : List ℕ → State → Writes → Type 0} {c : Config} {start : State} {m : Memory} {h : List Entry} {f : ViewParts}
    (k : Facts starts allows c start m h f)
    (n slot : ℕ) (b new : Build) (own : n < c.seats) (was : build_in (slot_at (f.ring n) slot) ≡ Some b) (at : slot ≡ index_of c (f.ring n).next) where
  -- the log after it
  abbrev pub built : Ring
  built = put_slot (f.ring n) slot (Built new)

  -- The words of the slots after it: this slot has what was stored in it so far, and the others are as they were. Its stamp may have become the unset one of
  -- the next position.
  pub record IsBuilt (first stamp prev super : ℕ → ℕ → ℕ) (data_word : ℕ → ℕ → ℕ → ℕ) : Type 0 where
    pub firsts : (s j : ℕ) → ¬ ((s ≡ n) × (j ≡ slot)) → first s j ≡ m (First s j)
    pub stamps : (s j : ℕ) → ¬ ((s ≡ n) × (j ≡ slot)) → stamp s j ≡ m (Stamp s j)
    pub prevs : (s j : ℕ) → ¬ ((s ≡ n) × (j ≡ slot)) → prev s j ≡ m (Prev s j)
    pub supers : (s j : ℕ) → ¬ ((s ≡ n) × (j ≡ slot)) → super s j ≡ m (Super s j)
    pub words : (s j i : ℕ) → ¬ ((s ≡ n) × (j ≡ slot)) → data_word s j i ≡ m (Data s j i)
    pub holds : HoldsBuild (first n slot) (prev n slot) (λ i. data_word n slot i) new
    pub stamp_holds : IsStored new.stamp (stamp n slot)
    pub super_holds : IsStored new.successor (super n slot)
    pub stamp_is : (stamp n slot ≡ m (Stamp n slot)) ⊎ (stamp n slot ≡ unset_of (f.ring n).next)

  -- the round of the next position, by what was in its slot
  next_known : c.base + (f.ring n).next / c.slots ≤ f.grace n
  next_known = go (slot_at (f.ring n) slot) refl was
    where
      go : (z : Slot) → slot_at (f.ring n) slot ≡ z → build_in z ≡ Some b → c.base + (f.ring n).next / c.slots ≤ f.grace n
      go Free e a =
          let slots = k.checked.slots.0 in
          let low : index_of c (f.ring n).next < c.slots = mod-lt (f.ring n).next (omega arith) in
          let same : next_in c (f.ring n) slot ≡ (f.ring n).next =
          ap (next_in c (f.ring n)) at ∙ ap (λ (d : ℕ). (f.ring n).next + d)
          (ap (λ (d : ℕ). d % c.slots) (let e : index_of c (f.ring n).next + c.slots - (f.ring n).next % c.slots ≡ c.slots = omega arith in e) ∙
          mod_self c.slots) ∙ (omega arith) in
          subst (λ (p : ℕ). c.base + p / c.slots ≤ f.grace n) same (k.positions_and_grace.free n slot (subst (λ (i : ℕ). i < c.slots) (sym at) low) e)
      go (Built a) e d = k.positions_and_grace.built n slot a e
      go (Live x st) e a = let none : None ≡ Some b = a in absurd (cc)
      go (Freeing p q) e a = let none : None ≡ Some b = a in absurd (cc)

  -- and the next position fits a link
  pub next_fits : (f.ring n).next < 2 ^ 57
  next_fits =
      let slots = k.checked.slots in
      let some_slots : 0 < c.slots = (let low = slots.0 in omega arith) in
      let below = lt-mul-div-succ (f.ring n).next some_slots in
      let known = next_known in
      let grace = (k.grace.views n).0 in
      let long = k.history.long in
      let in_time = k.history.in_time in
      let most : c.slots * ((f.ring n).next / c.slots + 1) ≤ 4096 * 35184372088832 =
      mul-le-mul slots.1 (let e : (f.ring n).next / c.slots + 1 ≤ 35184372088832 = omega arith in e) in
      omega arith

  module _ (first stamp prev super : ℕ → ℕ → ℕ) (data_word : ℕ → ℕ → ℕ → ℕ) (is : IsBuilt first stamp prev super data_word) where
    abbrev rings : ℕ → Ring
    rings = set_at f.ring n built

    within : slot < length (f.ring n).slots
    within =
        let wide = k.positions.wide n in
        let slots = k.checked.slots.0 in
        let low : index_of c (f.ring n).next < c.slots = mod-lt (f.ring n).next (omega arith) in
        omega arith

    not_live : (x : Version) (st : WriteSetStatus) → slot_at (f.ring n) slot ≢ Live x st
    not_live = unlived (slot_at (f.ring n) slot) b was

    steady : Matches Steady f.ring rings
    steady = match_unlived Steady steady_self f.ring n slot (Built new) built refl within refl not_live (λ y st e. absurd (cc))

    on : Matches LivesOn f.ring rings
    on = match_weaker Steady LivesOn f.ring rings (λ x st y su a. a.0.0.0.0) steady

    -- a live version is in another slot
    other_slot : (s j : ℕ) (x : Version) (st : WriteSetStatus) → Lives f.ring s j x st → ¬ ((s ≡ n) × (j ≡ slot))
    other_slot s j x st lives e = not_live x st (subst (λ (i : ℕ). slot_at (f.ring n) i ≡ Live x st) e.1
        (subst (λ (t : ℕ). slot_at (f.ring t) j ≡ Live x st) e.0 lives))

    same_stamp : (s j : ℕ) (x : Version) (st : WriteSetStatus) → Lives f.ring s j x st → stamp_of c stamp s x ≡ m (Stamp s (index_of c x.first))
    same_stamp s j x st lives =
        let first = k.write_sets.first s j x st lives in
        is.stamps s (index_of c x.first) (other_slot s (index_of c x.first) first.version first.status first.lives)

    same_super : (s j : ℕ) (x : Version) (st : WriteSetStatus) → Lives f.ring s j x st → super s j ≡ m (Super s j)
    same_super s j x st lives = is.supers s j (other_slot s j x st lives)

    -- what holds of the built slot, and of each other, holds of all
    all_slots : (P : ℕ → ℕ → Slot → Type 0) → P n slot (Built new) → ((s j : ℕ) → ¬ ((s ≡ n) × (j ≡ slot)) → P s j (slot_at (f.ring s) j)) → (s j : ℕ)
        → P s j (slot_at (rings s) j)
    all_slots = slots_after f.ring n slot (Built new) built refl within

    slot_words_after : SlotWords first prev data_word rings
    slot_words_after = all_slots (λ s j z. HoldsSlot (first s j) (prev s j) (λ i. data_word s j i) z) is.holds
        (λ s j other.
        let z : Slot = slot_at (f.ring s) j in
        subst (λ (w : ℕ → ℕ). HoldsSlot (first s j) (prev s j) w z) (λ t i. sym (is.words s j i other) t)
        (subst (λ (p : ℕ). HoldsSlot (first s j) p (λ i. m (Data s j i)) z) (sym (is.prevs s j other))
        (subst (λ (a : ℕ). HoldsSlot a (m (Prev s j)) (λ i. m (Data s j i)) z) (sym (is.firsts s j other)) (k.slot_words s j))))

    stamps_built : (s j : ℕ) (a : Build) → slot_at (rings s) j ≡ Built a → IsStored a.stamp (stamp s j)
    stamps_built = all_slots (λ s j z. (a : Build) → z ≡ Built a → IsStored a.stamp (stamp s j))
        (λ a e. let same : new ≡ a = cc in subst (λ (d : Build). IsStored d.stamp (stamp n slot)) same is.stamp_holds)
        (λ s j other a e. subst (IsStored a.stamp) (sym (is.stamps s j other)) (k.stamps.built s j a e))

    supers_built : (s j : ℕ) (a : Build) → slot_at (rings s) j ≡ Built a → IsStored a.successor (super s j)
    supers_built = all_slots (λ s j z. (a : Build) → z ≡ Built a → IsStored a.successor (super s j))
        (λ a e. let same : new ≡ a = cc in subst (λ (d : Build). IsStored d.successor (super n slot)) same is.super_holds)
        (λ s j other a e. subst (IsStored a.successor) (sym (is.supers s j other)) (k.successors.built s j a e))

    freeing_back : (s j p first : ℕ) → slot_at (rings s) j ≡ Freeing p first → slot_at (f.ring s) j ≡ Freeing p first
    freeing_back = all_slots (λ s j z. (p first : ℕ) → z ≡ Freeing p first → slot_at (f.ring s) j ≡ Freeing p first) (λ p first e. absurd (cc))
        (λ s j other p first e. e)

    freeing_forth : (s j p first : ℕ) → slot_at (f.ring s) j ≡ Freeing p first → slot_at (rings s) j ≡ Freeing p first
    freeing_forth = all_slots (λ s j z. (p first : ℕ) → slot_at (f.ring s) j ≡ Freeing p first → z ≡ Freeing p first)
        (λ p first e. absurd (unfreed (slot_at (f.ring n) slot) b was p first e)) (λ s j other p first e. e)

    built_next : (s j : ℕ) (a : Build) → slot_at (rings s) j ≡ Built a → index_of c (f.ring s).next ≡ j
    built_next = all_slots (λ s j z. (a : Build) → z ≡ Built a → index_of c (f.ring s).next ≡ j) (λ a e. sym at) (λ s j other a e. k.positions.built s j a e)

    next_is : (s : ℕ) → (rings s).next ≡ (f.ring s).next
    next_is = next_after f.ring n slot (Built new) built refl within refl

    -- a helped word is done still: the clock names a live commit
    done_after : (word : ℕ) → IsDone (m Clock) (λ s j. m (Stamp s j)) word → IsDone (m Clock) stamp word
    done_after word done =
        ⊎_elim (λ a. inl a)
        (λ d. ⊎_elim (λ e. inr (inl e))
        (λ e. ⊎_elim
        (λ here. dite (ℕ_discrete (m Clock) word)
        (λ now. dite (ℕ_discrete (clock_slot_of word) 8191) (λ none. inr (inl none))
        (λ names.
        let r = k.freed_is_old.named (λ none. names (sym (ap clock_slot_of now) ∙ none)) in
        let lives : Lives f.ring (clock_seat_of word) (clock_slot_of word) r.0 (Committed r.1) =
        subst (λ (w : ℕ). slot_at (f.ring (clock_seat_of w)) (clock_slot_of w) ≡ Live r.0 (Committed r.1)) now r.2 in
        absurd (other_slot (clock_seat_of word) (clock_slot_of word) r.0 (Committed r.1) lives here)))
        (λ ne. inl ne))
        (λ other. inr (inr (is.stamps (clock_seat_of word) (clock_slot_of word) other ∙ e)))
        (here_or_else (clock_seat_of word) n (clock_slot_of word) slot)) d) done

    apart_after : (s j p : ℕ) → p < (f.ring s).next → m (Stamp s j) ≢ unset_of p → stamp s j ≢ unset_of p
    apart_after s j p used apart e =
        ⊎_elim
        (λ here.
        let word : stamp n slot ≡ unset_of p = (λ i. stamp (sym here.0 i) (sym here.1 i)) ∙ e in
        ⊎_elim
        (λ same. apart ((λ i. m (Stamp (here.0 i) (here.1 i))) ∙ sym same ∙ word))
        (λ unset. let both : unset_of (f.ring n).next ≡ unset_of p = sym unset ∙ word in let low : p < (f.ring n).next =
        subst (λ (t : ℕ). p < (f.ring t).next) here.0 used in omega arith)
        is.stamp_is)
        (λ other. apart (sym (is.stamps s j other) ∙ e))
        (here_or_else s n j slot)

    free_after : (s j : ℕ) → j < c.slots → slot_at (rings s) j ≡ Free → c.base + next_in c (rings s) j / c.slots ≤ f.grace s
    free_after s j low e =
        let was_free : slot_at (f.ring s) j ≡ Free = all_slots (λ t i z. z ≡ Free → slot_at (f.ring t) i ≡ Free) (λ e. absurd (cc)) (λ t i other e. e) s j e in
        subst (λ (p : ℕ). c.base + (p + (j + c.slots - p % c.slots) % c.slots) / c.slots ≤ f.grace s) (sym (next_is s))
        (k.positions_and_grace.free s j low was_free)

    grace_built : (s j : ℕ) (a : Build) → slot_at (rings s) j ≡ Built a → c.base + (rings s).next / c.slots ≤ f.grace s
    grace_built s j a e =
        subst (λ (p : ℕ). c.base + p / c.slots ≤ f.grace s) (sym (next_is s))
        (all_slots (λ t i z. (a : Build) → z ≡ Built a → c.base + (f.ring t).next / c.slots ≤ f.grace t) (λ a e. next_known)
        (λ t i other a e. k.positions_and_grace.built t i a e) s j a e)

    -- all facts after the store
    pub built_facts : Facts starts allows c start
        (of_parts (m Clock) (m Grace) (λ s. m (Mark s)) (λ o. m (Head o)) (λ o w. m (Master o w)) first stamp prev super data_word) h
        (changed f n (record unchanged { ring = Some built }))
    built_facts =
        let stamps = stamped.stamps_match c h f.ring rings on (λ s j. m (Stamp s j)) stamp same_stamp (m Clock) stamps_built k.stamps in
        let helped_words : HelpedWords (m Clock) stamp f.clocks = λ s word has. done_after word (k.helped_words s word has) in
        let successors = stamped.successors_match c h f.ring rings on (λ s j. m (Super s j)) super same_super (λ s j. m (Stamp s j)) stamp same_stamp
        f.section supers_built k.successors in
        let positions = set.positions_match LivesOn on_place c h f.ring rings on
        (wide_after f.ring n slot (Built new) built refl within) freeing_back freeing_forth
        built_next k.positions in
        let succeeded = stamped.succeeded_match c h f.ring rings on (λ s j. m (Super s j)) super same_super f.empty k.succeeded_has_super in
        let freeing : (s j p first : ℕ) → slot_at (rings s) j ≡ Freeing p first → c.base + p / c.slots < f.grace s =
        λ s j p first e. k.positions_and_grace.freeing s j p first (freeing_back s j p first e) in
        let steady_kept = steady_facts k rings stamp super same_stamp apart_after same_super steady in
        assumption (slot_words_after, stamps, helped_words, successors, positions, succeeded, free_after, grace_built, freeing, steady_kept, k)
