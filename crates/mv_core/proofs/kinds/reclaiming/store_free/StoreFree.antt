-- store STAMP 0 (free), over all facts: the oldest slot of the log is free, and its whole write set with the first of them.
use Rattle.std.proofs.Common.{◌≡◌, ◌≢◌, ℕ, ◌<◌, Bool, cond, List, length, map, refl, sym, ap, ◌∙◌, subst, ne_eqb, arith, Some}
use Rattle.std.proofs.lemmas.List.{length-set, length-map}
use Rattle.mv_core.proofs.Terms.{Entry, State, Writes, Config, Stamp, Super, Memory, put, Ring, Slot, Free, Built, Live, Freeing, Version, WriteSetStatus}
use Rattle.mv_core.proofs.Terms.{Held, Aborted, Committed, Knowledge, Outside, Inside, slot_at, index_of, Lives, ViewParts, parts_of, set_at, section_of}
use Rattle.mv_core.specs.ReclaimSteps.{UsesPosition, IsDeadBy, MayFreeSlot, MayStoreFree, freeing_slot, freed_ring, free_stored}
use Rattle.mv_core.proofs.FactTerms.{LockFreshness, WalkerLate, SucceededHasSuper, Deaths, DeathsSeen, DeathAfterWrite, CutIsOld, SuccessorFlag}
use Rattle.mv_core.proofs.FactTerms.{RunsOn, Facts, Stores, IsKept}
use Rattle.mv_core.proofs.frames.FrameLaw.{unchanged, changed, settle}
use Rattle.mv_core.proofs.logs.Slots.{slot_here, slot_else, slot_mapped, slot_within}
use Rattle.mv_core.proofs.kinds.reclaiming.store_free.FreedLog as log
use Rattle.mv_core.proofs.kinds.reclaiming.store_free.FreedLog.{IsFreed}
use Rattle.mv_core.proofs.kinds.reclaiming.store_free.FreedSets as sets
use Rattle.mv_core.proofs.kinds.reclaiming.store_free.FreedChains as chain
use Rattle.mv_core.proofs.kinds.reclaiming.store_free.FreedWalks as walks

module _ {starts : State → Type 0} {allows : List ℕ → State → Writes → Type 0} {c : Config} {start : State} {m : Memory} {h : List Entry} {f : ViewParts}
    (k : Facts starts allows c start m h f) (n position : ℕ) (r : Ring) (is : IsFreed c f n position r) where
  abbrev later : ℕ → Ring
  later = log.later k n position r is

  was : (s j : ℕ) (x : Version) (st : WriteSetStatus) → Lives later s j x st → Lives f.ring s j x st
  was = log.was k n position r is

  -- all facts after the store
  pub freed_facts : Facts starts allows c start (put m (Stamp n (index_of c position)) 0) h (changed f n (record unchanged { ring = Some r }))
  freed_facts =
      let fresh : LockFreshness c h f.time later = λ s j x lives. k.lock_freshness s j x (was s j x Held lives) in
      let deaths : Deaths c h later = record {
        aborted = λ s j dead x lives. k.deaths.aborted s j dead x (was s j x (Aborted (Some dead)) lives);
        cut = λ s j dead x note lives. k.deaths.cut s j dead x note (was s j x (Committed note) lives);
        superseded = λ s j dead x note lives. k.deaths.superseded s j dead x note (was s j x (Committed note) lives);
      } in
      let seen : DeathsSeen c f.past later = λ s j x st lives. k.deaths_seen s j x st (was s j x st lives) in
      let late : WalkerLate f.time f.walk later = λ s t stand x note timed at late names.
      k.walker_late s t stand x note timed at late (chain.names_was k n position r is stand.link x (Committed note) names) in
      let flags : SuccessorFlag (λ s j. m (Super s j)) f.section later = λ s j i naming x note there mode lives time.
      let a = k.successor_flag s j i naming x note there mode (was s j x (Committed note) lives) time in
      (a.0, λ y other under. a.1 y other (chain.names_was k n position r is x.previous y (Committed other) under)) in
      let succeeded : SucceededHasSuper c h (λ s j. m (Super s j)) f.empty later = λ s e has.
      let a = k.succeeded_has_super s e has in (a.0, λ j x note lives. a.1 j x note (was s j x (Committed note) lives)) in
      let cut : CutIsOld f.time later = λ s j x note lives. k.cut_is_old s j x note (was s j x (Committed note) lives) in
      let death_after : DeathAfterWrite later = λ s j dead x note lives. k.death_after_write s j dead x note (was s j x (Committed note) lives) in
      let words_after = sets.words_after k n position r is in
      let stamps_after = sets.stamps_after k n position r is in
      let sets_after = sets.sets_after k n position r is in
      let helped_after = sets.helped_after k n position r is in
      let successors_after = sets.successors_after k n position r is in
      let positions_after = sets.positions_after k n position r is in
      let open_after = sets.open_after k n position r is in
      let grace_after = sets.grace_after k n position r is in
      let heads = chain.heads k n position r is in
      let links = chain.links k n position r is in
      let commit_links = chain.commit_links k n position r is in
      let aborted_links = chain.aborted_links k n position r is in
      let masters = chain.masters k n position r is in
      let feet = chain.feet k n position r is in
      let freed_after = chain.freed_after k n position r is in
      let past_help = walks.past_help k n position r is in
      let places = walks.places k n position r is in
      let deaths' = walks.deaths k n position r is in
      let knowledge = walks.knowledge k n position r is in
      let below = walks.below k n position r is in
      let falls = walks.falls k n position r is in
      let found = walks.found k n position r is in
      let unfinished = walks.unfinished k n position r is in
      let named = walks.named k n position r is in
      let backs = walks.backs k n position r is in
      assumption (k)

-- a slot that isn't of the set is as it was
freeing_same : (position : ℕ) (z : Slot) → ((x : Version) (st : WriteSetStatus) → z ≡ Live x st → x.first ≢ position) → freeing_slot position z ≡ z
freeing_same position Free apart = refl
freeing_same position (Built b) apart = refl
freeing_same position (Freeing p first) apart = refl
freeing_same position (Live x st) apart = ap (λ (b : Bool). cond b (Freeing x.position x.first) (Live x st)) (ne_eqb x.first position (apart x st refl))

module _ {starts : State → Type 0} {allows : List ℕ → State → Writes → Type 0} {c : Config} {start : State} {m : Memory} {h : List Entry}
    (seats : ℕ → Knowledge)
    (k : Facts starts allows c start m h (parts_of seats))
    (v : Knowledge) (is : seats v.number ≡ v) (position : ℕ) (may : MayStoreFree c v position) where
  abbrev n : ℕ
  n = v.number

  abbrev f : ViewParts
  f = parts_of seats

  abbrev slot : ℕ
  slot = index_of c position

  abbrev ring_is : f.ring n ≡ v.ring
  ring_is = ap (λ (u : Knowledge). u.ring) is

  -- the set in that slot begins at the position
  first_is : (x : Version) (st : WriteSetStatus) → slot_at v.ring slot ≡ Live x st → x.first ≡ position
  first_is x st e =
      let lives : Lives f.ring n slot x st = ap (λ (q : Ring). slot_at q slot) ring_is ∙ e in
      let used : UsesPosition (Live x st) position = subst (λ (z : Slot). UsesPosition z position) e may.in_use in
      let position_is : x.position ≡ position = used in
      let first = k.write_sets.first n slot x st lives in
      let there : slot_at v.ring (index_of c x.first) ≡ Live first.version first.status =
      ap (λ (q : Ring). slot_at q (index_of c x.first)) (sym ring_is) ∙ first.lives in
      let low = may.oldest (index_of c x.first) x.first (subst (λ (z : Slot). UsesPosition z x.first) (sym there) first.position_is) in
      let high = k.write_sets.after_first n slot x st lives in
      omega arith

  -- a version whose set begins there is of the set in that slot
  set_there : (j : ℕ) (x : Version) (st : WriteSetStatus) → slot_at v.ring j ≡ Live x st → x.first ≡ position
      → (y : Version) × (su : WriteSetStatus) × (slot_at v.ring slot ≡ Live y su)
  set_there j x st e same =
      let first = k.write_sets.first n j x st (ap (λ (q : Ring). slot_at q j) ring_is ∙ e) in (
        first.version,
        first.status,
        ap (λ (q : Ring). slot_at q slot) (sym ring_is)
            ∙ subst (λ (p : ℕ). Lives f.ring n (index_of c p) first.version first.status) same first.lives,
      )

  abbrev AreFreed : Ring → Type 0
  AreFreed r = (r.next ≡ v.ring.next) × (length r.slots ≡ length v.ring.slots) × (slot_at r slot ≡ Free) ×
      ((j : ℕ) → j ≢ slot → slot_at r j ≡ freeing_slot position (slot_at v.ring j))
      × ((j : ℕ) (x : Version) (st : WriteSetStatus) → slot_at v.ring j ≡ Live x st → x.first ≡ position → IsDeadBy v.grace st)

  freed : (z : Slot) → slot_at v.ring slot ≡ z → AreFreed (freed_ring v.ring slot z)
  freed Free e = absurd (subst (λ (z : Slot). UsesPosition z position) e may.in_use)
  freed (Built b) e = absurd (subst (λ (z : Slot). UsesPosition z position) e may.in_use)
  freed (Freeing p first) e =
      let within : slot < length v.ring.slots = slot_within v.ring slot (λ free. let clash : Free ≡ Freeing p first = sym free ∙ e in absurd (cc)) in
      let apart : (j : ℕ) (x : Version) (st : WriteSetStatus) → slot_at v.ring j ≡ Live x st → x.first ≢ position =
      λ j x st l same. let a = set_there j x st l same in let clash : Freeing p first ≡ Live a.0 a.1 = sym e ∙ a.2 in absurd (cc) in (
        refl,
        length-set v.ring.slots slot Free,
        slot_here v.ring slot Free within,
        (λ j ne. slot_else v.ring slot j Free ne ∙ sym (freeing_same position (slot_at v.ring j) (apart j))),
        (λ j x st l same. absurd (apart j x st l same)),
      )
  freed (Live x st) e =
      let within : slot < length v.ring.slots = slot_within v.ring slot (λ free. let clash : Free ≡ Live x st = sym free ∙ e in absurd (cc)) in
      let first : x.first ≡ position = first_is x st e in
      let mapped : Ring = record v.ring { slots = map (freeing_slot x.first) v.ring.slots } in
      let long : length mapped.slots ≡ length v.ring.slots = length-map v.ring.slots (freeing_slot x.first) in
      let free : MayFreeSlot v (Live x st) = subst (MayFreeSlot v) e may.may_free in (
        refl,
        length-set mapped.slots slot Free ∙ long,
        slot_here mapped slot Free (omega arith),
        (λ j ne. slot_else mapped slot j Free ne ∙ slot_mapped (freeing_slot x.first) refl v.ring j ∙ ap (λ (p : ℕ). freeing_slot p (slot_at v.ring j)) first),
        (λ j y su l same. free j y su l (same ∙ sym first)),
      )

  pub is_freed : IsFreed c f n position (freed_ring v.ring slot (slot_at v.ring slot))
  is_freed =
      let a = freed (slot_at v.ring slot) refl in record {
        outside = ap (λ (u : Knowledge). section_of u.phase) is ∙ ap section_of may.outside;
        next = a.0 ∙ ap (λ (q : Ring). q.next) (sym ring_is);
        wide = a.1 ∙ ap (λ (q : Ring). length q.slots) (sym ring_is);
        here = a.2;
        apart = λ j ne. a.3 j ne ∙ ap (λ (q : Ring). freeing_slot position (slot_at q j)) (sym ring_is);
        used = subst (λ (q : Ring). UsesPosition (slot_at q slot) position) (sym ring_is) may.in_use;
        oldest = λ j p u. may.oldest j p (subst (λ (q : Ring). UsesPosition (slot_at q j) p) ring_is u);
        dead = λ j x st lives same. subst (λ (u : Knowledge). IsDeadBy u.grace st) (sym is)
            (a.4 j x st (ap (λ (q : Ring). slot_at q j) (sym ring_is) ∙ lives) same);
      }

  pub free_stored_facts : Facts starts allows c start (put m (Stamp n slot) 0) h (parts_of (set_at seats v.number (free_stored c v position)))
  free_stored_facts =
      settle starts allows c start (put m (Stamp n slot) 0) h seats v.number v (free_stored c v position) is
      (record unchanged { ring = Some (free_stored c v position).ring }) (refl, refl, refl, refl, refl, refl, refl, refl, refl, refl, refl)
      (freed_facts k n position (freed_ring v.ring slot (slot_at v.ring slot)) is_freed)

module _ (starts : State → Type 0) (allows : List ℕ → State → Writes → Type 0) (c : Config) (start : State) (v : Knowledge) where
  -- outside a section a pass has nothing of it at run time
  free_runs : (position : ℕ) → MayStoreFree c v position → RunsOn v (free_stored c v position)
  free_runs position may time first timed begun = (timed, λ i e mode some. let clash : Outside ≡ Inside i = sym may.outside ∙ e in absurd (cc))

  pub free_stores : (position : ℕ) → MayStoreFree c v position
      → Stores starts allows c start v (Stamp v.number (index_of c position)) 0 (λ w. ((w ≡ free_stored c v position) × RunsOn v w) × IsKept v w)
  free_stores position may m h seats k is own begins = (
    free_stored c v position,
    h,
    free_stored_facts seats k v is position may,
    ((refl, free_runs position may), (refl, refl, refl, refl, refl, refl)),
  )
