-- store STAMP 0 (free), in the write sets and positions of the logs: the sets left are whole, with their stamps, and the slot's
-- next position is of the round after.
use Rattle.std.proofs.Common.{◌≡◌, ◌≢◌, ◌⊎◌, ℕ, ◌+◌, ◌-◌, ◌*◌, ◌/◌, ◌%◌, ◌<◌, ◌≤◌, List, length}
use Rattle.std.proofs.Common.{refl, sym, ap, ◌∙◌, subst, inl, inr, ⊎_elim, arith, Option, Some}
use Rattle.mv_core.proofs.Terms.{dite, ℕ_discrete, dec_lt, Entry, State, Writes, Config, Clock, First, Stamp, Prev, Super, Data, clock_seat_of}
use Rattle.mv_core.proofs.Terms.{clock_slot_of, Memory, put, Ring, Slot, Free, Built, Live, Freeing, Version, WriteSetStatus, Held, Aborted, Committed}
use Rattle.mv_core.proofs.Terms.{slot_at, index_of, Lives, InUse, ViewParts}
use Rattle.mv_core.proofs.FactTerms.{HoldsSlot, SlotWords, IsStored, StampedAs, stamp_of, Stamps, WriteSets, Successors, Positions, IsDone}
use Rattle.mv_core.proofs.FactTerms.{HelpedWords, OpenSection, next_in, PositionsAndGrace, Facts}
use Rattle.mv_core.specs.ReclaimSteps.{UsesPosition, IsDeadBy}
use Rattle.mv_core.proofs.logs.SlotWords.{slot_word_else}
use Rattle.mv_core.proofs.logs.Links.{position_once}
use Rattle.mv_core.proofs.logs.Slots.{here_or_else}
use Rattle.mv_core.proofs.kinds.locking.lock_head.NextPosition.{next_in-again, next_round}
use Rattle.mv_core.proofs.kinds.reclaiming.store_free.FreedLog as log
use Rattle.mv_core.proofs.kinds.reclaiming.store_free.FreedLog.{IsFreed, IsDropped}

module _ {starts : State → Type 0} {allows : List ℕ → State → Writes → Type 0} {c : Config} {start : State} {m : Memory} {h : List Entry} {f : ViewParts}
    (k : Facts starts allows c start m h f) (n position : ℕ) (r : Ring) (is : IsFreed c f n position r) where
  abbrev slot : ℕ
  slot = log.slot k n position r is

  abbrev later : ℕ → Ring
  later = log.later k n position r is

  abbrev stamp : ℕ → ℕ → ℕ
  stamp s j = m (Stamp s j)

  -- the stamps afterwards
  abbrev pub after : ℕ → ℕ → ℕ
  after s j = put m (Stamp n slot) 0 (Stamp s j)

  was : (s j : ℕ) (x : Version) (st : WriteSetStatus) → Lives later s j x st → Lives f.ring s j x st
  was = log.was k n position r is

  set_still : (s j l : ℕ) (x y : Version) (st su : WriteSetStatus) → Lives later s j x st → Lives f.ring s l y su → y.first ≡ x.first → Lives later s l y su
  set_still = log.set_still k n position r is

  next_same : (s : ℕ) → (later s).next ≡ (f.ring s).next
  next_same = log.next_same k n position r is

  each_slot : (P : ℕ → ℕ → Slot → Type 0) → P n slot Free
      → ((j : ℕ) (x : Version) (st : WriteSetStatus) → j ≢ slot → Lives f.ring n j x st → x.first ≡ position → P n j (Freeing x.position x.first))
      → ((s j : ℕ) → ¬ ((s ≡ n) × (j ≡ slot)) → ((x : Version) (st : WriteSetStatus) → slot_at (f.ring s) j ≡ Live x st → s ≡ n → x.first ≢ position)
      → P s j (slot_at (f.ring s) j)) → (s j : ℕ) → P s j (slot_at (later s) j)
  each_slot = log.each_slot k n position r is

  -- the stamp of each other slot is as it was
  pub stamp_else : (s j : ℕ) → ¬ ((s ≡ n) × (j ≡ slot)) → after s j ≡ stamp s j
  stamp_else s j ne = slot_word_else n slot s j 0 (stamp s j) ne

  -- and so is that of each set that lives
  pub stamp_same : (s j : ℕ) (x : Version) (st : WriteSetStatus) → Lives later s j x st → stamp_of c after s x ≡ stamp_of c stamp s x
  stamp_same s j x st lives = stamp_else s (index_of c x.first) (log.other_slot k n position r is s j x st lives)

  pub words_after : SlotWords (λ s j. m (First s j)) (λ s j. m (Prev s j)) (λ s j i. m (Data s j i)) later
  words_after =
      each_slot (λ s j z. HoldsSlot (m (First s j)) (m (Prev s j)) (λ i. m (Data s j i)) z) tt (λ j x st ne l first. tt) (λ s j ne other. k.slot_words s j)

  pub stamps_after : Stamps c (m Clock) after later
  stamps_after = record {
    live = λ s j x st lives. subst (λ (w : ℕ). StampedAs (m Clock) s (index_of c x.first) w x.first st) (sym (stamp_same s j x st lives))
        (k.stamps.live s j x st (was s j x st lives));
    built = λ s j b e.
        let q = log.built_was k n position r is s j b e in
        subst (IsStored b.stamp) (sym (stamp_else s j q.1)) (k.stamps.built s j b q.0);
  }

  pub sets_after : WriteSets c h later
  sets_after = record {
    commit = λ s j x note lives.
        let o = k.write_sets.commit s j x note (was s j x (Committed note) lives) in record {
          commit = o.commit;
          entry = o.entry;
          seat = o.seat;
          after_first = o.after_first;
          write = o.write;
          all = λ i lt.
              let a = o.all i lt in
              (a.0, a.1, set_still s j (index_of c (x.first + i)) x a.0 (Committed note) (Committed a.1) lives a.2 a.4, a.3, a.4, a.5);
        };
    once = λ s j l x y a b p q. k.write_sets.once s j l x y a b (was s j x (Committed a) p) (was s l y (Committed b) q);
    first = log.first_still k n position r is;
    after_first = λ s j x st lives. k.write_sets.after_first s j x st (was s j x st lives);
    between = λ s j x st lives p from to.
        let a = k.write_sets.between s j x st (was s j x st lives) p from to in record {
          version = a.version;
          status = a.status;
          lives = set_still s j (index_of c p) x a.version st a.status lives a.lives a.first_is;
          position_is = a.position_is;
          first_is = a.first_is;
          known = tt;
        };
    apart = λ s j l x y st note p uncommitted q. k.write_sets.apart s j l x y st note (was s j x st p) uncommitted (was s l y (Committed note) q);
    held = λ s j x lives p from below.
        let a = k.write_sets.held s j x (was s j x Held lives) p from (subst (λ (u : ℕ). p < u) (next_same s) below) in record {
          version = a.version;
          status = a.status;
          lives = set_still s j (index_of c p) x a.version Held a.status lives a.lives a.first_is;
          position_is = a.position_is;
          first_is = a.first_is;
          known = a.known;
        };
  }

  pub open_after : OpenSection c h f.section later
  open_after = record {
    own = k.open_section.own;
    held = λ s j x lives. k.open_section.held s j x (was s j x Held lives);
    one_set = λ s j l x y p q. k.open_section.one_set s j l x y (was s j x Held p) (was s l y Held q);
    whole = λ s j x inside lives there mode p from below.
        let a = k.open_section.whole s j x inside (was s j x Held lives) there mode p from (subst (λ (u : ℕ). p < u) (next_same s) below) in record {
          version = a.version;
          status = a.status;
          lives = set_still s j (index_of c p) x a.version Held a.status lives a.lives a.first_is;
          position_is = a.position_is;
          first_is = a.first_is;
          known = a.known;
        };
  }

  -- a clock word is done still: the clock doesn't name the slot
  done_after : (word : ℕ) → IsDone (m Clock) stamp word → IsDone (m Clock) after word
  done_after word =
      ⊎_elim (λ a. inl a)
      (⊎_elim (λ none. inr (inl none))
      (λ made.
      ⊎_elim
      (λ at.
      dite (ℕ_discrete (clock_slot_of word) 8191)
      (λ none. inr (inl none))
      (λ names. inl (λ e.
      log.clock_apart k n position r is (λ none. names (ap clock_slot_of (sym e) ∙ none)) (ap clock_seat_of e ∙ at.0, ap clock_slot_of e ∙ at.1))))
      (λ ne. inr (inr (stamp_else (clock_seat_of word) (clock_slot_of word) ne ∙ made)))
      (here_or_else (clock_seat_of word) n (clock_slot_of word) slot)))

  pub helped_after : HelpedWords (m Clock) after f.clocks
  helped_after s word has = done_after word (k.helped_words s word has)

  pub successors_after : Successors c h after (λ s j. m (Super s j)) f.section later
  successors_after = record {
    held = λ s j x st lives. k.successors.held s j x st (was s j x st lives);
    next = λ s j x note lives. k.successors.next s j x note (was s j x (Committed note) lives);
    stamped = λ s j x note lives t l y other there e. stamp_same t l y (Committed other) there
        ∙ k.successors.stamped s j x note (was s j x (Committed note) lives) t l y other (was t l y (Committed other) there) e;
    unfinished = λ s j x note lives. k.successors.unfinished s j x note (was s j x (Committed note) lives);
    built = λ s j b e. k.successors.built s j b (log.built_was k n position r is s j b e).0;
  }

  -- the position in the slot is the one that is freed
  used_here : (p : ℕ) → UsesPosition (slot_at (f.ring n) slot) p → p ≡ position
  used_here p used = go (slot_at (f.ring n) slot) is.used used
    where
      go : (z : Slot) → UsesPosition z position → UsesPosition z p → p ≡ position
      go Free a b = absurd a
      go (Built d) a b = absurd a
      go (Live x st) a b = sym b ∙ a
      go (Freeing q first) a b = sym b ∙ a

  uses : (s p : ℕ) → InUse f.ring c s p → UsesPosition (slot_at (f.ring s) (index_of c p)) p
  uses s p =
      ⊎_elim
      (λ a. subst (λ (z : Slot). UsesPosition z p) (sym a.2) a.3)
      (λ a. subst (λ (z : Slot). UsesPosition z p) (sym a.1) refl)

  -- a position that is in use afterwards was so, and isn't the one that was freed
  use_was : (s p : ℕ) → InUse later c s p → InUse f.ring c s p × (s ≡ n → index_of c p ≢ slot)
  use_was s p used = each_slot (λ t i z. i ≡ index_of c p → UsesPosition z p → InUse f.ring c t p × (t ≡ n → index_of c p ≢ slot))
      (λ at none. absurd none)
      (λ j x st ne l first at e. (inl (x, st, subst (λ (i : ℕ). Lives f.ring n i x st) at l, e), λ _ same. ne (at ∙ same)))
      (λ t i ne other at u. (in_use t i (slot_at (f.ring t) i) refl at u, λ same there. ne (same, at ∙ there)))
      s (index_of c p) refl (now used)
    where
      in_use : (t i : ℕ) (z : Slot) → slot_at (f.ring t) i ≡ z → i ≡ index_of c p → UsesPosition z p → InUse f.ring c t p
      in_use t i Free e at u = absurd u
      in_use t i (Built b) e at u = absurd u
      in_use t i (Live x st) e at u = inl (x, st, subst (λ (j : ℕ). Lives f.ring t j x st) at e, u)
      in_use t i (Freeing q first) e at u = inr (first, subst (λ (j : ℕ). slot_at (f.ring t) j ≡ Freeing p first) at (e ∙ ap (λ (d : ℕ). Freeing d first) u))

      now : InUse later c s p → UsesPosition (slot_at (later s) (index_of c p)) p
      now = ⊎_elim (λ a. subst (λ (z : Slot). UsesPosition z p) (sym a.2) a.3) (λ a. subst (λ (z : Slot). UsesPosition z p) (sym a.1) refl)

  -- what a slot has that uses the position
  abbrev IsUse : ℕ → Slot → Type 0
  IsUse p z = ((x : Version) × (st : WriteSetStatus) × (z ≡ Live x st) × (x.position ≡ p)) ⊎ ((first : ℕ) × (z ≡ Freeing p first))

  use_of : (p : ℕ) (z : Slot) → UsesPosition z p → IsUse p z
  use_of p Free u = absurd u
  use_of p (Built b) u = absurd u
  use_of p (Live x st) u = inl (x, st, refl, u)
  use_of p (Freeing q first) u = inr (first, ap (λ (d : ℕ). Freeing d first) u)

  -- one that was in use is so still, but in the slot that was freed
  use_still : (s p : ℕ) → (s ≡ n → index_of c p ≢ slot) → InUse f.ring c s p → InUse later c s p
  use_still s p apart used = each_slot (λ t i z. (t ≡ n → i ≢ slot) → UsesPosition (slot_at (f.ring t) i) p → IsUse p z)
      (λ ne u. absurd (ne refl refl))
      (λ j x st ne l first _ u. inr (x.first, ap (λ (d : ℕ). Freeing d x.first) (subst (λ (z : Slot). UsesPosition z p) l u)))
      (λ t i ne other _ u. use_of p (slot_at (f.ring t) i) u)
      s (index_of c p) apart (uses s p used)

  -- the bounds of a position in its log
  abbrev IsIn : ℕ → ℕ → ℕ → Type 0
  IsIn p j next = (index_of c p ≡ j) × (p < next) × (next ≤ p + c.slots)

  pub freed_bounds : IsIn position slot (f.ring n).next
  freed_bounds = go (slot_at (f.ring n) slot) refl is.used
    where
      go : (z : Slot) → slot_at (f.ring n) slot ≡ z → UsesPosition z position → IsIn position slot (f.ring n).next
      go Free e u = absurd u
      go (Built b) e u = absurd u
      go (Live x st) e u = subst (λ (p : ℕ). IsIn p slot (f.ring n).next) u (k.positions.live n slot x st e)
      go (Freeing q first) e u = subst (λ (p : ℕ). IsIn p slot (f.ring n).next) u (k.positions.freeing n slot q first e)

  -- a later position that is used has another slot
  after_freed : (p q : ℕ) → InUse f.ring c n p → index_of c p ≢ slot → p ≤ q → q < (f.ring n).next → index_of c q ≢ slot
  after_freed p q used apart le lt same =
      let low = is.oldest (index_of c p) p (uses n p used) in
      let q_used = k.positions.no_gap n p q used le lt in
      let at = used_here q (subst (λ (i : ℕ). UsesPosition (slot_at (f.ring n) i) q) same (uses n q q_used)) in
      let e : p ≡ position = omega arith in
      apart (ap (index_of c) e)

  -- a version of the set that goes is before each one that stays
  set_before : (i j : ℕ) (x y : Version) (st su : WriteSetStatus) → Lives f.ring n i x st → x.first ≡ position → Lives later n j y su → x.position < y.position
  set_before i j x y st su lives first there =
      let was_there = was n j y su there in
      let at = (k.positions.live n j y su was_there).0 in
      let low = is.oldest (index_of c y.position) y.position
      (uses n y.position (inl (y, su, subst (λ (l : ℕ). Lives f.ring n l y su) (sym at) was_there, refl))) in
      dite (dec_lt x.position y.position) (λ lt. lt)
      (λ ge.
      let a = k.write_sets.between n i x st lives y.position (omega arith) (omega arith) in
      let one = position_once c h f.ring k.checked k.history.in_time k.positions n (index_of c y.position) j a.version y a.status su a.lives
      was_there a.position_is in
      absurd (log.not_of_set k n position r is j y su there (ap (λ (v : Version). v.first) (sym one.1) ∙ a.first_is ∙ first)))

  oldest_after : (s j p first : ℕ) → slot_at (later s) j ≡ Freeing p first
      → (first < p) × ((l : ℕ) (y : Version) (su : WriteSetStatus) → Lives later s l y su → p < y.position)
  oldest_after =
      each_slot (λ t i z. (p first : ℕ) → z ≡ Freeing p first → (first < p)
      × ((l : ℕ) (y : Version) (su : WriteSetStatus) → Lives later t l y su → p < y.position))
      (λ p first e. absurd (cc))
      (λ i x st ne l same p first e.
      let at : x.position ≡ p = cc in
      let set_is : x.first ≡ first = cc in
      let after = k.write_sets.after_first n i x st l in
      let other : x.position ≢ position = λ e. ne (sym (k.positions.live n i x st l).0 ∙ ap (index_of c) e) in
      (omega arith, λ j y su there. subst (λ (q : ℕ). q < y.position) at (set_before i j x y st su l same there)))
      (λ t i ne other p first e. let a = k.positions.oldest t i p first e in (a.0, λ l y su there. a.1 l y su (was t l y su there)))

  pub positions_after : Positions c h later
  positions_after = record {
    wide = λ s. log.wide_same k n position r is s ∙ k.positions.wide s;
    within = λ s j x st lives. k.positions.within s j x st (was s j x st lives);
    live = λ s j x st lives. subst (IsIn x.position j) (sym (next_same s)) (k.positions.live s j x st (was s j x st lives));
    freeing = λ s j p first e. subst (IsIn p j) (sym (next_same s)) (each_slot (λ t i z. (p first : ℕ) → z ≡ Freeing p first → IsIn p i (f.ring t).next)
        (λ p first e. absurd (cc))
        (λ i x st ne l first p g e. let at : x.position ≡ p = cc in subst (λ (q : ℕ). IsIn q i (f.ring n).next) at (k.positions.live n i x st l))
        (λ t i ne other p first e. k.positions.freeing t i p first e)
        s j p first e);
    oldest = oldest_after;
    built = λ s j b e. ap (index_of c) (next_same s) ∙ k.positions.built s j b (log.built_was k n position r is s j b e).0;
    no_gap = λ s p q used le lt.
        let a = use_was s p used in
        let below : q < (f.ring s).next = subst (λ (u : ℕ). q < u) (next_same s) lt in
        use_still s q
        (λ same. after_freed p q (subst (λ (t : ℕ). InUse f.ring c t p) same a.0) (a.1 same) le (subst (λ (t : ℕ). q < (f.ring t).next) same below))
        (k.positions.no_gap s p q a.0 le below);
    bound = λ s. subst (λ (p : ℕ). p ≤ c.slots * (length h + 1)) (sym (next_same s)) (k.positions.bound s);
  }

  -- the round of a version that is dead by the watermark is below it
  round_below : (j : ℕ) (x : Version) (st : WriteSetStatus) → Lives f.ring n j x st → IsDeadBy (f.grace n) st → c.base + x.position / c.slots < f.grace n
  round_below j x Held lives dead = absurd dead
  round_below j x (Aborted d) lives dead =
      let after = k.positions_and_grace.aborted n j dead.0 x (subst (λ (o : Option ℕ). Lives f.ring n j x (Aborted o)) dead.1 lives) in
      let by = dead.2 in omega arith
  round_below j x (Committed note) lives dead = let after = k.positions_and_grace.dead n j dead.0 x note lives dead.1 in let by = dead.2 in omega arith

  -- and so is that of the slot that was freed
  freed_round : c.base + position / c.slots < f.grace n
  freed_round = go (slot_at (f.ring n) slot) refl is.used
    where
      go : (z : Slot) → slot_at (f.ring n) slot ≡ z → UsesPosition z position → c.base + position / c.slots < f.grace n
      go Free e u = absurd u
      go (Built b) e u = absurd u
      go (Live x st) e u =
          subst (λ (p : ℕ). c.base + p / c.slots < f.grace n) u (round_below slot x st e (is.dead slot x st e (log.at_slot k n position r is x st e).1))
      go (Freeing q first) e u = subst (λ (p : ℕ). c.base + p / c.slots < f.grace n) u (k.positions_and_grace.freeing n slot q first e)

  free_round : c.base + next_in c (f.ring n) slot / c.slots ≤ f.grace n
  free_round =
      let b = freed_bounds in
      let slots = k.checked.slots.0 in
      let again : next_in c (f.ring n) slot ≡ position + c.slots = next_in-again c.slots (f.ring n).next position (omega arith) b.1 b.2 in
      let round : next_in c (f.ring n) slot / c.slots ≡ position / c.slots + 1 =
      ap (λ (p : ℕ). p / c.slots) again ∙ next_round c.slots position (omega arith) in
      let lt = freed_round in
      omega arith

  pub grace_after : PositionsAndGrace c f.grace later
  grace_after = record {
    live = λ s j x st lives. k.positions_and_grace.live s j x st (was s j x st lives);
    free = λ s j low e. subst (λ (p : ℕ). c.base + (p + (j + c.slots - p % c.slots) % c.slots) / c.slots ≤ f.grace s) (sym (next_same s))
        (each_slot (λ t i z. i < c.slots → z ≡ Free → c.base + next_in c (f.ring t) i / c.slots ≤ f.grace t)
        (λ _ _. free_round)
        (λ i x st ne l first lt e. absurd (cc))
        (λ t i ne other lt e. k.positions_and_grace.free t i lt e)
        s j low e);
    built = λ s j b e. subst (λ (p : ℕ). c.base + p / c.slots ≤ f.grace s) (sym (next_same s))
        (k.positions_and_grace.built s j b (log.built_was k n position r is s j b e).0);
    freeing = each_slot (λ t i z. (p first : ℕ) → z ≡ Freeing p first → c.base + p / c.slots < f.grace t)
        (λ p first e. absurd (cc))
        (λ i x st ne l first p g e. let at : x.position ≡ p = cc in
        subst (λ (q : ℕ). c.base + q / c.slots < f.grace n) at (round_below i x st l (is.dead i x st l first)))
        (λ t i ne other p first e. k.positions_and_grace.freeing t i p first e);
    commit = λ s j x note lives. k.positions_and_grace.commit s j x note (was s j x (Committed note) lives);
    dead = λ s j t x note lives. k.positions_and_grace.dead s j t x note (was s j x (Committed note) lives);
    aborted = λ s j t x lives. k.positions_and_grace.aborted s j t x (was s j x (Aborted (Some t)) lives);
  }
