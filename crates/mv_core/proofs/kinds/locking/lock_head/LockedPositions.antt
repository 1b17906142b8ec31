-- A won exchange of a lock, in the positions of the logs: the next one of its seat is used, and each that was used is still.
use Rattle.std.proofs.Common.{◌≡◌, ◌≢◌, ◌⊎◌, ℕ, ◌+◌, ◌-◌, ◌*◌, ◌/◌, ◌%◌, ◌<◌, ◌≤◌, List, length, refl, sym, ap, ◌∙◌, subst, ⊎_elim, inl, inr, arith, Some}
use Rattle.std.specs.Prelude.{slice_set}
use Rattle.std.proofs.Math.Nat.{add-mod_right}
use Rattle.mv_core.proofs.Terms.{dite, ℕ_discrete, Entry, State, Writes, Config, Memory, Ring, Free, Built, Live, Freeing, Build, Version, WriteSetStatus, Held}
use Rattle.mv_core.proofs.Terms.{Aborted, Knowledge, OwnSection, slot_at, index_of, Lives, InUse, parts_of}
use Rattle.mv_core.proofs.FactTerms.{Positions, next_in, PositionsAndGrace, Facts}
use Rattle.mv_core.specs.LockSteps.{MayLock}
use Rattle.mv_core.proofs.frames.FrameLaw.{set_at_else, set_at_all}
use Rattle.mv_core.proofs.frames.CommittedKept.{KeepsCommitted}
use Rattle.mv_core.proofs.kinds.locking.lock_head.LockedLog as log
use Rattle.mv_core.proofs.kinds.locking.lock_head.NextPosition.{next_in-same, below_rounds}
use Rattle.mv_core.proofs.logs.Slots.{slots_after, at_else, wide_after}

module _ {starts : State → Type 0} {allows : List ℕ → State → Writes → Type 0} {c : Config} {start : State} {m : Memory} {h : List Entry}
    (seats : ℕ → Knowledge)
    (k : Facts starts allows c start m h (parts_of seats))
    (v : Knowledge) (is : seats v.number ≡ v) (own : v.number < c.seats) (write_max object previous position : ℕ) (words : List ℕ) (b : Build)
    (inside : OwnSection)
    (may : MayLock c write_max v object previous position words b inside) where
  abbrev rings : ℕ → Ring
  rings s = (seats s).ring

  abbrev n : ℕ
  n = v.number

  abbrev slot : ℕ
  slot = index_of c position

  abbrev x : Version
  x = log.x seats k v is own write_max object previous position words b inside may

  abbrev ring_now : Ring
  ring_now = log.ring_now seats k v is own write_max object previous position words b inside may

  abbrev later : ℕ → Ring
  later = log.later seats k v is own write_max object previous position words b inside may

  written : ring_now.slots ≡ slice_set (rings n).slots slot (Live x Held)
  written = log.written seats k v is own write_max object previous position words b inside may

  within : slot < length (rings n).slots
  within = log.within seats k v is own write_max object previous position words b inside may

  next_is : (rings n).next ≡ position
  next_is = log.next_is seats k v is own write_max object previous position words b inside may

  was_built : slot_at (rings n) slot ≡ Built b
  was_built = log.was_built seats k v is own write_max object previous position words b inside may

  each_live : (P : ℕ → ℕ → Version → WriteSetStatus → Type 0) → P n slot x Held
      → ((s j : ℕ) (y : Version) (st : WriteSetStatus) → Lives rings s j y st → P s j y st)
      → (s j : ℕ) (y : Version) (st : WriteSetStatus) → Lives later s j y st → P s j y st
  each_live = log.each_live seats k v is own write_max object previous position words b inside may

  lives_new : Lives later n slot x Held
  lives_new = log.lives_new seats k v is own write_max object previous position words b inside may

  lives_still : (s j : ℕ) (y : Version) (st : WriteSetStatus) → Lives rings s j y st → Lives later s j y st
  lives_still = log.lives_still seats k v is own write_max object previous position words b inside may

  next_here : (later n).next ≡ position + 1
  next_here = log.next_here seats k v is own write_max object previous position words b inside may

  next_else : (s : ℕ) → s ≢ n → (later s).next ≡ (rings s).next
  next_else = log.next_else seats k v is own write_max object previous position words b inside may

  kept : KeepsCommitted rings later
  kept = log.kept seats k v is own write_max object previous position words b inside may

  built_was : (s j : ℕ) (d : Build) → slot_at (later s) j ≡ Built d → (slot_at (rings s) j ≡ Built d) × (s ≢ n)
  built_was = log.built_was seats k v is own write_max object previous position words b inside may

  -- the log has room for its next position
  in_round : position / c.slots ≤ length h
  in_round =
      let new = k.positions_and_grace.built n slot b was_built in
      let old = (k.grace.views n).0 in
      let long = k.history.long in
      let e : (rings n).next / c.slots ≡ position / c.slots = ap (λ (p : ℕ). p / c.slots) next_is in
      omega arith

  -- a slot of the log that isn't the built one isn't a round behind
  fits : (p j : ℕ) → index_of c p ≡ j → slot_at (rings n) j ≢ Built b → (rings n).next ≤ p + c.slots → position + 1 ≤ p + c.slots
  fits p j at other le =
      dite (ℕ_discrete position (p + c.slots))
      (λ e. let same : slot ≡ j = ap (index_of c) e ∙ add-mod_right p c.slots ∙ at in
      absurd (other (ap (λ (i : ℕ). slot_at (rings n) i) (sym same) ∙ was_built)))
      (λ ne. let next = next_is in omega arith)

  abbrev IsIn : ℕ → Ring → ℕ → ℕ → Type 0
  IsIn p r j s = (index_of c p ≡ j) × (p < r.next) × (r.next ≤ p + c.slots)

  in_log : (s p j : ℕ) → (s ≡ n → slot_at (rings n) j ≢ Built b) → IsIn p (rings s) j s → IsIn p (later s) j s
  in_log s p j other =
      set_at_all (λ t r. (t ≡ n → slot_at (rings n) j ≢ Built b) → IsIn p (rings t) j t → IsIn p r j t) rings n ring_now
      (λ free a. (a.0, (let lt = a.1 in let e = next_is in omega arith), fits p j a.0 (free refl) a.2))
      (λ t ne _ a. a) s other

  use_still : (s p : ℕ) → InUse rings c s p → InUse later c s p
  use_still s p =
      ⊎_elim
      (λ a. inl (a.0, a.1, lives_still s (index_of c p) a.0 a.1 a.2, a.3))
      (λ a. inr (
        a.0,
        at_else rings n slot (Live x Held) ring_now written within s (index_of c p)
            (λ at. let there : slot_at (rings n) slot ≡ Freeing p a.0 = subst (λ (q : ℕ × ℕ). slot_at (rings q.0) q.1 ≡ Freeing p a.0)
            (λ i. (at.0 i, at.1 i)) a.1 in
            let none : Built b ≡ Freeing p a.0 = sym was_built ∙ there in cc) ∙ a.1,
      ))

  use_was : (s p : ℕ) → InUse later c s p → ((s ≡ n) × (p ≡ position)) ⊎ InUse rings c s p
  use_was s p =
      ⊎_elim
      (λ a. each_live (λ t j y st. j ≡ index_of c p → y.position ≡ p → ((t ≡ n) × (p ≡ position)) ⊎ InUse rings c t p) (λ _ e. inl (refl, sym e))
      (λ t j y st lives at e. inr (inl (y, st, subst (λ (i : ℕ). Lives rings t i y st) at lives, e))) s (index_of c p) a.0 a.1 a.2 refl a.3)
      (λ a. inr (inr (
        a.0,
        slots_after rings n slot (Live x Held) ring_now written within (λ t j z. z ≡ Freeing p a.0 → slot_at (rings t) j ≡ Freeing p a.0)
            (λ e. absurd (cc)) (λ t j ne e. e) s (index_of c p) a.1,
      )))

  use_new : (p : ℕ) → p ≡ position → InUse later c n p
  use_new p e = inl (x, Held, subst (λ (q : ℕ). Lives later n (index_of c q) x Held) (sym e) lives_new, sym e)

  gapless : (s p q : ℕ) → InUse later c s p → p ≤ q → q < (later s).next → InUse later c s q
  gapless s p q used le lt =
      dite (ℕ_discrete s n)
      (λ e.
      let most : q < position + 1 = subst (λ (u : ℕ). q < u) (ap (λ (t : ℕ). (later t).next) e ∙ next_here) lt in
      dite (ℕ_discrete q position)
      (λ same. subst (λ (t : ℕ). InUse later c t q) (sym e) (use_new q same))
      (λ ne.
      ⊎_elim
      (λ new. let at = new.1 in absurd (omega arith))
      (λ old. use_still s q (k.positions.no_gap s p q old le (let next = ap (λ (t : ℕ). (rings t).next) e ∙ next_is in omega arith)))
      (use_was s p used)))
      (λ ne. ⊎_elim (λ new. absurd (ne new.0)) (λ old. use_still s q (k.positions.no_gap s p q old le (subst (λ (u : ℕ). q < u) (next_else s ne) lt)))
      (use_was s p used))

  pub positions_after : Positions c h later
  positions_after = record {
    wide = λ s. wide_after rings n slot (Live x Held) ring_now written within s ∙ k.positions.wide s;
    within = each_live (λ s j y st. s < c.seats) own k.positions.within;
    live = each_live (λ s j y st. IsIn y.position (later s) j s)
        (refl, (let e = next_here in omega arith), (let e = next_here in let some = k.checked.slots.0 in omega arith))
        (λ s j y st lives. in_log s y.position j (λ e other. let there : slot_at (rings n) j ≡ Live y st = subst (λ (t : ℕ). Lives rings t j y st) e lives in
        let none : Built b ≡ Live y st = sym other ∙ there in cc) (k.positions.live s j y st lives));
    freeing = slots_after rings n slot (Live x Held) ring_now written within (λ s j z. (p first : ℕ) → z ≡ Freeing p first → IsIn p (later s) j s)
        (λ p first e. absurd (cc))
        (λ s j ne p first there.
        in_log s p j (λ e other. let at : slot_at (rings n) j ≡ Freeing p first = subst (λ (t : ℕ). slot_at (rings t) j ≡ Freeing p first) e there in
        let none : Built b ≡ Freeing p first = sym other ∙ at in cc) (k.positions.freeing s j p first there));
    oldest = slots_after rings n slot (Live x Held) ring_now written within (λ s j z. (p first : ℕ) → z ≡ Freeing p first
        → (first < p) × ((l : ℕ) (y : Version) (st : WriteSetStatus) → Lives later s l y st → p < y.position))
        (λ p first e. absurd (cc))
        (λ s j ne p first there.
        let a = k.positions.oldest s j p first there in (
          a.0,
          λ l y st lives.
              each_live (λ t i z su. t ≡ s → p < z.position)
              (λ e. let below = (k.positions.freeing s j p first there).1 in let next : (rings s).next ≡ position = ap (λ (t : ℕ). (rings t).next) (sym e)
              ∙ next_is in omega arith)
              (λ t i z su was e. a.1 i z su (subst (λ (u : ℕ). Lives rings u i z su) e was))
              s l y st lives refl,
        ));
    built = λ s j d at. let r = built_was s j d at in ap (index_of c) (next_else s r.1) ∙ k.positions.built s j d r.0;
    no_gap = gapless;
    bound = set_at_all (λ s r. r.next ≤ c.slots * (length h + 1)) rings n ring_now
        (let low = below_rounds c.slots position (length h) (let some = k.checked.slots.0 in omega arith) in_round in omega arith)
        (λ s ne. k.positions.bound s);
  }

  pub grace_after : PositionsAndGrace c (λ s. (seats s).grace) later
  grace_after = record {
    live = each_live (λ s j y st. c.base + y.position / c.slots ≤ (seats s).grace)
        (subst (λ (p : ℕ). c.base + p / c.slots ≤ (seats n).grace) next_is (k.positions_and_grace.built n slot b was_built)) k.positions_and_grace.live;
    free = slots_after rings n slot (Live x Held) ring_now written within (λ s j z. j < c.slots → z ≡ Free
        → c.base + next_in c (later s) j / c.slots ≤ (seats s).grace)
        (λ lt e. absurd (cc))
        (λ s j ne lt e.
        let old = k.positions_and_grace.free s j lt e in
        dite (ℕ_discrete s n)
        (λ at.
        let next : (rings s).next ≡ position = ap (λ (t : ℕ). (rings t).next) at ∙ next_is in
        let now : (later s).next ≡ position + 1 = ap (λ (t : ℕ). (later t).next) at ∙ next_here in
        let same : next_in c (later s) j ≡ next_in c (rings s) j =
        ap (λ (p : ℕ). p + (j + c.slots - p % c.slots) % c.slots) now ∙ next_in-same c.slots position j lt (λ e. ne (at, sym e))
        ∙ ap (λ (p : ℕ). p + (j + c.slots - p % c.slots) % c.slots) (sym next) in
        subst (λ (p : ℕ). c.base + p / c.slots ≤ (seats s).grace) (sym same) old)
        (λ other. subst (λ (r : Ring). c.base + next_in c r j / c.slots ≤ (seats s).grace) (sym (set_at_else rings n ring_now s other)) old));
    built = λ s j d at. let r =
        built_was s j d at in subst (λ (p : ℕ). c.base + p / c.slots ≤ (seats s).grace) (sym (next_else s r.1)) (k.positions_and_grace.built s j d r.0);
    freeing = slots_after rings n slot (Live x Held) ring_now written within (λ s j z. (p first : ℕ) → z ≡ Freeing p first
        → c.base + p / c.slots < (seats s).grace) (λ p first e. absurd (cc)) (λ s j ne. k.positions_and_grace.freeing s j);
    commit = λ s j y note lives. k.positions_and_grace.commit s j y note (kept.was s j y note lives);
    dead = λ s j t y note lives. k.positions_and_grace.dead s j t y note (kept.was s j y note lives);
    aborted = λ s j t y lives. each_live (λ s j y st. st ≡ Aborted (Some t) → c.base + y.position / c.slots < t) (λ e. absurd (cc))
        (λ s j y st lives e. k.positions_and_grace.aborted s j t y (subst (Lives rings s j y) e lives)) s j y (Aborted (Some t)) lives refl;
  }
