-- A won exchange of a lock adds one write to those that the section holds, and takes one spare slot.
use Rattle.std.proofs.Common.{◌≡◌, ℕ, zero, suc, ◌+◌, ◌<◌, ◌≤◌, cond, List, [], ◌∷◌, ◌++◌, length, count_by, refl, sym, ap, ◌∙◌, subst, arith}
use Rattle.std.specs.Prelude.{slice_set}
use Rattle.std.proofs.lemmas.List.Sums.{sum_by-set}
use Rattle.mv_core.proofs.Terms.{Entry, State, Writes, Config, Memory, Ring, Slot, Free, Built, Live, Build, Version, Held, Knowledge, OwnSection, slot_at}
use Rattle.mv_core.proofs.Terms.{index_of}
use Rattle.mv_core.proofs.Terms.{is_held, is_spare, held_count, spare_count, set_first, write_of, writes_from, own_of, HoldsNothing, Lives, parts_of}
use Rattle.mv_core.specs.LockSteps.{MayLock, head_locked, OneMoreWrite}
use Rattle.mv_core.specs.Rule.{Facts}
use Rattle.mv_core.proofs.frames.FrameLaw.{set_at_here}
use Rattle.mv_core.proofs.kinds.locking.lock_head.LockedLog.{x, later, ring_now, lives_new, lives_still, by_set}
use Rattle.mv_core.proofs.logs.Slots.{slot_within}
use Rattle.mv_core.proofs.kinds.entering.LoadTime.{holds_none}

-- a built slot that becomes a held version counts as held, and isn't spare any more
module _ (r : Ring) (k : ℕ) (b : Build) (y : Version) (e : slot_at r k ≡ Built b) where
  within : k < length r.slots
  within = slot_within r k (λ free. let f : Built b ≡ Free = sym e ∙ free in cc)

  pub one_held_more : count_by is_held (slice_set r.slots k (Live y Held)) ≡ held_count r + 1
  one_held_more =
      let weight : Slot → ℕ = λ s. cond (is_held s) 1 0 in
      let none : weight (slot_at r k) ≡ 0 = ap weight e in
      let all : count_by is_held (slice_set r.slots k (Live y Held)) + weight (slot_at r k) ≡ held_count r + 1 =
      sum_by-set weight r.slots k (Live y Held) Free within in
      omega arith

  pub one_spare_less : count_by is_spare (slice_set r.slots k (Live y Held)) + 1 ≡ spare_count r
  one_spare_less =
      let weight : Slot → ℕ = λ s. cond (is_spare s) 1 0 in
      let one : weight (slot_at r k) ≡ 1 = ap weight e in
      let all : count_by is_spare (slice_set r.slots k (Live y Held)) + weight (slot_at r k) ≡ spare_count r + 0 =
      sum_by-set weight r.slots k (Live y Held) Free within in
      omega arith

module _ (c : Config) where
  -- one position more
  writes_more : (r : Ring) (p n : ℕ) → writes_from c r p (suc n) ≡ writes_from c r p n ++ write_of (slot_at r (index_of c (p + n))) ∷ []
  writes_more r p zero = ap (λ (q : ℕ). write_of (slot_at r (index_of c q)) ∷ []) (let e : p ≡ p + 0 = omega arith in e)
  writes_more r p (suc n) =
      ap (λ (ws : Writes). write_of (slot_at r (index_of c p)) ∷ ws)
      (writes_more r (p + 1) n ∙ ap (λ (q : ℕ). writes_from c r (p + 1) n ++ write_of (slot_at r (index_of c q)) ∷ [])
      (let e : p + 1 + n ≡ p + suc n = omega arith in e))

  -- logs that have the same writes at these positions
  writes_same : (r q : Ring) (p n : ℕ) → ((i : ℕ) → p ≤ i → i < p + n → write_of (slot_at r (index_of c i)) ≡ write_of (slot_at q (index_of c i)))
      → writes_from c r p n ≡ writes_from c q p n
  writes_same r q p zero same = refl
  writes_same r q p (suc n) same =
      let here = same p (omega arith) (omega arith) in
      let rest = writes_same r q (p + 1) n (λ i lo hi. same i (omega arith) (omega arith)) in
      (λ i. here i ∷ rest i)

module _ {starts : State → Type 0} {allows : List ℕ → State → Writes → Type 0} {c : Config} {start : State} {m : Memory} {h : List Entry}
    (seats : ℕ → Knowledge)
    (k : Facts starts allows c start m h (parts_of seats))
    (v : Knowledge) (is : seats v.number ≡ v) (own : v.number < c.seats) (write_max object previous position : ℕ) (words : List ℕ) (b : Build)
    (inside : OwnSection)
    (may : MayLock c write_max v object previous position words b inside) where
  abbrev now : Ring
  now = (head_locked c v object previous position words).ring

  abbrev y : Version
  y = x seats k v is own write_max object previous position words b inside may

  -- a version of the log after the step is in it
  in_now : (j : ℕ) (z : Version) → Lives (later seats k v is own write_max object previous position words b inside may) v.number j z Held
      → slot_at now j ≡ Live z Held
  in_now j z lives =
      ap (λ (r : Ring). slot_at r j)
      (sym (set_at_here (λ s. (seats s).ring) v.number (ring_now seats k v is own write_max object previous position words b inside may))) ∙ lives

  pub one_more_write : OneMoreWrite c v object words (head_locked c v object previous position words)
  one_more_write =
      let next = may.next in
      let count : held_count now ≡ suc (held_count v.ring) = (let e = one_held_more v.ring (index_of c position) b y may.build in omega arith) in
      let first : set_first now ≡ set_first v.ring = omega arith in
      let here : write_of (slot_at now (index_of c position)) ≡ (y.object, y.words) =
      ap write_of (in_now (index_of c position) y (lives_new seats k v is own write_max object previous position words b inside may)) in
      let fits : set_first v.ring + held_count v.ring ≡ position =
      by_set seats k v is own write_max object previous position words b inside may
      (λ none e. (let z = holds_none v.ring (subst (λ (u : Knowledge). HoldsNothing u.ring) is none) in omega arith))
      (λ set e. (let z = set.count_is in let some = set.some in let ring_is = ap (λ (u : Knowledge). held_count u.ring) is in
      let next_is = ap (λ (u : Knowledge). u.ring.next) is in let f = set.first_is in omega arith)) in
      let same : writes_from c now (set_first v.ring) (held_count v.ring) ≡ writes_from c v.ring (set_first v.ring) (held_count v.ring) =
      writes_same c now v.ring (set_first v.ring) (held_count v.ring) (λ i lo hi.
      by_set seats k v is own write_max object previous position words b inside may
      (λ none e. absurd (let z = holds_none v.ring (subst (λ (u : Knowledge). HoldsNothing u.ring) is none) in omega arith))
      (λ set e.
      let next_is = ap (λ (u : Knowledge). u.ring.next) is in
      let a = set.at i (let f = e in omega arith) (omega arith) in
      let old : slot_at v.ring (index_of c i) ≡ Live a.0 Held = ap (λ (u : Knowledge). slot_at u.ring (index_of c i)) (sym is) ∙ a.1 in
      ap write_of (in_now (index_of c i) a.0
      (lives_still seats k v is own write_max object previous position words b inside may v.number (index_of c i) a.0 Held a.1)) ∙ ap write_of (sym old))) in (
        (λ i. writes_from c now (first i) (count i)) ∙ writes_more c now (set_first v.ring) (held_count v.ring)
            ∙ (λ i. same i ++ write_of (slot_at now (index_of c (fits i))) ∷ [])
            ∙ ap (λ (w : ℕ × List ℕ). own_of c v.ring ++ w ∷ []) here,
        one_spare_less v.ring (index_of c position) b y may.build,
      )
