-- What is in the slots of the logs after one slot of one log was written, and after all slots of one log were mapped; and what of
-- the live versions stays. Shared by the steps that change a log.
-- Such a step makes the logs `rings` into `set_at rings n r`. What becomes of each live version is said by a relation of versions
-- with their status: `Matches` says that each version before is there afterwards, in that relation, and that each one afterwards
-- was there before. `match_put`, `match_unlived` and `match_map` show it of a step.
use Rattle.std.proofs.Common.{◌≡◌, ◌≢◌, ◌⊎◌, ℕ, zero, suc, ◌<◌, List, [], ◌∷◌, length, map, refl, sym, ap, ◌∙◌, subst, inl, inr, arith}
use Rattle.std.specs.Prelude.{slice_set}
use Rattle.std.proofs.lemmas.List.{get_or-set_same, get_or-set_other, length-set, length-map}
use Rattle.std.proofs.Math.ListN.{get_or, get_or-map}
use Rattle.mv_core.proofs.Terms.{dite, ℕ_discrete, Ring, Slot, Free, Live, Version, WriteSetStatus, slot_at, put_slot, Lives, set_at}
use Rattle.mv_core.proofs.frames.FrameLaw.{set_at_all}
use Rattle.mv_core.proofs.logs.Links.{live_once}

-- what is in a slot that was written
pub slot_here : (r : Ring) (k : ℕ) (x : Slot) → k < length r.slots → slot_at (put_slot r k x) k ≡ x
slot_here r k x within = get_or-set_same r.slots k x Free within

-- and in each other one
pub slot_else : (r : Ring) (k j : ℕ) (x : Slot) → j ≢ k → slot_at (put_slot r k x) j ≡ slot_at r j
slot_else r k j x ne = get_or-set_other r.slots k j x Free ne

-- what is in a slot after all were mapped
pub slot_mapped : (f : Slot → Slot) → f Free ≡ Free → (r : Ring) (k : ℕ) → slot_at (record r { slots = map f r.slots }) k ≡ f (slot_at r k)
slot_mapped f free r k = subst (λ (d : Slot). get_or (map f r.slots) k d ≡ f (slot_at r k)) free (get_or-map f r.slots k Free)

-- a slot past the end is free, so one with something is within
within_list : (l : List Slot) (k : ℕ) → get_or l k Free ≢ Free → k < length l
within_list [] k some_there = absurd (some_there refl)
within_list (y ∷ ys) zero some_there = omega arith
within_list (y ∷ ys) (suc k) some_there = let lt = within_list ys k some_there in omega arith

pub slot_within : (r : Ring) (k : ℕ) → slot_at r k ≢ Free → k < length r.slots
slot_within r k some_there = within_list r.slots k some_there

pub live_within : (r : Ring) (k : ℕ) (x : Version) (st : WriteSetStatus) → slot_at r k ≡ Live x st → k < length r.slots
live_within r k x st e = slot_within r k (λ free. let f : Free ≡ Live x st = sym free ∙ e in absurd (cc))

-- whether a slot of a seat is this one
pub here_or_else : (s n j k : ℕ) → ((s ≡ n) × (j ≡ k)) ⊎ (¬ ((s ≡ n) × (j ≡ k)))
here_or_else s n j k = dite (ℕ_discrete s n) (λ a. dite (ℕ_discrete j k) (λ b. inl (a, b)) (λ ne. inr (λ p. ne p.1))) (λ ne. inr (λ p. ne p.0))

-- the slot k of the log n was written: all others are as they were
module _ (rings : ℕ → Ring) (n k : ℕ) (x : Slot) (r : Ring) (written : r.slots ≡ slice_set (rings n).slots k x) (within : k < length (rings n).slots) where
  -- what holds of the new slot, and of each other as it was, holds of all
  pub slots_after : (P : ℕ → ℕ → Slot → Type 0) → P n k x → ((s j : ℕ) → ¬ ((s ≡ n) × (j ≡ k)) → P s j (slot_at (rings s) j)) → (s j : ℕ)
      → P s j (slot_at (set_at rings n r s) j)
  slots_after P here rest =
      set_at_all (λ s q. (j : ℕ) → P s j (slot_at q j)) rings n r
      (λ j.
      subst (λ (l : List Slot). P n j (get_or l j Free)) (sym written)
      (dite (ℕ_discrete j k)
      (λ e. subst (λ (i : ℕ). P n i (slot_at (put_slot (rings n) k x) i)) (sym e) (subst (P n k) (sym (slot_here (rings n) k x within)) here))
      (λ ne. subst (P n j) (sym (slot_else (rings n) k j x ne)) (rest n j (λ b. ne b.1)))))
      (λ s ne j. rest s j (λ b. ne b.0))

  -- the new slot
  pub at_here : slot_at (set_at rings n r n) k ≡ x
  at_here = slots_after (λ s j y. (s ≡ n) → (j ≡ k) → y ≡ x) (λ a b. refl) (λ s j ne a b. absurd (ne (a, b))) n k refl refl

  -- each other slot
  pub at_else : (s j : ℕ) → ¬ ((s ≡ n) × (j ≡ k)) → slot_at (set_at rings n r s) j ≡ slot_at (rings s) j
  at_else s j ne = slots_after (λ t i y. ¬ ((t ≡ n) × (i ≡ k)) → y ≡ slot_at (rings t) i) (λ other. absurd (other (refl, refl))) (λ t i _ _. refl) s j ne

  -- a version afterwards is in the new slot, or was there before, in another one
  pub lives_back : (s j : ℕ) (y : Version) (st : WriteSetStatus) → Lives (set_at rings n r) s j y st
      → ((s ≡ n) × (j ≡ k) × (x ≡ Live y st)) ⊎ ((¬ ((s ≡ n) × (j ≡ k))) × Lives rings s j y st)
  lives_back =
      slots_after (λ s j z. (y : Version) (st : WriteSetStatus) → z ≡ Live y st
      → ((s ≡ n) × (j ≡ k) × (x ≡ Live y st)) ⊎ ((¬ ((s ≡ n) × (j ≡ k))) × Lives rings s j y st))
      (λ y st e. inl (refl, refl, e))
      (λ s j ne y st e. inr (ne, e))

  -- a version in another slot is still there
  pub lives_else : (s j : ℕ) (y : Version) (st : WriteSetStatus) → ¬ ((s ≡ n) × (j ≡ k)) → Lives rings s j y st → Lives (set_at rings n r) s j y st
  lives_else s j y st ne e = at_else s j ne ∙ e

  -- the log has as many slots, and so have all
  pub wide_after : (s : ℕ) → length (set_at rings n r s).slots ≡ length (rings s).slots
  wide_after = set_at_all (λ s q. length q.slots ≡ length (rings s).slots) rings n r (ap length written ∙ length-set (rings n).slots k x) (λ s ne. refl)

  -- where the log's next position stays, all do
  pub next_after : r.next ≡ (rings n).next → (s : ℕ) → (set_at rings n r s).next ≡ (rings s).next
  next_after e = set_at_all (λ s q. q.next ≡ (rings s).next) rings n r e (λ s ne. refl)

-- all slots of the log n were mapped
module _ (rings : ℕ → Ring) (n : ℕ) (f : Slot → Slot) (free : f Free ≡ Free) where
  abbrev pub mapped : ℕ → Ring
  mapped = set_at rings n (record (rings n) { slots = map f (rings n).slots })

  -- what holds of each new slot of the log, and of each slot of the others, holds of all
  pub slots_mapped : (P : ℕ → ℕ → Slot → Type 0) → ((j : ℕ) → P n j (f (slot_at (rings n) j))) → ((s j : ℕ) → s ≢ n → P s j (slot_at (rings s) j)) → (s j : ℕ)
      → P s j (slot_at (mapped s) j)
  slots_mapped P here rest =
      set_at_all (λ s q. (j : ℕ) → P s j (slot_at q j)) rings n (record (rings n) { slots = map f (rings n).slots })
      (λ j. subst (P n j) (sym (slot_mapped f free (rings n) j)) (here j))
      (λ s ne j. rest s j ne)

  pub wide_mapped : (s : ℕ) → length (mapped s).slots ≡ length (rings s).slots
  wide_mapped =
      set_at_all (λ s q. length q.slots ≡ length (rings s).slots) rings n (record (rings n) { slots = map f (rings n).slots })
      (length-map (rings n).slots f) (λ s ne. refl)

  pub next_mapped : (s : ℕ) → (mapped s).next ≡ (rings s).next
  next_mapped = set_at_all (λ s q. q.next ≡ (rings s).next) rings n (record (rings n) { slots = map f (rings n).slots }) refl (λ s ne. refl)

-- what becomes of a version with its status: the first two become the others
abbrev pub Becomes : Type 1
Becomes = Version → WriteSetStatus → Version → WriteSetStatus → Type 0

-- each version of the logs before is there afterwards, in this relation, and each one afterwards was there before; and the next positions stay
pub record Matches (R : Becomes) (before after : ℕ → Ring) : Type 0 where
  pub forth : (s k : ℕ) (x : Version) (st : WriteSetStatus) → Lives before s k x st → (y : Version) × (su : WriteSetStatus) × Lives after s k y su × R x st y su
  pub back : (s k : ℕ) (y : Version) (su : WriteSetStatus) → Lives after s k y su → (x : Version) × (st : WriteSetStatus) × Lives before s k x st × R x st y su
  pub next : (s : ℕ) → (after s).next ≡ (before s).next

-- a relation that each version has to itself
abbrev pub IsReflexive : Becomes → Type 0
IsReflexive R = (x : Version) (st : WriteSetStatus) → R x st x st

-- a weaker relation matches too
pub match_weaker : (R Q : Becomes) (before after : ℕ → Ring) →
    ((x : Version) (st : WriteSetStatus) (y : Version) (su : WriteSetStatus) → R x st y su → Q x st y su)
    → Matches R before after → Matches Q before after
match_weaker R Q before after weaker k = record {
  forth = λ s j x st lives. let a = k.forth s j x st lives in (a.0, a.1, a.2, weaker x st a.0 a.1 a.3);
  back = λ s j y su lives. let a = k.back s j y su lives in (a.0, a.1, a.2, weaker a.0 a.1 y su a.3);
  next = k.next;
}

module _ (R : Becomes) (reflexive : IsReflexive R) (rings : ℕ → Ring) (n : ℕ) where
  module _ (k : ℕ) (x : Slot) (r : Ring) (written : r.slots ≡ slice_set (rings n).slots k x) (within : k < length (rings n).slots)
      (next : r.next ≡ (rings n).next) where
    -- a version was written over one in the relation
    pub match_put : (y : Version) (st : WriteSetStatus) (z : Version) (su : WriteSetStatus) → Lives rings n k y st → x ≡ Live z su → R y st z su
        → Matches R rings (set_at rings n r)
    match_put y st z su was is rel = record {
      forth = slots_after rings n k x r written within (λ s j w. (a : Version) (sa : WriteSetStatus) → Lives rings s j a sa
          → (b : Version) × (sb : WriteSetStatus) × (w ≡ Live b sb) × R a sa b sb)
          (λ a sa lives. let one = live_once (slot_at (rings n) k) y a st sa was lives in
          (z, su, is, subst (λ (d : Version). R d sa z su) one.0 (subst (λ (d : WriteSetStatus). R y d z su) one.1 rel)))
          (λ s j ne a sa lives. (a, sa, lives, reflexive a sa));
      back = slots_after rings n k x r written within (λ s j w. (b : Version) (sb : WriteSetStatus) → w ≡ Live b sb
          → (a : Version) × (sa : WriteSetStatus) × Lives rings s j a sa × R a sa b sb)
          (λ b sb e. let one = live_once x z b su sb is e in
          (y, st, was, subst (λ (d : Version). R y st d sb) one.0 (subst (λ (d : WriteSetStatus). R y st z d) one.1 rel)))
          (λ s j ne b sb lives. (b, sb, lives, reflexive b sb));
      next = next_after rings n k x r written within next;
    }

    -- what was written is no version, over none
    pub match_unlived : ((y : Version) (st : WriteSetStatus) → slot_at (rings n) k ≢ Live y st) → ((y : Version) (st : WriteSetStatus) → x ≢ Live y st)
        → Matches R rings (set_at rings n r)
    match_unlived was is = record {
      forth = slots_after rings n k x r written within (λ s j w. (a : Version) (sa : WriteSetStatus) → Lives rings s j a sa
          → (b : Version) × (sb : WriteSetStatus) × (w ≡ Live b sb) × R a sa b sb)
          (λ a sa lives. absurd (was a sa lives))
          (λ s j ne a sa lives. (a, sa, lives, reflexive a sa));
      back = slots_after rings n k x r written within (λ s j w. (b : Version) (sb : WriteSetStatus) → w ≡ Live b sb
          → (a : Version) × (sa : WriteSetStatus) × Lives rings s j a sa × R a sa b sb)
          (λ b sb e. absurd (is b sb e))
          (λ s j ne b sb lives. (b, sb, lives, reflexive b sb));
      next = next_after rings n k x r written within next;
    }

  -- all slots of a log were mapped, the versions in the relation, and nothing else to a version
  pub match_map : (f : Slot → Slot) → f Free ≡ Free
      → ((z : Slot) (y : Version) (st : WriteSetStatus) → z ≡ Live y st → (x : Version) × (su : WriteSetStatus) × (f z ≡ Live x su) × R y st x su)
      → ((z : Slot) (x : Version) (su : WriteSetStatus) → f z ≡ Live x su → (y : Version) × (st : WriteSetStatus) × (z ≡ Live y st) × R y st x su)
      → Matches R rings (set_at rings n (record (rings n) { slots = map f (rings n).slots }))
  match_map f free forth back = record {
    forth = slots_mapped rings n f free (λ s j w. (a : Version) (sa : WriteSetStatus) → Lives rings s j a sa
        → (b : Version) × (sb : WriteSetStatus) × (w ≡ Live b sb) × R a sa b sb)
        (λ j a sa lives. forth (slot_at (rings n) j) a sa lives)
        (λ s j ne a sa lives. (a, sa, lives, reflexive a sa));
    back = slots_mapped rings n f free (λ s j w. (b : Version) (sb : WriteSetStatus) → w ≡ Live b sb
        → (a : Version) × (sa : WriteSetStatus) × Lives rings s j a sa × R a sa b sb)
        (λ j b sb e. back (slot_at (rings n) j) b sb e)
        (λ s j ne b sb lives. (b, sb, lives, reflexive b sb));
    next = next_mapped rings n f free;
  }
