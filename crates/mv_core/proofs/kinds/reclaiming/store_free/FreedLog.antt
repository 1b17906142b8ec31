-- store STAMP 0 (free), in the log of its seat: the slot of the oldest position is free, and where that is the first of a write
-- set, the whole set is live no more. Each version of it is dead from a time that the watermark has reached.
use Rattle.std.proofs.Common.{◌≡◌, ◌≢◌, ◌⊎◌, ℕ, ◌<◌, ◌≤◌, Bool, cond, List, length, refl, sym, ap, ◌∙◌, subst}
use Rattle.std.proofs.Common.{inl, inr, ⊎_elim, eq-eqb, ne_eqb, arith, Some, None}
use Rattle.mv_core.proofs.Terms.{dite, ℕ_discrete, Entry, State, Writes, Config, Clock, clock_time_of, clock_seat_of, clock_slot_of, Memory, Ring}
use Rattle.mv_core.proofs.Terms.{Slot, Free, Built, Live, Freeing, Build, Version, WriteSetStatus, Held, Aborted, Committed, CommitNote, OwnSection, slot_at}
use Rattle.mv_core.proofs.Terms.{index_of, Lives, Names, IsGone, HasFirst, ViewParts, set_at}
use Rattle.mv_core.proofs.FactTerms.{IsBeforeDeath, Facts}
use Rattle.mv_core.specs.ReclaimSteps.{UsesPosition, IsDeadBy, freeing_slot}
use Rattle.mv_core.proofs.frames.FrameLaw.{set_at_all, set_at_here}
use Rattle.mv_core.proofs.logs.Links.{live_once, position_once}

-- the log of the seat n afterwards, where the slot of this position was given free
pub record IsFreed (c : Config) (f : ViewParts) (n position : ℕ) (r : Ring) : Type 0 where
  pub outside : f.section n ≡ None
  pub next : r.next ≡ (f.ring n).next
  pub wide : length r.slots ≡ length (f.ring n).slots
  pub here : slot_at r (index_of c position) ≡ Free
  pub apart : (j : ℕ) → j ≢ index_of c position → slot_at r j ≡ freeing_slot position (slot_at (f.ring n) j)
  pub used : UsesPosition (slot_at (f.ring n) (index_of c position)) position
  pub oldest : (j p : ℕ) → UsesPosition (slot_at (f.ring n) j) p → position ≤ p
  pub dead : (j : ℕ) (x : Version) (st : WriteSetStatus) → Lives f.ring n j x st → x.first ≡ position → IsDeadBy (f.grace n) st

-- a version of the set that was dropped
pub record IsDropped (n position grace s : ℕ) (x : Version) (st : WriteSetStatus) : Type 0 where
  pub seat_is : s ≡ n
  pub first_is : x.first ≡ position
  pub dead : IsDeadBy grace st

-- what is dead by a time stands in no walk of that time or a later one
pub not_dead_by : (t g : ℕ) (st : WriteSetStatus) → IsBeforeDeath t st → IsDeadBy g st → g ≤ t → ⊥
not_dead_by t g Held before dead le = dead
not_dead_by t g (Aborted None) before dead le = let e = dead.1 in absurd (cc)
not_dead_by t g (Aborted (Some d)) before dead le =
    let e : Some d ≡ Some dead.0 = dead.1 in
    let same : d ≡ dead.0 = cc in
    let by = dead.2 in
    let lt : t < d = before in
    omega arith
not_dead_by t g (Committed note) before dead le = let lt = before dead.0 dead.1 in let by = dead.2 in omega arith

module _ {starts : State → Type 0} {allows : List ℕ → State → Writes → Type 0} {c : Config} {start : State} {m : Memory} {h : List Entry} {f : ViewParts}
    (k : Facts starts allows c start m h f) (n position : ℕ) (r : Ring) (is : IsFreed c f n position r) where
  abbrev pub slot : ℕ
  slot = index_of c position

  abbrev pub later : ℕ → Ring
  later = set_at f.ring n r

  pub next_same : (s : ℕ) → (later s).next ≡ (f.ring s).next
  next_same = set_at_all (λ s q. q.next ≡ (f.ring s).next) f.ring n r is.next (λ s ne. refl)

  pub wide_same : (s : ℕ) → length (later s).slots ≡ length (f.ring s).slots
  wide_same = set_at_all (λ s q. length q.slots ≡ length (f.ring s).slots) f.ring n r is.wide (λ s ne. refl)

  -- what holds of the free slot, of the slots that are freeing now, and of each other one as it was, holds of all
  pub each_slot : (P : ℕ → ℕ → Slot → Type 0) → P n slot Free
      → ((j : ℕ) (x : Version) (st : WriteSetStatus) → j ≢ slot → Lives f.ring n j x st → x.first ≡ position → P n j (Freeing x.position x.first))
      → ((s j : ℕ) → ¬ ((s ≡ n) × (j ≡ slot)) → ((x : Version) (st : WriteSetStatus) → slot_at (f.ring s) j ≡ Live x st → s ≡ n → x.first ≢ position)
      → P s j (slot_at (f.ring s) j)) → (s j : ℕ) → P s j (slot_at (later s) j)
  each_slot P here freeing rest =
      set_at_all (λ s q. (j : ℕ) → P s j (slot_at q j)) f.ring n r
      (λ j.
      dite (ℕ_discrete j slot)
      (λ e. subst (λ (i : ℕ). P n i (slot_at r i)) (sym e) (subst (P n slot) (sym is.here) here))
      (λ ne. subst (P n j) (sym (is.apart j ne)) (go j ne (slot_at (f.ring n) j) refl)))
      (λ s ne j. rest s j (λ a. ne a.0) (λ x st _ same. absurd (ne same)))
    where
      go : (j : ℕ) → j ≢ slot → (z : Slot) → slot_at (f.ring n) j ≡ z → P n j (freeing_slot position z)
      go j ne Free e = subst (P n j) e (rest n j (λ a. ne a.1) (λ x st l. let clash : Free ≡ Live x st = sym e ∙ l in absurd (cc)))
      go j ne (Built b) e = subst (P n j) e (rest n j (λ a. ne a.1) (λ x st l. let clash : Built b ≡ Live x st = sym e ∙ l in absurd (cc)))
      go j ne (Freeing p first) e = subst (P n j) e (rest n j (λ a. ne a.1) (λ x st l. let clash : Freeing p first ≡ Live x st = sym e ∙ l in absurd (cc)))
      go j ne (Live x st) e =
          dite (ℕ_discrete x.first position)
          (λ same. subst (λ (b : Bool). P n j (cond b (Freeing x.position x.first) (Live x st))) (sym (eq-eqb x.first position same))
          (freeing j x st ne e same))
          (λ other.
          subst (λ (b : Bool). P n j (cond b (Freeing x.position x.first) (Live x st))) (sym (ne_eqb x.first position other))
          (subst (P n j) e
          (rest n j (λ a. ne a.1) (λ y su l _. let one = live_once (slot_at (f.ring n) j) x y st su e l in
          λ first. other (ap (λ (v : Version). v.first) one.0 ∙ first)))))

  -- each live version was so, and isn't of that set
  lives_was : (s j : ℕ) (x : Version) (st : WriteSetStatus) → Lives later s j x st → Lives f.ring s j x st × (s ≡ n → x.first ≢ position)
  lives_was =
      each_slot (λ s j z. (x : Version) (st : WriteSetStatus) → z ≡ Live x st → Lives f.ring s j x st × (s ≡ n → x.first ≢ position))
      (λ x st e. absurd (cc))
      (λ j y su ne l first x st e. absurd (cc))
      (λ s j ne other x st e. (e, λ same. other x st e same))

  pub was : (s j : ℕ) (x : Version) (st : WriteSetStatus) → Lives later s j x st → Lives f.ring s j x st
  was s j x st lives = (lives_was s j x st lives).0

  pub not_of_set : (j : ℕ) (x : Version) (st : WriteSetStatus) → Lives later n j x st → x.first ≢ position
  not_of_set j x st lives = (lives_was n j x st lives).1 refl

  -- the version in that slot begins the set
  pub at_slot : (x : Version) (st : WriteSetStatus) → Lives f.ring n slot x st → (x.position ≡ position) × (x.first ≡ position)
  at_slot x st lives =
      let used : UsesPosition (Live x st) position = subst (λ (z : Slot). UsesPosition z position) lives is.used in
      let first = k.write_sets.first n slot x st lives in
      let at : UsesPosition (slot_at (f.ring n) (index_of c x.first)) x.first =
      subst (λ (z : Slot). UsesPosition z x.first) (sym first.lives) first.position_is in
      let low = is.oldest (index_of c x.first) x.first at in
      let high = k.write_sets.after_first n slot x st lives in
      let position_is : x.position ≡ position = used in
      (position_is, omega arith)

  -- a version lives still, or was dropped
  pub still : (s j : ℕ) (x : Version) (st : WriteSetStatus) → Lives f.ring s j x st → Lives later s j x st ⊎ IsDropped n position (f.grace n) s x st
  still =
      each_slot (λ s j z. (x : Version) (st : WriteSetStatus) → Lives f.ring s j x st → (z ≡ Live x st) ⊎ IsDropped n position (f.grace n) s x st)
      (λ x st l. let at = at_slot x st l in inr (record { seat_is = refl; first_is = at.1; dead = is.dead slot x st l at.1 }))
      (λ j y su ne l first x st e.
      let one = live_once (slot_at (f.ring n) j) y x su st l e in
      let first_is : x.first ≡ position = ap (λ (v : Version). v.first) (sym one.0) ∙ first in
      inr (record { seat_is = refl; first_is = first_is; dead = is.dead j x st e first_is }))
      (λ s j ne other x st e. inl e)

  -- a version of the set of one that lives does so too
  pub set_still : (s j l : ℕ) (x y : Version) (st su : WriteSetStatus) → Lives later s j x st → Lives f.ring s l y su → y.first ≡ x.first → Lives later s l y su
  set_still s j l x y st su lives there same =
      ⊎_elim (λ a. a)
      (λ d. absurd (not_of_set j x st (subst (λ (t : ℕ). Lives later t j x st) d.seat_is lives) (sym same ∙ d.first_is)))
      (still s l y su there)

  pub first_still : (s j : ℕ) (x : Version) (st : WriteSetStatus) → Lives later s j x st → HasFirst later c s x
  first_still s j x st lives =
      let a = k.write_sets.first s j x st (was s j x st lives) in
      record {
        version = a.version;
        status = a.status;
        lives = set_still s j (index_of c x.first) x a.version st a.status lives a.lives a.first_is;
        position_is = a.position_is;
        first_is = a.first_is;
      }

  -- the slot of a set that lives isn't the one that was given free
  pub other_slot : (s j : ℕ) (x : Version) (st : WriteSetStatus) → Lives later s j x st → ¬ ((s ≡ n) × (index_of c x.first ≡ slot))
  other_slot s j x st lives at =
      let a = first_still s j x st lives in
      let none : Free ≡ Live a.version a.status =
      sym (ap (λ (q : Ring). slot_at q slot) (set_at_here f.ring n r) ∙ is.here)
      ∙ subst (λ (p : ℕ × ℕ). Lives later p.0 p.1 a.version a.status) (λ i. (at.0 i, at.1 i)) a.lives in
      absurd (cc)

  -- a commit that was dropped is below the watermark
  pub dropped_is_old : (s j : ℕ) (x : Version) (note : CommitNote) → Lives f.ring s j x (Committed note)
      → IsDropped n position (f.grace n) s x (Committed note) → note.time < f.grace n
  dropped_is_old s j x note lives d = let after = k.death_after_write s j d.dead.0 x note lives d.dead.1 in let by = d.dead.2 in omega arith

  -- the commit that the clock names is kept
  pub clock_kept : (x : Version) (note : CommitNote) (s j : ℕ) → Lives f.ring s j x (Committed note) → note.time ≡ clock_time_of (m Clock)
      → Lives later s j x (Committed note)
  clock_kept x note s j lives time =
      ⊎_elim (λ a. a)
      (λ d. let low = dropped_is_old s j x note lives d in let high = (k.grace.views n).0 in absurd (omega arith))
      (still s j x (Committed note) lives)

  -- so it isn't in that slot
  pub clock_apart : clock_slot_of (m Clock) ≢ 8191 → ¬ ((clock_seat_of (m Clock) ≡ n) × (clock_slot_of (m Clock) ≡ slot))
  clock_apart names at =
      let a = k.freed_is_old.named names in
      let lives = clock_kept a.0 a.1 (clock_seat_of (m Clock)) (clock_slot_of (m Clock)) a.2 a.4 in
      let none : Free ≡ Live a.0 (Committed a.1) =
      sym (ap (λ (q : Ring). slot_at q slot) (set_at_here f.ring n r) ∙ is.here)
      ∙ subst (λ (p : ℕ × ℕ). Lives later p.0 p.1 a.0 (Committed a.1)) (λ i. (at.0 i, at.1 i)) lives in
      absurd (cc)

  -- a seat in a section drops nothing
  pub section_kept : (s j : ℕ) (x : Version) (st : WriteSetStatus) (i : OwnSection) → f.section s ≡ Some i → Lives f.ring s j x st → Lives later s j x st
  section_kept s j x st i there lives =
      ⊎_elim (λ a. a)
      (λ d. let none : None ≡ Some i = sym is.outside ∙ ap f.section (sym d.seat_is) ∙ there in absurd (cc))
      (still s j x st lives)

  -- a link to a version that was dropped names none, and its position was used
  pub dropped_gone : (link : ℕ) (x : Version) (st : WriteSetStatus) → (names : Names f.ring link x st) → IsDropped n position (f.grace n) names.seat x st
      → IsGone later link
  dropped_gone link x st names d = record {
    seat = names.seat;
    position = x.position;
    is = names.is;
    used = subst (λ (p : ℕ). x.position < p) (sym (next_same names.seat)) (k.positions.live names.seat names.slot x st names.lives).1;
    gone = λ j y su lives e.
        let one = position_once c h f.ring k.checked k.history.in_time k.positions names.seat j names.slot y x su st
        (was names.seat j y su lives) names.lives e in
        not_of_set j y su (subst (λ (t : ℕ). Lives later t j y su) d.seat_is lives) (ap (λ (v : Version). v.first) one.1 ∙ d.first_is);
  }

  pub gone_still : (link : ℕ) → IsGone f.ring link → IsGone later link
  gone_still link g = record {
    seat = g.seat;
    position = g.position;
    is = g.is;
    used = subst (λ (p : ℕ). g.position < p) (sym (next_same g.seat)) g.used;
    gone = λ j x st lives. g.gone j x st (was g.seat j x st lives);
  }

  -- a slot that is built or freeing, or free
  pub built_was : (s j : ℕ) (b : Build) → slot_at (later s) j ≡ Built b → slot_at (f.ring s) j ≡ Built b × ¬ ((s ≡ n) × (j ≡ slot))
  built_was =
      each_slot (λ s j z. (b : Build) → z ≡ Built b → slot_at (f.ring s) j ≡ Built b × ¬ ((s ≡ n) × (j ≡ slot)))
      (λ b e. absurd (cc)) (λ j x st ne l first b e. absurd (cc)) (λ s j ne other b e. (e, ne))
