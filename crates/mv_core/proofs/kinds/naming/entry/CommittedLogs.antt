-- The logs after all that one seat holds is committed at one time. What is live then was live before; what was held by that seat is committed, with no death,
-- uncut, and linked where nothing is below it.
use Rattle.std.proofs.Common.{◌≡◌, ◌≢◌, ◌⊎◌, ℕ, ◌<◌, ◌==◌, false, List, [], ◌∷◌, map, refl, sym, ap, ◌∙◌, subst, inl, inr, ⊎_elim, suc, Option, None}
use Rattle.std.specs.Prelude.{slice_index_or}
use Rattle.std.proofs.Math.ListN.{get_or-map}
use Rattle.mv_core.proofs.Terms.{dite, ℕ_discrete, Config, Ring, Slot, Free, Built, Live, Freeing, Build, Version, WriteSetStatus, Held, Aborted, Committed}
use Rattle.mv_core.proofs.Terms.{CommitNote, slot_at, index_of, HoldsNothing, Lives, Names, IsGone, IsVersion, NoneUncut, IsTop, HasFirst, set_at}
use Rattle.mv_core.specs.NameSteps.{committed_slot}
use Rattle.mv_core.proofs.logs.Slots.{Matches}
use Rattle.mv_core.proofs.frames.Matching.{SameVersion}
use Rattle.mv_core.proofs.frames.InPlace.{IsUnlived, StaysInPlace, in_place_map}
use Rattle.mv_core.proofs.frames.FrameLaw.{set_at_here, set_at_else, set_at_all}
use Rattle.mv_core.proofs.logs.Links.{live_once}

-- what is noted of a version that is committed at this time
abbrev pub new_note : ℕ → Version → CommitNote
new_note t x = record { time = t; dead = None; cut = false; linked = x.previous == 0 }

-- the log, with what it held committed at this time
abbrev pub committed_ring : ℕ → Ring → Ring
committed_ring t r = record r { slots = map (committed_slot t) r.slots }

-- a version that is live afterwards was live before
pub committed_was : (t : ℕ) (slot : Slot) (x : Version) (st : WriteSetStatus) → committed_slot t slot ≡ Live x st
    → (old : WriteSetStatus) × (slot ≡ Live x old) × (((old ≡ st) × (st ≢ Held)) ⊎ ((old ≡ Held) × (st ≡ Committed (new_note t x))))
committed_was t Free x st e = absurd cc
committed_was t (Built b) x st e = absurd cc
committed_was t (Freeing p f) x st e = absurd cc
committed_was t (Live y Held) x st e =
    let one = live_once (Live y (Committed (new_note t y))) y x (Committed (new_note t y)) st refl e in
    (Held, ap (λ z. Live z Held) one.0, inr (refl, sym one.1 ∙ ap (λ z. Committed (new_note t z)) one.0))
committed_was t (Live y (Aborted d)) x st e = (
  st,
  e,
  inl (
    refl,
    λ held. let one = live_once (Live y (Aborted d)) y x (Aborted d) st refl e in let no_held : Aborted d ≡ Held = one.1
        ∙ held in absurd cc,
  ),
)
committed_was t (Live y (Committed n)) x st e = (
  st,
  e,
  inl (
    refl,
    λ held. let one = live_once (Live y (Committed n)) y x (Committed n) st refl e in let no_held : Committed n ≡ Held = one.1
        ∙ held in absurd cc,
  ),
)

-- a slot with no live version stays as it is
unlived_same : (t : ℕ) (slot : Slot) → IsUnlived slot → committed_slot t slot ≡ slot
unlived_same t Free unlived = refl
unlived_same t (Built b) unlived = refl
unlived_same t (Freeing p f) unlived = refl
unlived_same t (Live x st) unlived = absurd unlived

unlived_was : (t : ℕ) (slot : Slot) → IsUnlived (committed_slot t slot) → IsUnlived slot
unlived_was t Free unlived = tt
unlived_was t (Built b) unlived = tt
unlived_was t (Freeing p f) unlived = tt
unlived_was t (Live x Held) unlived = absurd unlived
unlived_was t (Live x (Aborted d)) unlived = absurd unlived
unlived_was t (Live x (Committed n)) unlived = absurd unlived

-- where nothing is held the log is as it was
none_committed : (t : ℕ) (slots : List Slot) → ((k : ℕ) (x : Version) → slice_index_or slots k Free ≢ Live x Held) → map (committed_slot t) slots ≡ slots
none_committed t [] none = refl
none_committed t (Free ∷ xs) none = ap (λ l. Free ∷ l) (none_committed t xs (λ k. none (suc k)))
none_committed t (Built b ∷ xs) none = ap (λ l. Built b ∷ l) (none_committed t xs (λ k. none (suc k)))
none_committed t (Freeing p f ∷ xs) none = ap (λ l. Freeing p f ∷ l) (none_committed t xs (λ k. none (suc k)))
none_committed t (Live x Held ∷ xs) none = absurd (none 0 x refl)
none_committed t (Live x (Aborted d) ∷ xs) none = ap (λ l. Live x (Aborted d) ∷ l) (none_committed t xs (λ k. none (suc k)))
none_committed t (Live x (Committed n) ∷ xs) none = ap (λ l. Live x (Committed n) ∷ l) (none_committed t xs (λ k. none (suc k)))

pub nothing_committed : (t : ℕ) (r : Ring) → HoldsNothing r → committed_ring t r ≡ r
nothing_committed t r none = ap (λ l. record r { slots = l }) (none_committed t r.slots none)

module _ (rings : ℕ → Ring) (n t : ℕ) where
  -- all logs, with what this seat held committed at this time
  abbrev pub after : ℕ → Ring
  after = set_at rings n (committed_ring t (rings n))

  slot_here : (s k : ℕ) → s ≡ n → slot_at (after s) k ≡ committed_slot t (slot_at (rings s) k)
  slot_here s k e =
      ap (λ r. slot_at r k) (ap after e ∙ set_at_here rings n (committed_ring t (rings n))) ∙ get_or-map (committed_slot t) (rings n).slots k Free ∙
      ap (λ u. committed_slot t (slot_at (rings u) k)) (sym e)

  slot_else : (s k : ℕ) → s ≢ n → slot_at (after s) k ≡ slot_at (rings s) k
  slot_else s k ne = ap (λ r. slot_at r k) (set_at_else rings n (committed_ring t (rings n)) s ne)

  pub next_same : (s : ℕ) → (after s).next ≡ (rings s).next
  next_same = set_at_all (λ s r. r.next ≡ (rings s).next) rings n (committed_ring t (rings n)) refl (λ s ne. refl)

  -- how a version that is live afterwards was before
  pub record Was (s k : ℕ) (x : Version) (st : WriteSetStatus) : Type 0 where
    pub old : WriteSetStatus
    pub lives : Lives rings s k x old
    pub how : (old ≡ st) ⊎ ((s ≡ n) × (old ≡ Held) × (st ≡ Committed (new_note t x)))

  pub was : (s k : ℕ) (x : Version) (st : WriteSetStatus) → Lives after s k x st → Was s k x st
  was s k x st lives =
      dite (ℕ_discrete s n)
      (λ e. let r = committed_was t (slot_at (rings s) k) x st
      (sym (slot_here s k e) ∙ lives) in record { old = r.0; lives = r.1; how = ⊎_elim (λ a. inl a.0) (λ b. inr (e, b.0, b.1)) r.2 })
      (λ ne. record { old = st; lives = sym (slot_else s k ne) ∙ lives; how = inl refl })

  pub was_held : (s k : ℕ) (x : Version) → Lives after s k x Held → (s ≢ n) × Lives rings s k x Held
  was_held s k x lives =
      dite (ℕ_discrete s n)
      (λ e.
      let r = committed_was t (slot_at (rings s) k) x Held (sym (slot_here s k e) ∙ lives) in
      ⊎_elim (λ a. absurd (a.1 refl)) (λ b. let none : Held ≡ Committed (new_note t x) = b.1 in absurd cc) r.2)
      (λ ne. (ne, sym (slot_else s k ne) ∙ lives))

  pub was_aborted : (s k : ℕ) (x : Version) (dead : Option ℕ) → Lives after s k x (Aborted dead) → Lives rings s k x (Aborted dead)
  was_aborted s k x dead lives =
      let r = was s k x (Aborted dead) lives in
      ⊎_elim (λ e. subst (Lives rings s k x) e r.lives) (λ b. let none : Aborted dead ≡ Committed (new_note t x) = b.2 in absurd cc) r.how

  pub was_committed : (s k : ℕ) (x : Version) (note : CommitNote) → Lives after s k x (Committed note)
      → Lives rings s k x (Committed note) ⊎ ((s ≡ n) × Lives rings n k x Held × (note ≡ new_note t x))
  was_committed s k x note lives =
      let r = was s k x (Committed note) lives in
      ⊎_elim (λ e. inl (subst (Lives rings s k x) e r.lives))
      (λ b. inr (
        b.0,
        subst (λ u. Lives rings u k x Held) b.0 (subst (Lives rings s k x) b.1 r.lives),
        let same : Committed note ≡ Committed (new_note t x) = b.2 in cc,
      ))
      r.how

  -- what is held or aborted afterwards was so before
  pub was_uncommitted : (s k : ℕ) (x : Version) (st : WriteSetStatus) → Lives after s k x st → ((note : CommitNote) → st ≢ Committed note)
      → Lives rings s k x st
  was_uncommitted s k x st lives none =
      let r = was s k x st lives in
      ⊎_elim (λ e. subst (Lives rings s k x) e r.lives) (λ b. absurd (none (new_note t x) b.2)) r.how

  stays : (s k : ℕ) (x : Version) (st : WriteSetStatus) → committed_slot t (Live x st) ≡ Live x st → Lives rings s k x st → Lives after s k x st
  stays s k x st same lives =
      dite (ℕ_discrete s n) (λ e. slot_here s k e ∙ ap (committed_slot t) lives ∙ same) (λ ne. slot_else s k ne ∙ lives)

  pub still_committed : (s k : ℕ) (x : Version) (note : CommitNote) → Lives rings s k x (Committed note) → Lives after s k x (Committed note)
  still_committed s k x note = stays s k x (Committed note) refl

  pub still_aborted : (s k : ℕ) (x : Version) (dead : Option ℕ) → Lives rings s k x (Aborted dead) → Lives after s k x (Aborted dead)
  still_aborted s k x dead = stays s k x (Aborted dead) refl

  pub still_held : (s k : ℕ) (x : Version) → s ≢ n → Lives rings s k x Held → Lives after s k x Held
  still_held s k x ne lives = slot_else s k ne ∙ lives

  pub now_committed : (k : ℕ) (x : Version) → Lives rings n k x Held → Lives after n k x (Committed (new_note t x))
  now_committed k x lives = slot_here n k refl ∙ ap (committed_slot t) lives

  -- what was held is held still, or is committed
  pub held_becomes : (s k : ℕ) (x : Version) → Lives rings s k x Held → Lives after s k x Held ⊎ Lives after s k x (Committed (new_note t x))
  held_becomes s k x lives =
      dite (ℕ_discrete s n)
      (λ e. inr (subst (λ u. Lives after u k x (Committed (new_note t x))) (sym e) (now_committed k x (subst (λ u. Lives rings u k x Held) e lives))))
      (λ ne. inl (still_held s k x ne lives))

  -- what was live is live
  pub still_lives : (s k : ℕ) (x : Version) (st : WriteSetStatus) → Lives rings s k x st → (new : WriteSetStatus) × Lives after s k x new
  still_lives s k x (Committed note) lives = (Committed note, still_committed s k x note lives)
  still_lives s k x (Aborted dead) lives = (Aborted dead, still_aborted s k x dead lives)
  still_lives s k x Held lives = ⊎_elim (λ held. (Held, held)) (λ new. (Committed (new_note t x), new)) (held_becomes s k x lives)

  -- each version stays, and each slot with none
  pub same_versions : Matches SameVersion rings after
  same_versions = record {
    forth = λ s k x st lives. let a = still_lives s k x st lives in (x, a.0, a.1, refl);
    back = λ s k x st lives. let w = was s k x st lives in (x, w.old, w.lives, refl);
    next = next_same;
  }

  pub others_stay : StaysInPlace rings after
  others_stay = in_place_map rings n (committed_slot t) refl (unlived_same t) (unlived_was t)

  pub was_built : (s k : ℕ) (b : Build) → slot_at (after s) k ≡ Built b → slot_at (rings s) k ≡ Built b
  was_built s k b = others_stay.back s k (Built b) tt

  -- what holds of each slot and of it committed holds of each slot afterwards
  pub all_slots : (P : ℕ → ℕ → Slot → Type 0) → ((s k : ℕ) (slot : Slot) → P s k slot → P s k (committed_slot t slot))
      → ((s k : ℕ) → P s k (slot_at (rings s) k)) → (s k : ℕ) → P s k (slot_at (after s) k)
  all_slots P keep all s k =
      dite (ℕ_discrete s n) (λ e. subst (P s k) (sym (slot_here s k e)) (keep s k (slot_at (rings s) k) (all s k)))
      (λ ne. subst (P s k) (sym (slot_else s k ne)) (all s k))

  -- the seat holds nothing any more
  pub nothing_held : HoldsNothing (after n)
  nothing_held k x lives = (was_held n k x lives).0 refl

  pub still_named : (link : ℕ) (x : Version) (note : CommitNote) → Names rings link x (Committed note) → Names after link x (Committed note)
  still_named link x note a = record { seat = a.seat; slot = a.slot; lives = still_committed a.seat a.slot x note a.lives; is = a.is }

  pub still_gone : (link : ℕ) → IsGone rings link → IsGone after link
  still_gone link g =
      record {
        seat = g.seat;
        position = g.position;
        is = g.is;
        used = subst (λ p. g.position < p) (sym (next_same g.seat)) g.used;
        gone = λ k x st lives. let r = was g.seat k x st lives in g.gone k x r.old r.lives;
      }

  pub still_version : (o u link : ℕ) (x : Version) (note : CommitNote) → IsVersion rings o u link x note → IsVersion after o u link x note
  still_version o u link x note v = record { names = still_named link x note v.names; object_is = v.object_is; time_is = v.time_is }

  -- versions of other times are those of before
  pub was_version : (o u link : ℕ) (x : Version) (note : CommitNote) → u ≢ t → IsVersion after o u link x note → IsVersion rings o u link x note
  was_version o u link x note ne v =
      ⊎_elim
      (λ old. record {
        names = record { seat = v.names.seat; slot = v.names.slot; lives = old; is = v.names.is };
        object_is = v.object_is;
        time_is = v.time_is;
      })
      (λ new. absurd (ne (sym v.time_is ∙ ap (λ (d : CommitNote). d.time) new.2)))
      (was_committed v.names.seat v.names.slot x note v.names.lives)

  pub was_none_uncut : (o u : ℕ) → NoneUncut after o u → NoneUncut rings o u
  was_none_uncut o u none link x note v = none link x note (still_version o u link x note v)

  pub still_none_uncut : (o u : ℕ) → u ≢ t → NoneUncut rings o u → NoneUncut after o u
  still_none_uncut o u ne none link x note v = none link x note (was_version o u link x note ne v)

  pub still_top : (o u link : ℕ) → u ≢ t → IsTop rings o u link → IsTop after o u link
  still_top o u link ne = ⊎_elim (λ a. inl (a.0, a.1, still_version o u link a.0 a.1 a.2, a.3)) (λ b. inr (b.0, still_none_uncut o u ne b.1))

  pub still_first : (c : Config) (s : ℕ) (x : Version) → HasFirst rings c s x → HasFirst after c s x
  still_first c s x a =
      let r = still_lives s (index_of c x.first) a.version a.status a.lives in
      record { version = a.version; status = r.0; lives = r.1; position_is = a.position_is; first_is = a.first_is }
