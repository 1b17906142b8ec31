-- Whether there is a live version of some kind can be found out: there are as many seats and slots as the domain has.
use Rattle.std.proofs.Common.{◌≡◌, ◌⊎◌, ℕ, zero, suc, ◌+◌, ◌<◌, ◌≤◌, List, length, sym, refl, ap, ◌∙◌, subst, inl, inr, ⊎_elim, arith}
use Rattle.mv_core.proofs.Terms.{dite, ℕ_discrete, Entry, Config, Checked, link_of, Ring, Slot, Free, Built, Live, Freeing, Version, WriteSetStatus, Held}
use Rattle.mv_core.proofs.Terms.{Aborted, Committed, CommitNote, slot_at, Lives, Names, IsVersion, NoneHolds}
use Rattle.mv_core.specs.SetFacts.{Positions}
use Rattle.mv_core.proofs.logs.Links.{live_once, note_once, lives_within}

-- it holds, or it doesn't
abbrev pub HoldsOrNot : Type 0 → Type 0
HoldsOrNot P = P ⊎ (P → ⊥)

-- which of the numbers below n it holds of, if of any
find_below : (P : ℕ → Type 0) → ((i : ℕ) → HoldsOrNot (P i)) → (n : ℕ) → ((i : ℕ) × P i) ⊎ ((i : ℕ) → i < n → P i → ⊥)
find_below P known zero = inr (λ i lt p. omega arith)
find_below P known (suc n) =
    ⊎_elim
    (λ found. inl found)
    (λ none. ⊎_elim (λ p. inl (n, p)) (λ not_here. inr (λ i lt p. dite (ℕ_discrete i n) (λ e. not_here (subst P e p)) (λ ne. none i (omega arith) p)))
    (known n))
    (find_below P known n)

-- there is a version in the slot of which it holds
abbrev IsThere : (Version → WriteSetStatus → Type 0) → Slot → Type 0
IsThere Q slot = (x : Version) × (st : WriteSetStatus) × (slot ≡ Live x st) × Q x st

in_slot : (Q : Version → WriteSetStatus → Type 0) → ((x : Version) (st : WriteSetStatus) → HoldsOrNot (Q x st)) → (slot : Slot) → HoldsOrNot (IsThere Q slot)
in_slot Q known Free = inr (λ p. let e = p.2 in cc)
in_slot Q known (Built b) = inr (λ p. let e = p.2 in cc)
in_slot Q known (Freeing p f) = inr (λ p. let e = p.2 in cc)
in_slot Q known (Live x st) =
    ⊎_elim (λ q. inl (x, st, refl, q))
    (λ none. inr
    (λ p. let one = live_once (Live x st) x p.0 st p.1 refl p.2 in none (subst (λ y. Q y st) (sym one.0) (subst (λ su. Q p.0 su) (sym one.1) p.3))))
    (known x st)

module _ (c : Config) (h : List Entry) (rings : ℕ → Ring) (checked : Checked c) (in_time : c.base + length h ≤ 35184372088831)
    (positions : Positions c h rings) where
  -- a live version of which it holds, or there is none
  pub find_version : (Q : ℕ → Version → WriteSetStatus → Type 0) → ((s : ℕ) (x : Version) (st : WriteSetStatus) → HoldsOrNot (Q s x st))
      → ((s k : ℕ) × (x : Version) × (st : WriteSetStatus) × Lives rings s k x st × Q s x st)
      ⊎ ((s k : ℕ) (x : Version) (st : WriteSetStatus) → Lives rings s k x st → Q s x st → ⊥)
  find_version Q known =
      let of_seat : (s : ℕ) → HoldsOrNot ((k : ℕ) × IsThere (Q s) (slot_at (rings s) k)) =
      λ s. ⊎_elim (λ found. inl found)
      (λ none. inr (λ found. none found.0 (lives_within c h rings checked in_time positions s found.0 found.1.0 found.1.1 found.1.2).1 found.1))
      (find_below (λ k. IsThere (Q s) (slot_at (rings s) k)) (λ k. in_slot (Q s) (known s) (slot_at (rings s) k)) c.slots) in
      ⊎_elim
      (λ f. inl (f.0, f.1.0, f.1.1.0, f.1.1.1, f.1.1.2, f.1.1.3))
      (λ none. inr (λ s k x st lives q. none s (lives_within c h rings checked in_time positions s k x st lives).0 (k, (x, st, lives, q))))
      (find_below (λ s. (k : ℕ) × IsThere (Q s) (slot_at (rings s) k)) of_seat c.seats)

  known_held : (o : ℕ) (x : Version) (st : WriteSetStatus) → HoldsOrNot ((st ≡ Held) × (x.object ≡ o))
  known_held o x Held = dite (ℕ_discrete x.object o) (λ e. inl (refl, e)) (λ ne. inr (λ p. ne p.1))
  known_held o x (Aborted dead) = inr (λ p. let e = p.0 in cc)
  known_held o x (Committed note) = inr (λ p. let e = p.0 in cc)

  -- the object is held, or no seat holds it
  pub find_holder : (o : ℕ) → ((s k : ℕ) × (x : Version) × Lives rings s k x Held × (x.object ≡ o)) ⊎ NoneHolds rings o
  find_holder o =
      ⊎_elim
      (λ f. inl (f.0, f.1, f.2, subst (λ st. Lives rings f.0 f.1 f.2 st) f.5.0 f.4, f.5.1))
      (λ none. inr (λ s k x lives e. none s k x Held lives (refl, e)))
      (find_version (λ s x st. (st ≡ Held) × (x.object ≡ o)) (λ s x st. known_held o x st))

  IsWriteOf : ℕ → ℕ → Version → WriteSetStatus → Type 0
  IsWriteOf o t x st = (note : CommitNote) × (st ≡ Committed note) × (x.object ≡ o) × (note.time ≡ t)

  known_write : (o t : ℕ) (x : Version) (st : WriteSetStatus) → HoldsOrNot (IsWriteOf o t x st)
  unfolding IsWriteOf
  known_write o t x Held = inr (λ p. let e = p.1 in cc)
  known_write o t x (Aborted dead) = inr (λ p. let e = p.1 in cc)
  known_write o t x (Committed note) =
      dite (ℕ_discrete x.object o)
      (λ e. dite (ℕ_discrete note.time t) (λ f. inl (note, refl, e, f)) (λ ne. inr (λ p. ne (ap (λ (n : CommitNote). n.time) (note_once note p.0 p.1) ∙ p.3))))
      (λ ne. inr (λ p. ne p.2))

  -- the version of the object's write at this time, or it isn't live
  pub find_write : (o t : ℕ) → ((link : ℕ) × (x : Version) × (note : CommitNote) × IsVersion rings o t link x note)
      ⊎ ((link : ℕ) (x : Version) (note : CommitNote) → ¬ (IsVersion rings o t link x note))
  unfolding IsWriteOf
  find_write o t =
      ⊎_elim
      (λ f. let note : CommitNote = f.5.0 in
      inl (
        link_of f.0 f.2.position,
        f.2,
        note,
        record {
          names = record { seat = f.0; slot = f.1; lives = subst (λ st. Lives rings f.0 f.1 f.2 st) f.5.1 f.4; is = refl };
          object_is = f.5.2;
          time_is = f.5.3;
        },
      ))
      (λ none. inr (λ link x note v. none v.names.seat v.names.slot x (Committed note) v.names.lives (note, refl, v.object_is, v.time_is)))
      (find_version (λ s x st. IsWriteOf o t x st) (λ s x st. known_write o t x st))

  -- what a link names, or it names none
  pub find_named : (link : ℕ) → ((x : Version) × (st : WriteSetStatus) × Names rings link x st) ⊎
      ((x : Version) (st : WriteSetStatus) → ¬ (Names rings link x st))
  find_named link =
      ⊎_elim
      (λ f. inl (f.2, f.3, record { seat = f.0; slot = f.1; lives = f.4; is = f.5 }))
      (λ none. inr (λ x st n. none n.seat n.slot x st n.lives n.is))
      (find_version (λ s x st. link ≡ link_of s x.position) (λ s x st. dite (ℕ_discrete link (link_of s x.position)) (λ e. inl e) (λ ne. inr ne)))
