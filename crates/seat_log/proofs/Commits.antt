-- The own log after a commit was named: its held write set has ended.
use Rattle.std.proofs.Common.{◌≡◌, ◌⊎◌, ℕ, ◌+◌, ◌<◌, ◌==◌, Bool, true, false, count_by, List, [], ◌∷◌, ◌++◌}
use Rattle.std.proofs.Common.{length, map, refl, sym, ap, ◌∙◌, subst, ⊎_elim, arith, length-append, Option, None}
use Rattle.std.proofs.lemmas.List.{length-map}
use Rattle.std.proofs.lemmas.List.Sums.{sum_by-cons, sum_by-append}
use Rattle.mv_history.specs.declared.Commit.{Commit}
use Rattle.mv_history.specs.declared.Entry.{Entry}
use Rattle.mv_layout.specs.declared.Config.{Config}
use Rattle.mv_layout.specs.Words.{clock_time_of}
use Rattle.reader_marks.specs.mv_core.declared.ring.Slot.{Slot}
use Rattle.reader_marks.specs.mv_core.declared.ring.Slot.TheVariants.{Free, Built, Live, Freeing}
use Rattle.reader_marks.specs.mv_core.declared.ring.Version.{Version}
use Rattle.reader_marks.specs.mv_core.declared.ring.WriteSetStatus.{WriteSetStatus}
use Rattle.reader_marks.specs.mv_core.declared.ring.WriteSetStatus.TheVariants.{Held, Aborted, Committed}
use Rattle.reader_marks.specs.mv_core.declared.ring.CommitNote.{CommitNote}
use Rattle.reader_marks.specs.mv_core.declared.view.Knowledge.{Knowledge}
use Rattle.reader_marks.specs.mv_core.declared.view.OwnSection.{OwnSection}
use Rattle.reader_marks.specs.mv_core.Rings.{slot_at, is_held, is_spare}
use Rattle.reader_marks.specs.mv_core.NameSteps.{committed_slot, commit_named}
use Rattle.reader_marks.proofs.mv_core_lemmas.logs.Links.{live_once}
use Rattle.reader_marks.proofs.mv_core_lemmas.logs.Slots.{slot_mapped}
use Rattle.reader_marks.proofs.mv_core_lemmas.logs.Counts.{one_if, count_mapped}
use Rattle.seat_log.specs.declared.version.Note.{Note}
use Rattle.seat_log.specs.Notes.{Noted, committed_noted}
use Rattle.seat_log.specs.Stands.{death_of, IsAsNoted, is_cut, is_free, is_won_cut, is_won_lock, writes_in, Stands}
use Rattle.seat_log.proofs.BuildsOn.{unpassed}
use Rattle.seat_log.proofs.StepCounts.{KeepsLocks}
use Rattle.seat_log.proofs.SlotCounts.{count_alike, unlived}
use Rattle.seat_log.proofs.Noting.{committed_is_log}
use Rattle.seat_log.proofs.Ended.{HasEnded, stands_ended}

-- a committed slot is as spare and as cut as it was
spare_same : (t : ℕ) (z : Slot) → is_spare (committed_slot t z) ≡ is_spare z
spare_same t Free = refl
spare_same t (Built b) = refl
spare_same t (Freeing p q) = refl
spare_same t (Live x Held) = refl
spare_same t (Live x (Aborted d)) = refl
spare_same t (Live x (Committed note)) = refl

cut_same : (t : ℕ) (z : Slot) → is_cut (committed_slot t z) ≡ is_cut z
cut_same t Free = refl
cut_same t (Built b) = refl
cut_same t (Freeing p q) = refl
cut_same t (Live x Held) = refl
cut_same t (Live x (Aborted d)) = refl
cut_same t (Live x (Committed note)) = refl

unheld_then : (t : ℕ) (z : Slot) → is_held (committed_slot t z) ≡ false
unheld_then t Free = refl
unheld_then t (Built b) = refl
unheld_then t (Freeing p q) = refl
unheld_then t (Live x Held) = refl
unheld_then t (Live x (Aborted d)) = refl
unheld_then t (Live x (Committed note)) = refl

-- what isn't held stays
stays : (t : ℕ) (z : Slot) → is_held z ≡ false → committed_slot t z ≡ z
stays t Free e = refl
stays t (Built b) e = refl
stays t (Freeing p q) e = refl
stays t (Live x Held) e = absurd (cc)
stays t (Live x (Aborted d)) e = refl
stays t (Live x (Committed note)) e = refl

-- none is held after a map that leaves none
none_held : (t : ℕ) (zs : List Slot) → count_by is_held (map (committed_slot t) zs) ≡ 0
none_held t [] = refl
none_held t (z ∷ zs) =
    sum_by-cons (λ y. one_if (is_held y)) (committed_slot t z) (map (committed_slot t) zs) ∙ (λ i. one_if (unheld_then t z i) + none_held t zs i)

-- a commit that was named ends what was held, at its time
pub commit_ends : (c : Config) (v : Knowledge) (inside : OwnSection) (tag : List ℕ) (word : ℕ) (h : List Entry)
    → HasEnded v (commit_named c v inside tag word h) (λ n. record n { time = clock_time_of word + 1 })
commit_ends c v inside tag word h =
    let t : ℕ = clock_time_of word + 1 in record {
      number = refl;
      next = refl;
      wide = length-map v.ring.slots (committed_slot t);
      none_held = none_held t v.ring.slots;
      spare = count_mapped is_spare (committed_slot t) (spare_same t) v.ring.slots;
      cuts = count_mapped is_cut (committed_slot t) (cut_same t) v.ring.slots;
      ended = λ k x e. (
        Committed (record { time = t; dead = None; cut = false; linked = x.previous == 0 }),
        slot_mapped (committed_slot t) refl v.ring k ∙ ap (committed_slot t) e,
        λ n none dead. (refl, (omega arith), refl, noted_none n.dead dead, λ _. refl),
      );
      kept = λ k x st e unheld. (st, stands_there k (Live x st) e unheld, λ n a. a);
      others = λ k z e none. stands_there k z e (unlived z none);
      frees = unpassed is_free v.trail _ refl;
      backs = unpassed is_won_cut v.trail _ refl;
      locks = unpassed is_won_lock v.trail _ refl;
    }
  where
    noted_none : (dead : ℕ) → dead ≡ 0 → ◌≡◌ {A = Option ℕ} None (death_of dead)
    noted_none dead e = sym (ap death_of e)

    stands_there : (k : ℕ) (z : Slot) → slot_at v.ring k ≡ z → is_held z ≡ false → slot_at (commit_named c v inside tag word h).ring k ≡ z
    stands_there k z e unheld =
        let t : ℕ = clock_time_of word + 1 in
        slot_mapped (committed_slot t) refl v.ring k ∙ ap (committed_slot t) e ∙ stays t z unheld

-- what is in a slot, and is there still, but that SUPER may have been stored below it
abbrev IsLinked : Slot → Slot → Type 0
IsLinked a b = (b ≡ a) ⊎ ((x : Version) × (note : CommitNote) × (a ≡ Live x (Committed note)) × (b ≡ Live x (Committed (record note { linked = true }))))

-- and after SUPER was stored below some of the committed versions
module _ (v w u : Knowledge) (f : Note → Note) (e : HasEnded v w f) (number : u.number ≡ w.number) (next : u.ring.next ≡ w.ring.next)
    (wide : length u.ring.slots ≡ length w.ring.slots) (more : (k : ℕ) → IsLinked (slot_at w.ring k) (slot_at u.ring k))
    (frees : count_by is_free u.trail ≡ count_by is_free w.trail) (backs : count_by is_won_cut u.trail ≡ count_by is_won_cut w.trail)
    (locks : count_by is_won_lock u.trail ≡ count_by is_won_lock w.trail) where
  -- a test that doesn't read it passes as many
  linked_count : (p : Slot → Bool)
      → ((x : Version) (note : CommitNote) → p (Live x (Committed (record note { linked = true }))) ≡ p (Live x (Committed note)))
      → count_by p u.ring.slots ≡ count_by p w.ring.slots
  linked_count p same =
      count_alike p u.ring.slots w.ring.slots wide
      (λ k. ⊎_elim (λ kept. ap p kept) (λ m. ap p m.3 ∙ same m.0 m.1 ∙ sym (ap p m.2)) (more k))

  -- a version is there still, and nothing else is said of it
  live_still : (k : ℕ) (x : Version) (st : WriteSetStatus) → slot_at w.ring k ≡ Live x st
      → (su : WriteSetStatus) × (slot_at u.ring k ≡ Live x su) × ((n : Note) → IsAsNoted false n st → IsAsNoted false n su)
  live_still k x st e =
      ⊎_elim
      (λ same. (st, same ∙ e, λ n a. a))
      (λ m.
      let one = live_once (slot_at w.ring k) m.0 x (Committed m.1) st m.2 e in (
        Committed (record m.1 { linked = true }),
        m.3 ∙ ap (λ y. Live y (Committed (record m.1 { linked = true }))) one.0,
        λ n a. let noted : IsAsNoted false n (Committed m.1) = subst (IsAsNoted false n) (sym one.1) a in noted,
      ))
      (more k)

  pub ends_linked : HasEnded v u f
  ends_linked = record {
    number = number ∙ e.number;
    next = next ∙ e.next;
    wide = wide ∙ e.wide;
    none_held = linked_count is_held (λ x note. refl) ∙ e.none_held;
    spare = linked_count is_spare (λ x note. refl) ∙ e.spare;
    cuts = linked_count is_cut (λ x note. refl) ∙ e.cuts;
    ended = λ k x is.
        let r = e.ended k x is in
        let now = live_still k x r.0 r.1 in
        (now.0, now.1, λ n none dead. now.2 (f n) (r.2 n none dead));
    kept = λ k x st is unheld.
        let r = e.kept k x st is unheld in
        let now = live_still k x r.0 r.1 in
        (now.0, now.1, λ n a. now.2 n (r.2 n a));
    others = λ k z is none.
        let r = e.others k z is none in
        ⊎_elim (λ same. same ∙ r) (λ m. absurd (none m.0 (Committed m.1) (sym r ∙ m.2))) (more k);
    frees = frees ∙ e.frees;
    backs = backs ∙ e.backs;
    locks = locks ∙ e.locks;
  }

-- the log stands after a commit of all that was held
pub stands_committed : (c : Config) (v w : Knowledge) (l : Noted) (time : ℕ) → Stands c v l → HasEnded v w (λ n. record n { time = time }) → 0 < l.held
    → l.built ≡ None → (commit : Commit) → w.past.mine ≡ v.past.mine ++ commit ∷ [] → length commit.writes ≡ l.held → w.past.rests ≡ v.past.rests
    → KeepsLocks v.trail w.trail → Stands c w (committed_noted l time)
stands_committed c v w l time k e some unbuilt commit mine writes rests keeps =
    let split : writes_in (v.past.mine ++ commit ∷ []) ≡ writes_in v.past.mine + writes_in (commit ∷ []) =
    sum_by-append (λ (c : Commit). length c.writes) v.past.mine (commit ∷ []) in
    let one : writes_in (commit ∷ []) ≡ length commit.writes + 0 = sum_by-cons (λ (c : Commit). length c.writes) commit [] in
    let total : writes_in w.past.mine ≡ writes_in v.past.mine + l.held = ap writes_in mine ∙ omega arith in
    let longer = length-append v.past.mine (commit ∷ []) in
    let count = ap length mine in
    let commits = k.commits in
    let used = k.used in
    stands_ended c v w l (committed_noted l time) (λ n. record n { time = time }) (λ n. refl) k e (committed_is_log l time some unbuilt k.log)
    refl refl refl refl refl unbuilt refl (omega arith) (k.rests ∙ sym rests) (omega arith) (λ none. k.all_used none ∙ sym total)
    (k.aborts ∙ sym keeps.aborts) (keeps.settled k.settled)
