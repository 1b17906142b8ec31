-- The own log after an abort: each held version was taken out of its chain, and then the clock was loaded for their time of death.
use Rattle.std.proofs.Common.{◌≡◌, ◌⊎◌, ℕ, zero, suc, ◌+◌, ◌==◌, if◌then◌else◌, Bool, true, false, cond, count_by, List}
use Rattle.std.proofs.Common.{length, refl, sym, ap, ◌∙◌, ⊎_elim, arith, Option, Some, None}
use Rattle.std.proofs.lemmas.List.{length-map}
use mathlib.Core.Logic.{dite}
use native.Mathlib.Decide.{ℕ_discrete}
use Rattle.mv_history.specs.declared.Entry.{Entry}
use Rattle.mv_layout.specs.declared.Config.{Config}
use Rattle.mv_layout.specs.Words.{clock_time_of}
use Rattle.reader_marks.specs.mv_core.declared.ring.Slot.{Slot}
use Rattle.reader_marks.specs.mv_core.declared.ring.Slot.TheVariants.{Free, Built, Live, Freeing}
use Rattle.reader_marks.specs.mv_core.declared.ring.Version.{Version}
use Rattle.reader_marks.specs.mv_core.declared.ring.WriteSetStatus.TheVariants.{Held, Aborted, Committed}
use Rattle.reader_marks.specs.mv_core.declared.ring.CommitNote.{CommitNote}
use Rattle.reader_marks.specs.mv_core.declared.view.Knowledge.{Knowledge}
use Rattle.reader_marks.specs.mv_core.Rings.{slot_at, is_held, is_spare, HoldsNothing}
use Rattle.reader_marks.specs.mv_core.LockSteps.{dead_if, timed, death_loaded}
use Rattle.reader_marks.proofs.mv_core_lemmas.logs.Links.{live_once}
use Rattle.reader_marks.proofs.mv_core_lemmas.logs.Slots.{slot_mapped}
use Rattle.reader_marks.proofs.mv_core_lemmas.logs.Counts.{count_mapped}
use Rattle.reader_marks.proofs.mv_core_lemmas.kinds.entering.LoadTime.{holds_none}
use Rattle.reader_marks.proofs.mv_core_lemmas.kinds.building.DeathNotes.{note_cut, note_uncut}
use Rattle.seat_log.specs.declared.version.Note.{Note}
use Rattle.seat_log.specs.Notes.{Noted, next_of, aborted_noted}
use Rattle.seat_log.specs.Stands.{death_of, is_cut, is_free, is_won_cut, is_won_lock, ends_unlocking, aborts_in, writes_in, Stands}
use Rattle.seat_log.proofs.BuildsOn.{unpassed}
use Rattle.seat_log.proofs.SlotCounts.{count_alike, unlived}
use Rattle.seat_log.proofs.NotedSlots.{noted_in}
use Rattle.seat_log.proofs.Noting.{aborted_is_log, abort_counts}
use Rattle.seat_log.proofs.Ended.{HasEnded, stands_ended}

-- Some of the held versions were taken out of their chains, and are aborted with no death yet; nothing else of the own log has changed.
pub record HasUnlocked (v u : Knowledge) : Type 0 where
  pub number : u.number ≡ v.number
  pub next : u.ring.next ≡ v.ring.next
  pub wide : length u.ring.slots ≡ length v.ring.slots
  pub each : (k : ℕ) → (slot_at u.ring k ≡ slot_at v.ring k) ⊎ ((x : Version) × (slot_at v.ring k ≡ Live x Held) × (slot_at u.ring k ≡ Live x (Aborted None)))
  pub frees : count_by is_free u.trail ≡ count_by is_free v.trail
  pub backs : count_by is_won_cut u.trail ≡ count_by is_won_cut v.trail
  pub locks : count_by is_won_lock u.trail ≡ count_by is_won_lock v.trail

-- as many slots pass a test that takes a held version for an aborted one
unlocked_count : (v u : Knowledge) → HasUnlocked v u → (p : Slot → Bool) → ((x : Version) → p (Live x (Aborted None)) ≡ p (Live x Held))
    → count_by p u.ring.slots ≡ count_by p v.ring.slots
unlocked_count v u e p same =
    count_alike p u.ring.slots v.ring.slots e.wide (λ k. ⊎_elim (λ kept. ap p kept) (λ m. ap p m.2 ∙ same m.0 ∙ sym (ap p m.1)) (e.each k))

-- what was not held is there still
unlocked_else : (v u : Knowledge) → HasUnlocked v u → (k : ℕ) (z : Slot) → slot_at v.ring k ≡ z → is_held z ≡ false → slot_at u.ring k ≡ z
unlocked_else v u e k z is unheld =
    ⊎_elim (λ same. same ∙ is) (λ m. let held : true ≡ false = sym (ap is_held m.1) ∙ ap is_held is ∙ unheld in absurd (cc)) (e.each k)

-- the time of death changes nothing of what is held, spare or cut
pub held_timed : (d : ℕ) (z : Slot) → is_held (timed d z) ≡ is_held z
held_timed d Free = refl
held_timed d (Built b) = refl
held_timed d (Freeing p q) = refl
held_timed d (Live x Held) = refl
held_timed d (Live x (Aborted e)) = refl
held_timed d (Live x (Committed note)) = refl

spare_timed : (d : ℕ) (z : Slot) → is_spare (timed d z) ≡ is_spare z
spare_timed d Free = refl
spare_timed d (Built b) = refl
spare_timed d (Freeing p q) = refl
spare_timed d (Live x st) = refl

cut_timed : (d : ℕ) (z : Slot) → is_cut (timed d z) ≡ is_cut z
cut_timed d Free = refl
cut_timed d (Built b) = refl
cut_timed d (Freeing p q) = refl
cut_timed d (Live x Held) = refl
cut_timed d (Live x (Aborted e)) = refl
cut_timed d (Live x (Committed note)) = note_cut d note

-- no slot of a log that stands for the pass waits for its time of death
pub unwaiting : (c : Config) (v : Knowledge) (l : Noted) (d : ℕ) → Stands c v l → (k : ℕ) (z : Slot) → slot_at v.ring k ≡ z → timed d z ≡ z
unwaiting c v l d s k Free e = refl
unwaiting c v l d s k (Built b) e = refl
unwaiting c v l d s k (Freeing p q) e = refl
unwaiting c v l d s k (Live x Held) e = refl
unwaiting c v l d s k (Live x (Aborted dead)) e =
    let r = noted_in c v l s k x (Aborted dead) e in
    let some_death : dead ≡ Some r.note.dead = r.as_noted.3 in
    ap (λ (o : Option ℕ). Live x (Aborted (dead_if o d))) some_death ∙ ap (λ (o : Option ℕ). Live x (Aborted o)) (sym some_death)
unwaiting c v l d s k (Live x (Committed note)) e =
    let r = noted_in c v l s k x (Committed note) e in
    go r.note.dead r.as_noted.3 r.as_noted.4
  where
    dead_stays : (o : Option ℕ) (t : ℕ) → o ≡ Some t → dead_if o d ≡ o
    dead_stays o t is = ap (λ p. dead_if p d) is ∙ sym is

    by_cut : (b : Bool) → note.cut ≡ b → (dead_if note.dead d ≡ note.dead) → timed d (Live x (Committed note)) ≡ Live x (Committed note)
    by_cut b is same = λ i. Live x (Committed (kept b is same i))
      where
        kept : (b : Bool) → note.cut ≡ b → (dead_if note.dead d ≡ note.dead) → cond note.cut (record note { dead = dead_if note.dead d }) note ≡ note
        kept true is same = ap (λ a. cond a (record note { dead = dead_if note.dead d }) note) is ∙ (λ i. record note { dead = same i })
        kept false is same = ap (λ a. cond a (record note { dead = dead_if note.dead d }) note) is

    go : (dead : ℕ) → note.dead ≡ death_of dead → (dead ≡ 0 → note.cut ≡ false) → timed d (Live x (Committed note)) ≡ Live x (Committed note)
    go zero is uncut = ap (λ (n : CommitNote). Live x (Committed n)) (note_uncut d note (uncut refl))
    go (suc t) is uncut = by_cut note.cut refl (dead_stays note.dead (suc t) is)

-- an abort ends what was held, with its time of death
pub abort_ends : (c : Config) (v u : Knowledge) (l : Noted) (word : ℕ) (h : List Entry) → Stands c v l → HasUnlocked v u → HoldsNothing u.ring
    → HasEnded v (death_loaded c u word h) (λ n. record n { dead = clock_time_of word + 1 })
abort_ends c v u l word h s e nothing =
    let d : ℕ = clock_time_of word + 1 in record {
      number = e.number;
      next = e.next;
      wide = length-map u.ring.slots (timed d) ∙ e.wide;
      none_held = count_mapped is_held (timed d) (held_timed d) u.ring.slots ∙ holds_none u.ring nothing;
      spare = count_mapped is_spare (timed d) (spare_timed d) u.ring.slots ∙ unlocked_count v u e is_spare (λ x. refl);
      cuts = count_mapped is_cut (timed d) (cut_timed d) u.ring.slots ∙ unlocked_count v u e is_cut (λ x. refl);
      ended = λ k x is.
          ⊎_elim
          (λ same. absurd (nothing k x (same ∙ is)))
          (λ m.
          let one = live_once (slot_at v.ring k) m.0 x Held Held m.1 is in (
            Aborted (Some d),
            slot_mapped (timed d) refl u.ring k ∙ ap (timed d) m.2 ∙ ap (λ y. Live y (Aborted (Some d))) one.0,
            λ n time dead. (refl, time, (omega arith), refl),
          ))
          (e.each k);
      kept = λ k x st is unheld. (
        st,
        slot_mapped (timed d) refl u.ring k ∙ ap (timed d) (unlocked_else v u e k (Live x st) is unheld) ∙ unwaiting c v l d s k (Live x st) is,
        λ n a. a,
      );
      others = λ k z is none. slot_mapped (timed d) refl u.ring k ∙ ap (timed d) (unlocked_else v u e k z is (unlived z none)) ∙ unwaiting c v l d s k z is;
      frees = unpassed is_free u.trail _ refl ∙ e.frees;
      backs = unpassed is_won_cut u.trail _ refl ∙ e.backs;
      locks = unpassed is_won_lock u.trail _ refl ∙ e.locks;
    }

-- and where nothing was held nothing has to end
pub nothing_ends : (v u : Knowledge) (f : Note → Note) → HasUnlocked v u → HoldsNothing v.ring → HasEnded v u f
nothing_ends v u f e nothing = record {
  number = e.number;
  next = e.next;
  wide = e.wide;
  none_held = holds_none u.ring (λ k x is. ⊎_elim (λ same. nothing k x (sym same ∙ is)) (λ m. nothing k m.0 m.1) (e.each k));
  spare = unlocked_count v u e is_spare (λ x. refl);
  cuts = unlocked_count v u e is_cut (λ x. refl);
  ended = λ k x is. absurd (nothing k x is);
  kept = λ k x st is unheld. (st, unlocked_else v u e k (Live x st) is unheld, λ n a. a);
  others = λ k z is none. unlocked_else v u e k z is (unlived z none);
  frees = e.frees;
  backs = e.backs;
  locks = e.locks;
}

-- the log stands after an abort of all that was held
pub stands_aborted : (c : Config) (v w : Knowledge) (l : Noted) (dead : ℕ) → Stands c v l → HasEnded v w (λ n. record n { dead = dead }) → l.built ≡ None
    → w.past.mine ≡ v.past.mine → w.past.rests ≡ v.past.rests → (aborted_noted l dead).aborts ≡ aborts_in w.trail
    → ends_unlocking false w.trail ≡ false → Stands c w (aborted_noted l dead)
stands_aborted c v w l dead k e unbuilt mine rests aborts settled =
    let total = ap writes_in mine in
    let used = k.used in
    stands_ended c v w l (aborted_noted l dead) (λ n. record n { dead = dead }) (λ n. refl) k e (aborted_is_log l dead unbuilt k.log)
    refl refl refl refl refl unbuilt refl (k.commits ∙ ap length (sym mine)) (k.rests ∙ sym rests) (omega arith) all_used
    aborts settled
  where
    all_used : (aborted_noted l dead).aborts ≡ 0 → next_of l ≡ writes_in w.past.mine
    all_used none =
        let total = ap writes_in mine in
        dite (ℕ_discrete l.held 0)
        (λ z.
        let kept : (aborted_noted l dead).aborts ≡ l.aborts = ap (λ (n : ℕ). if n == 0 then l.aborts else l.aborts + 1) z in
        let old = k.all_used (sym kept ∙ none) in omega arith)
        (λ some. let more = abort_counts l some in absurd (omega arith))
