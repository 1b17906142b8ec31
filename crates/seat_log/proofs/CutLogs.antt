-- The log stands for the pass after a write-back: its exchange was tried, where it was won the clock was loaded for the time of death, and the
-- section was left.
use Rattle.std.proofs.Common.{◌≡◌, ℕ, suc, ◌+◌, ◌-◌, ◌<◌, ◌≤◌, Bool, true, false, count_by, List, [], ◌∷◌, length}
use Rattle.std.proofs.Common.{map, refl, sym, ap, ◌∙◌, arith, Some, None, slice_index_or}
use Rattle.std.specs.Prelude.{slice_set}
use Rattle.std.proofs.lemmas.List.{length-set, map-set}
use Rattle.std.proofs.lemmas.List.Sums.{sum_by-cons}
use Rattle.mv_history.specs.declared.Entry.{Entry}
use Rattle.mv_layout.specs.declared.Config.{Config}
use Rattle.mv_layout.specs.Words.{clock_time_of}
use Rattle.reader_marks.specs.mv_core.declared.ring.Ring.{Ring}
use Rattle.reader_marks.specs.mv_core.declared.ring.Slot.{Slot}
use Rattle.reader_marks.specs.mv_core.declared.ring.Slot.TheVariants.{Free, Built, Live, Freeing}
use Rattle.reader_marks.specs.mv_core.declared.ring.Version.{Version}
use Rattle.reader_marks.specs.mv_core.declared.ring.WriteSetStatus.TheVariants.{Held, Aborted, Committed}
use Rattle.reader_marks.specs.mv_core.declared.ring.CommitNote.{CommitNote}
use Rattle.reader_marks.specs.mv_core.declared.view.Knowledge.{Knowledge}
use Rattle.reader_marks.specs.mv_core.Rings.{slot_at, index_of, put_slot, is_spare, spare_count}
use Rattle.reader_marks.specs.mv_core.EnterSteps.{mark_cleared}
use Rattle.reader_marks.specs.mv_core.LockSteps.{dead_if, timed, MayLoadDeath, death_loaded}
use Rattle.reader_marks.specs.mv_core.ReclaimSteps.{head_cut, cut_lost}
use Rattle.reader_marks.proofs.mv_core_lemmas.logs.Slots.{slot_here, live_within}
use Rattle.reader_marks.proofs.mv_core_lemmas.logs.Counts.{one_if, count_same, count_more}
use Rattle.seat_log.specs.declared.version.Note.{Note}
use Rattle.seat_log.specs.Notes.{Noted, next_of, IsNoteAt, retired, back_noted}
use Rattle.seat_log.specs.Stands.{version_of, is_cut, cut_count, is_free, is_won_cut, Stands}
use Rattle.seat_log.proofs.Places.{length-at_place}
use Rattle.seat_log.proofs.BuildsOn.{unpassed}
use Rattle.seat_log.proofs.Stays.{stands_same}
use Rattle.seat_log.proofs.FreedSlots.{passed}
use Rattle.seat_log.proofs.StepCounts.{keeps_one, keeps_then}
use Rattle.seat_log.proofs.Aborts.{unwaiting}
use Rattle.seat_log.proofs.PlainSteps.{stands_unmarked}
use Rattle.seat_log.proofs.Retired.{as_committed, committed_at, no_death, death_is, stands_renoted}

-- no slot is both cut and spare
one_at_most : (z : Slot) → one_if (is_cut z) + one_if (is_spare z) ≤ 1
one_at_most Free = omega arith
one_at_most (Built b) = omega arith
one_at_most (Freeing p f) = omega arith
one_at_most (Live x Held) = omega arith
one_at_most (Live x (Aborted d)) = omega arith
one_at_most (Live x (Committed note)) = go note.cut
  where
    go : (b : Bool) → one_if b + 0 ≤ 1
    go true = omega arith
    go false = omega arith

-- so the cut and the spare ones are no more than all
cut_or_spare : (zs : List Slot) → count_by is_cut zs + count_by is_spare zs ≤ length zs
cut_or_spare [] = omega arith
cut_or_spare (z ∷ zs) =
    let cuts = sum_by-cons (λ y. one_if (is_cut y)) z zs in
    let spares = sum_by-cons (λ y. one_if (is_spare y)) z zs in
    let first = one_at_most z in
    let rest = cut_or_spare zs in
    omega arith

-- and fewer where one is neither
less_cut : (r : Ring) (k : ℕ) → k < length r.slots → is_cut (slot_at r k) ≡ false → is_spare (slot_at r k) ≡ false
    → cut_count r + spare_count r < length r.slots
less_cut r k within uncut used =
    let cuts : cut_count (put_slot r k Free) ≡ cut_count r = count_same r k Free within is_cut (sym uncut) in
    let spares : spare_count (put_slot r k Free) ≡ spare_count r + 1 = count_more r k Free within is_spare used refl in
    let all : cut_count (put_slot r k Free) + spare_count (put_slot r k Free) ≤ length (put_slot r k Free).slots = cut_or_spare (put_slot r k Free).slots in
    let long : length (put_slot r k Free).slots ≡ length r.slots = length-set r.slots k Free in
    omega arith

-- where a live version wasn't cut, fewer chains were cut than versions were ever in one
pub cuts_room : (c : Config) (v : Knowledge) (l : Noted) (k : ℕ) (x : Version) (note : CommitNote) → Stands c v l
    → slot_at v.ring k ≡ Live x (Committed note) → note.cut ≡ false → l.back < next_of l
cuts_room c v l k x note s here uncut =
    let less = less_cut v.ring k (live_within v.ring k x (Committed note) here) (ap is_cut here ∙ uncut) (ap is_spare here) in
    let wide = s.wide in
    let spare = s.spare in
    let cuts = s.cuts in
    omega arith

-- so one more may be counted after a committed version with no death was noted as dead
pub note_cut_room : (c : Config) (v : Knowledge) (l : Noted) (i : ℕ) (n : Note) (dead : ℕ) → Stands c v l → IsNoteAt l i n → 0 < n.time → n.dead ≡ 0
    → (retired l n.position dead).back < next_of (retired l n.position dead)
note_cut_room c v l i n dead k is_note time alive =
    let a = committed_at c v l i n k is_note time in
    let room = cuts_room c v l (index_of c n.position) (version_of n) a.0 k a.1 (a.4 alive) in
    let long = length-at_place (λ (x : Note). record x { dead = dead }) (n.position - l.freed) l.live in
    omega arith

-- a map that keeps each slot keeps them all
map_kept : (f : Slot → Slot) (zs : List Slot) → ((k : ℕ) → f (slice_index_or zs k Free) ≡ slice_index_or zs k Free) → map f zs ≡ zs
map_kept f [] kept = refl
map_kept f (z ∷ zs) kept = λ i. kept 0 i ∷ map_kept f zs (λ k. kept (suc k)) i

module _ (c : Config) (v : Knowledge) (l : Noted) (i : ℕ) (n : Note) (note : CommitNote) (k : Stands c v l) (is_note : IsNoteAt l i n)
    (here : slot_at v.ring (index_of c n.position) ≡ Live (version_of n) (Committed note)) (alive : n.dead ≡ 0) where
  within : index_of c n.position < length v.ring.slots
  within = live_within v.ring (index_of c n.position) (version_of n) (Committed note) here

  -- once its chain was cut the version waits for its time of death
  pub waits_for_death : MayLoadDeath (head_cut c v n.object n.position (version_of n) note)
  waits_for_death = (
    index_of c n.position,
    version_of n,
    Committed (record note { cut = true }),
    slot_here v.ring (index_of c n.position) (Live (version_of n) (Committed (record note { cut = true }))) within,
    (refl, (no_death c v l i n k is_note note here alive).0),
  )

  module _ (word : ℕ) (h : List Entry) where
    -- the load of the clock times this version alone
    ring_after : (death_loaded c (head_cut c v n.object n.position (version_of n) note) word h).ring
        ≡ put_slot v.ring (index_of c n.position) (Live (version_of n) (Committed (record note { dead = Some (clock_time_of word + 1); cut = true })))
    ring_after =
        let d : ℕ = clock_time_of word + 1 in
        let s : ℕ = index_of c n.position in
        let cut : CommitNote = record note { cut = true } in
        let none : note.dead ≡ None = (no_death c v l i n k is_note note here alive).0 in
        let death : dead_if note.dead d ≡ Some d = ap (λ o. dead_if o d) none in
        let old : map (timed d) v.ring.slots ≡ v.ring.slots = map_kept (timed d) v.ring.slots (λ j. unwaiting c v l d k j (slot_at v.ring j) refl) in
        let slots : map (timed d) (slice_set v.ring.slots s (Live (version_of n) (Committed cut)))
        ≡ slice_set (map (timed d) v.ring.slots) s (timed d (Live (version_of n) (Committed cut))) =
        map-set (timed d) v.ring.slots s (Live (version_of n) (Committed cut)) in
        (λ q. record v.ring { slots = slots q })
        ∙ (λ q. record v.ring { slots = slice_set (old q) s (Live (version_of n) (Committed (record note { dead = death q; cut = true }))) })

    -- the log stands for the pass after the version was written back, with its time of death and one write-back more
    pub stands_cut : Stands c (mark_cleared c (death_loaded c (head_cut c v n.object n.position (version_of n) note) word h))
        (back_noted (retired l n.position (clock_time_of word + 1)))
    stands_cut =
        let s : ℕ = index_of c n.position in
        let d : ℕ = clock_time_of word + 1 in
        let new : CommitNote = record note { dead = Some d; cut = true } in
        let w1 : Knowledge = head_cut c v n.object n.position (version_of n) note in
        let w2 : Knowledge = death_loaded c w1 word h in
        let a = as_committed c v l i n k is_note note here in
        let uncut = (no_death c v l i n k is_note note here alive).1 in
        let one_more : cut_count (put_slot v.ring s (Live (version_of n) (Committed new))) ≡ cut_count v.ring + 1 =
        count_more v.ring s (Live (version_of n) (Committed new)) within is_cut (ap is_cut here ∙ uncut) refl in
        let room = cuts_room c v l s (version_of n) note k here uncut in
        let old = k.cuts in
        let backs = k.backs in
        let won : count_by is_won_cut w1.trail ≡ count_by is_won_cut v.trail + 1 = passed is_won_cut v.trail _ refl in
        stands_renoted c v (mark_cleared c w2) l i n note new d (l.back + 1) k is_note here (record {
          number = refl;
          ring = ring_after;
          mine = refl;
          rests = refl;
          frees = unpassed is_free w2.trail _ refl ∙ unpassed is_free w1.trail _ refl ∙ unpassed is_free v.trail _ refl;
          backs = ap (λ q. q + 1) k.backs ∙ sym won ∙ sym (unpassed is_won_cut w1.trail _ refl) ∙ sym (unpassed is_won_cut w2.trail _ refl);
          keeps = keeps_then v.trail w1.trail _ (keeps_one v.trail _ refl refl)
              (keeps_then w1.trail w2.trail _ (keeps_one w1.trail _ refl refl) (keeps_one w2.trail _ refl refl));
          cuts = omega arith;
          few = omega arith;
          time = a.2;
          death = sym (death_is d (omega arith));
          uncut = λ none. absurd (omega arith);
        })

-- the log stands as it is after the exchange of a write-back was lost
pub stands_cut_lost : (c : Config) (v : Knowledge) (l : Noted) (object position found : ℕ) → Stands c v l → Stands c (cut_lost c v object position found) l
stands_cut_lost c v l object position found k =
    stands_same c v (cut_lost c v object position found) l refl refl refl refl (unpassed is_free v.trail _ refl) (unpassed is_won_cut v.trail _ refl)
    (keeps_one v.trail _ refl refl) k

-- and the section was left
pub stands_uncut : (c : Config) (v : Knowledge) (l : Noted) (object position found : ℕ) → Stands c v l
    → Stands c (mark_cleared c (cut_lost c v object position found)) l
stands_uncut c v l object position found k = stands_unmarked c (cut_lost c v object position found) l (stands_cut_lost c v l object position found k)
