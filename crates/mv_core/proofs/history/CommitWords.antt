-- The clock word of a live commit: it was in the clock, and while the clock has that time it is there.
use Rattle.std.proofs.Common.{◌≡◌, ℕ, suc, ◌+◌, ◌*◌, ◌-◌, ◌/◌, ◌%◌, ◌<◌, ◌≤◌, List, [], ◌∷◌, ◌++◌, length, sym, refl, ap, ◌∙◌, subst, arith, Some, slice_get}
use Rattle.std.proofs.Math.Nat.{div-add-mod}
use native.Mathlib.Nat.{div-div-eq-div-mul}
use Rattle.mv_core.proofs.Terms.{Entry, Change, State, Writes, Config, Clock, Memory, clock_of, clock_time_of, clock_seat_of, clock_slot_of, Version}
use Rattle.mv_core.proofs.Terms.{Committed, CommitNote, index_of, Lives, ViewParts}
use Rattle.mv_layout.proofs.Unpacking.{time_back, seat_back, slot_back}
use Rattle.mv_core.proofs.FactTerms.{CommitOf, WasClock, NamedBy, Facts}
use Rattle.mv_core.proofs.frames.ClocksLoaded.{slot_in}
use Rattle.mv_core.proofs.logs.Written.{commit_within}

-- a word is packed of its time, its seat and its slot
repacked : (w : ℕ) → w ≡ clock_of (clock_time_of w) (clock_seat_of w) (clock_slot_of w)
repacked w =
    let low : 8192 * (w / 8192) + w % 8192 ≡ w = div-add-mod w 8192 in
    let mid : 64 * (w / 8192 / 64) + w / 8192 % 64 ≡ w / 8192 = div-add-mod (w / 8192) 64 in
    let high : w / 8192 / 64 ≡ w / 524288 = div-div-eq-div-mul w 8192 64 in
    omega arith

-- the entry at the last index is the last
pub last_is : (h : List Entry) (i : ℕ) (e : Entry) → slice_get h i ≡ Some e → length h ≡ suc i → (before : List Entry) × (h ≡ before ++ e ∷ [])
last_is [] i e at wide = absurd (omega arith)
last_is (a ∷ []) i e at wide =
    let first : i ≡ 0 = omega arith in
    let there : Some a ≡ Some e = subst (λ (j : ℕ). slice_get (a ∷ []) j ≡ Some e) first at in
    let same : a ≡ e = cc in
    ([], ap (λ (x : Entry). x ∷ []) same)
last_is (a ∷ b ∷ h) i e at wide =
    let next : i ≡ suc (length h) = omega arith in
    let there : slice_get (b ∷ h) (length h) ≡ Some e = subst (λ (j : ℕ). slice_get (a ∷ b ∷ h) j ≡ Some e) next at in
    let rest = last_is (b ∷ h) (length h) e there refl in
    (a ∷ rest.0, ap (λ (l : List Entry). a ∷ l) rest.1)

module _ {starts : State → Type 0} {allows : List ℕ → State → Writes → Type 0} {c : Config} {start : State} {m : Memory} {h : List Entry} {f : ViewParts}
    (k : Facts starts allows c start m h f)
    (s j : ℕ) (x : Version) (note : CommitNote) (lives : Lives f.ring s j x (Committed note)) where
  commit : CommitOf c h f.ring s x note
  commit = k.write_sets.commit s j x note lives

  seat_in : s < c.seats
  seat_in = k.positions.within s j x (Committed note) lives

  -- its word unpacks
  pub word_unpacks : let w =
      clock_of note.time s (index_of c x.first) in (clock_time_of w ≡ note.time) × (clock_seat_of w ≡ s) × (clock_slot_of w ≡ index_of c x.first)
  word_unpacks =
      let a : s < 64 = (let w = seat_in in let t = k.checked.seats.1 in omega arith) in
      let b : index_of c x.first ≤ 8191 = (let w = slot_in c k.checked x.first in let t = k.checked.slots.1 in omega arith) in
      (time_back note.time s (index_of c x.first) a b, seat_back note.time s (index_of c x.first) a b, slot_back note.time s (index_of c x.first) a b)

  -- the slot of this commit, where the commit that the clock names is of the same seat and time
  slot_named_is : (y : Version) (other : CommitNote) → Lives f.ring s (clock_slot_of (m Clock)) y (Committed other) → y.position ≡ y.first
      → other.time ≡ clock_time_of (m Clock) → note.time ≡ clock_time_of (m Clock) → clock_slot_of (m Clock) ≡ index_of c x.first
  slot_named_is y other here at other_now now =
      let one : y.first ≡ x.first = k.write_sets.once s (clock_slot_of (m Clock)) j y x other note here lives (other_now ∙ sym now) in
      sym (k.positions.live s (clock_slot_of (m Clock)) y (Committed other) here).0 ∙ ap (index_of c) (at ∙ one)

  -- while the clock has its time it has its word
  pub clock_is : note.time ≡ clock_time_of (m Clock) → m Clock ≡ clock_of note.time s (index_of c x.first)
  clock_is now =
      let long = k.history.long in
      let above = (commit_within c h f.ring k.write_sets s j x note lives).0 in
      let wide : length h ≡ suc (note.time - (c.base + 1)) = omega arith in
      let split = last_is h (note.time - (c.base + 1)) (Change commit.commit) commit.entry.1 wide in
      let named : NamedBy c (m Clock) (Change commit.commit) = k.history.last split.0 (Change commit.commit) split.1 in
      let few = k.checked.slots.1 in
      let slot_low = named.0 in
      let a = k.freed_is_old.named (λ (e : clock_slot_of (m Clock) ≡ 8191). omega arith) in
      let seat_is : clock_seat_of (m Clock) ≡ s = named.1 ∙ commit.seat in
      let slot_is : clock_slot_of (m Clock) ≡ index_of c x.first =
      slot_named_is a.0 a.1 (subst (λ (u : ℕ). Lives f.ring u (clock_slot_of (m Clock)) a.0 (Committed a.1)) seat_is a.2) a.3 a.4 now in
      let time_is = sym now in
      repacked (m Clock) ∙ (λ i. clock_of (time_is i) (seat_is i) (slot_is i))

  -- so its word was in the clock
  pub commit_was : WasClock c (m Clock) (clock_of note.time s (index_of c x.first))
  commit_was =
      let u = word_unpacks in
      let long = k.history.long in
      let le = (commit_within c h f.ring k.write_sets s j x note lives).1 in
      let time_is = u.0 in record {
        past = omega arith;
        same = λ e. sym (clock_is (sym u.0 ∙ e));
        is_word = λ ne. (subst (λ (y : ℕ). y < c.seats) (sym u.1) seat_in, subst (λ (y : ℕ). y < c.slots) (sym u.2) (slot_in c k.checked x.first));
      }
