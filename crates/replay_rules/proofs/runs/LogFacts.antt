-- What the notes of a seat say of its view's log.
use Rattle.std.proofs.Common.{◌≡◌, ◌≢◌, ℕ, ◌+◌, ◌-◌, ◌<◌, ◌≤◌, List, length, drop, Some, sym, ap, ◌∙◌, arith, length-drop}
use Rattle.std.specs.Prelude.{slice_get}
use Rattle.mv_core.proofs.Terms.{Config, Checked}
use Rattle.mv_core.specs.declared.ring.Version as core
use Rattle.mv_core.specs.declared.ring.WriteSetStatus.TheVariants.{Held}
use Rattle.mv_core.specs.declared.ring.Slot.TheVariants.{Live}
use Rattle.mv_core.specs.declared.view.Knowledge.{Knowledge}
use Rattle.mv_core.specs.Rings.{slot_at, set_first, held_count}
use Rattle.seat_log.specs.declared.version.Note.{Note}
use Rattle.seat_log.specs.Notes.{Noted, IsNoteAt, held_from, IsNextOf}
use Rattle.seat_log.specs.Stands.{Stands, HasBuilt}
use Rattle.seat_log.proofs.NotedSlots.{noted_in, held_last}
use Rattle.seat_log.proofs.Standing.{built_is_log}
use Rattle.replay_rules.specs.declared.seats.NotedVersion.{NotedVersion}
use Rattle.replay_rules.specs.SeatNotes.{version_at, no_version}
use Rattle.replay_rules.proofs.runs.Notes.{note_of, notes_long, note_at, drop_at}
use Rattle.replay_rules.proofs.runs.Sections.{IsNoted, Logs}

-- as many versions are noted as weren't freed
pub noted_long : (c : Config) (l : Noted) (log : List NotedVersion) (freed from : ℕ) → IsNoted c l log freed from → length l.live + freed ≡ length log
noted_long c l log freed from is =
    let long : length l.live ≡ length (drop freed log) = ap length is.live ∙ notes_long freed (drop freed log) in
    let dropped = length-drop freed log in
    let within = is.within in
    omega (arith, long, dropped, within)

-- and the first one that is held is at this place among them
pub noted_from : (c : Config) (l : Noted) (log : List NotedVersion) (freed from : ℕ) → IsNoted c l log freed from → l.held ≤ length l.live
    → held_from l + freed ≡ from
noted_from c l log freed from is few =
    let long = noted_long c l log freed from is in let held = is.held in omega (arith, long, held, few)

-- the note at a place is of the version there
pub noted_at : (c : Config) (l : Noted) (log : List NotedVersion) (freed from i : ℕ) → IsNoted c l log freed from → freed ≤ i → i < length log
    → IsNoteAt l (i - freed) (note_of i (version_at log i))
noted_at c l log freed from i is low lt =
    let dropped = length-drop freed log in
    let place : freed + (i - freed) ≡ i = omega (arith, low) in
    ap (λ ns. slice_get ns (i - freed)) is.live ∙ note_at freed (i - freed) (drop freed log) no_version (omega (arith, dropped, low, lt))
    ∙ (λ j. Some (note_of (place j) (drop_at freed (i - freed) log no_version j)))
    ∙ ap (λ p. Some (note_of i (version_at log p))) place

module _ (c : Config) (k : Checked c) (v : Knowledge) (log : List NotedVersion) (freed from : ℕ) (logs : Logs c v log freed from) where
  pub next_long : v.ring.next ≡ length log
  next_long =
      let long = noted_long c logs.noted log freed from logs.is in
      let next = logs.stands.next in
      let gone = logs.is.gone in
      omega (arith, long, next, gone)

  pub held_are : held_count v.ring + from ≡ length log
  held_are = let held = logs.stands.held in let is = logs.is.held in omega (arith, held, is)

  pub from_there : held_from logs.noted + freed ≡ from
  from_there = noted_from c logs.noted log freed from logs.is logs.stands.log.held

  pub first_held : set_first v.ring ≡ from
  first_held = let next = next_long in let held = held_are in omega (arith, next, held)

  pub log_short : length log ≤ freed + c.slots
  log_short =
      let long = noted_long c logs.noted log freed from logs.is in
      let room = logs.stands.log.room in
      let slots = logs.stands.slots in
      omega (arith, long, room, slots)

  -- what is held in the view's log is of an object that the notes say is held
  pub held_in_log : (o : ℕ) → ((i : ℕ) → from ≤ i → i < length log → (version_at log i).object ≢ o)
      → (j : ℕ) (x : core.Version) → slot_at v.ring j ≡ Live x Held → x.object ≢ o
  held_in_log o none j x e same =
      let l = logs.noted in
      let r = noted_in c v l logs.stands j x Held e in
      let late = held_last c v l logs.stands j x r in
      let starts = from_there in
      let long = noted_long c l log freed from logs.is in
      let within = r.within in
      let i = r.index + freed in
      let lt : i < length log = omega (arith, within, long) in
      let place : i - freed ≡ r.index = omega arith in
      let both : Some r.note ≡ Some (note_of i (version_at log i)) =
      sym r.at ∙ ap (λ p. slice_get l.live p) (sym place) ∙ noted_at c l log freed from i logs.is (omega arith) lt in
      let one : r.note ≡ note_of i (version_at log i) = cc in
      none i (omega (arith, late, starts)) lt
      (ap (λ (m : Note). m.object) (sym one) ∙ ap (λ (y : core.Version). y.object) (sym r.version_is) ∙ same)

-- a version that is whole in its slot is noted as built
pub stands_whole : (c : Config) (v : Knowledge) (l : Noted) (n : Note) → Stands c v l → HasBuilt c v.ring (Some n) → IsNextOf l n
    → length l.live < l.slots → Stands c v (record l { built = Some n })
stands_whole c v l n k has next room = record {
  seat = k.seat;
  slots = k.slots;
  wide = k.wide;
  log = built_is_log l (Some n) (omega (arith, room)) next k.log;
  next = k.next;
  held = k.held;
  live = k.live;
  all = k.all;
  none_freeing = k.none_freeing;
  builds = k.builds;
  built = has;
  spare = k.spare;
  commits = k.commits;
  rests = k.rests;
  frees = k.frees;
  backs = k.backs;
  locks = k.locks;
  aborts = k.aborts;
  settled = k.settled;
  cuts = k.cuts;
  used = k.used;
  all_used = k.all_used;
}
