-- The version that a section holds of an object, by the notes of its seat.
use Rattle.std.proofs.Common.{◌≡◌, ℕ, ◌+◌, ◌-◌, ◌<◌, ◌≤◌, List, length, Option, Some, refl, sym, ap, ◌∙◌, arith, eqb-true}
use Rattle.std.specs.Prelude.{slice_get}
use Rattle.mv_core.proofs.Terms.{Config, Checked}
use Rattle.mv_core.specs.declared.view.Knowledge.{Knowledge}
use Rattle.seat_log.specs.declared.version.Note.{Note}
use Rattle.seat_log.specs.Notes.{Noted, IsNoteAt}
use Rattle.seat_log.proofs.Places.{get_within}
use Rattle.object_lock.specs.Locks.{HoldsObject}
use Rattle.object_lock.specs.Writes.{IsHeldAt}
use Rattle.replay_rules.specs.declared.seats.NotedVersion.{NotedVersion}
use Rattle.replay_rules.specs.declared.seats.Test.TheVariants.{IsOf}
use Rattle.replay_rules.specs.SeatNotes.{first_from, version_at}
use Rattle.replay_rules.proofs.runs.Notes.{note_of}
use Rattle.replay_rules.proofs.runs.Sections.{InSection}
use Rattle.replay_rules.proofs.runs.Known.{eqb_ne}
use Rattle.replay_rules.proofs.runs.LogFacts.{noted_long, noted_at, held_are, from_there}
use Rattle.replay_rules.proofs.runs.Searches.{first_after, first_before, first_there, none_of}

module _ (c : Config) (k : Checked c) (v : Knowledge) (log : List NotedVersion) (freed from : ℕ) (time : Option ℕ) (inside : InSection c v log freed from time)
    (o : ℕ) where
  abbrev l : Noted
  l = inside.logs.noted

  abbrev at : ℕ
  at = first_from log from (IsOf o)

  pub from_low : from ≤ length log
  from_low = let held = held_are c k v log freed from inside.logs in omega (arith, held)

  -- a note is of the version at its position
  object_at : (i : ℕ) (m : Note) → IsNoteAt inside.logs.noted i m → i + freed < length log → (version_at log (i + freed)).object ≡ m.object
  object_at i m e lt =
      let place : i + freed - freed ≡ i = omega arith in
      let one = noted_at c inside.logs.noted log freed from (i + freed) inside.logs.is (omega arith) lt in
      let both : Some (note_of (i + freed) (version_at log (i + freed))) ≡ Some m =
      sym one ∙ ap (slice_get inside.logs.noted.live) place ∙ e in
      let same : note_of (i + freed) (version_at log (i + freed)) ≡ m = cc in
      ap (λ (x : Note). x.object) same

  -- the first one of the object from those on that are held is the held one
  pub held_there : first_from log from (IsOf o) < length log → IsHeldAt inside.logs.noted o (first_from log from (IsOf o))
  held_there there =
      let starts = from_there c k v log freed from inside.logs in
      let low = first_after log from (IsOf o) from_low in record {
        place = at - freed;
        note = note_of at (version_at log at);
        there = noted_at c l log freed from at inside.logs.is (omega (arith, starts, low)) there;
        held = omega (arith, starts, low);
        object_is = eqb-true (version_at log at).object o (first_there log from (IsOf o) from_low there);
        position_is = refl;
        first_one = λ i m e late before.
            let here : i + freed < at = omega (arith, before) in
            let lt : i + freed < length log = omega (arith, here, there) in
            λ same. eqb_ne (version_at log (i + freed)).object o (first_before log from (IsOf o) (i + freed) (omega (arith, late, starts)) here lt)
            (object_at i m e lt ∙ same);
      }

  -- and where there is none the object isn't held
  pub none_held : length log ≤ first_from log from (IsOf o) → ¬ (HoldsObject inside.logs.noted o)
  none_held none h =
      let starts = from_there c k v log freed from inside.logs in
      let long = noted_long c inside.logs.noted log freed from inside.logs.is in
      let within = get_within inside.logs.noted.live h.0 h.1 h.2 in
      let late = h.3 in
      let lt : h.0 + freed < length log = omega (arith, within, long) in
      none_of log from o none (h.0 + freed) (omega (arith, late, starts)) lt (object_at h.0 h.1 h.2 lt ∙ h.4)
