-- SUPER of a version is loaded in a tidy.
use Rattle.std.proofs.Common.{◌≡◌, ◌≢◌, ℕ, ◌+◌, ◌-◌, ◌<◌, ◌≤◌, List, [], ◌∷◌, length, None, refl, sym, ap, ◌∙◌, subst, arith}
use Rattle.mv_history.specs.declared.Step.{Step}
use Rattle.mv_core.proofs.Terms.{Config, Checked, Super}
use Rattle.mv_core.specs.declared.ring.CommitNote.{CommitNote}
use Rattle.mv_core.specs.declared.ring.Version as core
use Rattle.mv_core.specs.declared.ring.WriteSetStatus.TheVariants.{Committed}
use Rattle.mv_core.specs.declared.view.Knowledge.{Knowledge}
use Rattle.mv_core.specs.Rings.{slot_at, index_of}
use Rattle.mv_core.specs.ReclaimSteps.{MayLoadSuper, SeesSuper, FoundEmpty}
use Rattle.mv_core.specs.Times.{latest_at}
use Rattle.mv_core.specs.Moves.{Moment, MoveKind, load_super, seen_to}
use Rattle.mv_core.proofs.kinds.reclaiming.LoadSuper.{super_loads}
use Rattle.mv_core.proofs.moves.LaterHistory.{sees_now, seen_to_is}
use Rattle.mv_core.proofs.logs.Links.{live_once}
use Rattle.seat_log.specs.declared.version.Note.{Note}
use Rattle.seat_log.specs.Notes.{Noted, IsNoteAt}
use Rattle.seat_log.specs.Stands.{version_of}
use Rattle.seat_log.specs.Builds as builds
use Rattle.log_reclaim.specs.Parts.{super_load}
use Rattle.log_reclaim.specs.Tries.{IsUntimed}
use Rattle.log_reclaim.proofs.looks.OneNote.{committed}
use Rattle.log_reclaim.proofs.looks.Supers.{loads_none}
use Rattle.replay_rules.specs.declared.seats.NotedVersion.{NotedVersion}
use Rattle.replay_rules.specs.States.{any_commit, any_start, zeros, Made, state_of, AreMade}
use Rattle.replay_rules.specs.SeatNotes.{version_at}
use Rattle.replay_rules.proofs.runs.Sections.{RestsAt}
use Rattle.replay_rules.proofs.runs.Stepping.{view_by}
use Rattle.replay_rules.proofs.runs.Known.{facts, view_there, seated, starts, knows, word_small}
use Rattle.replay_rules.proofs.runs.LogFacts.{noted_at}
use Rattle.replay_rules.proofs.runs.Rounds.{untimed}
use Rattle.replay_rules.proofs.answers.Tidying.Further.{Further, further_one}
use Rattle.replay_rules.proofs.answers.Tidying.Far.{note_in}
use Rattle.replay_rules.proofs.answers.Tidying.Stepping.{base_is}

module _ (c : Config) (k : Checked c) (n : ℕ) (lt : n < c.seats) (made : List Made) (each : AreMade c made) (log : List NotedVersion) (freed from : ℕ)
    (rests : RestsAt c ((state_of c made).seats n) log freed from None) (no_scan : ((state_of c made).seats n).scan ≡ None) (at : ℕ) (low : freed ≤ at)
    (live : at < length log) (alive : (version_at log at).dead ≡ 0) where
  abbrev s : Moment
  s = state_of c made

  abbrev v : Knowledge
  v = s.seats n

  abbrev m : Note
  m = note_in log at

  abbrev l : Noted
  l = rests.2.noted

  is_note : IsNoteAt rests.2.noted (at - freed) (note_in log at)
  is_note = noted_at c rests.2.noted log freed from at rests.2.is low live

  -- the note of its commit in the log
  abbrev pub own : CommitNote
  own = builds.note_in (slot_at ((state_of c made).seats n).ring (index_of c at))

  pub not_dead : IsUntimed rests.2.noted at (note_in log at)
  not_dead =
      let gone = rests.2.is.gone in
      record {
        from = omega (arith, gone, low);
        at = subst (λ p. IsNoteAt rests.2.noted (at - p) (note_in log at)) (sym gone) is_note;
        committed = committed c v l rests.2.stands (at - freed) m is_note any_start any_commit ∣ knows c k n made each ∣₁ rests.0 alive;
        untimed = alive;
      }

  -- the kind of the step is that of this version
  pub same_kind : (x : core.Version) (note : CommitNote) → MayLoadSuper c v at x note → (x ≡ version_of (note_in log at)) × (note ≡ own)
  same_kind x note may =
      let u = untimed c v log freed from rests.2 rests.1 at low live alive in
      let one = live_once (slot_at v.ring (index_of c at)) x (version_of m) (Committed note) (Committed u.0) may.own u.1 in
      (one.0, ap builds.note_in (sym may.own))

  abbrev pub kind : MoveKind
  kind = load_super at (version_of (note_in log at)) own

  abbrev pub found : ℕ
  found = (state_of c made).memory (Super ((state_of c made).seats n).number (index_of c at))

  abbrev pub w : Knowledge
  w = view_by c (state_of c made) n kind

  abbrev pub step : Step
  step = super_load c ((state_of c made).seats n).number (note_in log at) found

  module _ (may : MayLoadSuper c ((state_of c made).seats n) at (version_of (note_in log at)) own) where
    told : SeesSuper c v (version_of (note_in log at)) own found (seen_to c v found s.history)
        × (FoundEmpty v (note_in log at).object own.time → found ≢ 0)
    told =
        let r = super_loads any_start any_commit c (zeros c) v at (version_of m) own may s.memory s.history s.seats (facts c k n made each)
        (view_there c k n made each) (seated c k n made each lt) (starts c k n made each)
        (word_small c k n made each (Super v.number (index_of c at))) in
        let sees = r.2.0.0.1 in
        let is = seen_to_is c v s.history r.0.past.seen (sees_now s.seats v r.0 r.1) sees.more found sees.least sees.time in
        (subst (SeesSuper c v (version_of m) own found) is sees, r.2.0.0.2)

    pub super_further : Further v w (step ∷ [])
    super_further = further_one v w step told.0.more refl (omega arith) refl tt refl

    -- a time found was seen
    pub found_seen : found ≤ w.base + length w.past.seen
    found_seen = let t = told.0.time in let base = base_is c k n made each in omega (arith, t, base)

    -- where a section found HEAD of its object empty, a time is found
    pub some_found : FoundEmpty v (version_at log at).object (version_at log at).time → found ≢ 0
    some_found e =
        let u = untimed c v log freed from rests.2 rests.1 at low live alive in
        let is : own.time ≡ (version_at log at).time = ap (λ x. (builds.note_in x).time) u.1 ∙ u.2 in
        told.1 (subst (FoundEmpty v (version_at log at).object) (sym is) e)

    -- where none was found, no write of the object up to the watermark was seen
    pub none_written : found ≡ 0 → latest_at w.base w.past.seen (version_at log at).object v.grace ≤ (version_at log at).time
    none_written none =
        let loads = loads_none c v l at m rests.2.stands not_dead w found refl any_start any_commit ∣ knows c k n made each ∣₁
        (record { outside = rests.0; no_scan = no_scan }) (base_is c k n made each) told.0 none in
        (loads.none refl).2
