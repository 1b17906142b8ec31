-- What a link in HEAD that isn't that of the version which a tidy writes back tells of it.
use Rattle.std.proofs.Common.{◌≡◌, ◌≢◌, ℕ, ◌+◌, ◌<◌, List, [], ◌∷◌, ◌++◌, length, false, Some, None, refl, sym, ap, ◌∙◌, subst, arith, ⊎_elim, append_assoc}
use Rattle.std.proofs.lemmas.List.Elements.{Contains-push}
use mathlib.Core.Logic.{dite}
use native.Mathlib.Decide.{dec_lt}
use Rattle.mv_history.specs.declared.Step.{Step}
use Rattle.mv_layout.specs.Words.{link_of, link_seat_of}
use Rattle.mv_core.proofs.Terms.{Config}
use Rattle.mv_core.specs.declared.ring.CommitNote.{CommitNote}
use Rattle.mv_core.specs.declared.ring.Version as core
use Rattle.mv_core.specs.declared.ring.Slot.TheVariants.{Live}
use Rattle.mv_core.specs.declared.ring.WriteSetStatus.TheVariants.{Committed}
use Rattle.mv_core.specs.declared.view.Knowledge.{Knowledge}
use Rattle.mv_core.specs.Rings.{slot_at, index_of}
use Rattle.mv_core.specs.Times.{latest, latest_at}
use Rattle.mv_core.specs.Chains.{IsLater}
use Rattle.mv_core.specs.Known.{Known}
use Rattle.mv_core.specs.Tops.{NamesNewer}
use Rattle.mv_core.specs.WalkSteps.{slot_named, IsOwnTop, IsOwnLink, IsLastOwn}
use Rattle.mv_core.proofs.history.Latest.{latest_at-latest, latest_at-mono}
use Rattle.seat_log.specs.declared.version.Note.{Note}
use Rattle.seat_log.specs.Stands.{version_of}
use Rattle.seat_log.proofs.NotedSlots.{noted_in}
use Rattle.log_reclaim.specs.Parts.{FindsSeat, super_step}
use Rattle.log_reclaim.specs.Untimed.{TriedSo}
use Rattle.replay_rules.specs.declared.seats.NotedVersion.{NotedVersion}
use Rattle.replay_rules.specs.declared.seats.Scanned.{Scanned}
use Rattle.replay_rules.specs.SeatNotes.{version_at}
use Rattle.replay_rules.specs.States.{any_commit, any_start}
use Rattle.replay_rules.proofs.runs.Sections.{Logs}
use Rattle.replay_rules.proofs.runs.Aborting.{holds_nothing}
use Rattle.replay_rules.proofs.runs.Rounds.{note_is, untimed}
use Rattle.replay_rules.proofs.answers.Tidying.Further.{Further, further_number}
use Rattle.replay_rules.proofs.answers.Tidying.Far.{HasCome, KnowsUntimed, LookedAt, note_in, mark_of}
use Rattle.replay_rules.proofs.answers.Tidying.Supers.{old_time}

module _ (c : Config) (v0 v : Knowledge) (log : List NotedVersion) (freed from began : ℕ) (k : HasCome c v0 v log freed from began)
    (logs : Logs c v log freed from)
    (nothing : from ≡ length log) (first : Scanned) (up : ℕ) (tried : KnowsUntimed c v0 v k.made log freed up first) (at : ℕ)
    (looked : LookedAt c v k.made log freed first at) (alive : (version_at log at).dead ≡ 0) where
  abbrev note_own : (note : CommitNote) × (slot_at v.ring (index_of c at) ≡ Live (version_of (note_in log at)) (Committed note))
      × (note.time ≡ (version_at log at).time) × (note.dead ≡ None) × (note.cut ≡ false)
  note_own = untimed c v log freed from logs nothing at looked.low looked.live alive

  -- it is that of another version of the own log: the object has a later write, above the low time of the first scan
  module _ (known : Known any_start any_commit v) (link : ℕ) (some : link ≢ 0) (mine : link_seat_of link ≡ v.number)
      (other : link ≢ link_of v.number at) (top : IsOwnTop c v (version_at log at).object link) (own_link : IsOwnLink c v link)
      (last : IsLastOwn c v (version_at log at).object link) where
    later_own : (x : core.Version) (made : CommitNote) → slot_at v.ring (slot_named c link) ≡ Live x (Committed made) → x.object ≡ (version_at log at).object
        → (first.low < first.clock) × ((version_at log at).time < latest v.base v.past.seen (version_at log at).object)
    later_own x made here object_is =
        let o = note_own in
        let apart : index_of c at ≢ slot_named c link =
        λ z. other (own_link some mine (version_of (note_in log at)) (Committed o.0) (ap (slot_at v.ring) (sym z) ∙ o.1)) in
        let less = last some mine x made here (index_of c at) (version_of (note_in log at)) o.0 o.1 refl apart in
        let time_is = o.2 in
        let r = noted_in c v logs.noted logs.stands (slot_named c link) x (Committed made) here in
        let is = note_is c logs.noted log freed from r.index r.note logs.is r.at in
        let noted_time = r.as_noted.2 in
        let same = ap (λ (n : Note). n.time) is.1 in
        let early = old_time c v0 v log freed from began k (r.index + freed) (omega arith) is.0 in
        let after = tried.after in
        let kept = (known.commits (slot_named c link) x made here).written in
        let written : latest_at v.base v.past.seen (version_at log at).object made.time ≡ made.time =
        subst (λ (p : ℕ). latest_at v.base v.past.seen p made.time ≡ made.time) object_is kept in
        let most = latest_at-latest v.base v.past.seen (version_at log at).object made.time in
        let unwritten = looked.still.unwritten in (
          dite (dec_lt first.low first.clock) (λ lt. lt)
              (λ ge.
              let up = latest_at-mono v.base v.past.seen (version_at log at).object made.time first.low
              (omega (arith, ge, early, after, noted_time, same)) in
              absurd (omega (arith, up, written, unwritten, less, time_is))),
          omega (arith, most, written, less, time_is),
        )

    pub own_later : (first.low < first.clock) × ((version_at log at).time < latest v.base v.past.seen (version_at log at).object)
    own_later =
        let there = top some mine in
        ⊎_elim
        (λ held. absurd (holds_nothing c v log freed from logs nothing (slot_named c link) there.0 (there.2 ∙ ap (Live there.0) held)))
        (λ made. later_own there.0 made.0 (there.2 ∙ ap (Live there.0) made.1) there.3)
        there.4

  -- it is that of another seat's version, which is newer, and was found by a step of the write-back
  module _ (w : Knowledge) (s : Step) (f : Further v w (s ∷ [])) (seat : ℕ) (finds : FindsSeat c (version_at log at).object seat s)
      (names : NamesNewer c v (version_at log at).object finds.link) (not_own : seat ≢ v.number) (in_range : seat < c.seats) where
    pub others_newer : TriedSo c w (k.made ++ s ∷ []) (mark_of first) first.clock (note_in log at) (Some seat)
    others_newer =
        let number = further_number v w (s ∷ []) f in
        let o = note_own in
        record {
          not_own = λ e. not_own (e ∙ number);
          in_range = in_range;
          before = looked.before;
          after = looked.later ++ s ∷ [];
          made_is = ap (λ l. l ++ s ∷ []) looked.made_is ∙ append_assoc looked.before (super_step c v.number (note_in log at) ∷ looked.later) (s ∷ [])
              ∙ ap (λ own. looked.before ++ super_step c own (note_in log at) ∷ (looked.later ++ s ∷ [])) (sym number);
          step = s;
          later = Contains-push looked.later s;
          finds = record {
            top = record { finds = finds; view = v; number = sym number; after = []; trail = f.trail; names = names };
            newer = subst (λ (x : ℕ). IsLater x names.status) o.2
                (names.newer (index_of c at) (version_of (note_in log at)) o.0 o.1 refl);
          };
        }
