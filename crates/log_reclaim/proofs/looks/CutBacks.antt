-- A write-back ends: its exchange may be tried, and what is left of the view and of the log where it is won, and where it is lost.
use Rattle.std.proofs.Common.{◌≡◌, ◌≢◌, ℕ, zero, suc, ◌+◌, ◌<◌, true, false, List, map, refl, sym, ap, ◌∙◌, subst, ⊎_elim, arith, Some, None}
use Rattle.mv_history.specs.declared.Entry.{Entry}
use Rattle.mv_layout.specs.declared.Config.{Config}
use Rattle.mv_layout.specs.Words.{clock_time_of, link_of, link_seat_of}
use Rattle.seat_log.specs.mv_core.declared.ring.Ring.{Ring}
use Rattle.seat_log.specs.mv_core.declared.ring.Slot.TheVariants.{Live}
use Rattle.seat_log.specs.mv_core.declared.ring.Version.{Version}
use Rattle.seat_log.specs.mv_core.declared.ring.WriteSetStatus.TheVariants.{Committed}
use Rattle.seat_log.specs.mv_core.declared.ring.CommitNote.{CommitNote}
use Rattle.seat_log.specs.mv_core.declared.view.Knowledge.{Knowledge}
use Rattle.seat_log.specs.mv_core.Rings.{slot_at, index_of, put_slot, is_held, HoldsNothing}
use Rattle.seat_log.specs.mv_core.EnterSteps.{IsWhole, mark_cleared}
use Rattle.seat_log.specs.mv_core.Tops.{NamesNewer}
use Rattle.seat_log.specs.mv_core.WalkSteps.{IsLinkOf}
use Rattle.seat_log.specs.mv_core.LockSteps.{timed, MayLoadDeath, death_loaded}
use Rattle.seat_log.specs.mv_core.ReclaimSteps.{MayCutHead, head_cut, cut_lost, IsOfOther}
use Rattle.seat_log.proofs.mv_core_lemmas.logs.Slots.{live_within, slot_here}
use Rattle.seat_log.proofs.mv_core_lemmas.logs.Counts.{held_same, held_mapped}
use Rattle.seat_log.proofs.mv_core_lemmas.kinds.entering.LoadTime.{holds_none}
use Rattle.seat_log.proofs.mv_core_lemmas.kinds.locking.lock_head.LockedLog.{none_held}
use Rattle.seat_log.specs.reader_marks.Sections.{IsOpen}
use Rattle.seat_log.specs.declared.version.Note.{Note}
use Rattle.seat_log.specs.Notes.{Noted, next_of, IsLive, retired, back_noted}
use Rattle.seat_log.specs.Stands.{version_of, death_of, Stands}
use Rattle.seat_log.specs.Builds.{version_in, note_in}
use Rattle.seat_log.proofs.NotedSlots.{NotedSlot, noted_in}
use Rattle.seat_log.proofs.Aborts.{held_timed}
use Rattle.seat_log.proofs.Retired.{noted_live}
use Rattle.seat_log.proofs.CutLogs.{note_cut_room, stands_cut, stands_uncut}
use Rattle.log_reclaim.specs.declared.writing_back.StartedWriteBack.{StartedWriteBack}
use Rattle.log_reclaim.specs.Backs.{IsWriting, HasCut, HasLostTo, HasTimed, IsCut, IsCutAt, IsUncut}
use Rattle.log_reclaim.proofs.looks.Picks.{committed_in}

-- nothing is held after the time of death was put
none_held_timed : (r : Ring) (t : ℕ) → HoldsNothing r → HoldsNothing (record r { slots = map (timed t) r.slots })
none_held_timed r t nothing = none_held (record r { slots = map (timed t) r.slots }) (held_mapped (timed t) (held_timed t) r ∙ holds_none r nothing)

-- nor where a committed version was put over one
none_held_put : (r : Ring) (s : ℕ) (x y : Version) (old note : CommitNote) → slot_at r s ≡ Live y (Committed old) → HoldsNothing r
    → HoldsNothing (put_slot r s (Live x (Committed note)))
none_held_put r s x y old note own nothing =
    none_held (put_slot r s (Live x (Committed note)))
    (held_same r s (Live x (Committed note)) (live_within r s y (Committed old) own) (sym (ap is_held own)) ∙ holds_none r nothing)

-- a noted death of 0 is none
none_dead : (dead : ℕ) → death_of dead ≡ None → dead ≡ 0
none_dead zero e = refl
none_dead (suc dead) e = absurd (cc)

module _ (c : Config) (v : Knowledge) (b : StartedWriteBack) (is : IsWriting c v b) where
  -- what the exchange is given is that version
  pub picked : committed_in c v b.position ≡ (is.version, is.note)
  picked = λ q. (version_in (is.own q), note_in (is.own q))

  -- it may be tried
  pub may_cut : b.stored ≡ 6 → MayCutHead c v b.object b.position (committed_in c v b.position).0 (committed_in c v b.position).1
  may_cut six =
      subst (λ (t : Version × CommitNote). MayCutHead c v b.object b.position t.0 t.1) (sym picked)
      (record {
        back = ⊎_elim (λ a. let none = a.0 in absurd (omega arith))
            (λ a. a.1 ∙ ap (λ (s : ℕ). Some (record { object = b.object; position = b.position; stored = s; tried = false })) six) is.goes;
        own = is.own;
      })

  -- it was won, and the version waits for its time of death in an open section
  pub has_cut : (w : Knowledge) → w ≡ head_cut c v b.object b.position (committed_in c v b.position).0 (committed_in c v b.position).1 → HasCut c v w b
  has_cut w won = record {
    version = is.version;
    note = is.note;
    own = is.own;
    view = won ∙ ap (λ (t : Version × CommitNote). head_cut c v b.object b.position t.0 t.1) picked;
  }

  abbrev cut_now : CommitNote
  cut_now = record is.note { cut = true }

  pub cut_waits : (w : Knowledge) → w ≡ head_cut c v b.object b.position (committed_in c v b.position).0 (committed_in c v b.position).1 → MayLoadDeath w
  cut_waits w won =
      subst MayLoadDeath (sym (won ∙ ap (λ (t : Version × CommitNote). head_cut c v b.object b.position t.0 t.1) picked)) (
        index_of c b.position,
        is.version,
        Committed cut_now,
        slot_here v.ring (index_of c b.position) (Live is.version (Committed cut_now))
            (live_within v.ring (index_of c b.position) is.version (Committed is.note) is.own),
        (refl, is.no_death),
      )

  pub open_cut : (w : Knowledge) → w ≡ head_cut c v b.object b.position (committed_in c v b.position).0 (committed_in c v b.position).1 → IsOpen w
  open_cut w won =
      subst IsOpen (sym (won ∙ ap (λ (t : Version × CommitNote). head_cut c v b.object b.position t.0 t.1) picked))
      (record {
        inside = is.inside;
        phase = is.phase;
        open_is = is.open_is;
        nothing = none_held_put v.ring (index_of c b.position) is.version is.version is.note cut_now is.own is.nothing;
      })

  -- it was lost to a link
  pub has_lost : (w : Knowledge) (link seat : ℕ) → w ≡ cut_lost c v b.object b.position link → seat ≡ link_seat_of link → link ≢ link_of v.number b.position
      → IsLinkOf c link → IsOfOther v link → NamesNewer c v b.object link → HasLostTo c v w b seat
  has_lost w link seat lost seat_is other packed of_other newer = record {
    link = link;
    some = of_other.0;
    other = other;
    seat_is = sym seat_is;
    in_range = subst (λ (s : ℕ). s < c.seats) (sym seat_is) (packed of_other.0).1;
    not_own = λ e. of_other.1 (sym seat_is ∙ e);
    newer = newer;
    view = lost;
  }

  pub open_lost : (w : Knowledge) (link : ℕ) → w ≡ cut_lost c v b.object b.position link → IsOpen w
  open_lost w link lost = subst IsOpen (sym lost) (record { inside = is.inside; phase = is.phase; open_is = is.open_is; nothing = is.nothing })

module _ (c : Config) (v : Knowledge) (l : Noted) (b : StartedWriteBack) (k : Stands c v l) (is : IsWriting c v b) where
  -- the note of the version
  noted : NotedSlot c l (index_of c b.position) is.version (Committed is.note)
  noted = noted_in c v l k (index_of c b.position) is.version (Committed is.note) is.own

  abbrev n : Note
  n = noted.note

  same : version_of n ≡ is.version
  same = sym noted.version_is

  place : n.position ≡ b.position
  place = ap (λ (x : Version). x.position) same ∙ is.position_is

  of_object : n.object ≡ b.object
  of_object = ap (λ (x : Version). x.object) same ∙ is.object_is

  alive : n.dead ≡ 0
  alive = none_dead n.dead (sym noted.as_noted.3 ∙ is.no_death)

  here : slot_at v.ring (index_of c n.position) ≡ Live (version_of n) (Committed is.note)
  here = ap (λ (p : ℕ). slot_at v.ring (index_of c p)) place ∙ is.own ∙ ap (λ (x : Version). Live x (Committed is.note)) (sym same)

  -- the view once it was won
  cut_view : Knowledge
  cut_view = head_cut c v n.object n.position (version_of n) is.note

  module _ (w : Knowledge) (won : w ≡ head_cut c v b.object b.position (committed_in c v b.position).0 (committed_in c v b.position).1) where
    won_is : w ≡ head_cut c v b.object b.position is.version is.note
    won_is = won ∙ ap (λ (t : Version × CommitNote). head_cut c v b.object b.position t.0 t.1) (picked c v b is)

    cut_is : w ≡ cut_view
    unfolding cut_view
    cut_is = won_is ∙ (λ q. head_cut c v (sym of_object q) (sym place q) (sym same q) is.note)

    -- and CLOCK was loaded
    module _ (x : Knowledge) (word : ℕ) (loaded : (h : List Entry) × IsWhole c w word h × (x ≡ death_loaded c w word h)) where
      abbrev after : Knowledge
      after = death_loaded c (head_cut c v b.object b.position is.version is.note) word loaded.0

      after_is : x ≡ after
      after_is = loaded.2 ∙ ap (λ (u : Knowledge). death_loaded c u word loaded.0) won_is

      pub open_then : IsOpen x
      open_then =
          subst IsOpen (sym after_is)
          (record {
            inside = is.inside;
            phase = is.phase;
            open_is = is.open_is;
            nothing = none_held_timed (head_cut c v b.object b.position is.version is.note).ring (clock_time_of word + 1)
                (none_held_put v.ring (index_of c b.position) is.version is.version is.note (record is.note { cut = true }) is.own is.nothing);
          })

      -- the version may be noted as dead, and one write-back more
      pub may_retire : IsLive l b.position
      may_retire = subst (IsLive l) place (noted_live c v l noted.index n k noted.at)

      pub may_note_cut : (dead : ℕ) (m : Noted) → m ≡ retired l b.position dead → m.back < next_of m
      may_note_cut dead m is_retired =
          subst (λ (n : Noted). n.back < next_of n) (sym (is_retired ∙ ap (λ (p : ℕ). retired l p dead) (sym place)))
          (note_cut_room c v l noted.index n dead k noted.at noted.as_noted.1 alive)

      module _ (y : Knowledge) (m : Noted) (left : y ≡ mark_cleared c x) (log : m ≡ back_noted (retired l b.position (clock_time_of word + 1))) where
        left_is : y ≡ mark_cleared c after
        left_is = left ∙ ap (mark_cleared c) after_is

        pub ends_cut : IsCut c v y l m b
        ends_cut = record {
          version = is.version;
          note = is.note;
          own = is.own;
          word = word;
          history = loaded.0;
          whole = subst (λ (u : Knowledge). IsWhole c u word loaded.0) won_is loaded.1;
          view = left_is;
          log = log;
        }

        pub ends_cut_at : (time : ℕ) → time ≡ clock_time_of word → IsCutAt c v y l m b time
        unfolding ends_cut
        ends_cut_at time is_time = (ends_cut, sym is_time)

        pub stands_then : Stands c y m
        unfolding cut_view
        stands_then =
            subst (λ (t : Knowledge × Noted). Stands c t.0 t.1)
            (sym (λ q. (
              (left ∙ ap (mark_cleared c) (loaded.2 ∙ ap (λ (u : Knowledge). death_loaded c u word loaded.0) cut_is)) q,
              (log ∙ ap (λ (p : ℕ). back_noted (retired l p (clock_time_of word + 1))) (sym place)) q,
            )))
            (stands_cut c v l noted.index n is.note k noted.at here alive word loaded.0)

  -- the exchange was lost, and the section was left
  module _ (w : Knowledge) (seat : ℕ) (lost : HasLostTo c v w b seat) (y : Knowledge) (left : y ≡ mark_cleared c w) where
    lost_is : y ≡ mark_cleared c (cut_lost c v b.object b.position lost.link)
    lost_is = left ∙ ap (mark_cleared c) lost.view

    pub ends_uncut : IsUncut c v y l l b seat
    ends_uncut = record {
      link = lost.link;
      some = lost.some;
      other = lost.other;
      seat_is = lost.seat_is;
      in_range = lost.in_range;
      not_own = lost.not_own;
      newer = lost.newer;
      view = lost_is;
      log = refl;
    }

    pub stands_lost : Stands c y l
    stands_lost = subst (λ (u : Knowledge). Stands c u l) (sym lost_is) (stands_uncut c v l b.object b.position lost.link k)

-- the chain was cut and the time found: the section may be left, the version noted as dead, and so the write-back ends
module _ (c : Config) (from v : Knowledge) (l : Noted) (b : StartedWriteBack) (time : ℕ) (k : HasTimed c from v l b time) where
  won : k.cut_view ≡ head_cut c from b.object b.position (committed_in c from b.position).0 (committed_in c from b.position).1
  won = k.cut.view ∙ (λ q. head_cut c from b.object b.position (version_in (sym k.cut.own q)) (note_in (sym k.cut.own q)))

  abbrev loaded : (h : List Entry) × IsWhole c k.cut_view k.death.word h × (v ≡ death_loaded c k.cut_view k.death.word h)
  loaded = (k.death.history, k.death.whole, k.death.view)

  pub open_timed : IsOpen v
  open_timed = open_then c from l b k.stands k.writing k.cut_view won v k.death.word loaded

  pub may_retire_timed : IsLive l b.position
  may_retire_timed = may_retire c from l b k.stands k.writing k.cut_view won v k.death.word loaded

  pub may_note_timed : (m : Noted) → m ≡ retired l b.position (time + 1) → m.back < next_of m
  may_note_timed m is = may_note_cut c from l b k.stands k.writing k.cut_view won v k.death.word loaded (time + 1) m is

  module _ (w : Knowledge) (m : Noted) (left : w ≡ mark_cleared c v) (log : m ≡ back_noted (retired l b.position (time + 1))) where
    log_is : m ≡ back_noted (retired l b.position (clock_time_of k.death.word + 1))
    log_is = log ∙ ap (λ (t : ℕ). back_noted (retired l b.position (t + 1))) k.death.time_is

    pub cut_at_timed : IsCutAt c from w l m b time
    cut_at_timed = ends_cut_at c from l b k.stands k.writing k.cut_view won v k.death.word loaded w m left log_is time k.death.time_is

    pub stands_timed : Stands c w m
    stands_timed = stands_then c from l b k.stands k.writing k.cut_view won v k.death.word loaded w m left log_is
