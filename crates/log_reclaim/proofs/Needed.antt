-- Which watermark a version of the oldest write set needs.
use Rattle.std.proofs.Common.{◌≡◌, ℕ, ◌+◌, ◌<◌, ◌≤◌, nat_le, length, Bool, true, false, List, refl, sym, ap, ◌∙◌, subst, ◌⊎◌, inl, inr, ⊎_elim, arith, Some}
use Rattle.std.proofs.Props.{props}
use Rattle.std.proofs.Math.Logic.{∥∥₁_elim}
use Rattle.std.proofs.Math.Bridge.{le_prop}
use Rattle.std.proofs.lemmas.Bool.{cases_lt}
use Rattle.mv_history.specs.declared.Entry.{Entry}
use Rattle.mv_history.specs.State.{State, Writes}
use Rattle.mv_layout.specs.declared.Config.{Config}
use Rattle.seat_log.specs.mv_core.declared.ring.Slot.TheVariants.{Live}
use Rattle.seat_log.specs.mv_core.declared.ring.WriteSetStatus.{WriteSetStatus}
use Rattle.seat_log.specs.mv_core.declared.ring.WriteSetStatus.TheVariants.{Held, Aborted, Committed}
use Rattle.seat_log.specs.mv_core.declared.ring.CommitNote.{CommitNote}
use Rattle.seat_log.specs.mv_core.declared.view.Knowledge.{Knowledge}
use Rattle.seat_log.specs.mv_core.Known.{Known}
use Rattle.seat_log.specs.mv_core.Rings.{slot_at, index_of}
use Rattle.seat_log.specs.mv_core.Times.{latest, latest_at, IsNextIn}
use Rattle.seat_log.specs.mv_core.ReclaimFacts.{death_in}
use Rattle.seat_log.proofs.mv_core_lemmas.history.Latest.{latest_at-mono, latest_at-own, entry-within, next_write}
use Rattle.seat_log.specs.declared.version.Note.{Note}
use Rattle.seat_log.specs.Notes.{Noted, held_from, IsNoteAt}
use Rattle.seat_log.specs.Stands.{version_of, IsAsNoted, Stands}
use Rattle.seat_log.proofs.Retired.{committed_at, death_is}
use Rattle.log_reclaim.specs.Holders.{Needs, OldestNeeds, OldestNeedsMore}

-- that a time is that of the next write is so in one way
next_once : (base : ℕ) (h : List Entry) (o t next : ℕ) → IsProp (IsNextIn base h o t next)
next_once base h o t next = hlevel props

-- where an object is written after a time, the next such write was seen
pub next_seen : (base : ℕ) (h : List Entry) (o t : ℕ) → base ≤ t → t < latest base h o → (next : ℕ) × IsNextIn base h o t next
next_seen base h o t low late =
    let n = next_write base h o t low late in
    let w = n.1 in (
      n.0,
      record {
        later = w.later;
        within = (entry-within base h o n.0 w.entry w.there).1;
        written = latest_at-own base h o n.0 w.entry w.there w.writes;
        none_between = w.none_between;
      },
    )

-- and it is after a time up to which there is none
pub next_above : (base : ℕ) (h : List Entry) (o t next low : ℕ) → IsNextIn base h o t next → latest_at base h o low ≤ t → low < next
next_above base h o t next low is none =
    ⊎_elim (λ lt. lt)
    (λ le.
    let own = is.written in
    let later = is.later in
    let more = latest_at-mono base h o next low le in
    absurd (omega arith))
    (cases_lt low next)

module _ (c : Config) (w : Knowledge) (l : Noted) (i : ℕ) (n : Note) (k : Stands c w l) (at : IsNoteAt l i n) where
  -- what is in the slot of a noted version
  abbrev there : (st : WriteSetStatus) × (slot_at w.ring (index_of c n.position) ≡ Live (version_of n) st) × IsAsNoted (nat_le (held_from l) i) n st
  there = let h = k.live i n at in (h.status, ap (λ p. slot_at w.ring (index_of c p)) (k.log.notes.position i n at) ∙ h.lives, h.as_noted)

  -- a noted time of death is that of the version
  noted_death : (held : Bool) (st : WriteSetStatus) → 0 < n.dead → IsAsNoted held n st → death_in st ≡ Some n.dead
  noted_death held Held some noted = let none = noted.2 in absurd (omega arith)
  noted_death held (Aborted dead) some noted = noted.3
  noted_death held (Committed note) some noted = noted.3 ∙ death_is n.dead some

  module _ (starts : State → Type 0) (allows : List ℕ → State → Writes → Type 0) (known : ∥ Known starts allows w ∥₁) where
    -- a noted time of death is at most the time after all that was seen
    pub death_known : n.dead ≤ w.base + length w.past.seen + 1
    death_known =
        ⊎_elim
        (λ some.
        let t = there in
        ∥∥₁_elim known le_prop (λ a. a.deaths (index_of c n.position) (version_of n) t.0 n.dead t.1 (noted_death (nat_le (held_from l) i) t.0 some t.2)))
        (λ none. omega arith)
        (cases_lt 0 n.dead)

    -- the time of a commit was seen
    pub time_seen : n.time ≤ w.base + length w.past.seen
    time_seen =
        ⊎_elim
        (λ some.
        let a = committed_at c w l i n k at some in
        let is = a.2 in
        let seen : a.0.time ≤ w.base + length w.past.seen = ∥∥₁_elim known le_prop (λ q. (q.commits (index_of c n.position) (version_of n) a.0 a.1).seen) in
        omega arith)
        (λ none. omega arith)
        (cases_lt 0 n.time)

    next_of_death : (note : CommitNote) → slot_at w.ring (index_of c n.position) ≡ Live (version_of n) (Committed note) → note.cut ≡ false
        → note.dead ≡ Some n.dead → IsNextIn w.base w.past.seen n.object note.time n.dead
    next_of_death note lives uncut dead =
        ∥∥₁_elim known (next_once w.base w.past.seen n.object note.time n.dead)
        (λ a. (a.commits (index_of c n.position) (version_of n) note lives).superseded n.dead uncut dead)

    needed : (held : Bool) (st : WriteSetStatus) → slot_at w.ring (index_of c n.position) ≡ Live (version_of n) st → 0 < n.dead → IsAsNoted held n st
        → Needs w (version_of n) st n.dead
    needed held Held lives some noted = let none = noted.2 in absurd (omega arith)
    needed held (Aborted dead) lives some noted = noted.3
    needed held (Committed note) lives some noted = go note.cut refl
      where
        go : (b : Bool) → note.cut ≡ b → Needs w (version_of n) (Committed note) n.dead
        go true is = inl (is, noted.3 ∙ death_is n.dead some)
        go false is = inr (inl (is, next_of_death note lives is (noted.3 ∙ death_is n.dead some)))

    module _ (oldest : n.first ≡ l.freed) where
      -- a version of the oldest write set with a time of death needs that
      pub needs_of_note : 0 < n.dead → OldestNeeds c w l n.dead
      needs_of_note some =
          let t = there in
          record { index = i; note = n; at = at; oldest = oldest; status = t.0; lives = t.1; needs = needed (nat_le (held_from l) i) t.0 t.1 some t.2 }

      pub needs_more_timed : (low : ℕ) → low < n.dead → OldestNeedsMore c w l low
      needs_more_timed low lt = (n.dead, needs_of_note (omega arith), lt)

      -- one without needs the next write of its object that was seen, or else its own time: more than a low time up to which no
      -- later write was seen, where that is below its own time or a later write was seen
      pub needs_more_untimed : (low : ℕ) → n.dead ≡ 0 → 0 < n.time → latest_at w.base w.past.seen n.object low ≤ n.time
          → (low < n.time) ⊎ (n.time < latest w.base w.past.seen n.object) → OldestNeedsMore c w l low
      needs_more_untimed low alive committed unwritten above =
          let a = committed_at c w l i n k at committed in
          let uncut = a.4 alive in
          let is : a.0.time ≡ n.time = a.2 in
          let after : w.base < a.0.time = ∥∥₁_elim known le_prop (λ q. (q.commits (index_of c n.position) (version_of n) a.0 a.1).after) in
          ⊎_elim
          (λ late.
          let next = next_seen w.base w.past.seen n.object n.time (omega arith) late in
          let up = next_above w.base w.past.seen n.object n.time next.0 low next.1 unwritten in (
            next.0,
            record {
              index = i;
              note = n;
              at = at;
              oldest = oldest;
              status = Committed a.0;
              lives = a.1;
              needs = inr (inl (uncut, subst (λ (t : ℕ). IsNextIn w.base w.past.seen n.object t next.0) (sym is) next.1));
            },
            up,
          ))
          (λ last.
          let lt : low < n.time = ⊎_elim (λ p. p) (λ q. absurd (omega arith)) above in
          let none : latest w.base w.past.seen n.object ≤ a.0.time = omega arith in (
            n.time,
            record { index = i; note = n; at = at; oldest = oldest; status = Committed a.0; lives = a.1; needs = inr (inr (uncut, none, sym is)) },
            lt,
          ))
          (cases_lt n.time (latest w.base w.past.seen n.object))
