-- What a commit that was just named needs to be finished, from what held before it.
use Rattle.std.proofs.Common.{◌≡◌, ℕ, ◌+◌, ◌<◌, ◌≤◌, true, false, List, [], ◌∷◌, ◌++◌, length, refl, sym, ap}
use Rattle.std.proofs.Common.{◌∙◌, subst, ⊎_elim, arith, append_assoc, length-append, All, Some, None}
use Rattle.std.proofs.lemmas.List.{length-map}
use Rattle.std.proofs.lemmas.List.Elements.{All-cons, All-push, All-weaker}
use Rattle.mv_history.specs.declared.Step.{Step}
use Rattle.mv_history.specs.declared.StepKind.{StepKind}
use Rattle.mv_history.specs.declared.StepKind.TheVariants.{SwapStamp, StoreSuper, ClearMark}
use Rattle.mv_layout.specs.declared.Config.{Config}
use Rattle.mv_layout.specs.declared.SharedWord.TheVariants.{Mark}
use Rattle.mv_layout.specs.Places.{place_of}
use Rattle.mv_layout.specs.Words.{clock_time_of}
use Rattle.seat_log.specs.mv_core.declared.ring.Slot.{Slot}
use Rattle.seat_log.specs.mv_core.declared.ring.Slot.TheVariants.{Live}
use Rattle.seat_log.specs.mv_core.declared.ring.WriteSetStatus.TheVariants.{Held, Committed}
use Rattle.seat_log.specs.mv_core.declared.ring.CommitNote.{CommitNote}
use Rattle.seat_log.specs.mv_core.declared.view.Knowledge.{Knowledge}
use Rattle.seat_log.specs.mv_core.declared.view.Phase.TheVariants.{Outside, Inside}
use Rattle.seat_log.specs.mv_core.declared.view.OwnSection.{OwnSection}
use Rattle.seat_log.specs.mv_core.declared.view.Mode.TheVariants.{Named}
use Rattle.seat_log.specs.mv_core.declared.view.WalkStage.TheVariants.{Nowhere}
use Rattle.seat_log.specs.mv_core.Views.{no_clocks}
use Rattle.seat_log.specs.mv_core.Rings.{slot_at, index_of, held_count, set_first}
use Rattle.seat_log.specs.mv_core.NameSteps.{commit_of, committed_slot, commit_named}
use Rattle.seat_log.specs.mv_core.EnterSteps.{MayClearMark, mark_cleared}
use Rattle.seat_log.proofs.mv_core_lemmas.logs.Links.{live_once}
use Rattle.seat_log.proofs.mv_core_lemmas.kinds.naming.entry.CommittedLogs.{new_note, committed_was}
use Rattle.seat_log.proofs.mv_core_lemmas.logs.HeldSet.{writes_length}
use Rattle.seat_log.proofs.mv_core_lemmas.logs.Slots.{slot_mapped}
use Rattle.seat_log.specs.reader_marks.Sections.{inside_of, section_in}
use Rattle.seat_log.specs.declared.version.Note.{Note}
use Rattle.seat_log.specs.Notes.{Noted, held_from, IsNoteAt, committed_noted}
use Rattle.seat_log.specs.Stands.{version_of, Stands}
use Rattle.seat_log.proofs.NotedSlots.{noted_in, held_last, held_at}
use Rattle.seat_log.proofs.PlainSteps.{LeavesLog, ArePlain, all_plain, frees_left, cuts_left, locks_left}
use Rattle.seat_log.proofs.StepCounts.{KeepsLocks, keeps_one, keeps_then}
use Rattle.seat_log.proofs.Ended.{HasEnded}
use Rattle.seat_log.proofs.Commits.{commit_ends, ends_linked, stands_committed}
use Rattle.commit_abort.specs.Finishes.{WonNaming, first_of_mode, first_named, IsJustNamed, HasNamed, StampsIt, AreCommitted, IsLinkedToo, Tells}
use Rattle.commit_abort.specs.Finishes.{IsFinishStep, Finishes}

module _ (c : Config) (w : Knowledge) (l : Noted) (won : WonNaming) (k : IsJustNamed c w l won) where
  abbrev v : Knowledge
  v = won.before

  abbrev t : ℕ
  t = clock_time_of won.word + 1

  pub some_held : 0 < l.held
  some_held = subst (λ (n : ℕ). 0 < n) k.stands.held k.some

  -- the first note of the write set
  pub first_is : (i : ℕ) (n : Note) → IsNoteAt l i n → held_from l ≤ i → n.first ≡ set_first v.ring
  first_is i n at from =
      let h = (k.stands.log.notes.held i n at).0 from in
      let next = k.stands.next in
      let held = k.stands.held in
      let few = k.stands.log.held in
      omega arith

  pub has_named : HasNamed w (set_first v.ring) t won.inside
  has_named = subst (λ (u : Knowledge). HasNamed u (set_first v.ring) t won.inside) (sym k.named) refl

  -- the slots as the exchange left them
  slot_now : (j : ℕ) → slot_at w.ring j ≡ committed_slot t (slot_at v.ring j)
  slot_now j = ap (λ (u : Knowledge). slot_at u.ring j) k.named ∙ slot_mapped (committed_slot t) refl v.ring j

  are_committed : AreCommitted c w l t
  are_committed = record {
    each = λ i n at from.
        let lives = (held_at c v l k.stands i n at from).0 in (
          new_note t (version_of n),
          slot_now (index_of c (l.freed + i)) ∙ ap (committed_slot t) lives,
          refl,
          refl,
          k.log.links (index_of c (l.freed + i)) (version_of n) lives,
        );
    only = λ j x note live time.
        let was = committed_was t (slot_at v.ring j) x (Committed note) (sym (slot_now j) ∙ live) in
        ⊎_elim
        (λ old. absurd (let le = k.log.old j x note (was.1 ∙ ap (Live x) old.0) in omega arith))
        (λ new.
        let r = noted_in c v l k.stands j x Held (was.1 ∙ ap (Live x) new.0) in
        (r.index, held_last c v l k.stands j x r, r.within, r.slot_is))
        was.2;
    round = (let room = k.stands.log.room in let slots = k.stands.slots in omega arith);
    wide = ap (λ (u : Knowledge). length u.ring.slots) k.named ∙ length-map v.ring.slots (committed_slot t) ∙ k.stands.wide;
    nothing = λ j x live.
        let was = committed_was t (slot_at v.ring j) x Held (sym (slot_now j) ∙ live) in
        ⊎_elim (λ old. old.1 refl) (λ new. let other : Held ≡ Committed (new_note t x) = new.1 in cc) was.2;
  }

  module _ (x : Knowledge) (st : StampsIt w x (set_first v.ring) t won.inside) where
    same_ring : x.ring ≡ w.ring
    same_ring = ap (λ (u : Knowledge). u.ring) st.rest

    pub committed_still : AreCommitted c x l t
    committed_still =
        subst (λ r. AreCommitted c (record x { ring = r }) l t) (sym same_ring)
        (let a = are_committed in record { each = a.each; only = a.only; round = a.round; wide = a.wide; nothing = a.nothing })

    module _ (y : Knowledge) (tells : Tells c x y l (length l.live)) where
      -- the section may end: nothing is held, the stamp was exchanged, and SUPER was stored below all
      pub may_clear : MayClearMark y
      may_clear = record {
        inside = record won.inside { mode = Named (record { time = t; first = set_first v.ring; stamped = true }) };
        phase = ap (λ (u : Knowledge). u.phase) tells.kept ∙ st.phase;
        nothing = λ j z live.
            ⊎_elim
            (λ same. committed_still.nothing j z (sym same ∙ live))
            (λ more.
            let one = live_once (slot_at y.ring j) z more.0 Held (Committed (record more.1 { linked = true })) live more.3 in
            let other : Held ≡ Committed (record more.1 { linked = true }) = one.1 in cc)
            (tells.more j);
        finished = (
          refl,
          λ j z note live time.
              let before : (m : CommitNote) × (slot_at x.ring j ≡ Live z (Committed m)) × (m.time ≡ t) =
              ⊎_elim
              (λ same. (note, sym same ∙ live, time))
              (λ more.
              let one = live_once (slot_at y.ring j) more.0 z (Committed (record more.1 { linked = true })) (Committed note) more.3 live in
              let is : record more.1 { linked = true } ≡ note = (let both : Committed (record more.1 { linked = true }) ≡ Committed note = one.1 in cc) in
              (more.1, more.2 ∙ ap (λ u. Live u (Committed more.1)) one.0, ap (λ (d : CommitNote). d.time) is ∙ time))
              (tells.more j) in
              let a = committed_still.only j z before.0 before.1 before.2 in
              tells.told a.0 z note a.1 a.2 (ap (slot_at y.ring) (sym a.3) ∙ live),
        );
      }

      abbrev z : Knowledge
      z = mark_cleared c y

      -- what the finish appended to the trail
      abbrev steps : List Step
      steps = st.trail.0 ∷ (tells.trail.0 ++ record { kind = ClearMark; word = place_of c (Mark y.number); found = None; stored = Some 0 } ∷ [])

      trail_is : z.trail ≡ w.trail ++ steps
      trail_is =
          let last : Step = record { kind = ClearMark; word = place_of c (Mark y.number); found = None; stored = Some 0 } in
          ap (λ q. q ++ last ∷ []) (tells.trail.1 ∙ ap (λ q. q ++ tells.trail.0) st.trail.1)
          ∙ append_assoc (w.trail ++ st.trail.0 ∷ []) tells.trail.0 (last ∷ [])
          ∙ append_assoc w.trail (st.trail.0 ∷ []) (tells.trail.0 ++ last ∷ [])

      -- what holds of each kind of step of it holds of all
      all_steps : (P : StepKind → Type 0) → P SwapStamp → P StoreSuper → P ClearMark → All (λ s. P s.kind) steps
      all_steps P a b d =
          All-cons (λ s. P s.kind) st.trail.0 _ (subst P (sym st.trail.2) a)
          (All-push (λ s. P s.kind) tells.trail.0 _
          (All-weaker (λ s. s.kind ≡ StoreSuper) (λ s. P s.kind) (λ s e. subst P (sym e) b) tells.trail.0 tells.trail.3) d)

      pub finishes : Finishes w z (l.held + 2)
      finishes = record {
        outside = refl;
        trail = (
          steps,
          trail_is,
          (let long = length-append tells.trail.0 (record { kind = ClearMark; word = place_of c (Mark y.number); found = None; stored = Some 0 } ∷ []) in
              let few = tells.trail.2 in let held = k.stands.log.held in omega arith),
          all_steps IsFinishStep tt tt tt,
        );
        rest = rest_is;
      }
        where
          rest_is : z ≡ record w { phase = Outside; clocks = no_clocks; walk = Nowhere; back = None; ring = z.ring; trail = z.trail }
          rest_is =
              ap (λ (u : Knowledge). record u { phase = Outside; clocks = no_clocks; walk = Nowhere; back = None; ring = z.ring; trail = z.trail })
              (tells.kept ∙ ap (λ (u : Knowledge). record u { ring = y.ring; trail = y.trail }) st.rest)

      same_number : z.number ≡ w.number
      same_number = ap (λ (u : Knowledge). u.number) tells.kept ∙ ap (λ (u : Knowledge). u.number) st.rest

      are_plain : ArePlain steps
      are_plain = all_plain steps (all_steps LeavesLog (refl, refl) (refl, refl) (refl, refl))

      has_ended : HasEnded v z (λ n. record n { time = t })
      has_ended =
          let leaves = are_plain in
          ends_linked v w z (λ n. record n { time = t })
          (subst (λ (u : Knowledge). HasEnded v u (λ n. record n { time = t })) (sym k.named) (commit_ends c v won.inside won.tag won.word won.history))
          same_number
          (tells.next ∙ ap (λ r. r.next) same_ring)
          (tells.wide ∙ ap (λ r. length r.slots) same_ring)
          (λ j. subst (λ (s : Slot). IsLinkedToo s (slot_at y.ring j)) (ap (λ r. slot_at r j) same_ring) (tells.more j))
          (frees_left w.trail z.trail steps trail_is leaves)
          (cuts_left w.trail z.trail steps trail_is leaves)
          (locks_left w.trail z.trail steps trail_is leaves).locks

      pub stands_after : Stands c z (committed_noted l t)
      stands_after =
          let past : z.past ≡ w.past = ap (λ (u : Knowledge). u.past) tells.kept ∙ ap (λ (u : Knowledge). u.past) st.rest in
          let named : w.past ≡ (commit_named c v won.inside won.tag won.word won.history).past = ap (λ (u : Knowledge). u.past) k.named in
          let one : KeepsLocks v.trail (commit_named c v won.inside won.tag won.word won.history).trail = keeps_one v.trail _ refl refl in
          let keeps : KeepsLocks v.trail z.trail =
          keeps_then v.trail w.trail z.trail (subst (λ (u : Knowledge). KeepsLocks v.trail u.trail) (sym k.named) one)
          (locks_left w.trail z.trail steps trail_is are_plain) in
          stands_committed c v z l t k.stands has_ended some_held k.unbuilt
          (commit_of c v won.inside won.tag)
          (ap (λ p. p.mine) past ∙ ap (λ p. p.mine) named)
          (writes_length c v.ring (set_first v.ring) (held_count v.ring) ∙ k.stands.held)
          (ap (λ p. p.rests) past ∙ ap (λ p. p.rests) named)
          keeps

  -- the same, by what the code has of the time, of the first position and of the section
  module _ (time first : ℕ) (time_is : time ≡ t) (at : first ≡ set_first v.ring) where
    -- the section as the exchange left it
    named_phase : w.phase ≡ Inside (record won.inside { mode = Named (record { time = t; first = set_first v.ring; stamped = false }) })
    named_phase = has_named

    now_in : section_in w ≡ record won.inside { mode = Named (record { time = t; first = set_first v.ring; stamped = false }) }
    now_in = ap inside_of named_phase

    pub may_stamp : HasNamed w first time (section_in w)
    may_stamp = named_phase ∙ (λ i. Inside (record (sym now_in i) { mode = Named (record { time = sym time_is i; first = sym at i; stamped = false }) }))

    module _ (x : Knowledge) (stamps : StampsIt w x first time (section_in w)) where
      now_stamps : StampsIt w x (set_first v.ring) t won.inside
      now_stamps = record {
        phase = stamps.phase ∙ (λ i. Inside (record (now_in i) { mode = Named (record { time = time_is i; first = at i; stamped = true }) }));
        trail = stamps.trail;
        rest = stamps.rest;
      }

      pub may_tell_below : (x.phase ≡ Inside (record (section_in x) { mode = Named (record { time = time; first = first_named x; stamped = true }) }))
          × AreCommitted c x l time
      may_tell_below =
          let inside : section_in x ≡ record won.inside { mode = Named (record { time = t; first = set_first v.ring; stamped = true }) } =
          ap inside_of now_stamps.phase in
          let from : first_named x ≡ set_first v.ring = ap (λ (s : OwnSection). first_of_mode s.mode) inside in (
            now_stamps.phase ∙ (λ i. Inside (record (sym inside i) { mode = Named (record { time = sym time_is i; first = sym from i; stamped = true }) })),
            subst (AreCommitted c x l) (sym time_is) (committed_still x now_stamps),
          )

      module _ (y : Knowledge) (tells : Tells c x y l (length l.live)) where
        pub may_end : MayClearMark y
        may_end = may_clear x now_stamps y tells

        pub ended : (z : Knowledge) (m : Noted) → z ≡ mark_cleared c y → m ≡ committed_noted l time → Finishes w z (l.held + 2) × Stands c z m
        ended z m is noted = (
          subst (λ (u : Knowledge). Finishes w u (l.held + 2)) (sym is) (finishes x now_stamps y tells),
          subst (Stands c z) (sym (noted ∙ ap (committed_noted l) time_is))
              (subst (λ (u : Knowledge). Stands c u (committed_noted l t)) (sym is) (stands_after x now_stamps y tells)),
        )
