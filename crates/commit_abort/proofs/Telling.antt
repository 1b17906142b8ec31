-- SUPER is stored below one version of a committed write set after another.
use Rattle.std.proofs.Common.{◌≡◌, ◌≢◌, ℕ, ◌+◌, ◌<◌, ◌≤◌, ◌==◌, true, List, [], ◌∷◌, ◌++◌, length, refl}
use Rattle.std.proofs.Common.{sym, ap, ◌∙◌, subst, inl, inr, arith, eq-eqb, ne_eqb, append-nil, append_assoc, length-append, Some, None}
use Rattle.std.proofs.lemmas.List.{length-set}
use Rattle.std.proofs.lemmas.List.Elements.{All-nil, All-push}
use mathlib.Core.Logic.{dite}
use native.Mathlib.Decide.{ℕ_discrete}
use Rattle.mv_history.specs.declared.Step.{Step}
use Rattle.mv_history.specs.declared.StepKind.TheVariants.{StoreSuper}
use Rattle.mv_layout.specs.declared.Config.{Config}
use Rattle.mv_layout.specs.declared.SharedWord.TheVariants.{Super}
use Rattle.mv_layout.specs.Places.{place_of}
use Rattle.mv_layout.specs.Words.{link_seat_of}
use Rattle.seat_log.specs.mv_core.declared.ring.Slot.TheVariants.{Live}
use Rattle.seat_log.specs.mv_core.declared.ring.WriteSetStatus.TheVariants.{Committed}
use Rattle.seat_log.specs.mv_core.declared.ring.CommitNote.{CommitNote}
use Rattle.seat_log.specs.mv_core.declared.view.Knowledge.{Knowledge}
use Rattle.seat_log.specs.mv_core.declared.view.Phase.TheVariants.{Inside}
use Rattle.seat_log.specs.mv_core.declared.view.OwnSection.{OwnSection}
use Rattle.seat_log.specs.mv_core.declared.view.Mode.TheVariants.{Named}
use Rattle.seat_log.specs.mv_core.Rings.{slot_at, index_of}
use Rattle.seat_log.specs.mv_core.WalkSteps.{IsLinkOf, slot_named}
use Rattle.seat_log.specs.mv_core.NameSteps.{MayStoreSuper, super_stored}
use Rattle.seat_log.proofs.mv_core_lemmas.logs.Links.{live_once, note_once}
use Rattle.seat_log.proofs.mv_core_lemmas.logs.Slots.{slot_here, slot_else, live_within}
use Rattle.seat_log.specs.declared.version.Note.{Note}
use Rattle.seat_log.specs.Notes.{Noted, held_from, IsNoteAt}
use Rattle.seat_log.specs.Stands.{version_of}
use Rattle.seat_log.specs.Builds.{version_in, note_in}
use Rattle.seat_log.proofs.Places.{get_within}
use Rattle.seat_log.proofs.NotedSlots.{places_apart}
use Rattle.commit_abort.specs.Finishes.{CommittedSlot, AreCommitted, IsLinkedToo, above_at, MayTell, TellsOne, Tells}

module _ (c : Config) (v : Knowledge) (l : Noted) (time : ℕ) (k : AreCommitted c v l time) where
  -- the slot of a place in the log
  abbrev slot_of : ℕ → ℕ
  slot_of i = index_of c (l.freed + i)

  -- two places have two slots
  apart : (i j : ℕ) → i < length l.live → j < length l.live → i ≢ j → slot_of i ≢ slot_of j
  apart i j a b ne e = let round = k.round in ne (places_apart c l.freed i j (omega arith) (omega arith) e)

  pub tells_first : Tells c v v l (held_from l)
  tells_first = record {
    kept = refl;
    wide = refl;
    next = refl;
    more = λ j. inl refl;
    told = λ j x note lo hi. absurd (omega arith);
    left = λ j lo hi. refl;
    trail = ([], sym (append-nil v.trail), omega arith, All-nil (λ s. s.kind ≡ StoreSuper));
  }

  module _ (w : Knowledge) (i : ℕ) (n : Note) (at : IsNoteAt l i n) (from : held_from l ≤ i) (t : Tells c v w l i) where
    within : i < length l.live
    within = get_within l.live i n at

    -- the version there, as it was committed
    abbrev here : (note : CommitNote) × (slot_at w.ring (slot_of i) ≡ Live (version_of n) (Committed note)) × (note.time ≡ time)
        × (note.linked ≡ (n.previous == 0)) × IsLinkOf c n.previous
    here = let a = k.each i n at from in (a.0, t.left i (omega arith) within ∙ a.1, a.2, a.3, a.4)

    above_is : above_at w (slot_of i) ≡ record { slot = slot_of i; version = version_of n; note = here.0 }
    above_is = λ j. record { slot = slot_of i; version = version_in (here.1 j); note = note_in (here.1 j) }

    pub may_tell : (inside : OwnSection) (first : ℕ)
        → v.phase ≡ Inside (record inside { mode = Named (record { time = time; first = first; stamped = true }) })
        → MayTell c w n time (above_at w (slot_of i))
    may_tell inside first phase some = (
      here.4 some,
      subst (λ (a : CommittedSlot). MayStoreSuper w n.previous time a.slot a.version a.note) (sym above_is) (record {
        inside = record inside { mode = Named (record { time = time; first = first; stamped = true }) };
        naming = record { time = time; first = first; stamped = true };
        phase = ap (λ (u : Knowledge). u.phase) t.kept ∙ phase;
        mode = refl;
        time_is = refl;
        stamped = refl;
        own = here.1;
        of_commit = here.2;
        link_is = refl;
        not_yet = here.3 ∙ ne_eqb n.previous 0 some;
      }),
    )

    -- nothing is below it, so it counts as told
    pub tells_none : n.previous ≡ 0 → Tells c v w l (i + 1)
    tells_none none = record {
      kept = t.kept;
      wide = t.wide;
      next = t.next;
      more = t.more;
      told = λ j x note lo hi live.
          dite (ℕ_discrete j i)
          (λ e.
          let one =
          live_once (slot_at w.ring (slot_of i)) x (version_of n) (Committed note) (Committed here.0)
          (subst (λ (p : ℕ). slot_at w.ring (slot_of p) ≡ Live x (Committed note)) e live) here.1 in
          ap (λ (q : CommitNote). q.linked) (note_once note here.0 one.1) ∙ here.3 ∙ eq-eqb n.previous 0 none)
          (λ ne. t.told j x note lo (omega arith) live);
      left = λ j lo hi. t.left j (omega arith) hi;
      trail = (let a = t.trail in let few = a.2 in (a.0, a.1, omega arith, a.3));
    }

    abbrev next_view : Knowledge
    next_view = super_stored c w n.previous time (slot_of i) (version_of n) here.0

    slot_same : slot_at next_view.ring (slot_of i) ≡ Live (version_of n) (Committed (record here.0 { linked = true }))
    slot_same =
        slot_here w.ring (slot_of i) (Live (version_of n) (Committed (record here.0 { linked = true })))
        (live_within w.ring (slot_of i) (version_of n) (Committed here.0) here.1)

    slot_other : (j : ℕ) → j ≢ slot_of i → slot_at next_view.ring j ≡ slot_at w.ring j
    slot_other j ne = slot_else w.ring (slot_of i) j (Live (version_of n) (Committed (record here.0 { linked = true }))) ne

    tells_next : Tells c v next_view l (i + 1)
    tells_next = record {
      kept = (let kept = t.kept in ap (λ (u : Knowledge). record u { ring = next_view.ring; trail = next_view.trail }) kept);
      wide = length-set w.ring.slots (slot_of i) (Live (version_of n) (Committed (record here.0 { linked = true }))) ∙ t.wide;
      next = t.next;
      more = λ j.
          dite (ℕ_discrete j (slot_of i))
          (λ e.
          let a = k.each i n at from in
          subst (λ (p : ℕ). IsLinkedToo (slot_at v.ring p) (slot_at next_view.ring p)) (sym e) (inr (version_of n, a.0, a.1, slot_same)))
          (λ ne. subst (IsLinkedToo (slot_at v.ring j)) (sym (slot_other j ne)) (t.more j));
      told = λ j x note lo hi live.
          dite (ℕ_discrete j i)
          (λ e.
          let one =
          live_once (slot_at next_view.ring (slot_of i)) x (version_of n) (Committed note) (Committed (record here.0 { linked = true }))
          (subst (λ (p : ℕ). slot_at next_view.ring (slot_of p) ≡ Live x (Committed note)) e live) slot_same in
          ap (λ (q : CommitNote). q.linked) (note_once note (record here.0 { linked = true }) one.1))
          (λ ne.
          t.told j x note lo (omega arith)
          (sym (slot_other (slot_of j) (apart j i (let lt = within in let le : j < length l.live = omega arith in le) within ne)) ∙ live));
      left = λ j lo hi. slot_other (slot_of j) (apart j i hi within (λ e. omega arith)) ∙ t.left j (omega arith) hi;
      trail =
          (let a = t.trail in
          let few = a.2 in
          let s : Step = step_of in
          let long = length-append a.0 (s ∷ []) in (
            a.0 ++ s ∷ [],
            ap (λ (q : List Step). q ++ s ∷ []) a.1 ∙ append_assoc v.trail a.0 (s ∷ []),
            omega arith,
            All-push (λ s. s.kind ≡ StoreSuper) a.0 s a.3 refl,
          ));
    }
      where
        step_of : Step
        step_of = record { kind = StoreSuper; word = place_of c (Super (link_seat_of n.previous) (slot_named c n.previous)); found = None; stored = Some time }

    -- and afterwards
    pub tells_more : (x : Knowledge) (before after : ℕ) → TellsOne c w x n time before after (above_at w (slot_of i)) → Tells c v x l (i + 1)
        × (after ≤ before + 1)
    tells_more x before after one =
        dite (ℕ_discrete n.previous 0)
        (λ none. let a = one.none none in let same = a.1 in (subst (λ (u : Knowledge). Tells c v u l (i + 1)) (sym a.0) (tells_none none), omega arith))
        (λ some.
        let a = one.one some in
        let same = a.1 in
        let is : x ≡ next_view = a.0 ∙ ap (λ (a : CommittedSlot). super_stored c w n.previous time a.slot a.version a.note) above_is in
        (subst (λ (u : Knowledge). Tells c v u l (i + 1)) (sym is) tells_next, omega arith))
