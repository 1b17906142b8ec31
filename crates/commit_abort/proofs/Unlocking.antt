-- HEAD is given back of one held version after another.
use Rattle.std.proofs.Common.{◌≡◌, ◌≢◌, ℕ, ◌+◌, ◌<◌, ◌≤◌, List, [], ◌∷◌, ◌++◌, length, refl, sym, ap, ◌∙◌}
use Rattle.std.proofs.Common.{subst, inl, inr, arith, append-nil, append_assoc, length-append, Some, None}
use Rattle.std.proofs.Math.Logic.{∥∥₁_elim}
use Rattle.std.proofs.Math.Bridge.{le_prop}
use Rattle.std.proofs.lemmas.List.{length-set}
use Rattle.std.proofs.lemmas.List.Elements.{All-nil, All-push}
use mathlib.Core.Logic.{dite}
use native.Mathlib.Decide.{ℕ_discrete}
use Rattle.mv_history.specs.State.{State, Writes}
use Rattle.mv_history.specs.declared.Step.{Step}
use Rattle.mv_history.specs.declared.StepKind.TheVariants.{UnlockHead}
use Rattle.mv_layout.specs.declared.Config.{Config}
use Rattle.mv_layout.specs.declared.SharedWord.TheVariants.{Head}
use Rattle.mv_layout.specs.Places.{place_of}
use Rattle.seat_log.specs.mv_core.declared.ring.Slot.TheVariants.{Live}
use Rattle.seat_log.specs.mv_core.declared.ring.WriteSetStatus.TheVariants.{Held, Aborted}
use Rattle.seat_log.specs.mv_core.declared.view.Knowledge.{Knowledge}
use Rattle.seat_log.specs.mv_core.declared.view.OwnSection.{OwnSection}
use Rattle.seat_log.specs.mv_core.declared.view.Mode.TheVariants.{Aborting}
use Rattle.seat_log.specs.mv_core.Rings.{slot_at, index_of}
use Rattle.seat_log.specs.mv_core.Views.{IsUnnamed}
use Rattle.seat_log.specs.mv_core.Known.{Known}
use Rattle.seat_log.specs.mv_core.LockSteps.{MayUnlock, head_unlocked}
use Rattle.seat_log.proofs.mv_core_lemmas.logs.Slots.{slot_here, slot_else, live_within}
use Rattle.seat_log.specs.reader_marks.Sections.{inside_of}
use Rattle.seat_log.specs.declared.version.Note.{Note}
use Rattle.seat_log.specs.Notes.{Noted, held_from, IsNoteAt}
use Rattle.seat_log.specs.Stands.{version_of, Stands}
use Rattle.seat_log.specs.Builds.{version_in}
use Rattle.seat_log.proofs.Places.{get_within}
use Rattle.seat_log.proofs.NotedSlots.{apart, held_at}
use Rattle.commit_abort.specs.Aborts.{IsOpen, HeldSlot, IsAbortedToo, Unlocks, held_in, MayGiveBack, GivesBack}

module _ (c : Config) (v : Knowledge) (l : Noted) (inside : OwnSection) (k : Stands c v l) (open_is : IsOpen v inside) where
  abbrev slot_of : ℕ → ℕ
  slot_of i = index_of c (l.freed + i)

  differ : (i j : ℕ) → i < length l.live → j < length l.live → i ≢ j → slot_of i ≢ slot_of j
  differ i j a b ne e = ne (apart c v l k i j a b e)

  pub unlocks_first : Unlocks c v v l inside (held_from l)
  unlocks_first = record {
    inside_now = inside;
    phase = open_is.phase;
    unnamed = subst IsUnnamed (sym open_is.open_is) tt;
    kept = refl;
    wide = refl;
    next = refl;
    more = λ j. inl refl;
    gone = λ j lo hi. absurd (omega arith);
    left = λ j lo hi. refl;
    trail = ([], sym (append-nil v.trail), omega arith, All-nil (λ s. s.kind ≡ UnlockHead));
  }

  module _ (w : Knowledge) (i : ℕ) (n : Note) (at : IsNoteAt l i n) (from : held_from l ≤ i) (t : Unlocks c v w l inside i) where
    within : i < length l.live
    within = get_within l.live i n at

    before : slot_at v.ring (slot_of i) ≡ Live (version_of n) Held
    before = (held_at c v l k i n at from).0

    here : slot_at w.ring (slot_of i) ≡ Live (version_of n) Held
    here = t.left i (omega arith) within ∙ before

    held_is : held_in w (slot_of i) ≡ record { slot = slot_of i; version = version_of n; inside = t.inside_now }
    held_is = λ j. record { slot = slot_of i; version = version_in (here j); inside = inside_of (t.phase j) }

    pub may_give : (starts : State → Type 0) (allows : List ℕ → State → Writes → Type 0) → ∥ Known starts allows w ∥₁ → length w.start ≡ c.objects
        → MayGiveBack c w n (held_in w (slot_of i))
    may_give starts allows known objects =
        let range : n.object < length w.start =
        ∥∥₁_elim known le_prop (λ a. ((a.section t.inside_now t.phase).held (slot_of i) (version_of n) here).in_range) in (
          omega arith,
          subst (λ (a : HeldSlot). MayUnlock w n.object n.previous a.slot a.version a.inside) (sym held_is)
              (record { phase = t.phase; unnamed = t.unnamed; held = here; object_is = refl; previous_is = refl }),
        )

    abbrev next_view : Knowledge
    next_view = head_unlocked c w n.object n.previous (slot_of i) (version_of n) t.inside_now

    abbrev step : Step
    step = record { kind = UnlockHead; word = place_of c (Head n.object); found = None; stored = Some n.previous }

    slot_same : slot_at next_view.ring (slot_of i) ≡ Live (version_of n) (Aborted None)
    slot_same = slot_here w.ring (slot_of i) (Live (version_of n) (Aborted None)) (live_within w.ring (slot_of i) (version_of n) Held here)

    slot_other : (j : ℕ) → j ≢ slot_of i → slot_at next_view.ring j ≡ slot_at w.ring j
    slot_other j ne = slot_else w.ring (slot_of i) j (Live (version_of n) (Aborted None)) ne

    unlocks_next : Unlocks c v next_view l inside (i + 1)
    unlocks_next = record {
      inside_now = record t.inside_now { mode = Aborting };
      phase = refl;
      unnamed = tt;
      kept = ap (λ (u : Knowledge). record u { phase = next_view.phase; ring = next_view.ring; trail = next_view.trail }) t.kept;
      wide = length-set w.ring.slots (slot_of i) (Live (version_of n) (Aborted None)) ∙ t.wide;
      next = t.next;
      more = λ j.
          dite (ℕ_discrete j (slot_of i))
          (λ e. subst (λ (p : ℕ). IsAbortedToo (slot_at v.ring p) (slot_at next_view.ring p)) (sym e) (inr (version_of n, before, slot_same)))
          (λ ne. subst (IsAbortedToo (slot_at v.ring j)) (sym (slot_other j ne)) (t.more j));
      gone = λ j lo hi.
          dite (ℕ_discrete j i)
          (λ e. (version_of n, ap (λ p. slot_at next_view.ring (slot_of p)) e ∙ slot_same))
          (λ ne.
          let a = t.gone j lo (omega arith) in
          (a.0, slot_other (slot_of j) (differ j i (let lt = within in let le : j < length l.live = omega arith in le) within ne) ∙ a.1));
      left = λ j lo hi. slot_other (slot_of j) (differ j i hi within (λ e. omega arith)) ∙ t.left j (omega arith) hi;
      trail =
          (let a = t.trail in
          let few = a.2 in
          let long = length-append a.0 (step ∷ []) in (
            a.0 ++ step ∷ [],
            ap (λ (q : List Step). q ++ step ∷ []) a.1 ∙ append_assoc v.trail a.0 (step ∷ []),
            omega arith,
            All-push (λ s. s.kind ≡ UnlockHead) a.0 step a.3 refl,
          ));
    }

    pub unlocks_more : (x : Knowledge) → GivesBack c w x n (held_in w (slot_of i)) → Unlocks c v x l inside (i + 1)
    unlocks_more x gives =
        subst (λ (u : Knowledge). Unlocks c v u l inside (i + 1))
        (sym (gives ∙ ap (λ (a : HeldSlot). head_unlocked c w n.object n.previous a.slot a.version a.inside) held_is)) unlocks_next
