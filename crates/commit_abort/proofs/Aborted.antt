-- A section that gave up what it held may end, and so it has when its mark is cleared.
use Rattle.std.proofs.Common.{◌≡◌, ◌≢◌, ℕ, zero, suc, ◌+◌, List, [], ◌∷◌, ◌++◌, length, refl, sym, ap, ◌∙◌, subst, ⊎_elim, arith}
use Rattle.std.proofs.Common.{append-nil, append_assoc, length-append, ◌==◌, if◌then◌else◌, ◌&&◌, Bool, true, false, is_some, All, Some, None}
use Rattle.std.proofs.lemmas.List.Elements.{All-push, All-weaker}
use Rattle.mv_history.specs.declared.Step.{Step}
use Rattle.mv_history.specs.declared.StepKind.{StepKind}
use Rattle.mv_history.specs.declared.StepKind.TheVariants.{UnlockHead, LoadDeath, ClearMark}
use Rattle.mv_history.specs.declared.Entry.{Entry}
use Rattle.mv_layout.specs.declared.Config.{Config}
use Rattle.mv_layout.specs.declared.SharedWord.TheVariants.{Clock, Mark}
use Rattle.mv_layout.specs.Places.{place_of}
use Rattle.mv_layout.specs.Words.{clock_time_of}
use Rattle.seat_log.specs.mv_core.declared.ring.WriteSetStatus.TheVariants.{Held, Aborted}
use Rattle.seat_log.specs.mv_core.declared.view.Knowledge.{Knowledge}
use Rattle.seat_log.specs.mv_core.declared.view.Phase.TheVariants.{Outside}
use Rattle.seat_log.specs.mv_core.declared.view.OwnSection.{OwnSection}
use Rattle.seat_log.specs.mv_core.declared.view.Mode.{Mode}
use Rattle.seat_log.specs.mv_core.declared.view.Mode.TheVariants.{Open, Aborting, Named}
use Rattle.seat_log.specs.mv_core.declared.view.WalkStage.TheVariants.{Nowhere}
use Rattle.seat_log.specs.mv_core.Rings.{slot_at, HoldsNothing}
use Rattle.seat_log.specs.mv_core.Views.{no_clocks, IsUnnamed}
use Rattle.seat_log.specs.mv_core.HistoryFacts.{BeginsWith}
use Rattle.seat_log.specs.mv_core.EnterSteps.{IsWhole, IsFinished, MayClearMark, mark_cleared}
use Rattle.seat_log.specs.mv_core.LockSteps.{death_loaded}
use Rattle.seat_log.proofs.mv_core_lemmas.kinds.locking.lock_head.LockedLog.{none_held}
use Rattle.seat_log.proofs.mv_core_lemmas.logs.Links.{live_once}
use Rattle.seat_log.specs.declared.version.Note.{Note}
use Rattle.seat_log.specs.Notes.{Noted, aborted_noted}
use Rattle.seat_log.specs.Stands.{is_free_kind, is_cut_kind, is_lock_kind, is_unlock_kind, is_free, is_won_cut, is_won_lock, is_unlock, aborts_in, Stands}
use Rattle.seat_log.proofs.BuildsOn.{unpassed}
use Rattle.seat_log.proofs.NotedSlots.{noted_in, held_last}
use Rattle.seat_log.proofs.Noting.{abort_counts}
use Rattle.seat_log.proofs.StepCounts.{none_more, ends_last, aborts_kept, aborts_more}
use Rattle.seat_log.proofs.Ended.{HasEnded, ends_same}
use Rattle.seat_log.proofs.Aborts.{HasUnlocked, abort_ends, nothing_ends, stands_aborted}
use Rattle.commit_abort.specs.Aborts.{Unlocks, IsAbortStep, Aborts, abort_cost}

-- the steps of an abort, with something held
pub cost_some : (held : ℕ) → held ≢ 0 → abort_cost held ≡ held + 2
cost_some zero some = absurd (some refl)
cost_some (suc n) some = refl

-- the section of an unnamed mode is finished
unnamed_finished : (v : Knowledge) (mode : Mode) → IsUnnamed mode → IsFinished v mode
unnamed_finished v Open u = tt
unnamed_finished v Aborting u = tt
unnamed_finished v (Named n) u = absurd u

module _ (c : Config) (v : Knowledge) (l : Noted) (inside : OwnSection) (k : Stands c v l) (unbuilt : l.built ≡ None) (y : Knowledge)
    (u : Unlocks c v y l inside (length l.live)) where
  pub nothing : HoldsNothing y.ring
  nothing j x live =
      ⊎_elim
      (λ same.
      let r = noted_in c v l k j x Held (sym same ∙ live) in
      let g = u.gone r.index (held_last c v l k j x r) r.within in
      let one = live_once (slot_at y.ring j) x g.0 Held (Aborted None) live (ap (slot_at y.ring) r.slot_is ∙ g.1) in
      let other : Held ≡ Aborted None = one.1 in cc)
      (λ more. let one = live_once (slot_at y.ring j) x more.0 Held (Aborted None) live more.2 in let other : Held ≡ Aborted None = one.1 in cc)
      (u.more j)

  pub may_end : MayClearMark y
  may_end = record { inside = u.inside_now; phase = u.phase; nothing = nothing; finished = unnamed_finished y u.inside_now.mode u.unnamed }

  unlocked : HasUnlocked v y
  unlocked =
      let unpassed_all : (test : StepKind → Bool) → test UnlockHead ≡ false → All (λ s. test s.kind ≡ false) u.trail.0 =
      λ test none. All-weaker (λ s. s.kind ≡ UnlockHead) (λ s. test s.kind ≡ false) (λ s e. ap test e ∙ none) u.trail.0 u.trail.3 in
      let unwon : (test : StepKind → Bool) → test UnlockHead ≡ false → All (λ s. (test s.kind && is_some s.stored) ≡ false) u.trail.0 =
      λ test none.
      All-weaker (λ s. test s.kind ≡ false) (λ s. (test s.kind && is_some s.stored) ≡ false) (λ s e. ap (λ b. b && is_some s.stored) e) u.trail.0
      (unpassed_all test none) in record {
        number = ap (λ (q : Knowledge). q.number) u.kept;
        next = u.next;
        wide = u.wide;
        each = u.more;
        frees = none_more is_free v.trail y.trail u.trail.0 u.trail.1 (unpassed_all is_free_kind refl);
        backs = none_more is_won_cut v.trail y.trail u.trail.0 u.trail.1 (unwon is_cut_kind refl);
        locks = none_more is_won_lock v.trail y.trail u.trail.0 u.trail.1 (unwon is_lock_kind refl);
      }

  -- each of the steps gives an object up
  all_unlock : All (λ s. is_unlock s ≡ true) u.trail.0
  all_unlock = All-weaker (λ s. s.kind ≡ UnlockHead) (λ s. is_unlock s ≡ true) (λ s e. ap is_unlock_kind e) u.trail.0 u.trail.3

  -- with something held they are one abort
  one_abort : l.held ≢ 0 → aborts_in y.trail ≡ aborts_in v.trail + 1
  one_abort some =
      let made = u.trail.2 in
      let few = k.log.held in
      aborts_more v.trail y.trail u.trail.0 u.trail.1 (λ none. let long = ap length none in some (omega arith)) all_unlock k.settled

  -- and with nothing held there are none
  no_abort : l.held ≡ 0 → y.trail ≡ v.trail
  no_abort none = let made = u.trail.2 in let few = k.log.held in no_steps u.trail.0 u.trail.1 (omega arith)
    where
      no_steps : (steps : List Step) → y.trail ≡ v.trail ++ steps → length steps ≡ 0 → y.trail ≡ v.trail
      no_steps [] is long = is ∙ append-nil v.trail
      no_steps (s ∷ steps) is long = absurd (omega arith)

  past_same : y.past ≡ v.past
  past_same = ap (λ (q : Knowledge). q.past) u.kept

  -- with something held: the time was loaded, and the mark cleared
  module _ (word dead : ℕ) (h : List Entry) (whole : IsWhole c y word h) (dead_is : dead ≡ clock_time_of word + 1) where
    abbrev x : Knowledge
    x = death_loaded c y word h

    abbrev z : Knowledge
    z = mark_cleared c x

    abbrev load : Step
    load = record { kind = LoadDeath; word = place_of c Clock; found = Some word; stored = None }

    abbrev clear : Step
    clear = record { kind = ClearMark; word = place_of c (Mark x.number); found = None; stored = Some 0 }

    ends : HasEnded v x (λ n. record n { dead = clock_time_of word + 1 })
    ends = abort_ends c v y l word h k unlocked nothing

    pub may_end_timed : MayClearMark x
    may_end_timed = record {
      inside = u.inside_now;
      phase = u.phase;
      nothing = none_held x.ring ends.none_held;
      finished = unnamed_finished x u.inside_now.mode u.unnamed;
    }

    abbrev steps : List Step
    steps = u.trail.0 ++ (load ∷ clear ∷ [])

    trail_is : z.trail ≡ v.trail ++ steps
    trail_is =
        append_assoc y.trail (load ∷ []) (clear ∷ [])
        ∙ ap (λ (q : List Step). q ++ (load ∷ clear ∷ [])) u.trail.1
        ∙ append_assoc v.trail u.trail.0 (load ∷ clear ∷ [])

    all_steps : (P : StepKind → Type 0) → P UnlockHead → P LoadDeath → P ClearMark → All (λ s. P s.kind) steps
    all_steps P a b d = subst (All (λ s. P s.kind)) (append_assoc u.trail.0 (load ∷ []) (clear ∷ []))
        (All-push (λ s. P s.kind) (u.trail.0 ++ load ∷ []) clear
        (All-push (λ s. P s.kind) u.trail.0 load (All-weaker (λ s. s.kind ≡ UnlockHead) (λ s. P s.kind) (λ s e. subst P (sym e) a) u.trail.0 u.trail.3) b)
        d)

    pub aborts_timed : Aborts v z (l.held + 2)
    aborts_timed = record {
      outside = refl;
      seen = subst (λ p. BeginsWith h p.seen) past_same whole.0;
      trail = (
        steps,
        trail_is,
        (let more = length-append u.trail.0 (load ∷ clear ∷ []) in let few = u.trail.2 in let held = k.log.held in omega arith),
        all_steps IsAbortStep tt tt tt,
      );
      rest = ap
          (λ (q : Knowledge).
          record q { past = record q.past { seen = h }; phase = Outside; clocks = no_clocks; walk = Nowhere; back = None; ring = z.ring; trail = z.trail })
          u.kept;
    }

    pub stands_timed : l.held ≢ 0 → Stands c z (aborted_noted l dead)
    stands_timed some =
        let ended = ends_same v x z (λ n. record n { dead = clock_time_of word + 1 }) ends refl refl
        (unpassed is_free x.trail _ refl) (unpassed is_won_cut x.trail _ refl) (unpassed is_won_lock x.trail _ refl) in
        let told : (aborted_noted l (clock_time_of word + 1)).aborts ≡ aborts_in z.trail =
        abort_counts l some ∙ ap (λ n. n + 1) k.aborts ∙ sym (one_abort some) ∙ sym (aborts_kept y.trail load refl) ∙ sym (aborts_kept x.trail clear refl) in
        subst (λ d. Stands c z (aborted_noted l d)) (sym dead_is)
        (stands_aborted c v z l (clock_time_of word + 1) k ended unbuilt (ap (λ p. p.mine) past_same) (ap (λ p. p.rests) past_same) told
        (ends_last x.trail clear))

  -- with nothing held: only the mark was cleared
  module _ (none : l.held ≡ 0) where
    abbrev z0 : Knowledge
    z0 = mark_cleared c y

    abbrev clear0 : Step
    clear0 = record { kind = ClearMark; word = place_of c (Mark y.number); found = None; stored = Some 0 }

    abbrev steps0 : List Step
    steps0 = u.trail.0 ++ (clear0 ∷ [])

    trail_is0 : z0.trail ≡ v.trail ++ steps0
    trail_is0 = ap (λ (q : List Step). q ++ (clear0 ∷ [])) u.trail.1 ∙ append_assoc v.trail u.trail.0 (clear0 ∷ [])

    all_steps0 : (P : StepKind → Type 0) → P UnlockHead → P ClearMark → All (λ s. P s.kind) steps0
    all_steps0 P a d =
        All-push (λ s. P s.kind) u.trail.0 clear0 (All-weaker (λ s. s.kind ≡ UnlockHead) (λ s. P s.kind) (λ s e. subst P (sym e) a) u.trail.0 u.trail.3) d

    pub aborts_none : Aborts v z0 1
    aborts_none = record {
      outside = refl;
      seen = ([], ap (λ p. p.seen) past_same ∙ sym (append-nil v.past.seen));
      trail = (
        steps0,
        trail_is0,
        (let more = length-append u.trail.0 (clear0 ∷ []) in let few = u.trail.2 in let held = k.log.held in omega arith),
        all_steps0 IsAbortStep tt tt,
      );
      rest = ap
          (λ (q : Knowledge).
          record q {
            past = record q.past { seen = z0.past.seen };
            phase = Outside;
            clocks = no_clocks;
            walk = Nowhere;
            back = None;
            ring = z0.ring;
            trail = z0.trail;
          })
          u.kept;
    }

    pub stands_none : (dead : ℕ) → Stands c z0 (aborted_noted l dead)
    stands_none dead =
        let f : Note → Note = λ n. record n { dead = dead } in
        let ended = ends_same v y z0 f (nothing_ends v y f unlocked (none_held v.ring (k.held ∙ none))) refl refl
        (unpassed is_free y.trail _ refl) (unpassed is_won_cut y.trail _ refl) (unpassed is_won_lock y.trail _ refl) in
        let kept : (aborted_noted l dead).aborts ≡ l.aborts = ap (λ (n : ℕ). if n == 0 then l.aborts else l.aborts + 1) none in
        let told : (aborted_noted l dead).aborts ≡ aborts_in z0.trail =
        kept ∙ k.aborts ∙ ap aborts_in (sym (no_abort none)) ∙ sym (aborts_kept y.trail clear0 refl) in
        stands_aborted c v z0 l dead k ended unbuilt (ap (λ p. p.mine) past_same) (ap (λ p. p.rests) past_same) told (ends_last y.trail clear0)

  -- the same, by what the code has of the views
  pub clear_timed : (x : Knowledge) (word : ℕ) → (h : List Entry) × IsWhole c y word h × (x ≡ death_loaded c y word h) → MayClearMark x
  clear_timed x word t = subst MayClearMark (sym t.2) (may_end_timed word (clock_time_of word + 1) t.0 t.1 refl)

  pub ended_timed : (x z : Knowledge) (m : Noted) (word dead : ℕ) → l.held ≢ 0 → (h : List Entry) × IsWhole c y word h × (x ≡ death_loaded c y word h)
      → dead ≡ clock_time_of word + 1 → z ≡ mark_cleared c x → m ≡ aborted_noted l dead → Aborts v z (abort_cost l.held) × Stands c z m
  ended_timed x z m word dead some t dead_is is noted =
      let at : z ≡ mark_cleared c (death_loaded c y word t.0) = is ∙ ap (mark_cleared c) t.2 in (
        subst (λ (q : Knowledge). Aborts v q (abort_cost l.held)) (sym at)
            (subst (λ (n : ℕ). Aborts v (mark_cleared c (death_loaded c y word t.0)) n) (sym (cost_some l.held some)) (aborts_timed word dead t.0 t.1 dead_is)),
        subst (Stands c z) (sym noted) (subst (λ (q : Knowledge). Stands c q (aborted_noted l dead)) (sym at) (stands_timed word dead t.0 t.1 dead_is some)),
      )

  pub ended_none : (z : Knowledge) (m : Noted) (dead : ℕ) → l.held ≡ 0 → z ≡ mark_cleared c y → m ≡ aborted_noted l dead
      → Aborts v z (abort_cost l.held) × Stands c z m
  ended_none z m dead none is noted = (
    subst (λ (q : Knowledge). Aborts v q (abort_cost l.held)) (sym is)
        (subst (λ (n : ℕ). Aborts v (mark_cleared c y) (abort_cost n)) (sym none) (aborts_none none)),
    subst (Stands c z) (sym noted) (subst (λ (q : Knowledge). Stands c q (aborted_noted l dead)) (sym is) (stands_none none dead)),
  )
