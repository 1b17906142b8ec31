-- One more entry, of what its seat holds: the walks of all sections. No section's time is the new one, so what was right for a walk still is.
use Rattle.std.proofs.Common.{◌≡◌, ◌≢◌, ◌⊎◌, ℕ, ◌+◌, ◌≤◌, List, [], ◌∷◌, ◌++◌, length, refl, sym, ap}
use Rattle.std.proofs.Common.{◌∙◌, subst, inl, inr, ⊎_elim, arith, length-append, Option, Some, None}
use Rattle.mv_core.proofs.Terms.{Entry, State, Writes, Config, Master, Stamp, Memory, Ring, Version, WriteSetStatus, Held, Aborted, Committed, CommitNote}
use Rattle.mv_core.proofs.Terms.{OwnSection, WalkStage, Lives, Names, NoneUncut, latest_at, AreThe, ViewParts}
use Rattle.mv_core.specs.declared.view.WalkStage.TheVariants as walk
use Rattle.mv_core.proofs.FactTerms.{stamp_of, IsHeldOrAborted, BelowIsStamped, IsPastHelp, MasterServes, IsRightFor, MayStandAt, StandsRight}
use Rattle.mv_core.proofs.FactTerms.{WalkerPlace, IsBeforeDeath, WalkerBeforeDeath, WalkerKnowledge, WalkerFalls, WalkerLate, Facts}
use Rattle.mv_core.proofs.history.Latest.{latest_at-latest, latest-le}
use Rattle.mv_core.proofs.history.Longer.{new_time, latest_at-longer, words_of-longer}
use Rattle.mv_core.proofs.kinds.naming.entry.CommittedLogs as logs
use Rattle.mv_core.proofs.kinds.naming.entry.CommittedLogs.{new_note}
use Rattle.mv_core.proofs.kinds.naming.entry.NewEntry.{link_not_held}

module _ {starts : State → Type 0} {allows : List ℕ → State → Writes → Type 0} {c : Config} {start : State} {m : Memory} {h : List Entry} {f : ViewParts}
    (k : Facts starts allows c start m h f) (n : ℕ) (e : Entry) where
  abbrev t : ℕ
  t = new_time c.base h e

  abbrev later : List Entry
  later = h ++ e ∷ []

  abbrev rings : ℕ → Ring
  rings = logs.after f.ring n t

  abbrev master : ℕ → ℕ → ℕ
  master o w = m (Master o w)

  abbrev stamp : ℕ → ℕ → ℕ
  stamp s j = m (Stamp s j)

  -- no section's time is the new one
  pub section_old : (s u : ℕ) → f.time s ≡ Some u → u ≤ c.base + length h
  section_old s u at =
      let seen = k.phases_and_scan.seen s u at in let front = (k.history.seats s).seen in let long : length h ≡ length (f.past s).seen + length front.0 =
      ap length front.1 ∙ length-append (f.past s).seen front.0 in omega arith

  -- the version that a link names was named before
  pub was_named : (link : ℕ) (x : Version) (st : WriteSetStatus) → (a : Names rings link x st)
      → (old : WriteSetStatus) × (b : Names f.ring link x old) × (b.seat ≡ a.seat)
      × ((old ≡ st) ⊎ ((a.seat ≡ n) × (old ≡ Held) × (st ≡ Committed (new_note t x))))
  was_named link x st a =
      let r = logs.was f.ring n t a.seat a.slot x st a.lives in
      (r.old, record { seat = a.seat; slot = a.slot; lives = r.lives; is = a.is }, refl, r.how)

  master_serves : (u o : ℕ) → u ≤ c.base + length h → MasterServes c start h master f.ring u o → MasterServes c start later master rings u o
  master_serves u o le r =
      let last = latest_at-longer c.base h e o u le in
      let most = latest_at-latest c.base h o u in
      let top = latest-le c.base h o in (
        subst (AreThe (master o)) (sym (words_of-longer c start h e u o le)) r.0,
        subst (NoneUncut rings o) (sym last) (logs.still_none_uncut f.ring n t o (latest_at c.base h o u) (λ is. omega arith) r.1),
      )

  right_for : (u : ℕ) (x : Version) (note : CommitNote) → u ≤ c.base + length h → IsRightFor c h u x note → IsRightFor c later u x note
  right_for u x note le = ⊎_elim inl (λ is. inr (is ∙ sym (latest_at-longer c.base h e x.object u le)))

  -- where a walk may stand it may stand afterwards
  may_stand : (u link : ℕ) (x : Version) (st : WriteSetStatus) → u ≤ c.base + length h → Names f.ring link x st → MayStandAt c start h master f.ring u x st
      → (new : WriteSetStatus) × Names rings link x new × MayStandAt c start later master rings u x new
  may_stand u link x (Committed note) le a may = (Committed note, logs.still_named f.ring n t link x note a, right_for u x note le may)
  may_stand u link x (Aborted dead) le a may = (
    Aborted dead,
    record { seat = a.seat; slot = a.slot; lives = logs.still_aborted f.ring n t a.seat a.slot x dead a.lives; is = a.is },
    ⊎_elim (λ g. inl (g.0, master_serves u x.object le g.1))
        (λ b. inr (b.0, b.1, logs.still_named f.ring n t x.previous b.0 b.1 b.2, b.3, right_for u b.0 b.1 le b.4)) may,
  )
  may_stand u link x Held le a may =
      ⊎_elim
      (λ held. (Held, record { seat = a.seat; slot = a.slot; lives = held; is = a.is }, tt))
      (λ new. (Committed (new_note t x), record { seat = a.seat; slot = a.slot; lives = new; is = a.is }, inl (omega arith)))
      (logs.held_becomes f.ring n t a.seat a.slot x a.lives)

  stands : (u : ℕ) (y : WalkStage) → u ≤ c.base + length h → StandsRight c start h master f.ring u y → StandsRight c start later master rings u y
  stands u walk.Nowhere le r = tt
  stands u (walk.Master o) le r = master_serves u o le r
  stands u (walk.At stand) le r = let a = may_stand u stand.link r.0 r.1 le r.2 r.4 in (r.0, a.0, a.1, r.3, a.2)

  pub places_after : WalkerPlace c start later master f.time f.walk rings
  places_after s u at = stands u (f.walk s) (section_old s u at) (k.walker_place s u at)

  -- a new commit has no death noted
  before_death : (u : ℕ) (x : Version) (old st : WriteSetStatus) (seat : ℕ) → IsBeforeDeath u old
      → (old ≡ st) ⊎ ((seat ≡ n) × (old ≡ Held) × (st ≡ Committed (new_note t x))) → IsBeforeDeath u st
  before_death u x old st seat before =
      ⊎_elim (λ same. subst (IsBeforeDeath u) same before)
      (λ new. subst (IsBeforeDeath u) (sym new.2)
      (let none : IsBeforeDeath u (Committed (new_note t x)) = λ dead is. let some : None ≡ Some dead = is in absurd cc in none))

  pub deaths_after : WalkerBeforeDeath f.time f.walk rings
  deaths_after = record {
    here = λ s u stand x st at stands a. let b =
        was_named stand.link x st a in before_death u x b.0 st a.seat (k.walker_before_death.here s u stand x b.0 at stands b.1) b.3;
    below = λ s u stand x y dead st at stands a below.
        let b = was_named x.previous y st below in
        let aborted : Names f.ring stand.link x (Aborted dead) =
        record { seat = a.seat; slot = a.slot; lives = logs.was_aborted f.ring n t a.seat a.slot x dead a.lives; is = a.is } in
        before_death u y b.0 st below.seat (k.walker_before_death.below s u stand x y dead b.0 at stands aborted b.1) b.3;
  }

  -- a commit that a link names was one before, or is new
  pub was_commit : (link : ℕ) (x : Version) (note : CommitNote) → (a : Names rings link x (Committed note))
      → Names f.ring link x (Committed note) ⊎ ((a.seat ≡ n) × (note ≡ new_note t x))
  was_commit link x note a =
      ⊎_elim (λ old. inl (record { seat = a.seat; slot = a.slot; lives = old; is = a.is })) (λ new. inr (new.0, new.2))
      (logs.was_committed f.ring n t a.seat a.slot x note a.lives)

  module _ (section : ℕ → Option OwnSection) (helped : (s : ℕ) (inside : OwnSection) → section s ≡ Some inside → f.walk s ≢ walk.Nowhere
      → IsPastHelp (f.clocks s) inside) where
    pub knowledge_after : WalkerKnowledge section f.time f.clocks f.walk rings
    knowledge_after = record {
      helped = helped;
      first = λ s first stand x st stands is a. let b = was_named stand.link x st a in k.walker_knowledge.first s first stand x b.0 stands is b.1;
      stamp = λ s found stand x st stands is low a.
          let b = was_named stand.link x st a in
          let r = k.walker_knowledge.stamp s found stand x b.0 stands is low b.1 in
          ⊎_elim
          (λ same. (r.0, sym same ∙ r.1, r.2))
          (λ new. let other : Held ≡ Committed r.0 = sym new.1 ∙ r.1 in absurd cc)
          b.3;
      unset = λ s u found stand x note at stands is unset a.
          ⊎_elim
          (λ old. k.walker_knowledge.unset s u found stand x note at stands is unset old)
          (λ new. let time_is : note.time ≡ t = ap (λ (d : CommitNote). d.time) new.1 in let le = section_old s u at in omega arith)
          (was_commit stand.link x note a);
    }

  pub falls_after : WalkerFalls c stamp f.walk rings
  falls_after = record {
    stamped = λ s stand x st stands passed a.
        let b = was_named stand.link x st a in
        let r = k.walker_falls.stamped s stand x b.0 stands passed b.1 in
        ⊎_elim
        (λ same. (r.0, sym same ∙ r.1, subst (λ (u : ℕ). stamp_of c stamp u x ≡ r.0.time) b.2 r.2, r.3))
        (λ new. let other : Held ≡ Committed r.0 = sym new.1 ∙ r.1 in absurd cc)
        b.3;
    found = k.walker_falls.found;
  }

  pub lates_after : WalkerLate f.time f.walk rings
  lates_after s u stand x note at stands late a =
      ⊎_elim
      (λ old. k.walker_late s u stand x note at stands late old)
      (λ new. let time_is : note.time ≡ t = ap (λ (d : CommitNote). d.time) new.1 in let le = section_old s u at in omega arith)
      (was_commit stand.link x note a)

  pub below_after : BelowIsStamped c stamp rings
  below_after s j x st lives fate y note below =
      let before = logs.was_uncommitted f.ring n t s j x st lives (λ d is. subst IsHeldOrAborted is fate) in
      let r = logs.was f.ring n t below.seat below.slot y (Committed note) below.lives in
      ⊎_elim
      (λ same. k.below_is_stamped s j x st before fate y note
      (record {
        seat = below.seat;
        slot = below.slot;
        lives = subst (λ (d : WriteSetStatus). Lives f.ring below.seat below.slot y d) same r.lives;
        is = below.is;
      }))
      (λ new. absurd
      (link_not_held k n e s j x y st before
      (record {
        seat = below.seat;
        slot = below.slot;
        lives = subst (λ (d : WriteSetStatus). Lives f.ring below.seat below.slot y d) new.1 r.lives;
        is = below.is;
      })))
      r.how
