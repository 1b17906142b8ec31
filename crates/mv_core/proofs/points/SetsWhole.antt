-- Each write set in a log is a run of positions with one fate.
use Rattle.std.proofs.Common.{◌≡◌, ◌⊎◌, ℕ, ◌+◌, ◌-◌, ◌<◌, ◌≤◌, List, sym, refl, ap, ◌∙◌, subst, inl, inr, ⊎_elim, arith, Option}
use Rattle.std.proofs.lemmas.Option.{slice_get_within}
use Rattle.mv_core.proofs.Terms.{dite, dec_le, State, Writes, Entry, Config, Memory, Version, WriteSetStatus, Held, Aborted, Committed, CommitNote, Knowledge}
use Rattle.mv_core.proofs.Terms.{Mode, Open, Aborting, Named, slot_at, index_of, Lives, InUse, ViewParts, parts_of, IsUnnamed}
use Rattle.mv_core.proofs.FactTerms.{CommitOf, InHeldSet, IsHeldOrAborted, Facts}
use Rattle.mv_core.specs.WholeSets.{HaveOneFate, IsAborted, HeldIs, AbortedIs, GoesOnWith, SetsAreWhole}
use Rattle.mv_core.proofs.logs.Links.{live_once, note_once, position_once}

-- a section that has named nothing is open or aborting
unnamed_mode : (mode : Mode) → IsUnnamed mode → (mode ≡ Open) ⊎ (mode ≡ Aborting)
unnamed_mode Open un = inl refl
unnamed_mode Aborting un = inr refl
unnamed_mode (Named n) un = absurd un

-- what isn't committed is held or aborted
held_or : {A : Type 0} (st : WriteSetStatus) → IsHeldOrAborted st → A → (st ≡ Held) ⊎ (IsAborted st × A)
held_or Held known a = inl refl
held_or (Aborted dead) known a = inr (tt, a)
held_or (Committed note) known a = absurd known

module _ {starts : State → Type 0} {allows : List ℕ → State → Writes → Type 0} {c : Config} {start : State} {m : Memory} {h : List Entry}
    (seats : ℕ → Knowledge)
    (k : Facts starts allows c start m h (parts_of seats)) where
  abbrev f : ViewParts
  f = parts_of seats

  -- the set of a commit has a first version, of its time
  first_of : (s : ℕ) (x : Version) (note : CommitNote) → CommitOf c h f.ring s x note
      → (y : Version) × (other : CommitNote) × Lives f.ring s (index_of c (x.first + 0)) y (Committed other) × (other.time ≡ note.time)
  first_of s x note o =
      let some = slice_get_within o.commit.writes (x.position - x.first) (x.object, x.words) o.write in
      let a = o.all 0 (omega arith) in
      (a.0, a.1, a.2, a.5)

  -- so the versions of one set were committed at one time
  one_time : (s i l : ℕ) (x y : Version) (note other : CommitNote) → Lives f.ring s i x (Committed note) → Lives f.ring s l y (Committed other)
      → y.first ≡ x.first → other.time ≡ note.time
  one_time s i l x y note other a b same =
      let p = first_of s x note (k.write_sets.commit s i x note a) in
      let q = first_of s y other (k.write_sets.commit s l y other b) in
      let there : Lives f.ring s (index_of c (x.first + 0)) q.0 (Committed q.1) =
      subst (λ (u : ℕ). Lives f.ring s (index_of c (u + 0)) q.0 (Committed q.1)) same q.2 in
      let one = live_once (slot_at (f.ring s) (index_of c (x.first + 0))) p.0 q.0 (Committed p.1) (Committed q.1) p.2 there in
      sym q.3 ∙ ap (λ (n : CommitNote). n.time) (sym (note_once p.1 q.1 one.1)) ∙ p.3

  pub one_fate : (s i l : ℕ) (x y : Version) (st su : WriteSetStatus) → Lives f.ring s i x st → Lives f.ring s l y su → y.first ≡ x.first → HaveOneFate st su
  one_fate s i l x y (Committed note) (Committed other) a b same = one_time s i l x y note other a b same
  one_fate s i l x y (Committed note) Held a b same = absurd (k.write_sets.apart s l i y x Held note b tt a same)
  one_fate s i l x y (Committed note) (Aborted dead) a b same = absurd (k.write_sets.apart s l i y x (Aborted dead) note b tt a same)
  one_fate s i l x y Held (Committed other) a b same = absurd (k.write_sets.apart s i l x y Held other a tt b (sym same))
  one_fate s i l x y (Aborted dead) (Committed other) a b same = absurd (k.write_sets.apart s i l x y (Aborted dead) other a tt b (sym same))
  one_fate s i l x y Held Held a b same = tt
  one_fate s i l x y Held (Aborted dead) a b same = tt
  one_fate s i l x y (Aborted dead) Held a b same = tt
  one_fate s i l x y (Aborted dead) (Aborted other) a b same = tt

  -- each position from the first of a set on has a version of it
  runs : (s i : ℕ) (x : Version) (st : WriteSetStatus) → Lives f.ring s i x st → (p : ℕ) → x.first ≤ p → p ≤ x.position
      → InHeldSet c f.ring s x.first p (HaveOneFate st)
  runs s i x st lives p from to =
      let a = k.write_sets.between s i x st lives p from to in
      record {
        version = a.version;
        status = a.status;
        lives = a.lives;
        position_is = a.position_is;
        first_is = a.first_is;
        known = one_fate s i (index_of c p) x a.version st a.status lives a.lives a.first_is;
      }

  -- a version of a set that begins at or before the position of another one there is of its set
  of_set : (s i l : ℕ) (x y : Version) (st su : WriteSetStatus) → Lives f.ring s i x st → Lives f.ring s l y su → y.first ≤ x.position → x.position ≤ y.position
      → y.first ≡ x.first
  of_set s i l x y st su a b from to =
      let z = k.write_sets.between s l y su b x.position from to in
      let one = position_once c h f.ring k.checked k.history.in_time k.positions s (index_of c x.position) i z.version x z.status st z.lives a z.position_is in
      sym z.first_is ∙ ap (λ (v : Version). v.first) one.1

  -- and what comes after a version is of its set or begins another
  goes_on : (s i : ℕ) (x : Version) (st : WriteSetStatus) → Lives f.ring s i x st → x.position + 1 < (f.ring s).next → GoesOnWith c f s x
  goes_on s i x st lives more =
      let here : Lives f.ring s (index_of c x.position) x st = subst (λ (j : ℕ). Lives f.ring s j x st) (sym (k.positions.live s i x st lives).0) lives in
      let used : InUse f.ring c s x.position = inl (x, st, here, refl) in
      ⊎_elim
      (λ a.
      let at : a.0.position ≡ x.position + 1 = a.3 in
      let low = k.write_sets.after_first s (index_of c (x.position + 1)) a.0 a.1 a.2 in
      record {
        version = a.0;
        status = a.1;
        lives = a.2;
        position_is = at;
        set_is = dite (dec_le a.0.first x.position)
            (λ le. inl (of_set s i (index_of c (x.position + 1)) x a.0 st a.1 lives a.2 le (omega arith)))
            (λ gt. inr (omega arith));
      })
      (λ b. let lt = (k.positions.oldest s (index_of c (x.position + 1)) (x.position + 1) b.0 b.1).1 i x st lives in absurd (omega arith))
      (k.positions.no_gap s x.position (x.position + 1) used (omega arith) more)

  held : (s i : ℕ) (x : Version) → Lives f.ring s i x Held → HeldIs c m f s x
  held s i x lives =
      let o = k.open_section.held s i x lives in
      let mode = unnamed_mode o.0.mode o.2 in
      record {
        inside = o.0;
        in_section = o.1;
        mode = mode;
        top = k.head_is_top.held s i x lives;
        all = λ p from below.
            ⊎_elim
            (λ opens.
            let a = k.open_section.whole s i x o.0 lives o.1 opens p from below in
            record { version = a.version; status = a.status; lives = a.lives; position_is = a.position_is; first_is = a.first_is; known = inl a.known })
            (λ aborts.
            let a = k.write_sets.held s i x lives p from below in
            record {
              version = a.version;
              status = a.status;
              lives = a.lives;
              position_is = a.position_is;
              first_is = a.first_is;
              known = held_or a.status a.known aborts;
            })
            mode;
      }

  aborted : (s i : ℕ) (x : Version) (dead : Option ℕ) → Lives f.ring s i x (Aborted dead) → AbortedIs f s x
  aborted s i x dead lives l y (Aborted other) there same = inl tt
  aborted s i x dead lives l y (Committed note) there same = absurd (k.write_sets.apart s i l x y (Aborted dead) note lives tt there (sym same))
  aborted s i x dead lives l y Held there same =
      let o = k.open_section.held s l y there in
      ⊎_elim
      (λ opens.
      let after = k.write_sets.after_first s i x (Aborted dead) lives in
      let a = k.open_section.whole s l y o.0 there o.1 opens x.position (omega arith) (k.positions.live s i x (Aborted dead) lives).1 in
      let one = position_once c h f.ring k.checked k.history.in_time k.positions s (index_of c x.position) i a.version x a.status (Aborted dead) a.lives
      lives a.position_is in
      let clash : Held ≡ Aborted dead = sym a.known ∙ one.2 in
      absurd cc)
      (λ aborts. inr (refl, (o.0, o.1, aborts)))
      (unnamed_mode o.0.mode o.2)

  pub sets_are_whole : SetsAreWhole c m f
  sets_are_whole = record {
    begins = λ s i x st lives. (k.write_sets.after_first s i x st lives, runs s i x st lives);
    goes_on = goes_on;
    one_fate = one_fate;
    held = held;
    aborted = aborted;
  }
