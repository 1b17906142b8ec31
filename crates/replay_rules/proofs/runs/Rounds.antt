-- How a tidy goes on: it frees what is dead, scans, looks at the versions that have no time of death, makes a rest, or ends.
use Rattle.std.proofs.Common.{◌≡◌, ◌≢◌, ◌⊎◌, ℕ, ◌+◌, ◌-◌, ◌<◌, ◌≤◌, ◌==◌, ◌&&◌, ◌||◌, nat_le, ltb, not, List, length, Bool, true, false, Some, None}
use Rattle.std.proofs.Common.{refl, sym, ap, ◌∙◌, subst, arith, inl, inr, eqb-true, eq-eqb, lt-ltb, if◌then◌else◌}
use Rattle.std.proofs.lemmas.Bool.{cases_lt, lt-leb}
use Rattle.std.specs.Prelude.{slice_get}
use Rattle.mv_core.proofs.Terms.{Config}
use Rattle.mv_core.specs.declared.ring.CommitNote.{CommitNote}
use Rattle.mv_core.specs.declared.ring.Slot.TheVariants.{Live}
use Rattle.mv_core.specs.declared.ring.WriteSetStatus.{WriteSetStatus}
use Rattle.mv_core.specs.declared.ring.WriteSetStatus.TheVariants.{Held, Aborted, Committed}
use Rattle.mv_core.specs.declared.view.Knowledge.{Knowledge}
use Rattle.mv_core.specs.Rings.{slot_at, index_of}
use Rattle.seat_log.specs.declared.version.Note.{Note}
use Rattle.seat_log.specs.Notes.{Noted, IsNoteAt, held_from}
use Rattle.seat_log.specs.Stands.{version_of, death_of, IsAsNoted, Stands}
use Rattle.seat_log.specs.Frees.{IsDeadNote, FreesSet}
use Rattle.seat_log.proofs.FreedLogs.{none_freed}
use Rattle.seat_log.proofs.Places.{get_within}
use Rattle.replay_rules.specs.declared.plan.Call.TheVariants.{Tidy}
use Rattle.replay_rules.specs.declared.seats.NotedVersion.{NotedVersion}
use Rattle.replay_rules.specs.declared.seats.Sweep.{Sweep}
use Rattle.replay_rules.specs.declared.seats.State.{State}
use Rattle.replay_rules.specs.declared.seats.Ending.TheVariants as finish
use Rattle.replay_rules.specs.declared.seats.Sweeping.TheVariants.{LoadGrace, Free, LoadScan, LoadSuper}
use Rattle.replay_rules.specs.declared.seats.NextStep.TheVariants.{EndsSection, Tidies}
use Rattle.replay_rules.specs.declared.seats.Then.{Then}
use Rattle.replay_rules.specs.declared.seats.Then.TheVariants.{Goes}
use Rattle.replay_rules.specs.declared.seats.Test.TheVariants.{IsUntimed, EndsSet}
use Rattle.replay_rules.specs.SeatNotes.{version_at, live, dead_count, first_from}
use Rattle.replay_rules.specs.Sweeps.{rest_is_due, tidied, after_frees, free, settle}
use Rattle.replay_rules.proofs.runs.Notes.{note_of}
use Rattle.replay_rules.proofs.runs.Sections.{IsNoted, Logs, RestsAt, IsSwept}
use Rattle.replay_rules.proofs.runs.Standing.{GoesSo, by_step, by_end}
use Rattle.replay_rules.proofs.runs.Known.{if_so, eqb_ne, ltb_lt, ltb_ge}
use Rattle.replay_rules.proofs.runs.LogFacts.{noted_long, noted_at, noted_from}
use Rattle.replay_rules.proofs.runs.Searches.{first_within, first_after, first_before, first_there}

-- a note of the log is of the version at its place
pub note_is : (c : Config) (l : Noted) (log : List NotedVersion) (freed from i : ℕ) (m : Note) → IsNoted c l log freed from → IsNoteAt l i m
    → (i + freed < length log) × (m ≡ note_of (i + freed) (version_at log (i + freed)))
note_is c l log freed from i m is at =
    let long = noted_long c l log freed from is in
    let lt = get_within l.live i m at in
    let within : i + freed < length log = omega (arith, long, lt) in
    let place : i + freed - freed ≡ i = omega arith in
    let both : Some m ≡ Some (note_of (i + freed) (version_at log (i + freed))) =
    sym at ∙ ap (λ p. slice_get l.live p) (sym place) ∙ noted_at c l log freed from (i + freed) is (omega arith) within in
    (within, cc)

-- a version that doesn't end the set is of it, and dead by the time
unended : (first dead oldest time : ℕ) → (not (first == oldest) || (dead == 0 || ltb time dead)) ≡ false → (first ≡ oldest) × (0 < dead) × (dead ≤ time)
unended first dead oldest time e = go (first == oldest) refl (dead == 0) refl (ltb time dead) refl e
  where
    go : (a : Bool) → (first == oldest) ≡ a → (b : Bool) → (dead == 0) ≡ b → (d : Bool) → ltb time dead ≡ d → (not a || (b || d)) ≡ false
        → (first ≡ oldest) × (0 < dead) × (dead ≤ time)
    go false p b q d r e = absurd (cc)
    go true p true q d r e = absurd (cc)
    go true p false q true r e = absurd (cc)
    go true p false q false r e = (eqb-true first oldest p, (let ne = eqb_ne dead 0 q in omega (arith, ne)), ltb_ge time dead r)

module _ (c : Config) (l : Noted) (v : Knowledge) (log : List NotedVersion) (freed from t : ℕ) (stands : Stands c v l) (is : IsNoted c l log freed from) where
  abbrev end : ℕ
  end = first_from log freed (EndsSet freed t)

  -- so many versions, the first ones, are the oldest write set, and dead by a time
  pub frees_set : (k : ℕ) → 0 < k → k ≡ end - freed → ((end < length log) → (version_at log end).first ≢ freed) → FreesSet l t k
  frees_set k some k_is other =
      let gone = is.gone in
      let long = noted_long c l log freed from is in
      let low = first_after log freed (EndsSet freed t) is.within in
      let high = first_within log freed (EndsSet freed t) is.within in
      let before : (i : ℕ) (m : Note) → IsNoteAt l i m → i < k → (m.first ≡ freed) × IsDeadNote t m =
      λ i m at lt.
      let one = note_is c l log freed from i m is at in
      let u = unended (version_at log (i + freed)).first (version_at log (i + freed)).dead freed t
      (first_before log freed (EndsSet freed t) (i + freed) (omega arith) (omega (arith, lt, k_is, low)) one.0) in
      subst (λ (x : Note). (x.first ≡ freed) × IsDeadNote t x) (sym one.1) (u.0, (u.1, u.2)) in
      let behind : (i : ℕ) (m : Note) → IsNoteAt l i m → k ≤ i → m.first ≢ freed =
      λ i m at ge first.
      let one = note_is c l log freed from i m is at in
      let inside : end < length log = (let w = one.0 in omega (arith, w, ge, k_is, low)) in
      let there = noted_at c l log freed from end is low inside in
      let run = stands.log.notes.run i (end - freed) m (note_of end (version_at log end)) at there (omega (arith, first, low)) (omega (arith, ge, k_is)) in
      other inside (run ∙ first) in
      inl (
        (λ i m at first. oldest_dead i m at (first ∙ gone) before behind),
        record {
          few = omega (arith, k_is, high, long, low);
          inside = λ i m at lt. (before i m at lt).0 ∙ sym gone;
          outside = λ i m at ge first. behind i m at ge (first ∙ gone);
        },
      )
    where
      oldest_dead : (i : ℕ) (m : Note) → IsNoteAt l i m → m.first ≡ freed
          → ((i : ℕ) (m : Note) → IsNoteAt l i m → i < k → (m.first ≡ freed) × IsDeadNote t m)
          → ((i : ℕ) (m : Note) → IsNoteAt l i m → k ≤ i → m.first ≢ freed) → IsDeadNote t m
      oldest_dead i m at first before behind = go (cases_lt i k)
        where
          go : (i < k) ⊎ (k ≤ i) → IsDeadNote t m
          go (inl lt) = (before i m at lt).1
          go (inr ge) = absurd (behind i m at ge first)

-- a version that has no time of death is committed, where nothing is held
module _ (c : Config) (v : Knowledge) (log : List NotedVersion) (freed from : ℕ) (logs : Logs c v log freed from) (none : from ≡ length log) (at : ℕ)
    (low : freed ≤ at) (inside : at < length log) (alive : (version_at log at).dead ≡ 0) where
  abbrev m : Note
  m = note_of at (version_at log at)

  pub is_note : IsNoteAt logs.noted (at - freed) (note_of at (version_at log at))
  is_note = noted_at c logs.noted log freed from at logs.is low inside

  pub untimed : (note : CommitNote) × (slot_at v.ring (index_of c at) ≡ Live (version_of (note_of at (version_at log at))) (Committed note))
      × (note.time ≡ (version_at log at).time) × (note.dead ≡ None) × (note.cut ≡ false)
  untimed =
      let l = logs.noted in
      let h = logs.stands.live (at - freed) m is_note in
      let gone = logs.is.gone in
      let starts = noted_from c l log freed from logs.is logs.stands.log.held in
      let place : l.freed + (at - freed) ≡ at = omega (arith, gone, low) in
      let later : nat_le (held_from l) (at - freed) ≡ false = lt-leb (held_from l) (at - freed) (omega (arith, starts, none, inside, low)) in
      let lives : slot_at v.ring (index_of c at) ≡ Live (version_of m) h.status = ap (λ p. slot_at v.ring (index_of c p)) (sym place) ∙ h.lives in
      go h.status lives (subst (λ b. IsAsNoted b m h.status) later h.as_noted)
    where
      go : (st : WriteSetStatus) → slot_at v.ring (index_of c at) ≡ Live (version_of (note_of at (version_at log at))) st
          → IsAsNoted false (note_of at (version_at log at)) st
          → (note : CommitNote) × (slot_at v.ring (index_of c at) ≡ Live (version_of (note_of at (version_at log at))) (Committed note))
          × (note.time ≡ (version_at log at).time) × (note.dead ≡ None) × (note.cut ≡ false)
      go Held lives a = let f = a.0 in absurd (cc)
      go (Aborted dead) lives a = let some = a.2 in absurd (omega (arith, some, alive))
      go (Committed note) lives a = (note, lives, sym a.2, a.3 ∙ ap death_of alive, a.4 alive)

module _ (c : Config) (n : ℕ) (v : Knowledge) (log : List NotedVersion) (freed from : ℕ) (sweep : Sweep) (scans : v.scan ≡ None)
    (rests : RestsAt c v log freed from None)
  where
    abbrev state : State
    state = record { seat = n; time = None; from = from; freed = freed; call = Tidy; sweep = sweep }

    abbrev So : Then → Type 0
    So = GoesSo c n v log freed from None Tidy sweep

    -- behind the frees of a round
    frees_so : So (after_frees log state)
    frees_so =
        if_so So (not sweep.swept && ltb 0 (live log state)) (Goes (Tidies LoadScan))
        (if sweep.again then tidied log state
        else (if rest_is_due log state then Goes (EndsSection finish.LoadNow) else Goes (Tidies (LoadGrace true))))
        (λ e. by_step (Tidies LoadScan) refl ((rests, refl), refl))
        (λ e. if_so So sweep.again (tidied log state) (if rest_is_due log state then Goes (EndsSection finish.LoadNow) else Goes (Tidies (LoadGrace true)))
        (λ again. by_end _ refl rests)
        (λ first. if_so So (rest_is_due log state) (Goes (EndsSection finish.LoadNow)) (Goes (Tidies (LoadGrace true)))
        (λ due. by_step (EndsSection finish.LoadNow) refl (inr (rests, refl, refl)))
        (λ else_so. by_step (Tidies (LoadGrace true)) refl ((rests, refl), refl))))

    -- the oldest write set is freed where it is dead
    pub free_so : sweep.bound ≤ v.grace → So (free log state)
    free_so bounded =
        let t = sweep.bound in
        let test = EndsSet freed t in
        let last = first_from log freed test in
        let left = dead_count log state t in
        let logs = rests.2 in
        if_so So (left == 0) (after_frees log state) (Goes (Tidies (Free freed left)))
        (λ none. frees_so)
        (λ some.
        let ne = eqb_ne left 0 some in
        let k = counted (ltb last (length log) && ((version_at log last).first == freed)) refl ne in
        by_step (Tidies (Free freed left)) refl (
          (
            record {
              before = v;
              noted = logs.noted;
              stands = logs.stands;
              first = freed;
              is = logs.is;
              outside = rests.0;
              scans = scans;
              nothing = rests.1;
              done = 0;
              all = left;
              frees = frees_set c logs.noted v log freed from t logs.stands logs.is left (omega (arith, ne)) k.0 k.1;
              bounded = bounded;
              view_is = none_freed c v freed;
              freed_is = omega arith;
              at_is = refl;
              left_is = omega arith;
              some = omega (arith, ne);
              outside_now = rests.0;
              bounded_now = bounded;
            },
            refl,
          ),
          refl,
        ))
      where
        counted : (b : Bool)
            → (ltb (first_from log freed (EndsSet freed sweep.bound)) (length log)
            && ((version_at log (first_from log freed (EndsSet freed sweep.bound))).first == freed)) ≡ b
            → (if b then 0 else first_from log freed (EndsSet freed sweep.bound) - freed) ≢ 0
            → ((if b then 0 else first_from log freed (EndsSet freed sweep.bound) - freed) ≡ first_from log freed (EndsSet freed sweep.bound) - freed)
            × ((first_from log freed (EndsSet freed sweep.bound) < length log)
            → (version_at log (first_from log freed (EndsSet freed sweep.bound))).first ≢ freed)
        counted true e ne = absurd (ne refl)
        counted false e ne = (
          refl,
          λ inside same.
              let one : ltb (first_from log freed (EndsSet freed sweep.bound)) (length log) ≡ true = lt-ltb _ _ inside in
              let two : ((version_at log (first_from log freed (EndsSet freed sweep.bound))).first == freed) ≡ true = eq-eqb _ _ same in
              let both = ap (λ x. x && ((version_at log (first_from log freed (EndsSet freed sweep.bound))).first == freed)) one in
              absurd (let f : true ≡ false = sym two ∙ sym both ∙ e in cc),
        )

    -- the next version that has no time of death is looked at
    pub settle_so : IsSwept v.grace sweep → (start : ℕ) → freed ≤ start → start ≤ length log → So (settle log state (first_from log start IsUntimed))
    settle_so swept start low within =
        let at = first_from log start IsUntimed in
        let after = first_after log start IsUntimed within in
        if_so So (ltb at (length log)) (Goes (Tidies (LoadSuper at))) (free log state)
        (λ e.
        let inside = ltb_lt at (length log) e in
        by_step (Tidies (LoadSuper at)) refl
        ((rests, refl, swept, omega (arith, low, after), inside, eqb-true (version_at log at).dead 0 (first_there log start IsUntimed within inside)), refl))
        (λ e. free_so swept.0)
