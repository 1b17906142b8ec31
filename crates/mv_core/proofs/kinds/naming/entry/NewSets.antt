-- One more entry, of what its seat holds: the slots, the positions, the write sets, and what is noted of dead and cut versions.
use Rattle.std.proofs.Common.{◌≡◌, ◌≢◌, ℕ, ◌+◌, ◌*◌, ◌<◌, ◌≤◌, true, false, List, [], ◌∷◌, ◌++◌, length}
use Rattle.std.proofs.Common.{refl, sym, ap, ◌∙◌, subst, inl, inr, ⊎_elim, arith, mul-le-mul, length-append, Option, Some, None}
use Rattle.mv_core.proofs.Terms.{Entry, Change, State, Writes, Config, First, Stamp, Prev, Data, Memory, clock_of, unset_of, Ring, Slot, Free, Built}
use Rattle.mv_core.proofs.Terms.{Live, Freeing, Version, WriteSetStatus, Held, Aborted, Committed, CommitNote, Past, index_of, Lives, ViewParts}
use Rattle.mv_core.proofs.FactTerms.{HoldsSlot, SlotWords, StampedAs, stamp_of, Stamps, CommitOf, InHeldSet, IsHeldOrAborted, WriteSets, Positions}
use Rattle.mv_core.proofs.FactTerms.{Deaths, DeathSeen, DeathsSeen, DeathAfterWrite, CutIsOld, PositionsAndGrace, Facts}
use Rattle.mv_core.specs.NameSteps.{committed_slot}
use Rattle.mv_core.proofs.frames.Matching.{SameVersion, version_place}
use Rattle.mv_core.proofs.frames.InPlace.{PlaceFacts, place_facts}
use Rattle.mv_core.proofs.history.Longer.{new_time, longer_long, entry-longer, next_write-longer}
use Rattle.mv_core.proofs.kinds.naming.entry.CommittedLogs as logs
use Rattle.mv_core.proofs.kinds.naming.entry.CommittedLogs.{new_note}
use Rattle.mv_core.proofs.kinds.naming.entry.NewEntry.{old_time}
use Rattle.mv_core.proofs.logs.SeenDeaths.{none_noted, seen_later}

-- the words of a slot are those of its version, held or committed
held_words : (t first prev : ℕ) (data_word : ℕ → ℕ) (slot : Slot) → HoldsSlot first prev data_word slot → HoldsSlot first prev data_word (committed_slot t slot)
held_words t first prev data_word Free k = k
held_words t first prev data_word (Built b) k = k
held_words t first prev data_word (Freeing p g) k = k
held_words t first prev data_word (Live x Held) k = k
held_words t first prev data_word (Live x (Aborted d)) k = k
held_words t first prev data_word (Live x (Committed note)) k = k

module _ {starts : State → Type 0} {allows : List ℕ → State → Writes → Type 0} {c : Config} {start : State} {m : Memory} {h : List Entry} {f : ViewParts}
    (k : Facts starts allows c start m h f) (n : ℕ) (e : Entry) where
  abbrev t : ℕ
  t = new_time c.base h e

  abbrev later : List Entry
  later = h ++ e ∷ []

  abbrev rings : ℕ → Ring
  rings = logs.after f.ring n t

  abbrev stamp : ℕ → ℕ → ℕ
  stamp s j = m (Stamp s j)

  pub words_after : SlotWords (λ s j. m (First s j)) (λ s j. m (Prev s j)) (λ s j w. m (Data s j w)) rings
  words_after = logs.all_slots f.ring n t (λ s j slot. HoldsSlot (m (First s j)) (m (Prev s j)) (λ w. m (Data s j w)) slot)
      (λ s j slot. held_words t (m (First s j)) (m (Prev s j)) (λ w. m (Data s j w)) slot) k.slot_words

  -- each commit of before is stamped, so those of the new entry alone are not
  pub stamps_after : (clock : ℕ) → ((s j : ℕ) (x : Version) (note : CommitNote) → Lives f.ring s j x (Committed note) → stamp_of c stamp s x ≡ note.time)
      → ((j : ℕ) (x : Version) → Lives f.ring n j x Held → clock ≡ clock_of t n (index_of c x.first)) → Stamps c clock stamp rings
  stamps_after clock stamped named = record {
    live = live;
    built = λ s j b at. k.stamps.built s j b (logs.was_built f.ring n t s j b at);
  }
    where
      live : (s j : ℕ) (x : Version) (st : WriteSetStatus) → Lives rings s j x st → StampedAs clock s (index_of c x.first) (stamp_of c stamp s x) x.first st
      live s j x Held lives = k.stamps.live s j x Held (logs.was_held f.ring n t s j x lives).1
      live s j x (Aborted dead) lives = k.stamps.live s j x (Aborted dead) (logs.was_aborted f.ring n t s j x dead lives)
      live s j x (Committed note) lives =
          ⊎_elim
          (λ old. inl (stamped s j x note old))
          (λ new.
          let unset : stamp_of c stamp n x ≡ unset_of x.first = k.stamps.live n j x Held new.1 in
          let time_is : t ≡ note.time = ap (λ (d : CommitNote). d.time) (sym new.2) in
          let seat_is = sym new.0 in
          inr (ap (λ (u : ℕ). stamp_of c stamp u x) new.0 ∙ unset, named j x new.1 ∙ (λ i. clock_of (time_is i) (seat_is i) (index_of c x.first))))
          (logs.was_committed f.ring n t s j x note lives)

  -- a commit of before has the writes of its set still
  old_commit : (s : ℕ) (x : Version) (note : CommitNote) → CommitOf c h f.ring s x note → CommitOf c later rings s x note
  old_commit s x note r = record {
    commit = r.commit;
    entry = entry-longer c.base h e note.time (Change r.commit) r.entry;
    seat = r.seat;
    after_first = r.after_first;
    write = r.write;
    all = λ i lt. let a = r.all i lt in (a.0, a.1, logs.still_committed f.ring n t s (index_of c (x.first + i)) a.0 a.1 a.2, a.3, a.4, a.5);
  }

  -- what the new commit owes: its writes, one set, and that no aborted version is of it
  pub record NewSet : Type 0 where
    pub commit : (j : ℕ) (x : Version) → Lives f.ring n j x Held → CommitOf c later rings n x (new_note t x)
    pub one_set : (j l : ℕ) (x y : Version) → Lives f.ring n j x Held → Lives f.ring n l y Held → x.first ≡ y.first
    pub none_aborted : (j l : ℕ) (x y : Version) (dead : Option ℕ) → Lives f.ring n j x Held → Lives f.ring n l y (Aborted dead) → y.first ≢ x.first

  old_other : (s j : ℕ) (x : Version) (note : CommitNote) → Lives f.ring s j x (Committed note) → note.time ≢ t
  old_other s j x note lives is = let le = old_time k n e s j x note lives in omega arith

  pub sets_after : NewSet → WriteSets c later rings
  sets_after new_set = record {
    commit = λ s j x note lives.
        ⊎_elim
        (λ old. old_commit s x note (k.write_sets.commit s j x note old))
        (λ new. let seat_is = sym new.0 in let note_is = sym new.2 in subst (λ (p : ℕ × CommitNote). CommitOf c later rings p.0 x p.1)
        (λ i. (seat_is i, note_is i)) (new_set.commit j x new.1))
        (logs.was_committed f.ring n t s j x note lives);
    once = λ s j l x y a b lx ly same.
        ⊎_elim
        (λ old.
        ⊎_elim (λ old_too. k.write_sets.once s j l x y a b old old_too same)
        (λ new. absurd (old_other s j x a old (same ∙ ap (λ (d : CommitNote). d.time) new.2)))
        (logs.was_committed f.ring n t s l y b ly))
        (λ new.
        ⊎_elim (λ old. absurd (old_other s l y b old (sym same ∙ ap (λ (d : CommitNote). d.time) new.2)))
        (λ new_too. new_set.one_set j l x y new.1 new_too.1)
        (logs.was_committed f.ring n t s l y b ly))
        (logs.was_committed f.ring n t s j x a lx);
    first = λ s j x st lives. let r = logs.was f.ring n t s j x st lives in logs.still_first f.ring n t c s x (k.write_sets.first s j x r.old r.lives);
    after_first = λ s j x st lives. let r = logs.was f.ring n t s j x st lives in k.write_sets.after_first s j x r.old r.lives;
    between = λ s j x st lives p lo hi.
        let w = logs.was f.ring n t s j x st lives in
        let a = k.write_sets.between s j x w.old w.lives p lo hi in
        let b = logs.still_lives f.ring n t s (index_of c p) a.version a.status a.lives in
        record { version = a.version; status = b.0; lives = b.1; position_is = a.position_is; first_is = a.first_is; known = tt };
    apart = apart;
    held = λ s j x lives p lo hi.
        let w = logs.was_held f.ring n t s j x lives in
        let r = k.write_sets.held s j x w.1 p lo (subst (λ (u : ℕ). p < u) (logs.next_same f.ring n t s) hi) in
        held_too s x.first p w.0 r;
  }
    where
      apart : (s j l : ℕ) (x y : Version) (st : WriteSetStatus) (note : CommitNote) → Lives rings s j x st → IsHeldOrAborted st
          → Lives rings s l y (Committed note)
          → x.first ≢ y.first
      apart s j l x y (Committed other) note lx fate ly same = absurd fate
      apart s j l x y Held note lx fate ly same =
          let w = logs.was_held f.ring n t s j x lx in
          ⊎_elim (λ old. k.write_sets.apart s j l x y Held note w.1 tt old same) (λ new. w.0 new.0) (logs.was_committed f.ring n t s l y note ly)
      apart s j l x y (Aborted dead) note lx fate ly same =
          let w = logs.was_aborted f.ring n t s j x dead lx in
          ⊎_elim (λ old. k.write_sets.apart s j l x y (Aborted dead) note w tt old same)
          (λ new. new_set.none_aborted l j y x dead new.1 (subst (λ (u : ℕ). Lives f.ring u j x (Aborted dead)) new.0 w) same)
          (logs.was_committed f.ring n t s l y note ly)

      held_too : (s first p : ℕ) → s ≢ n → InHeldSet c f.ring s first p IsHeldOrAborted → InHeldSet c rings s first p IsHeldOrAborted
      held_too s first p ne r = go r.status r.lives r.known
        where
          go : (st : WriteSetStatus) → Lives f.ring s (index_of c p) r.version st → IsHeldOrAborted st → InHeldSet c rings s first p IsHeldOrAborted
          go Held lives fate =
              record {
                version = r.version;
                status = Held;
                lives = logs.still_held f.ring n t s (index_of c p) r.version ne lives;
                position_is = r.position_is;
                first_is = r.first_is;
                known = tt;
              }
          go (Aborted dead) lives fate =
              record {
                version = r.version;
                status = Aborted dead;
                lives = logs.still_aborted f.ring n t s (index_of c p) r.version dead lives;
                position_is = r.position_is;
                first_is = r.first_is;
                known = tt;
              }
          go (Committed note) lives fate = absurd fate

  place : PlaceFacts c h f rings
  place = place_facts k rings SameVersion version_place (logs.same_versions f.ring n t) (logs.others_stay f.ring n t)

  pub positions_after : Positions c later rings
  positions_after =
      let bound : (s : ℕ) → (rings s).next ≤ c.slots * (length later + 1) = λ s.
      let b = k.positions.bound s in
      let long = length-append h (e ∷ []) in
      let more : c.slots * (length h + 1) ≤ c.slots * (length later + 1) =
      mul-le-mul (let r : c.slots ≤ c.slots = omega arith in r) (let le : length h + 1 ≤ length later + 1 = omega arith in le) in
      let same = logs.next_same f.ring n t s in
      omega arith in
      assumption (bound, place.positions)

  pub deaths_after : Deaths c later rings
  deaths_after = record {
    aborted = λ s j dead x lives. let d = k.deaths.aborted s j dead x (logs.was_aborted f.ring n t s j x (Some dead) lives) in let long =
        longer_long c.base h e in omega arith;
    cut = λ s j dead x note lives cut is.
        ⊎_elim
        (λ old. let d = k.deaths.cut s j dead x note old cut is in let long = longer_long c.base h e in omega arith)
        (λ new. let other : false ≡ true = ap (λ (d : CommitNote). d.cut) (sym new.2) ∙ cut in absurd cc)
        (logs.was_committed f.ring n t s j x note lives);
    superseded = λ s j dead x note lives uncut is.
        ⊎_elim
        (λ old. next_write-longer c.base h e x.object note.time dead (k.deaths.superseded s j dead x note old uncut is))
        (λ new. let other : None ≡ Some dead = ap (λ (d : CommitNote). d.dead) (sym new.2) ∙ is in absurd cc)
        (logs.was_committed f.ring n t s j x note lives);
  }

  -- the seats have seen no less, and what is committed has no death
  pub deaths_seen_after : (past : ℕ → Past) → ((s : ℕ) → length (f.past s).seen ≤ length (past s).seen) → DeathsSeen c past rings
  deaths_seen_after past more s j x st lives =
      let r = logs.was f.ring n t s j x st lives in
      ⊎_elim
      (λ same. seen_later (c.base + length (f.past s).seen) (c.base + length (past s).seen) st (omega (arith, more s))
      (k.deaths_seen s j x st (subst (Lives f.ring s j x) same r.lives)))
      (λ new. subst (DeathSeen (c.base + length (past s).seen)) (sym new.2) (none_noted (c.base + length (past s).seen) (Committed (new_note t x)) refl))
      r.how

  pub death_after_write : DeathAfterWrite rings
  death_after_write s j dead x note lives is =
      ⊎_elim
      (λ old. k.death_after_write s j dead x note old is)
      (λ new. let other : None ≡ Some dead = ap (λ (d : CommitNote). d.dead) (sym new.2) ∙ is in absurd cc)
      (logs.was_committed f.ring n t s j x note lives)

  pub cut_after : CutIsOld f.time rings
  cut_after s j x note lives cut =
      ⊎_elim
      (λ old. k.cut_is_old s j x note old cut)
      (λ new. let other : false ≡ true = ap (λ (d : CommitNote). d.cut) (sym new.2) ∙ cut in absurd cc)
      (logs.was_committed f.ring n t s j x note lives)

  pub grace_after : PositionsAndGrace c f.grace rings
  grace_after = record {
    live = place.live;
    free = place.free;
    built = place.built;
    freeing = place.freeing;
    commit = λ s j x note lives.
        ⊎_elim
        (λ old. k.positions_and_grace.commit s j x note old)
        (λ new.
        let time_is : note.time ≡ t = ap (λ (d : CommitNote). d.time) new.2 in
        let low = k.positions_and_grace.live n j x Held new.1 in
        let old = (k.grace.views n).0 in
        let long = k.history.long in
        omega arith)
        (logs.was_committed f.ring n t s j x note lives);
    dead = λ s j u x note lives is.
        ⊎_elim
        (λ old. k.positions_and_grace.dead s j u x note old is)
        (λ new. let other : None ≡ Some u = ap (λ (d : CommitNote). d.dead) (sym new.2) ∙ is in absurd cc)
        (logs.was_committed f.ring n t s j x note lives);
    aborted = λ s j u x lives. k.positions_and_grace.aborted s j u x (logs.was_aborted f.ring n t s j x (Some u) lives);
  }
