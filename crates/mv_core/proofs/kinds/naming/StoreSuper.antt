-- store SUPER: the version below one of the stamped commit gets the commit's time, and that it did is noted above.
use Rattle.std.proofs.Common.{◌≡◌, ◌≢◌, ℕ, ◌≤◌, ◌==◌, ◌&&◌, Bool, true, false, cond, List}
use Rattle.std.proofs.Common.{refl, sym, ap, ap₂, ◌∙◌, subst, ⊎_elim, arith, eq-eqb, eqb-true, Some}
use Rattle.mv_core.proofs.Terms.{dite, ℕ_discrete, Entry, Change, State, Writes, Config, First, Stamp, Prev, Super, Data, Memory, put, link_seat_of}
use Rattle.mv_core.proofs.Terms.{Ring, Slot, Built, Live, Version, Committed, CommitNote, Knowledge, Inside, OwnSection, Open, Named, Naming, slot_at}
use Rattle.mv_core.proofs.Terms.{index_of, put_slot, Lives, Names, IsEntry, IsNextWrite, time_in, ViewParts, parts_of, set_at}
use Rattle.mv_core.proofs.FactTerms.{IsStored, HoldsSlot, IsHeldOrAborted, stamp_of, Successors, NamedIs, SucceededHasSuper, SuccessorFlag, RunsOn}
use Rattle.mv_core.proofs.FactTerms.{Facts, Stores, IsKept}
use Rattle.mv_core.specs.WalkSteps.{slot_named}
use Rattle.mv_core.specs.NameSteps.{MayStoreSuper, super_stored}
use Rattle.mv_core.proofs.frames.FrameLaw.{unchanged, changed, settle}
use Rattle.mv_core.proofs.history.SectionWords.{section_is, time_is}
use Rattle.mv_core.proofs.logs.Links.{live_once, note_once, names_place}
use Rattle.mv_core.proofs.logs.Written.{commit_within, entry_once}
use Rattle.mv_core.proofs.logs.BelowCommit.{next_after, link_below, below_there, above_once}
use Rattle.mv_core.proofs.logs.Slots.{Matches, match_weaker}
use Rattle.mv_core.proofs.frames.Matching.{LivesOn, Alike}
use Rattle.mv_core.proofs.kinds.naming.LinkedNotes as notes
use Rattle.mv_core.proofs.kinds.reclaiming.cut_head.Cuts.{same_death_facts}
use Rattle.mv_core.proofs.frames.MatchedFacts.{same_stamp_facts}
use Rattle.mv_core.proofs.frames.InPlace.{in_place_facts}

module _ {starts : State → Type 0} {allows : List ℕ → State → Writes → Type 0} {c : Config} {start : State} {m : Memory} {h : List Entry} {f : ViewParts}
    (k : Facts starts allows c start m h f)
    (n j : ℕ) (x : Version) (note : CommitNote) (lives : Lives f.ring n j x (Committed note)) (inside : OwnSection) (naming : Naming)
    (there : f.section n ≡ Some inside) (timed : f.time n ≡ Some (time_in inside)) (mode : inside.mode ≡ Named naming)
    (made : naming.stamped ≡ true) (of_commit : note.time ≡ naming.time) (unlinked : note.linked ≡ false) where
  abbrev t : ℕ
  t = naming.time

  abbrev link : ℕ
  link = x.previous

  abbrev s0 : ℕ
  s0 = link_seat_of link

  abbrev k0 : ℕ
  k0 = slot_named c link

  named : NamedIs c h (λ s i. m (Stamp s i)) f.ring n inside naming
  named = k.named_commit n inside naming there mode

  -- something is below, for what has nothing below counts as linked
  some_below : link ≢ 0
  some_below zero_is = let linked = (k.successor_flag n j inside naming x note there mode lives of_commit).0 zero_is in let no_link : false ≡ true =
      sym unlinked ∙ linked in cc

  below : (y : Version) × (other : CommitNote) × Names f.ring link y (Committed other)
  below = below_there k n j x note lives n (time_in inside) timed (let late = named.later in omega arith) some_below

  abbrev y : Version
  y = below.0

  abbrev other : CommitNote
  other = below.1

  place : (s0 ≡ below.2.seat) × (k0 ≡ below.2.slot)
  place = names_place c h f.ring k.checked k.history.in_time k.positions link y (Committed other) below.2

  below_lives : Lives f.ring s0 k0 y (Committed other)
  below_lives = subst (λ (p : ℕ × ℕ). Lives f.ring p.0 p.1 y (Committed other)) (λ i. (sym place.0 i, sym place.1 i)) below.2.lives

  -- the commit is the next write after the version below
  is_next : IsNextWrite c.base h y.object other.time t
  is_next =
      let r = link_below k n j x note lives y other below.2 in
      subst (λ (u : ℕ). IsNextWrite c.base h y.object other.time u) of_commit
      (subst (λ (o : ℕ). IsNextWrite c.base h o other.time note.time) (sym r.0)
      (subst (λ (u : ℕ). IsNextWrite c.base h x.object u note.time) (sym r.1) (next_after k n j x note lives)))

  abbrev super : ℕ → ℕ → ℕ
  super s i = m (Super s i)

  abbrev super' : ℕ → ℕ → ℕ
  super' s i = put m (Super s0 k0) t (Super s i)

  here? : (s i : ℕ) → Dec ((s ≡ s0) × (i ≡ k0))
  here? s i = dite (ℕ_discrete s s0) (λ e. dite (ℕ_discrete i k0) (λ g. yes (e, g)) (λ ne. no (λ z. ne z.1))) (λ ne. no (λ z. ne z.0))

  super_here : (s i : ℕ) → s ≡ s0 → i ≡ k0 → super' s i ≡ t
  super_here s i e g = ap (λ b. cond b t (super s i)) (ap₂ (λ (a b : Bool). a && b) (eq-eqb s0 s (sym e)) (eq-eqb k0 i (sym g)))

  super_else : (s i : ℕ) → ¬ ((s ≡ s0) × (i ≡ k0)) → super' s i ≡ super s i
  super_else s i elsewhere = go (s0 == s) (k0 == i) refl refl
    where
      go : (a b : Bool) → (s0 == s) ≡ a → (k0 == i) ≡ b → cond (a && b) t (super s i) ≡ super s i
      go true true e g = absurd (elsewhere (sym (eqb-true s0 s e), sym (eqb-true k0 i g)))
      go true false e g = refl
      go false b e g = refl

  -- a slot that isn't that of a commit is another
  other_slot : (s i : ℕ) (slot : Slot) → slot_at (f.ring s) i ≡ slot → ((z : Version) (d : CommitNote) → slot ≢ Live z (Committed d)) → super' s i ≡ super s i
  other_slot s i slot at none =
      super_else s i (λ e. none y other (sym at ∙ subst (λ (p : ℕ × ℕ). Lives f.ring p.0 p.1 y (Committed other)) (λ z. (sym e.0 z, sym e.1 z)) below_lives))

  abbrev note' : CommitNote
  note' = record note { linked = true }

  abbrev new : Slot
  new = Live x (Committed note')

  abbrev ring' : Ring
  ring' = put_slot (f.ring n) j new

  abbrev rings : ℕ → Ring
  rings = set_at f.ring n ring'

  matches : Matches Alike f.ring rings
  matches = notes.matches k n j x note lives

  -- each live commit of that time is stamped
  all_stamped : (s i : ℕ) (z : Version) (d : CommitNote) → Lives f.ring s i z (Committed d) → d.time ≡ t → stamp_of c (λ s i. m (Stamp s i)) s z ≡ t
  all_stamped s i z d at time =
      let p = k.write_sets.commit s i z d at in
      let q = k.write_sets.commit n (index_of c naming.first) named.version named.note named.lives in
      let same = entry_once c.base h t (Change p.commit) (Change q.commit) (subst (λ (u : ℕ). IsEntry c.base h u (Change p.commit)) time p.entry)
      (subst (λ (u : ℕ). IsEntry c.base h u (Change q.commit)) named.time_is q.entry) in
      let one : p.commit ≡ q.commit = cc in
      let seat : s ≡ n = sym p.seat ∙ ap (λ d. d.seat) one ∙ q.seat in
      let first : z.first ≡ naming.first = k.write_sets.once n i (index_of c naming.first) z named.version d named.note
      (subst (λ (u : ℕ). Lives f.ring u i z (Committed d)) seat at) named.lives (time ∙ sym named.time_is) ∙ named.first_is in
      (λ e. m (Stamp (seat e) (index_of c (first e)))) ∙ named.stamped made

  -- the time of a commit isn't 0
  some_time : t ≢ 0
  some_time zero_is = let low = (commit_within c h f.ring k.write_sets n j x note lives).0 in omega arith

  -- the version below is what is in its slot
  is_below : (s i : ℕ) (z : Version) (d : CommitNote) → Lives f.ring s i z (Committed d) → s ≡ s0 → i ≡ k0 → (z ≡ y) × (d ≡ other)
  is_below s i z d at e g =
      let one = live_once (slot_at (f.ring s0) k0) z y (Committed d) (Committed other)
      (subst (λ (p : ℕ × ℕ). Lives f.ring p.0 p.1 z (Committed d)) (λ u. (e u, g u)) at) below_lives in
      (one.0, note_once d other one.1)

  next_now : (s i : ℕ) (z : Version) (d : CommitNote) → Lives f.ring s i z (Committed d) → super' s i ≢ 0 → IsNextWrite c.base h z.object d.time (super' s i)
  next_now s i z d at some =
      dite (here? s i)
      (λ e.
      let one = is_below s i z d at e.0 e.1 in
      let object = ap (λ (v : Version). v.object) (sym one.0) in
      let time = ap (λ (q : CommitNote). q.time) (sym one.1) in
      let word = sym (super_here s i e.0 e.1) in
      subst (λ (p : (ℕ × ℕ) × ℕ). IsNextWrite c.base h p.0.0 p.0.1 p.1) (λ u. ((object u, time u), word u)) is_next)
      (λ ne.
      let word = super_else s i ne in
      subst (λ (u : ℕ). IsNextWrite c.base h z.object d.time u) (sym word) (k.successors.next s i z d at (λ zero_is. some (word ∙ zero_is))))

  stamped_now : (s i : ℕ) (z : Version) (d : CommitNote) → Lives f.ring s i z (Committed d) → (r l : ℕ) (w : Version) (q : CommitNote)
      → Lives f.ring r l w (Committed q) → q.time ≡ super' s i → stamp_of c (λ s i. m (Stamp s i)) r w ≡ q.time
  stamped_now s i z d at r l w q there e =
      dite (here? s i)
      (λ here. let time : q.time ≡ t = e ∙ super_here s i here.0 here.1 in all_stamped r l w q there time ∙ sym time)
      (λ ne. k.successors.stamped s i z d at r l w q there (e ∙ super_else s i ne))

  successors_after : Successors c h (λ s i. m (Stamp s i)) super' f.section rings
  successors_after = record {
    held = λ s i z st at fate.
        let old = notes.was_uncommitted k n j x note lives s i z st fate at in
        other_slot s i (Live z st) old (λ v d e. let one = live_once (Live z st) z v st (Committed d) refl e in absurd (subst IsHeldOrAborted one.1 fate)) ∙
        k.successors.held s i z st old fate;
    next = λ s i z d at some. let w = notes.noted k n j x note lives s i z d at in
        subst (λ (u : ℕ). IsNextWrite c.base h z.object u (super' s i)) (sym w.time) (next_now s i z w.was w.lives_was some);
    stamped = λ s i z d at r l v q there e.
        let w = notes.noted k n j x note lives s i z d at in
        let u = notes.noted k n j x note lives r l v q there in
        stamped_now s i z w.was w.lives_was r l v u.was u.lives_was (sym u.time ∙ e) ∙ sym u.time;
    unfinished = λ s i z d at uncut none next is.
        let w = notes.noted k n j x note lives s i z d at in
        dite (here? s i)
        (λ here. absurd (some_time (sym (super_here s i here.0 here.1) ∙ none)))
        (λ ne. k.successors.unfinished s i z w.was w.lives_was (sym w.cut ∙ uncut) (sym (super_else s i ne) ∙ none) next
        (subst (λ (u : ℕ). IsNextWrite c.base h z.object u next) w.time is));
    built = λ s i b at. let old = notes.was_built k n j x note lives s i b at in subst (IsStored b.successor)
        (sym (other_slot s i (Built b) old (λ v d e. absurd cc))) (k.successors.built s i b old);
  }

  -- a commit whose link leads to that version is this one
  only_here : (s i : ℕ) (z v : Version) (d q : CommitNote) → Lives f.ring s i z (Committed d) → (a : Names f.ring z.previous v (Committed q)) → a.seat ≡ s0
      → a.slot ≡ k0 → (s ≡ n) × (i ≡ j)
  only_here s i z v d q at a e g =
      let one = is_below a.seat a.slot v q a.lives e g in
      let names : Names f.ring link v (Committed q) = subst (λ (p : Version × CommitNote). Names f.ring link p.0 (Committed p.1))
      (λ u. (sym one.0 u, sym one.1 u)) below.2 in
      above_once k s i n j z x v d note q at lives a names

  flags_after : SuccessorFlag super' f.section rings
  flags_after s i b d z q at mode' live time =
      let w = notes.noted k n j x note lives s i z q live in
      let r = k.successor_flag s i b d z w.was at mode' w.lives_was (sym w.time ∙ time) in (
        λ none. ⊎_elim (λ same. same ∙ r.0 none) (λ here. w.linked_here here.0 here.1) w.linked,
        λ v o a.
            let u = notes.noted k n j x note lives a.seat a.slot v o a.lives in
            let before : Names f.ring z.previous v (Committed u.was) = record { seat = a.seat; slot = a.slot; lives = u.lives_was; is = a.is } in
            let old = r.1 v u.was before in
            dite (here? a.seat a.slot)
            (λ here.
            let place = only_here s i z v w.was u.was w.lives_was before here.0 here.1 in
            let mine = w.linked_here place.0 place.1 in
            let one : d ≡ naming = same_naming s i b d at mode' place.0 in (
              (λ linked. super_here a.seat a.slot here.0 here.1 ∙ ap (λ (g : Naming). g.time) (sym one)),
              (λ free. let no_link : true ≡ false = sym mine ∙ free in absurd cc),
            ))
            (λ ne.
            let word = super_else a.seat a.slot ne in
            ⊎_elim
            (λ same. (
              (λ linked. word ∙ old.0 (sym same ∙ linked)),
              (λ free. let p = old.1 (sym same ∙ free) in (word ∙ p.0, u.dead ∙ p.1)),
            ))
            (λ here. absurd (ne (below_here s i z v w.was u.was w.lives_was before here.0 here.1)))
            w.linked),
      )
    where
      same_naming : (s i : ℕ) (b : OwnSection) (d : Naming) → f.section s ≡ Some b → b.mode ≡ Named d → s ≡ n → d ≡ naming
      same_naming s i b d at mode' here =
          let both : Some b ≡ Some inside = sym at ∙ ap f.section here ∙ there in
          let one : b ≡ inside = cc in
          let named : Named d ≡ Named naming = sym mode' ∙ ap (λ (q : OwnSection). q.mode) one ∙ mode in cc

      below_here : (s i : ℕ) (z v : Version) (d q : CommitNote) → Lives f.ring s i z (Committed d) → (a : Names f.ring z.previous v (Committed q)) → s ≡ n
          → i ≡ j → (a.seat ≡ s0) × (a.slot ≡ k0)
      below_here s i z v d q at a e g =
          let one = live_once (slot_at (f.ring n) j) z x (Committed d) (Committed note)
          (subst (λ (p : ℕ × ℕ). Lives f.ring p.0 p.1 z (Committed d)) (λ u. (e u, g u)) at) lives in
          let place = names_place c h f.ring k.checked k.history.in_time k.positions z.previous v (Committed q) a in
          let same : z.previous ≡ link = ap (λ (p : Version). p.previous) one.0 in
          (sym place.0 ∙ ap link_seat_of same, sym place.1 ∙ ap (slot_named c) same)

  succeeded_after : SucceededHasSuper c h super' f.empty rings
  succeeded_after s g has =
      let r = k.succeeded_has_super s g has in (
        r.0,
        λ i z d at object le uncut none.
            let w = notes.noted k n j x note lives s i z d at in
            dite (here? s i)
            (λ here. some_time (sym (super_here s i here.0 here.1) ∙ none))
            (λ ne. r.1 i z w.was w.lives_was object (subst (λ (u : ℕ). u ≤ g.time) w.time le) (sym w.cut ∙ uncut) (sym (super_else s i ne) ∙ none)),
      )

  pub super_facts : Facts starts allows c start (put m (Super s0 k0) t) h (changed f n (record unchanged { ring = Some ring' }))
  super_facts =
      let slot_words = notes.all_slots k n j x note lives
      (λ s i slot. HoldsSlot (m (First s i)) (m (Prev s i)) (λ w. m (Data s i w)) slot)
      (let old : HoldsSlot (m (First n j)) (m (Prev n j)) (λ w. m (Data n j w)) (Live x (Committed note)) =
      subst (HoldsSlot (m (First n j)) (m (Prev n j)) (λ w. m (Data n j w))) lives (k.slot_words n j) in old)
      (λ s i ne. k.slot_words s i) in
      let on = match_weaker Alike LivesOn f.ring rings (λ z st u su a. a.0.0) matches in
      let same_death = notes.same_death k n j x note lives in
      let in_place = in_place_facts k rings on (notes.stays k n j x note lives) in
      let same_death_kept = same_death_facts k rings same_death in
      let same_stamp = same_stamp_facts k rings matches in
      assumption (slot_words, successors_after, flags_after, succeeded_after, in_place, same_death_kept, same_stamp, k)

module _ (starts : State → Type 0) (allows : List ℕ → State → Writes → Type 0) (c : Config) (start : State) (v : Knowledge) (link time k : ℕ) (x : Version)
    (note : CommitNote) (may : MayStoreSuper v link time k x note) where
  pub super_stores : Stores starts allows c start v (Super (link_seat_of link) (slot_named c link)) time (λ w. ((w ≡ super_stored c v link time k x note)
      × RunsOn v w) × IsKept v w)
  super_stores m h seats facts is own begins =
      let n = v.number in
      let w : Knowledge = super_stored c v link time k x note in
      let phase = may.phase in
      let here : Lives (λ s. (seats s).ring) n k x (Committed note) = ap (λ (u : Knowledge). slot_at u.ring k) is ∙ may.own in
      let after = super_facts facts n k x note here may.inside may.naming
      (section_is seats v may.inside facts is phase)
      (time_is seats v may.inside facts is phase) may.mode may.stamped (may.of_commit ∙ sym may.time_is) may.not_yet in
      let r : Ring = put_slot (seats n).ring k (Live x (Committed (record note { linked = true }))) in
      let link_is = may.link_is in
      let time_now = may.time_is in (
        w,
        h,
        settle starts allows c start (put m (Super (link_seat_of link) (slot_named c link)) time) h seats n v w is (record unchanged { ring = Some r }) (
          refl,
          refl,
          refl,
          refl,
          refl,
          refl,
          refl,
          ap (λ (u : Knowledge). put_slot u.ring k (Live x (Committed (record note { linked = true })))) (sym is),
          refl,
          refl,
          refl,
        )
            (subst (λ (p : ℕ × ℕ). Facts starts allows c start (put m (Super (link_seat_of p.0) (slot_named c p.0)) p.1) h
            (changed (parts_of seats) n (record unchanged { ring = Some r }))) (λ i. (link_is i, time_now i)) after),
        (
          (
            refl,
            (λ t first a begun. (
              a,
              λ i at opens some. let one : Inside may.inside ≡ Inside i = sym phase ∙ at in let same : may.inside ≡ i = cc in
                  let none : Named may.naming ≡ Open = sym may.mode ∙ ap (λ (q : OwnSection). q.mode) same ∙ opens in absurd cc,
            )),
          ),
          (refl, refl, refl, refl, refl, refl),
        ),
      )
