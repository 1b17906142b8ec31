-- Each link that a section reaches is 0 or names a live version, with no death noted up to the section's time.
use Rattle.std.proofs.Common.{◌≡◌, ◌≢◌, ◌⊎◌, ℕ, ◌-◌, List, [], ◌∷◌, Some, None, sym, refl, ap, ◌∙◌, subst, inl, inr, ⊎_elim, arith}
use Rattle.mv_core.proofs.Terms.{dite, dec_lt, ℕ_discrete, State, Writes, Entry, Config, Head, Master, First, Stamp, Prev, Data, Memory, Version}
use Rattle.mv_core.proofs.Terms.{WriteSetStatus, Held}
use Rattle.mv_core.proofs.Terms.{Aborted, Committed, CommitNote, Knowledge, Stand, Lives, Names, index_of, latest_at, ViewParts, parts_of, time_in}
use Rattle.mv_core.specs.declared.view.WalkStage.TheVariants.{At}
use Rattle.mv_core.proofs.FactTerms.{stamp_of, HoldsVersion, HoldsSlot, IsBeforeDeath, MayStandAt, StandsRight, Facts, SlotVersion, IsLinked, prev_of}
use Rattle.mv_core.proofs.FactTerms.{LeadsBy, GoesOn, ReachesLink}
use Rattle.mv_core.specs.Points.{ReachedAreLive, ReachedAreKept, ReachedBeforeDeath}
use Rattle.mv_core.proofs.kinds.walking.EmptyHeads.{time_of_section}
use Rattle.mv_core.proofs.logs.Links.{link_some, names_once, names_some, gone_names_none, position_small, link_once}
use Rattle.mv_core.proofs.logs.Finding.{find_holder, find_write}
use Rattle.mv_core.proofs.kinds.walking.Landing.{Lands, top_lands, below_lands, not_above}
use Rattle.mv_core.proofs.kinds.naming.entry.NewEntry.{bool_is}
use Rattle.mv_core.proofs.logs.Written.{commit_within}

module _ {starts : State → Type 0} {allows : List ℕ → State → Writes → Type 0} {c : Config} {start : State} {m : Memory} {h : List Entry}
    (seats : ℕ → Knowledge)
    (k : Facts starts allows c start m h (parts_of seats)) where
  abbrev f : ViewParts
  f = parts_of seats

  -- a version in its slot is named by its link
  abbrev pub names_of : (link : ℕ) (p : SlotVersion) → IsLinked m f.ring link p → Names f.ring link p.version p.status
  names_of link p l = record { seat = p.seat; slot = p.slot; lives = l.1; is = l.0 }

  pub placed_of : (link : ℕ) (x : Version) (st : WriteSetStatus) → Names f.ring link x st → (p : SlotVersion) × IsLinked m f.ring link p
  placed_of link x st n = (record { seat = n.seat; slot = n.slot; version = x; status = st }, (n.is, n.lives))

  -- PREV of a live version is its previous link
  pub prev_word : (p : SlotVersion) → Lives f.ring p.seat p.slot p.version p.status → prev_of m f.ring p ≡ p.version.previous
  prev_word p lives =
      let holds : HoldsVersion (m (First p.seat p.slot)) (m (Prev p.seat p.slot)) (λ i. m (Data p.seat p.slot i)) p.version =
      subst (HoldsSlot (m (First p.seat p.slot)) (m (Prev p.seat p.slot)) (λ i. m (Data p.seat p.slot i))) lives (k.slot_words p.seat p.slot) in
      holds.prev_is

  pub prev_is : (link : ℕ) (p : SlotVersion) → IsLinked m f.ring link p → prev_of m f.ring p ≡ p.version.previous
  prev_is link p l = prev_word p l.1

  -- no death is noted up to t, of a version that wasn't aborted
  abbrev IsAlive : ℕ → WriteSetStatus → Type 0
  IsAlive t Held = Unit {0}
  IsAlive t (Aborted dead) = ⊥
  IsAlive t (Committed note) = IsBeforeDeath t (Committed note)

  -- the link is 0 or names such a version
  abbrev IsGood : ℕ → ℕ → Type 0
  IsGood t link = (link ≡ 0) ⊎ ((x : Version) × (st : WriteSetStatus) × Names f.ring link x st × IsAlive t st)

  by_landing : (t o link : ℕ) → Lands c start h (λ p i. m (Master p i)) f.ring t o link → IsGood t link
  by_landing t o link lands = ⊎_elim (λ z. inl z.0) (λ l. inr (l.version, Committed l.note, l.names, l.alive)) lands

  module _ (j t : ℕ) (timed : f.time j ≡ Some t) where
    -- below a commit that isn't stamped, which a section has named
    below_unstamped : (s i : ℕ) (x : Version) (note : CommitNote) → Lives f.ring s i x (Committed note) → stamp_of c (λ u l. m (Stamp u l)) s x ≢ note.time
        → IsGood t x.previous
    below_unstamped s i x note lives unstamped =
        let u = k.unstamped_is_unfinished s i x note lives unstamped in
        let inside = u.0 in
        let n = u.1 in
        let named = k.named_commit s inside n u.2 u.3 in
        let flag = k.successor_flag s i inside n x note u.2 u.3 lives (sym u.4) in
        let links = k.commit_link s i x note lives in
        ⊎_elim
        (λ a.
        ⊎_elim
        (λ cut. inl (links.cut a.0 a.1 a.2 a.3 cut))
        (λ uncut.
        let names : Names f.ring x.previous a.1 (Committed a.2) =
        subst (λ (l : ℕ). Names f.ring l a.1 (Committed a.2)) (sym (links.uncut a.0 a.1 a.2 a.3 uncut)) a.3.names in
        let below = flag.1 a.1 a.2 names in
        inr (
          a.1,
          Committed a.2,
          names,
          λ dead e.
              ⊎_elim
              (λ linked. absurd (unstamped (k.successors.stamped names.seat names.slot a.1 a.2 names.lives s i x note lives (sym u.4 ∙ sym (below.0 linked)))))
              (λ unlinked. let none : None ≡ Some dead = sym (below.1 unlinked).1 ∙ e in absurd cc)
              (bool_is note.linked),
        ))
        (bool_is a.2.cut))
        (λ none.
        ⊎_elim
        (λ zero_is. inl zero_is)
        (λ gone.
        ⊎_elim
        (λ old.
        let le = not_above note.time s (time_in inside) f.time old (time_of_section (seats s).phase inside u.2) in
        let later = named.later in
        let same = u.4 in
        absurd (omega arith))
        (λ ground. inl ground.0)
        (k.chain_foot s i x note lives (gone_names_none c h f.ring k.checked k.history.in_time k.positions x.previous gone)))
        (links.none none))
        (find_write c h f.ring k.checked k.history.in_time k.positions x.object (latest_at c.base h x.object (note.time - 1)))

    -- below a version from which a walk goes on
    goes_below : (p : SlotVersion) (st : WriteSetStatus) → p.status ≡ st → Lives f.ring p.seat p.slot p.version st → IsAlive t st
        → GoesOn t (stamp_of c (λ u l. m (Stamp u l)) p.seat p.version) → IsGood t p.version.previous
    goes_below p Held e lives alive goes =
        by_landing t p.version.object p.version.previous (top_lands k j t p.version.object p.version.previous timed (k.held_link p.seat p.slot p.version lives))
    goes_below p (Aborted dead) e lives alive goes = absurd alive
    goes_below p (Committed note) e lives alive goes =
        dite (dec_lt t note.time)
        (λ late.
        by_landing t p.version.object p.version.previous (⊎_elim (λ z. inl z) (λ l. inr l.0) (below_lands k j t timed p.seat p.slot p.version note lives late)))
        (λ early.
        dite (ℕ_discrete (stamp_of c (λ u l. m (Stamp u l)) p.seat p.version) note.time)
        (λ same.
        let within = (commit_within c h f.ring k.write_sets p.seat p.slot p.version note lives).1 in
        let low = k.history.in_time in
        absurd (⊎_elim (λ unset. omega arith) (λ above. omega arith) goes))
        (λ ne. below_unstamped p.seat p.slot p.version note lives ne))

    -- so each link is good to which one gets from a good one
    leads_good : (ps : List SlotVersion) (link to : ℕ) → IsGood t link
        → LeadsBy m f.ring (λ p. GoesOn t (stamp_of c (λ u l. m (Stamp u l)) p.seat p.version)) link ps to → IsGood t to
    leads_good [] link to good leads = subst (λ (l : ℕ). IsGood t l) (sym leads) good
    leads_good (p ∷ ps) link to good leads =
        let names = names_of link p leads.0 in
        let here : IsAlive t p.status =
        ⊎_elim (λ zero_is. absurd (names_some f.ring link p.version p.status names zero_is))
        (λ g. subst (λ (st : WriteSetStatus). IsAlive t st)
        (names_once c h f.ring k.checked k.history.in_time k.positions link g.0 p.version g.1 p.status g.2 names).3 g.3) good in
        let below = goes_below p p.status refl leads.0.1 here leads.1 in
        leads_good ps (prev_of m f.ring p) to (subst (λ (l : ℕ). IsGood t l) (sym (prev_is link p leads.0)) below) leads.2

    -- the link is 0 or names a live version whose noted death is later
    abbrev pub IsServed : ℕ → Type 0
    IsServed link = (link ≡ 0) ⊎ ((x : Version) × (st : WriteSetStatus) × Names f.ring link x st × IsBeforeDeath t st)

    alive_served : (st : WriteSetStatus) → IsAlive t st → IsBeforeDeath t st
    alive_served Held a = tt
    alive_served (Aborted dead) a = absurd a
    alive_served (Committed note) a = a

    good_served : (link : ℕ) → IsGood t link → IsServed link
    good_served link good = ⊎_elim (λ z. inl z) (λ g. inr (g.0, g.1, g.2, alive_served g.1 g.3)) good

    head_good : (o : ℕ) → IsGood t (m (Head o))
    head_good o =
        ⊎_elim
        (λ a.
        let names : Names f.ring (m (Head o)) a.2 Held =
        record { seat = a.0; slot = a.1; lives = a.3; is = ap (λ p. m (Head p)) (sym a.4) ∙ k.head_is_top.held a.0 a.1 a.2 a.3 } in
        inr (a.2, Held, names, tt))
        (λ none. by_landing t o (m (Head o)) (top_lands k j t o (m (Head o)) timed (k.head_is_top.top o none)))
        (find_holder c h f.ring k.checked k.history.in_time k.positions o)

    module _ (stand : Stand) (at : f.walk j ≡ At stand) (x : Version) where
      from_stand : (st : WriteSetStatus) → Names f.ring stand.link x st → MayStandAt c start h (λ o i. m (Master o i)) f.ring t x st
          → (ps : List SlotVersion) (to : ℕ) → LeadsBy m f.ring (λ p. GoesOn t (stamp_of c (λ u l. m (Stamp u l)) p.seat p.version)) stand.link ps to
          → IsServed to
      from_stand Held names may ps to leads = good_served to (leads_good ps stand.link to (inr (x, Held, names, tt)) leads)
      from_stand (Committed note) names may ps to leads =
          good_served to
          (leads_good ps stand.link to (inr (x, Committed note, names, k.walker_before_death.here j t stand x (Committed note) timed at names)) leads)
      from_stand (Aborted dead) names may [] to leads =
          subst (λ (l : ℕ). IsServed l) (sym leads) (inr (x, Aborted dead, names, k.walker_before_death.here j t stand x (Aborted dead) timed at names))
      from_stand (Aborted dead) names may (p ∷ ps) to leads =
          let same : x ≡ p.version =
          (names_once c h f.ring k.checked k.history.in_time k.positions stand.link x p.version (Aborted dead) p.status names
          (names_of stand.link p leads.0)).2 in
          let below : IsGood t x.previous =
          ⊎_elim (λ z. inl z.0)
          (λ a. inr (a.0, Committed a.1, a.2, k.walker_before_death.below j t stand x a.0 dead (Committed a.1) timed at names a.2)) may in
          good_served to
          (leads_good ps (prev_of m f.ring p) to
          (subst (λ (l : ℕ). IsGood t l) (ap (λ (v : Version). v.previous) same ∙ sym (prev_is stand.link p leads.0)) below) leads.2)

  -- a link that a section reaches
  pub reached_served : (j t link : ℕ) → (r : ReachesLink c m f j t link) → IsServed j t r.in_section link
  reached_served j t link r =
      ⊎_elim
      (λ a.
      good_served j t r.in_section link
      (leads_good j t r.in_section r.passed r.from link (subst (λ (l : ℕ). IsGood t l) (sym a.1) (head_good j t r.in_section a.0)) r.leads))
      (λ b.
      let stands : StandsRight c start h (λ o i. m (Master o i)) f.ring t (At b.0) =
      subst (StandsRight c start h (λ o i. m (Master o i)) f.ring t) b.1 (k.walker_place j t r.in_section) in
      from_stand j t r.in_section b.0 b.1 stands.0 stands.1 stands.2 stands.4 r.passed link
      (subst (λ (l : ℕ). LeadsBy m f.ring (λ p. GoesOn t (stamp_of c (λ u i. m (Stamp u i)) p.seat p.version)) l r.passed link) b.2 r.leads))
      r.begins

  pub reached_are_live : ReachedAreLive c m f
  reached_are_live j t link r some =
      ⊎_elim (λ z. absurd (some z))
      (λ g.
      let p = placed_of link g.0 g.1 g.2 in
      (p.0, p.1, (k.positions.live p.0.seat p.0.slot p.0.version p.0.status p.1.1).0))
      (reached_served j t link r)

  pub reached_are_kept : ReachedAreKept c m f
  reached_are_kept j t link s position r small is =
      ⊎_elim (λ z. absurd (link_some s position (sym is ∙ z)))
      (λ g.
      let x : Version = g.0 in
      let names = g.2 in
      let small_there = position_small c h f.ring k.checked k.history.in_time k.positions names.seat names.slot x g.1 names.lives in
      let one = link_once c h f.ring k.checked k.history.in_time k.positions names.seat s x.position position small_there small (sym names.is ∙ is) in
      let slot : names.slot ≡ index_of c position = sym (k.positions.live names.seat names.slot x g.1 names.lives).0 ∙ ap (index_of c) one.1 in
      (x, g.1, subst (λ (i : ℕ). Lives f.ring s i x g.1) slot (subst (λ (u : ℕ). Lives f.ring u names.slot x g.1) one.0 names.lives), one.1))
      (reached_served j t link r)

  pub reached_before_death : ReachedBeforeDeath c m f
  reached_before_death j t p reaches =
      let link : ℕ = reaches.0 in
      let names = names_of link p reaches.2 in
      ⊎_elim (λ z. absurd (names_some f.ring link p.version p.status names z))
      (λ g. subst (λ (st : WriteSetStatus). IsBeforeDeath t st)
      (names_once c h f.ring k.checked k.history.in_time k.positions link g.0 p.version g.1 p.status g.2 names).3 g.3)
      (reached_served j t link reaches.1)
