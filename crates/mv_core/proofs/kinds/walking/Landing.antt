-- Where a link leads that a walk of a section's time may follow: to a committed version that is right for that time and alive, or to the master.
use Rattle.std.proofs.Common.{◌≡◌, ◌⊎◌, ℕ, ◌+◌, ◌-◌, ◌<◌, ◌≤◌, Bool, true, false, List, length, Option, Some, sym}
use Rattle.std.proofs.Common.{refl, ap, ◌∙◌, subst, inl, inr, ⊎_elim, arith}
use Rattle.mv_core.proofs.Terms.{dite, dec_lt, Entry, Change, State, Writes, Config, Clock, Master, Stamp, Memory, clock_time_of, Ring, Version}
use Rattle.mv_core.proofs.Terms.{WriteSetStatus, Committed, CommitNote, index_of, Lives, Names, IsVersion, NoneUncut, IsTop, latest, latest_at, words_of}
use Rattle.mv_core.proofs.Terms.{AreThe, IsNextWrite, NotAbove, NotAboveAny, ViewParts}
use Rattle.mv_layout.proofs.Unpacking.{time_back}
use Rattle.mv_core.proofs.FactTerms.{stamp_of, CommitOf, LinksBelow, MasterServes, IsBeforeDeath, Facts}
use Rattle.mv_core.proofs.history.Latest.{latest-le, latest_at-same, latest_at-end, latest_at-whole, entry-within, next_write-le, next_write-once}
use Rattle.mv_core.proofs.history.Latest.{next_write-of}
use Rattle.mv_core.proofs.history.WordsAt.{words_of-same}
use Rattle.mv_core.proofs.logs.Written.{set_writes}
use Rattle.mv_core.proofs.logs.Links.{none_names_zero, gone_names_none, lives_within}
use Rattle.mv_core.proofs.logs.Finding.{find_write}
use Rattle.mv_core.proofs.logs.Versions.{version_once}

-- the link names a committed version of the object, right for this time and with no death noted up to it
pub record LandsAt (c : Config) (h : List Entry) (rings : ℕ → Ring) (t o link : ℕ) : Type 0 where
  pub version : Version
  pub note : CommitNote
  pub names : Names rings link version (Committed note)
  pub object_is : version.object ≡ o
  pub right : (t < note.time) ⊎ (note.time ≡ latest_at c.base h o t)
  pub alive : IsBeforeDeath t (Committed note)

-- the link is 0 and the master serves, or it names such a version
abbrev pub Lands : Config → State → List Entry → (ℕ → ℕ → ℕ) → (ℕ → Ring) → ℕ → ℕ → ℕ → Type 0
Lands c start h master rings t o link = ((link ≡ 0) × MasterServes c start h master rings t o) ⊎ LandsAt c h rings t o link

-- what isn't above the time of any section isn't above that of this one
pub not_above : (u s t : ℕ) (times : ℕ → Option ℕ) → NotAboveAny u times → times s ≡ Some t → u ≤ t
not_above u s t times old e = subst (λ (x : Option ℕ). NotAbove u x) e (old s)

module _ {starts : State → Type 0} {allows : List ℕ → State → Writes → Type 0} {c : Config} {start : State} {m : Memory} {h : List Entry} {f : ViewParts}
    (k : Facts starts allows c start m h f) where
  -- by the link of an object's top
  pub top_lands : (s t o link : ℕ) → f.time s ≡ Some t → IsTop f.ring o (latest c.base h o) link → Lands c start h (λ p w. m (Master p w)) f.ring t o link
  top_lands s t o link timed top =
      let L : ℕ = latest c.base h o in
      ⊎_elim
      (λ a.
      let x : Version = a.0 in let note : CommitNote = a.1 in let v = a.2 in
      let time_is = v.time_is in
      inr (record {
        version = x;
        note = note;
        names = v.names;
        object_is = v.object_is;
        right = dite (dec_lt t note.time) (λ lt. inl lt) (λ ge. inr (time_is ∙ sym (latest_at-whole c.base h o t (omega arith))));
        alive = λ dead e.
            let n : IsNextWrite c.base h o note.time dead =
            subst (λ (p : ℕ). IsNextWrite c.base h p note.time dead) v.object_is
            (k.deaths.superseded v.names.seat v.names.slot dead x note v.names.lives a.3 e) in
            let le = next_write-le c.base h o note.time dead n in
            let later = n.later in
            absurd (omega arith);
      }))
      (λ b.
      let p = k.present_master o b.1 in
      let old : L ≤ t = not_above L s t f.time p.1 timed in
      let at : latest_at c.base h o t ≡ L = latest_at-whole c.base h o t old in
      let ended : latest_at c.base h o (c.base + length h) ≡ L = latest_at-end c.base h o (c.base + length h) (omega arith) in
      let same : words_of c start h (c.base + length h) o ≡ words_of c start h t o =
      words_of-same c start h L (c.base + length h) o (latest-le c.base h o) (omega arith) ∙ sym (words_of-same c start h L t o old (omega arith)) in
      inl (b.0, (subst (AreThe (λ w. m (Master o w))) same p.0, subst (NoneUncut f.ring o) (sym at) b.1)))
      top

  -- by the previous link of a committed version that is later than the time, and what is there is earlier than that version
  module _ (s t : ℕ) (timed : f.time s ≡ Some t) (r i : ℕ) (x : Version) (note : CommitNote) (lives : Lives f.ring r i x (Committed note))
      (late : t < note.time) where
    commit_is : CommitOf c h f.ring r x note
    commit_is = k.write_sets.commit r i x note lives

    is_next : IsNextWrite c.base h x.object (latest_at c.base h x.object (note.time - 1)) note.time
    is_next =
        let p = commit_is in
        next_write-of c.base h x.object note.time (Change p.commit) p.entry (set_writes c h f.ring r x note p)

    -- where that write isn't above the time it is the last one up to it
    still_last : latest_at c.base h x.object (note.time - 1) ≤ t → latest_at c.base h x.object t ≡ latest_at c.base h x.object (note.time - 1)
    still_last old = latest_at-same c.base h x.object t (note.time - 1) (omega arith) old

    grounded_lands : ((y : Version) (st : WriteSetStatus) → ¬ (Names f.ring x.previous y st))
        → NoneUncut f.ring x.object (latest_at c.base h x.object (note.time - 1))
        → (x.previous ≡ 0) × MasterServes c start h (λ p w. m (Master p w)) f.ring t x.object
    grounded_lands nothing uncut =
        ⊎_elim
        (λ old. let le = not_above note.time s t f.time old timed in absurd (omega arith))
        (λ g.
        let old = not_above (latest_at c.base h x.object (note.time - 1)) s t f.time g.2 timed in (
          g.0,
          (
            subst (AreThe (λ w. m (Master x.object w))) (words_of-same c start h t (note.time - 1) x.object (omega arith) old) g.1,
            subst (NoneUncut f.ring x.object) (sym (still_last old)) uncut,
          ),
        ))
        (k.chain_foot r i x note lives nothing)

    abbrev uncut_lands : (link : ℕ) (y : Version) (n : CommitNote) → IsVersion f.ring x.object (latest_at c.base h x.object (note.time - 1)) link y n
        → n.cut ≡ false → LandsAt c h f.ring t x.object link
    uncut_lands link y n v uncut =
        let time_is = v.time_is in record {
          version = y;
          note = n;
          names = v.names;
          object_is = v.object_is;
          right = dite (dec_lt t n.time) (λ lt. inl lt) (λ ge. inr (time_is ∙ sym (still_last (omega arith))));
          alive = λ dead e.
              let a : IsNextWrite c.base h x.object n.time dead =
              subst (λ (p : ℕ). IsNextWrite c.base h p n.time dead) v.object_is
              (k.deaths.superseded v.names.seat v.names.slot dead y n v.names.lives uncut e) in
              let b : IsNextWrite c.base h x.object n.time note.time = subst (λ (u : ℕ). IsNextWrite c.base h x.object u note.time) (sym time_is) is_next in
              let one = next_write-once c.base h x.object n.time dead note.time a b in
              omega arith;
        }

    -- what lies below it, of its own time
    pub below_lands : ((x.previous ≡ 0) × MasterServes c start h (λ p w. m (Master p w)) f.ring t x.object)
        ⊎ ((l : LandsAt c h f.ring t x.object x.previous) × (l.note.time < note.time))
    below_lands =
        let links : LinksBelow f.ring x (latest_at c.base h x.object (note.time - 1)) = k.commit_link r i x note lives in
        ⊎_elim
        (λ a.
        let v = a.3 in
        (elim a.2.cut as (λ (b : Bool). a.2.cut ≡ b → ((x.previous ≡ 0) × MasterServes c start h (λ p w. m (Master p w)) f.ring t x.object)
        ⊎ ((l : LandsAt c h f.ring t x.object x.previous) × (l.note.time < note.time))) [
          | true ↦ λ cut.
              let zero_is = links.cut a.0 a.1 a.2 v cut in
              inl (grounded_lands (none_names_zero f.ring x.previous zero_is)
              (λ link y n w. ap (λ (q : CommitNote). q.cut)
              (version_once c start h f.ring k.checked k.history.in_time k.history.legal k.positions k.write_sets x.object _ link a.0 y a.1 n a.2 w v).2
              ∙ cut))
          | false ↦ λ uncut.
              let is : x.previous ≡ a.0 = links.uncut a.0 a.1 a.2 v uncut in
              let w : IsVersion f.ring x.object (latest_at c.base h x.object (note.time - 1)) x.previous a.1 a.2 =
              subst (λ (link : ℕ). IsVersion f.ring x.object (latest_at c.base h x.object (note.time - 1)) link a.1 a.2) (sym is) v in
              let time_is = v.time_is in
              let later = is_next.later in
              inr (uncut_lands x.previous a.1 a.2 w uncut, omega arith)
        ]) refl)
        (λ none.
        inl (grounded_lands
        (⊎_elim (λ e. none_names_zero f.ring x.previous e) (λ g. gone_names_none c h f.ring k.checked k.history.in_time k.positions x.previous g)
        (links.none none))
        (λ link y n w. absurd (none link y n w))))
        (find_write c h f.ring k.checked k.history.in_time k.positions x.object (latest_at c.base h x.object (note.time - 1)))

  -- a live commit with a later one is stamped: the clock names the last one alone
  pub earlier_stamped : (r i q j : ℕ) (x y : Version) (note n : CommitNote) → Lives f.ring r i x (Committed note) → Lives f.ring q j y (Committed n)
      → n.time < note.time → stamp_of c (λ u l. m (Stamp u l)) q y ≡ n.time
  earlier_stamped r i q j x y note n a b lt =
      ⊎_elim (λ e. e)
      (λ p.
      let co = k.write_sets.commit r i x note a in
      let within = entry-within c.base h x.object note.time (Change co.commit) co.entry in
      let seat = (lives_within c h f.ring k.checked k.history.in_time k.positions q j y (Committed n) b).0 in
      let seats = k.checked.seats.1 in
      let first = k.write_sets.first q j y (Committed n) b in
      let slot = (lives_within c h f.ring k.checked k.history.in_time k.positions q (index_of c y.first) first.version first.status first.lives).1 in
      let slots = k.checked.slots.1 in
      let long = k.history.long in
      let back : clock_time_of (m Clock) ≡ n.time = ap clock_time_of p.1 ∙ time_back n.time q (index_of c y.first) (omega arith) (omega arith) in
      absurd (omega arith))
      (k.stamps.live q j y (Committed n) b)
