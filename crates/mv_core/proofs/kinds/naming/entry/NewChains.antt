-- One more entry, of what its seat holds: the heads, the links, the masters and the feet of the chains.
use Rattle.std.proofs.Common.{◌≡◌, ◌≢◌, ℕ, ◌+◌, ◌-◌, true, false, List, [], ◌∷◌, ◌++◌, length, refl, sym, ap, ◌∙◌, subst, inl, inr, ⊎_elim, arith}
use Rattle.mv_core.proofs.Terms.{dite, ℕ_discrete, Entry, State, Writes, Config, Head, Master, Memory, link_of, Ring, Version, WriteSetStatus, Held}
use Rattle.mv_core.proofs.Terms.{Committed, CommitNote, Lives, Names, IsVersion, NoneHolds, NoneUncut, IsTop, writes_to, latest, latest_at, words_of}
use Rattle.mv_core.proofs.Terms.{AreThe, NotAboveAny, ViewParts}
use Rattle.mv_core.proofs.FactTerms.{HeadIsTop, HeldLink, LinksBelow, CommitLink, AbortedLink, PresentMaster, ChainFoot, Facts}
use Rattle.mv_core.proofs.history.Latest.{latest-le, latest_at-end, latest_at-le}
use Rattle.mv_core.proofs.history.WordsAt.{words_of-same}
use Rattle.mv_core.proofs.logs.Written.{commit_within}
use Rattle.mv_core.proofs.logs.Versions.{version_once}
use Rattle.mv_core.proofs.history.Longer.{new_time, longer_long, latest_at-longer, latest-written, latest-unwritten, words_of-longer}
use Rattle.mv_core.proofs.kinds.naming.entry.CommittedLogs as logs
use Rattle.mv_core.proofs.kinds.naming.entry.CommittedLogs.{new_note}
use Rattle.mv_core.proofs.kinds.naming.entry.NewEntry.{Makes, bool_is, old_time, other_latest}

module _ {starts : State → Type 0} {allows : List ℕ → State → Writes → Type 0} {c : Config} {start : State} {m : Memory} {h : List Entry} {f : ViewParts}
    (k : Facts starts allows c start m h f) (n : ℕ) (e : Entry) (makes : Makes f.ring n e) where
  abbrev t : ℕ
  t = new_time c.base h e

  abbrev later : List Entry
  later = h ++ e ∷ []

  abbrev rings : ℕ → Ring
  rings = logs.after f.ring n t

  abbrev master : ℕ → ℕ → ℕ
  master o w = m (Master o w)

  -- the version of the new write is at hand, and isn't cut
  new_version : (j : ℕ) (x : Version) → Lives f.ring n j x Held → IsVersion rings x.object t (link_of n x.position) x (new_note t x)
  new_version j x lives =
      record { names = record { seat = n; slot = j; lives = logs.now_committed f.ring n t j x lives; is = refl }; object_is = refl; time_is = refl }

  new_uncut : (j o : ℕ) (x : Version) → Lives f.ring n j x Held → x.object ≡ o → ¬ (NoneUncut rings o t)
  new_uncut j o x lives is none =
      let cut : false ≡ true =
      none (link_of n x.position) x (new_note t x)
      (subst (λ (p : ℕ). IsVersion rings p t (link_of n x.position) x (new_note t x)) is (new_version j x lives)) in cc

  not_new : (o : ℕ) → latest c.base h o ≢ t
  not_new o is = let le = latest-le c.base h o in omega arith

  pub heads_after : HeadIsTop c later (λ o. m (Head o)) rings
  heads_after = record {
    held = λ s j x lives. let w = logs.was_held f.ring n t s j x lives in k.head_is_top.held s j x w.1;
    top = λ o none.
        ⊎_elim
        (λ w.
        let a = makes.only o w in
        let link = k.head_is_top.held n a.0 a.1 a.2 in
        let object_is = a.3 in
        let v : IsVersion rings o (latest c.base later o) (m (Head o)) a.1 (new_note t a.1) = record {
          names = record { seat = n; slot = a.0; lives = logs.now_committed f.ring n t a.0 a.1 a.2; is = ap (λ p. m (Head p)) (sym object_is) ∙ link };
          object_is = object_is;
          time_is = sym (latest-written c.base h e o w);
        } in
        inl (a.1, new_note t a.1, v, refl))
        (λ no_write.
        let none_before : NoneHolds f.ring o =
        λ s j x lives is.
        dite (ℕ_discrete s n)
        (λ at.
        let written : writes_to o e ≡ true = ap (λ p. writes_to p e) (sym is) ∙ makes.written j x (subst (λ (u : ℕ). Lives f.ring u j x Held) at lives) in cc)
        (λ ne. none s j x (logs.still_held f.ring n t s j x ne lives) is) in
        subst (λ (u : ℕ). IsTop rings o u (m (Head o))) (sym (latest-unwritten c.base h e o no_write))
        (logs.still_top f.ring n t o (latest c.base h o) (m (Head o)) (not_new o) (k.head_is_top.top o none_before)))
        (bool_is (writes_to o e));
  }

  pub held_links : HeldLink c later rings
  held_links s j x lives =
      let w = logs.was_held f.ring n t s j x lives in
      subst (λ (u : ℕ). IsTop rings x.object u x.previous) (sym (other_latest k n e makes s j x w.0 w.1))
      (logs.still_top f.ring n t x.object (latest c.base h x.object) x.previous (not_new x.object) (k.held_link s j x w.1))

  -- what a commit of before links to
  old_links : (x : Version) (u : ℕ) → u ≢ t → LinksBelow f.ring x u → LinksBelow rings x u
  old_links x u ne links = record {
    uncut = λ link y note v. links.uncut link y note (logs.was_version f.ring n t x.object u link y note ne v);
    cut = λ link y note v. links.cut link y note (logs.was_version f.ring n t x.object u link y note ne v);
    none = λ none. ⊎_elim inl (λ gone. inr (logs.still_gone f.ring n t x.previous gone))
        (links.none (λ link y note v. none link y note (logs.still_version f.ring n t x.object u link y note v)));
  }

  -- what a new commit links to is its object's top before
  new_links : (x : Version) → IsTop f.ring x.object (latest c.base h x.object) x.previous → LinksBelow rings x (latest c.base h x.object)
  new_links x top =
      let u : ℕ = latest c.base h x.object in
      let back : (link : ℕ) (y : Version) (note : CommitNote) → IsVersion rings x.object u link y note
      → IsVersion f.ring x.object u link y note = λ link y note v. logs.was_version f.ring n t x.object u link y note (not_new x.object) v in
      ⊎_elim
      (λ a.
      let once : (link : ℕ) (y : Version) (note : CommitNote) → IsVersion rings x.object u link y note → (x.previous ≡ link) × (a.0 ≡ y) × (a.1 ≡ note) =
      λ link y note v. version_once c start h f.ring k.checked k.history.in_time k.history.legal k.positions k.write_sets x.object u x.previous link a.0 y a.1
      note a.2 (back link y note v) in
      record {
        uncut = λ link y note v uncut. (once link y note v).0;
        cut = λ link y note v cut. let other : false ≡ true = sym a.3 ∙ ap (λ (d : CommitNote). d.cut) (once link y note v).2 ∙ cut in absurd cc;
        none = λ none. absurd (none x.previous a.0 a.1 (logs.still_version f.ring n t x.object u x.previous a.0 a.1 a.2));
      })
      (λ b. record {
        uncut = λ link y note v uncut. let cut : note.cut ≡ true = b.1 link y note (back link y note v) in absurd cc;
        cut = λ link y note v cut. b.0;
        none = λ none. inl b.0;
      })
      top

  pub commit_links : CommitLink c later rings
  commit_links s j x note lives =
      ⊎_elim
      (λ old.
      let within = commit_within c h f.ring k.write_sets s j x note old in
      let low = within.0 in
      let high = within.1 in
      let le = latest_at-le c.base h x.object (note.time - 1) (omega arith) in
      subst (LinksBelow rings x) (sym (latest_at-longer c.base h e x.object (note.time - 1) (omega arith)))
      (old_links x (latest_at c.base h x.object (note.time - 1)) (λ is. omega arith) (k.commit_link s j x note old)))
      (λ new.
      let time_is : note.time ≡ t = ap (λ (d : CommitNote). d.time) new.2 in
      let before : note.time - 1 ≡ c.base + length h = omega arith in
      let last : latest_at c.base later x.object (note.time - 1) ≡ latest c.base h x.object =
      ap (latest_at c.base later x.object) before ∙ latest_at-longer c.base h e x.object (c.base + length h) (omega arith)
      ∙ latest_at-end c.base h x.object (c.base + length h) (omega arith) in
      subst (LinksBelow rings x) (sym last) (new_links x (k.held_link n j x new.1)))
      (logs.was_committed f.ring n t s j x note lives)

  pub aborted_links : AbortedLink rings
  aborted_links s j x dead lives =
      ⊎_elim inl
      (⊎_elim (λ gone. inr (inl (logs.still_gone f.ring n t x.previous gone)))
      (λ a. inr (inr (a.0, a.1, logs.still_named f.ring n t x.previous a.0 a.1 a.2, a.3))))
      (k.aborted_link s j x dead (logs.was_aborted f.ring n t s j x dead lives))

  pub masters_present : PresentMaster c start later master f.time rings
  masters_present o none =
      ⊎_elim
      (λ w. let a = makes.only o w in absurd (new_uncut a.0 o a.1 a.2 a.3 (subst (NoneUncut rings o) (latest-written c.base h e o w) none)))
      (λ no_write.
      let last = latest-unwritten c.base h e o no_write in
      let p = k.present_master o (logs.was_none_uncut f.ring n t o (latest c.base h o) (subst (NoneUncut rings o) last none)) in
      let long = longer_long c.base h e in
      let le = latest-le c.base h o in
      let end = latest_at-end c.base later o (c.base + length later) (omega arith) in
      let words : words_of c start later (c.base + length later) o ≡ words_of c start h (c.base + length h) o =
      words_of-same c start later (c.base + length h) (c.base + length later) o (omega arith) (omega arith)
      ∙ words_of-longer c start h e (c.base + length h) o (omega arith) in
      (subst (AreThe (master o)) (sym words) p.0, subst (λ (u : ℕ). NotAboveAny u f.time) (sym last) p.1))
      (bool_is (writes_to o e))

  -- a link that names nothing afterwards named nothing before
  named_nothing : (link : ℕ) → ((y : Version) (st : WriteSetStatus) → ¬ (Names rings link y st)) → (y : Version) (st : WriteSetStatus)
      → ¬ (Names f.ring link y st)
  named_nothing link none y st a =
      let r = logs.still_lives f.ring n t a.seat a.slot y st a.lives in none y r.0 (record { seat = a.seat; slot = a.slot; lives = r.1; is = a.is })

  pub feet_after : ChainFoot c start later master f.time rings
  feet_after s j x note lives none =
      ⊎_elim
      (λ old.
      let high = old_time k n e s j x note old in
      ⊎_elim inl
      (λ g. inr (
        g.0,
        subst (AreThe (master x.object)) (sym (words_of-longer c start h e (note.time - 1) x.object (omega arith))) g.1,
        subst (λ (u : ℕ). NotAboveAny u f.time) (sym (latest_at-longer c.base h e x.object (note.time - 1) (omega arith))) g.2,
      ))
      (k.chain_foot s j x note old (named_nothing x.previous none)))
      (λ new.
      let time_is : note.time ≡ t = ap (λ (d : CommitNote). d.time) new.2 in
      let before : note.time - 1 ≡ c.base + length h = omega arith in
      ⊎_elim
      (λ a. absurd (named_nothing x.previous none a.0 (Committed a.1) a.2.names))
      (λ b.
      let p = k.present_master x.object b.1 in
      let last = latest_at-longer c.base h e x.object (c.base + length h) (omega arith) ∙ latest_at-end c.base h x.object (c.base + length h) (omega arith) in
      let words = words_of-longer c start h e (c.base + length h) x.object (omega arith) in
      inr (
        b.0,
        subst (λ (u : ℕ). AreThe (master x.object) (words_of c start later u x.object)) (sym before) (subst (AreThe (master x.object)) (sym words) p.0),
        subst (λ (u : ℕ). NotAboveAny (latest_at c.base later x.object u) f.time) (sym before) (subst (λ (u : ℕ). NotAboveAny u f.time) (sym last) p.1),
      ))
      (k.held_link n j x new.1))
      (logs.was_committed f.ring n t s j x note lives)
