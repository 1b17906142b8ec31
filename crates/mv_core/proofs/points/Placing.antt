-- Where walks stand and write-backs are under way: under what is later in the chain.
use Rattle.std.proofs.Common.{◌≡◌, ◌⊎◌, ℕ, zero, suc, ◌+◌, ◌-◌, ◌<◌, ◌≤◌, false, List, [], ◌∷◌, ◌++◌}
use Rattle.std.proofs.Common.{Option, Some, None, sym, refl, ap, ◌∙◌, subst, inl, inr, ⊎_elim, arith}
use Rattle.mv_core.proofs.Terms.{dite, dec_lt, State, Writes, maker_of, Entry, Config, Head, Master, Memory, link_of, Version, WriteSetStatus, Held, Aborted}
use Rattle.mv_core.proofs.Terms.{Committed, CommitNote, Knowledge, WriteBack, Stand, Lives, Names, IsVersion, IsTop, NoneUncut, latest, latest_at}
use Rattle.mv_core.proofs.Terms.{words_of, IsNextWrite, ViewParts, parts_of, time_in}
use Rattle.mv_core.specs.declared.view.WalkStage.TheVariants as walk
use Rattle.mv_core.proofs.FactTerms.{MasterServes, IsRightFor, MayStandAt, StandsRight, Facts, SlotVersion, IsLinked, prev_of, HangFrom, LeadsBy, lowest}
use Rattle.mv_core.proofs.FactTerms.{time_down, AreWritesFrom, IsLater, IsUnderLater, IsRightLink, IsRightMaster, IsAbortedOver}
use Rattle.mv_core.specs.Points.{WalksStandRight, MastersAreRead, BacksHold}
use Rattle.mv_core.proofs.kinds.walking.EmptyHeads.{time_of_section}
use Rattle.mv_core.proofs.history.Latest.{latest_at-mono, latest_at-reaches, latest_at-entry, latest-reaches, latest_at-latest, latest_at-before, next_write}
use Rattle.mv_core.proofs.history.WordsAt.{words_of-latest, version-words}
use Rattle.mv_core.proofs.logs.Finding.{find_holder}
use Rattle.mv_core.proofs.kinds.walking.Landing.{not_above}
use Rattle.mv_core.proofs.logs.Versions.{version_once}
use Rattle.mv_core.proofs.kinds.naming.entry.NewEntry.{bool_is}
use Rattle.mv_core.proofs.logs.Written.{version_writes, commit_within}
use Rattle.mv_core.proofs.points.Reaching.{prev_word}
use Rattle.mv_core.proofs.points.Chaining.{chain_of}

module _ {starts : State → Type 0} {allows : List ℕ → State → Writes → Type 0} {c : Config} {start : State} {m : Memory} {h : List Entry}
    (seats : ℕ → Knowledge)
    (k : Facts starts allows c start m h (parts_of seats)) where
  abbrev f : ViewParts
  f = parts_of seats

  -- one version more at the end
  one_down : (P : SlotVersion → Type 0) (ps : List SlotVersion) (link mid : ℕ) (q : SlotVersion) → LeadsBy m f.ring P link ps mid
      → IsLinked m f.ring mid q → P q
      → LeadsBy m f.ring P link (ps ++ q ∷ []) (prev_of m f.ring q)
  one_down P [] link mid q leads is holds = (subst (λ (l : ℕ). IsLinked m f.ring l q) leads is, holds, refl)
  one_down P (p ∷ ps) link mid q leads is holds = (leads.0, leads.1, one_down P ps (prev_of m f.ring p) mid q leads.2 is holds)

  -- the link of a live version names it
  abbrev named_so : (s i : ℕ) (x : Version) (st : WriteSetStatus) → Lives f.ring s i x st → Names f.ring (link_of s x.position) x st
  named_so s i x st lives = record { seat = s; slot = i; lives = lives; is = refl }

  once : (o t link other : ℕ) (x y : Version) (n u : CommitNote) → IsVersion f.ring o t link x n → IsVersion f.ring o t other y u → link ≡ other
  once o t link other x y n u a b =
      (version_once c start h f.ring k.checked k.history.in_time k.history.legal k.positions k.write_sets o t link other x y n u a b).0

  -- the link of an object's last write, where it wasn't cut
  under_held : (t o s i : ℕ) (x : Version) (note : CommitNote) → (lives : Lives f.ring s i x (Committed note)) → note.cut ≡ false → x.object ≡ o
      → note.time ≡ latest c.base h o → IsUnderLater m f.ring o t (link_of s x.position)
  under_held t o s i x note lives uncut object time =
      let v : IsVersion f.ring o (latest c.base h o) (link_of s x.position) x note =
      record { names = named_so s i x (Committed note) lives; object_is = object; time_is = time } in
      let top_is : (link : ℕ) → IsTop f.ring o (latest c.base h o) link → link_of s x.position ≡ link =
      λ link top. ⊎_elim
      (λ a. once o (latest c.base h o) (link_of s x.position) link x a.0 note a.1 v a.2)
      (λ b. let cut = b.1 (link_of s x.position) x note v in absurd cc)
      top in
      ⊎_elim
      (λ a.
      let z : Version = a.2 in
      let p : SlotVersion = record { seat = a.0; slot = a.1; version = z; status = Held } in
      let head = ap (λ q. m (Head q)) (sym a.4) ∙ k.head_is_top.held a.0 a.1 z a.3 in
      let word = prev_word seats k p a.3 in
      let top = subst (λ (q : ℕ). IsTop f.ring q (latest c.base h q) z.previous) a.4 (k.held_link a.0 a.1 z a.3) in
      (p ∷ [], ((head, a.3), tt, top_is z.previous top ∙ sym word)))
      (λ none. ([], top_is (m (Head o)) (k.head_is_top.top o none)))
      (find_holder c h f.ring k.checked k.history.in_time k.positions o)

  module _ (j t : ℕ) (timed : f.time j ≡ Some t) where
    -- above a version that wasn't cut and is right for a section's time all are later, if its object's last write is at most so much later
    abbrev IsUnder : ℕ → Type 0
    IsUnder n = (s i : ℕ) (x : Version) (note : CommitNote) → Lives f.ring s i x (Committed note) → note.cut ≡ false → IsRightFor c h t x note
        → latest c.base h x.object ≤ note.time + n → IsUnderLater m f.ring x.object t (link_of s x.position)

    higher : (n : ℕ) → IsUnder n → (s i : ℕ) (x : Version) (note : CommitNote) → Lives f.ring s i x (Committed note) → note.cut ≡ false
        → IsRightFor c h t x note → latest c.base h x.object ≤ note.time + suc n → note.time < latest c.base h x.object
        → IsUnderLater m f.ring x.object t (link_of s x.position)
    higher n go s i x note lives uncut right fuel lt =
        let o : ℕ = x.object in
        let own = version_writes c h f.ring k.write_sets s i x note lives in
        let low = (commit_within c h f.ring k.write_sets s i x note lives).0 in
        let next = next_write c.base h o note.time (omega arith) lt in
        let w : ℕ = next.0 in
        let is : IsNextWrite c.base h o note.time w = next.1 in
        let later = is.later in
        let late : t < w =
        ⊎_elim (λ above. omega arith)
        (λ last. dite (dec_lt t w) (λ yes. yes)
        (λ ge. let r = latest_at-reaches c.base h o w t is.entry is.there is.writes (omega arith) in absurd (omega arith))) right in
        ⊎_elim
        (λ a.
        let y : Version = a.1 in let other : CommitNote = a.2 in
        let v : IsVersion f.ring o w a.0 y other = a.3 in
        let time = v.time_is in
        ⊎_elim
        (λ cut. let le = not_above other.time j t f.time (k.cut_is_old v.names.seat v.names.slot y other v.names.lives cut) timed in absurd (omega arith))
        (λ whole.
        let q : SlotVersion = record { seat = v.names.seat; slot = v.names.slot; version = y; status = Committed other } in
        let object = v.object_is in
        let last : latest c.base h y.object ≤ other.time + n = subst (λ (u : ℕ). latest c.base h u ≤ other.time + n) (sym object) (omega arith) in
        let up : IsUnderLater m f.ring o t (link_of q.seat y.position) =
        subst (λ (u : ℕ). IsUnderLater m f.ring u t (link_of q.seat y.position)) object
        (go q.seat q.slot y other v.names.lives whole (inl (omega arith)) last) in
        let same : latest_at c.base h y.object (other.time - 1) ≡ latest_at c.base h o (w - 1) = λ z. latest_at c.base h (object z) (time z - 1) in
        let before = latest_at-before c.base h o note.time w own.0 own.1 own.2 is in
        let here : IsVersion f.ring y.object (latest_at c.base h y.object (other.time - 1)) (link_of s x.position) x note =
        record { names = named_so s i x (Committed note) lives; object_is = sym object; time_is = sym (same ∙ before) } in
        let link : prev_of m f.ring q ≡ link_of s x.position =
        prev_word seats k q v.names.lives ∙ (k.commit_link q.seat q.slot y other v.names.lives).uncut (link_of s x.position) x note here uncut in (
          up.0 ++ q ∷ [],
          subst (λ (l : ℕ). LeadsBy m f.ring (λ p. IsLater t p.status) (m (Head o)) (up.0 ++ q ∷ []) l) link
              (one_down (λ p. IsLater t p.status) up.0 (m (Head o)) (link_of q.seat y.position) q up.1 (refl, v.names.lives)
              (let lt : t < other.time = omega arith in lt)),
        ))
        (bool_is other.cut))
        (λ old. let le = not_above (f.grace (maker_of is.entry)) j t f.time (k.grace.views (maker_of is.entry)).1 timed in absurd (omega arith))
        (k.freed_is_old.writes w o is.entry is.there is.writes)

    under : (n : ℕ) → IsUnder n
    under zero s i x note lives uncut right fuel =
        let w = version_writes c h f.ring k.write_sets s i x note lives in
        let reaches = latest-reaches c.base h x.object note.time w.0 w.1 w.2 in
        under_held t x.object s i x note lives uncut refl (omega arith)
    under (suc n) s i x note lives uncut right fuel =
        let w = version_writes c h f.ring k.write_sets s i x note lives in
        let reaches = latest-reaches c.base h x.object note.time w.0 w.1 w.2 in
        dite (dec_lt note.time (latest c.base h x.object))
        (λ lt. higher n (under n) s i x note lives uncut right fuel lt)
        (λ ge. under_held t x.object s i x note lives uncut refl (omega arith))

    pub right_under : (s i : ℕ) (x : Version) (note : CommitNote) → Lives f.ring s i x (Committed note) → note.cut ≡ false → IsRightFor c h t x note
        → IsUnderLater m f.ring x.object t (link_of s x.position)
    right_under s i x note lives uncut right = under (latest c.base h x.object) s i x note lives uncut right (omega arith)

    -- a link to a committed version that is right
    right_link : (link : ℕ) (x : Version) (note : CommitNote) → Names f.ring link x (Committed note) → IsRightFor c h t x note
        → IsRightLink c start m h f t x.object link
    right_link link x note names right =
        let p : SlotVersion = record { seat = names.seat; slot = names.slot; version = x; status = Committed note } in
        let low = (commit_within c h f.ring k.write_sets names.seat names.slot x note names.lives).0 in
        ⊎_elim
        (λ cut.
        let le = not_above note.time j t f.time (k.cut_is_old names.seat names.slot x note names.lives cut) timed in
        let last : note.time ≡ latest_at c.base h x.object t = ⊎_elim (λ above. absurd (omega arith)) (λ e. e) right in (
          p,
          (names.is, names.lives),
          refl,
          inr (record {
            note = note;
            committed = refl;
            cut = cut;
            words =
                sym (words_of-latest c start h t x.object (omega arith) ∙ ap (λ u. words_of c start h u x.object) (sym last)
                ∙ version-words c start h k.history.legal f.ring names.seat x note (k.write_sets.commit names.seat names.slot x note names.lives));
          }),
        ))
        (λ uncut. (
          p,
          (names.is, names.lives),
          refl,
          inl (subst (λ (l : ℕ). IsUnderLater m f.ring x.object t l) (sym names.is) (right_under names.seat names.slot x note names.lives uncut right)),
        ))
        (bool_is note.cut)

    -- where a chain's lowest version isn't later, that of the last write up to the time is chained
    chained_at : (o u : ℕ) → u ≤ t → (ps : List SlotVersion) (time link : ℕ) (above : Option ℕ) → HangFrom m f.ring link ps → AreWritesFrom c h o time ps
        → latest_at c.base h o t ≤ time → lowest above ps ≡ Some u → ((w : ℕ) → above ≡ Some w → t < w)
        → (l : ℕ) × (y : Version) × (note : CommitNote) × IsVersion f.ring o (latest_at c.base h o t) l y note × (note.cut ≡ false)
    chained_at o u le [] time link above hang writes from low late = let lt = late u low in absurd (omega arith)
    chained_at o u le (p ∷ ps) time link above hang writes from low late =
        let object = writes.0 in
        let note : CommitNote = writes.1.0 in
        let committed = writes.1.1 in
        let at = writes.1.3 in
        let lives : Lives f.ring p.seat p.slot p.version (Committed note) =
        subst (λ (st : WriteSetStatus). Lives f.ring p.seat p.slot p.version st) committed hang.0.1 in
        dite (dec_lt t time)
        (λ lt.
        chained_at o u le ps (latest_at c.base h o (time - 1)) (prev_of m f.ring p) (Some note.time) hang.1 writes.1.4
        (latest_at-mono c.base h o t (time - 1) (omega arith))
        (subst (λ (st : WriteSetStatus). lowest (time_down above st) ps ≡ Some u) committed low)
        (λ w e. let same : note.time ≡ w = cc in omega arith))
        (λ ge.
        let r = version_writes c h f.ring k.write_sets p.seat p.slot p.version note lives in
        let reaches : note.time ≤ latest_at c.base h o t =
        subst (λ (q : ℕ). note.time ≤ latest_at c.base h q t) object (latest_at-reaches c.base h p.version.object note.time t r.0 r.1 r.2 (omega arith)) in (
          link,
          p.version,
          note,
          record { names = record { seat = p.seat; slot = p.slot; lives = lives; is = hang.0.0 }; object_is = object; time_is = omega arith },
          writes.1.2,
        ))

    right_master : (o : ℕ) → MasterServes c start h (λ p i. m (Master p i)) f.ring t o → IsRightMaster c start m h f t o
    right_master o serves =
        let ch = chain_of seats k o in
        let no : (l : ℕ) × (y : Version) × (note : CommitNote) × IsVersion f.ring o (latest_at c.base h o t) l y note × (note.cut ≡ false) → ⊥ =
        λ v. let cut = serves.1 v.0 v.1 v.2 v.3 in let uncut = v.4 in absurd cc in
        ⊎_elim
        (λ g. (serves.0, (ch.0, ch.1, g)))
        (λ loose.
        let le = not_above loose.0 j t f.time loose.2 timed in
        absurd (⊎_elim
        (λ writes. no
        (chained_at o loose.0 le ch.0 (latest c.base h o) (m (Head o)) None ch.1 writes (latest_at-latest c.base h o t) loose.1 (λ w e. absurd cc)))
        (λ top.
        let p : SlotVersion = top.0 in
        let hang : HangFrom m f.ring (m (Head o)) (p ∷ top.1) = subst (λ (ps : List SlotVersion). HangFrom m f.ring (m (Head o)) ps) top.2 ch.1 in
        let low : lowest None (p ∷ top.1) ≡ Some loose.0 = ap (λ (ps : List SlotVersion). lowest None ps) (sym top.2) ∙ loose.1 in
        no (chained_at o loose.0 le top.1 (latest c.base h o) (prev_of m f.ring p) None hang.1 top.5 (latest_at-latest c.base h o t)
        (subst (λ (st : WriteSetStatus). lowest (time_down None st) top.1 ≡ Some loose.0) top.4 low) (λ w e. absurd cc)))
        ch.2))
        ch.3

    stands : (stand : Stand) (x : Version) (st : WriteSetStatus) → Names f.ring stand.link x st → x.object ≡ stand.object
        → MayStandAt c start h (λ p i. m (Master p i)) f.ring t x st
        → IsRightLink c start m h f t stand.object stand.link ⊎ IsAbortedOver c start m h f t stand.object stand.link
    stands stand x Held names object may =
        let p : SlotVersion = record { seat = names.seat; slot = names.slot; version = x; status = Held } in
        let head : m (Head stand.object) ≡ link_of names.seat x.position =
        ap (λ q. m (Head q)) (sym object) ∙ k.head_is_top.held names.seat names.slot x names.lives in
        inl (p, (names.is, names.lives), object, inl ([], names.is ∙ sym head))
    stands stand x (Committed note) names object may =
        inl (subst (λ (o : ℕ). IsRightLink c start m h f t o stand.link) object (right_link stand.link x note names may))
    stands stand x (Aborted dead) names object may =
        let p : SlotVersion = record { seat = names.seat; slot = names.slot; version = x; status = Aborted dead } in
        let word = prev_word seats k p names.lives in
        inr (record {
          version = p;
          linked = (names.is, names.lives);
          object_is = object;
          dead = dead;
          aborted = refl;
          below =
              ⊎_elim
              (λ z. inl (word ∙ z.0, subst (λ (o : ℕ). IsRightMaster c start m h f t o) object (right_master x.object z.1)))
              (λ a. inr (subst (λ (l : ℕ). IsRightLink c start m h f t stand.object l) (sym word)
              (subst (λ (o : ℕ). IsRightLink c start m h f t o x.previous) (a.3 ∙ object) (right_link x.previous a.0 a.1 a.2 a.4))))
              may;
        })

  pub walks_stand_right : WalksStandRight c start m h f
  walks_stand_right = (
    λ j t stand timed at.
        let r : StandsRight c start h (λ o i. m (Master o i)) f.ring t (walk.At stand) =
        subst (StandsRight c start h (λ o i. m (Master o i)) f.ring t) at (k.walker_place j t timed) in
        stands j t timed stand r.0 r.1 r.2 r.3 r.4,
    λ j t o timed at.
        let r : StandsRight c start h (λ p i. m (Master p i)) f.ring t (walk.Master o) =
        subst (StandsRight c start h (λ p i. m (Master p i)) f.ring t) at (k.walker_place j t timed) in
        right_master j t timed o r,
  )

  -- while a write-back stores words, no section is at that master
  no_reader : (j t s : ℕ) (b : WriteBack) → f.time j ≡ Some t → f.back s ≡ Some b → b.tried ≡ false
      → NoneUncut f.ring b.object (latest_at c.base h b.object t) → ⊥
  no_reader j t s b timed at tried uncut =
      let p = k.write_back s b at in
      let r = p.2 in
      let o : ℕ = b.object in
      let there : ℕ = time_in p.0 in
      let timed_there : f.time s ≡ Some there = time_of_section (seats s).phase p.0 p.1 in
      let last : ℕ = latest_at c.base h o t in
      let own = version_writes c h f.ring k.write_sets s _ r.version r.note r.lives in
      let low = (commit_within c h f.ring k.write_sets s _ r.version r.note r.lives).0 in
      let old = not_above r.note.time j t f.time r.old timed in
      let up : r.note.time ≤ last =
      subst (λ (q : ℕ). r.note.time ≤ latest_at c.base h q t) r.object_is
      (latest_at-reaches c.base h r.version.object r.note.time t own.0 own.1 own.2 old) in
      let e = latest_at-entry c.base h o t (omega arith) in
      let early : last ≤ there =
      ⊎_elim
      (λ a. let v = a.3 in let time = v.time_is in
      let le = not_above a.2.time s there f.time (k.cut_is_old v.names.seat v.names.slot a.1 a.2 v.names.lives (uncut a.0 a.1 a.2 v)) timed_there in
      omega arith)
      (λ b. let le = not_above (f.grace (maker_of e.0)) s there f.time (k.grace.views (maker_of e.0)).1 timed_there in omega arith)
      (k.freed_is_old.writes last o e.0 e.1 e.2) in
      let down = latest_at-reaches c.base h o last there e.0 e.1 e.2 early in
      let is = r.last in
      let same : r.note.time ≡ last = omega arith in
      let cut = uncut (link_of s r.version.position) r.version r.note
      (record { names = named_so s _ r.version (Committed r.note) r.lives; object_is = r.object_is; time_is = same }) in
      let whole = r.uncut tried in
      absurd cc

  pub masters_are_read : MastersAreRead c start m h f
  masters_are_read j t o timed at =
      let r : StandsRight c start h (λ p i. m (Master p i)) f.ring t (walk.Master o) =
      subst (StandsRight c start h (λ p i. m (Master p i)) f.ring t) at (k.walker_place j t timed) in (
        r.0,
        λ s b back object.
            ⊎_elim (λ yes. yes)
            (λ tried. absurd (no_reader j t s b timed back tried (subst (λ (q : ℕ). NoneUncut f.ring q (latest_at c.base h q t)) (sym object) r.1)))
            (bool_is b.tried),
      )

  pub backs_hold : BacksHold c m h f
  backs_hold s b at =
      let p = k.write_back s b at in
      let r = p.2 in
      let timed : f.time s ≡ Some (time_in p.0) = time_of_section (seats s).phase p.0 p.1 in record {
        at = time_in p.0;
        in_section = timed;
        version = r.version;
        note = r.note;
        lives = r.lives;
        position_is = r.position_is;
        object_is = r.object_is;
        old = r.old;
        last = r.last;
        chained = λ tried.
            subst (λ (q : ℕ). IsUnderLater m f.ring b.object (time_in p.0) (link_of s q)) r.position_is
            (subst (λ (o : ℕ). IsUnderLater m f.ring o (time_in p.0) (link_of s r.version.position)) r.object_is
            (right_under s (time_in p.0) timed s _ r.version r.note r.lives (r.uncut tried)
            (inr (sym r.last ∙ ap (λ o. latest_at c.base h o (time_in p.0)) (sym r.object_is)))));
        words = r.words;
      }
