-- store STAMP 0 (free), in the version chains: a version that was dropped is no top, and who linked to it is not later than any section.
use Rattle.std.proofs.Common.{◌≡◌, ◌⊎◌, ℕ, ◌-◌, ◌<◌, Bool, true, false, List, refl, sym, ap, ◌∙◌, subst, inl, inr, ⊎_elim, arith}
use Rattle.mv_core.proofs.Terms.{Entry, Change, State, Writes, maker_of, Config, Clock, Head, Master, Memory, Ring, Version, WriteSetStatus, Held, Aborted}
use Rattle.mv_core.proofs.Terms.{Committed, CommitNote, Lives, Names, IsGone, IsVersion, NoneHolds, NoneUncut, IsTop, latest, latest_at, IsEntry}
use Rattle.mv_core.proofs.Terms.{IsNextWrite, NotAboveAny, ViewParts}
use Rattle.mv_core.proofs.FactTerms.{HeadIsTop, HeldLink, LinksBelow, CommitLink, AbortedLink, PresentMaster, ChainFoot, FreedIsOld, Facts}
use Rattle.mv_core.proofs.history.Latest.{next_write-le, next_write-once, next_write-of}
use Rattle.mv_core.proofs.logs.Written.{entry_once, set_writes}
use Rattle.mv_core.proofs.logs.Links.{names_once, none_names_zero, gone_names_none}
use Rattle.mv_core.proofs.logs.Finding.{find_write, find_named}
use Rattle.mv_core.proofs.frames.Watermarks.{lower_not_above}
use Rattle.mv_core.proofs.kinds.reclaiming.store_free.FreedLog as log
use Rattle.mv_core.proofs.kinds.reclaiming.store_free.FreedLog.{IsFreed, IsDropped}

module _ {starts : State → Type 0} {allows : List ℕ → State → Writes → Type 0} {c : Config} {start : State} {m : Memory} {h : List Entry} {f : ViewParts}
    (k : Facts starts allows c start m h f) (n position : ℕ) (r : Ring) (is : IsFreed c f n position r) where
  abbrev pub later : ℕ → Ring
  later = log.later k n position r is

  abbrev Dropped : ℕ → Version → WriteSetStatus → Type 0
  Dropped s x st = IsDropped n position (f.grace n) s x st

  pub was : (s j : ℕ) (x : Version) (st : WriteSetStatus) → Lives later s j x st → Lives f.ring s j x st
  was = log.was k n position r is

  still : (s j : ℕ) (x : Version) (st : WriteSetStatus) → Lives f.ring s j x st → Lives later s j x st ⊎ Dropped s x st
  still = log.still k n position r is

  -- what a link names was so, and is so still or was dropped
  abbrev pub names_was : (link : ℕ) (x : Version) (st : WriteSetStatus) → Names later link x st → Names f.ring link x st
  names_was link x st a = record { seat = a.seat; slot = a.slot; lives = was a.seat a.slot x st a.lives; is = a.is }

  pub names_still : (link : ℕ) (x : Version) (st : WriteSetStatus) → (a : Names f.ring link x st) → Names later link x st ⊎ Dropped a.seat x st
  names_still link x st a = ⊎_elim (λ l. inl (record { seat = a.seat; slot = a.slot; lives = l; is = a.is })) (λ d. inr d) (still a.seat a.slot x st a.lives)

  version_was : (o t link : ℕ) (x : Version) (note : CommitNote) → IsVersion later o t link x note → IsVersion f.ring o t link x note
  version_was o t link x note v = record { names = names_was link x (Committed note) v.names; object_is = v.object_is; time_is = v.time_is }

  version_still : (o t link : ℕ) (x : Version) (note : CommitNote) → (v : IsVersion f.ring o t link x note)
      → IsVersion later o t link x note ⊎ Dropped v.names.seat x (Committed note)
  version_still o t link x note v =
      ⊎_elim (λ a. inl (record { names = a; object_is = v.object_is; time_is = v.time_is })) (λ d. inr d) (names_still link x (Committed note) v.names)

  pub uncut_still : (o t : ℕ) → NoneUncut f.ring o t → NoneUncut later o t
  uncut_still o t none link x note v = none link x note (version_was o t link x note v)

  -- an uncut version that was dropped was written over, by the time of its death
  next_of : (o t link : ℕ) (x : Version) (note : CommitNote) → (v : IsVersion f.ring o t link x note) → note.cut ≡ false
      → (d : Dropped v.names.seat x (Committed note)) → IsNextWrite c.base h o t d.dead.0
  next_of o t link x note v uncut d =
      subst (λ (u : ℕ). IsNextWrite c.base h o u d.dead.0) v.time_is
      (subst (λ (p : ℕ). IsNextWrite c.base h p note.time d.dead.0) v.object_is
      (k.deaths.superseded v.names.seat v.names.slot d.dead.0 x note v.names.lives uncut d.dead.1))

  -- so it isn't the object's last write
  not_last : (o link : ℕ) (x : Version) (note : CommitNote) → (v : IsVersion f.ring o (latest c.base h o) link x note) → note.cut ≡ false
      → ¬ (Dropped v.names.seat x (Committed note))
  not_last o link x note v uncut d =
      let next = next_of o (latest c.base h o) link x note v uncut d in
      let later = next.later in
      let le = next_write-le c.base h o (latest c.base h o) d.dead.0 next in
      omega arith

  top_still : (o link : ℕ) → IsTop f.ring o (latest c.base h o) link → IsTop later o (latest c.base h o) link
  top_still o link =
      ⊎_elim
      (λ a. ⊎_elim (λ v. inl (a.0, a.1, v, a.3)) (λ d. absurd (not_last o link a.0 a.1 a.2 a.3 d)) (version_still o (latest c.base h o) link a.0 a.1 a.2))
      (λ z. inr (z.0, uncut_still o (latest c.base h o) z.1))

  pub none_uncut_was : (o : ℕ) → NoneUncut later o (latest c.base h o) → NoneUncut f.ring o (latest c.base h o)
  none_uncut_was o none link x note v =
      (elim note.cut as (λ (b : Bool). note.cut ≡ b → note.cut ≡ true) [
        | true ↦ λ e. e
        | false ↦ λ e. ⊎_elim (λ w. none link x note w) (λ d. absurd (not_last o link x note v e d)) (version_still o (latest c.base h o) link x note v)
      ]) refl

  -- a version that is held isn't dropped
  none_holds_was : (o : ℕ) → NoneHolds later o → NoneHolds f.ring o
  none_holds_was o none s j x lives = ⊎_elim (λ l. none s j x l) (λ d. absurd d.dead) (still s j x Held lives)

  pub heads : HeadIsTop c h (λ o. m (Head o)) later
  heads = record {
    held = λ s j x lives. k.head_is_top.held s j x (was s j x Held lives);
    top = λ o none. top_still o (m (Head o)) (k.head_is_top.top o (none_holds_was o none));
  }

  pub links : HeldLink c h later
  links s j x lives = top_still x.object x.previous (k.held_link s j x (was s j x Held lives))

  -- a link to a version: it names it still, or none any more
  dropped_gone : (link : ℕ) (x : Version) (st : WriteSetStatus) → (names : Names f.ring link x st) → Dropped names.seat x st → IsGone later link
  dropped_gone = log.dropped_gone k n position r is

  gone_still : (link : ℕ) → IsGone f.ring link → IsGone later link
  gone_still = log.gone_still k n position r is

  pub commit_links : CommitLink c h later
  commit_links s j y o lives =
      let t : ℕ = latest_at c.base h y.object (o.time - 1) in
      let old : LinksBelow f.ring y t = k.commit_link s j y o (was s j y (Committed o) lives) in record {
        uncut = λ link z q v. old.uncut link z q (version_was y.object t link z q v);
        cut = λ link z q v. old.cut link z q (version_was y.object t link z q v);
        none = λ none.
            ⊎_elim
            (λ a.
            let v = a.3 in
            ⊎_elim (λ w. absurd (none a.0 a.1 a.2 w))
            (λ d.
            (elim a.2.cut as (λ (b : Bool). a.2.cut ≡ b → (y.previous ≡ 0) ⊎ IsGone later y.previous) [
              | true ↦ λ e. inl (old.cut a.0 a.1 a.2 v e)
              | false ↦ λ e. inr (subst (IsGone later) (sym (old.uncut a.0 a.1 a.2 v e)) (dropped_gone a.0 a.1 (Committed a.2) v.names d))
            ]) refl)
            (version_still y.object t a.0 a.1 a.2 v))
            (λ before. ⊎_elim (λ z. inl z) (λ g. inr (gone_still y.previous g)) (old.none before))
            (find_write c h f.ring k.checked k.history.in_time k.positions y.object t);
      }

  pub aborted_links : AbortedLink later
  aborted_links s j y dead lives =
      ⊎_elim (λ z. inl z)
      (λ a. inr (⊎_elim (λ g. inl (gone_still y.previous g))
      (λ b. ⊎_elim (λ names. inr (b.0, b.1, names, b.3)) (λ d. inl (dropped_gone y.previous b.0 (Committed b.1) b.2 d))
      (names_still y.previous b.0 (Committed b.1) b.2)) a))
      (k.aborted_link s j y dead (was s j y (Aborted dead) lives))

  pub masters : PresentMaster c start h (λ o i. m (Master o i)) f.time later
  masters o none = k.present_master o (none_uncut_was o none)

  -- who links to a version that was dropped isn't later than any section
  above_is_old : (s j : ℕ) (y : Version) (o : CommitNote) → Lives f.ring s j y (Committed o) → (z : Version) (st : WriteSetStatus)
      → (names : Names f.ring y.previous z st) → Dropped names.seat z st → NotAboveAny o.time f.time
  above_is_old s j y o lives z st names d =
      let t : ℕ = latest_at c.base h y.object (o.time - 1) in
      let old : LinksBelow f.ring y t = k.commit_link s j y o lives in
      let co = k.write_sets.commit s j y o lives in
      let next : IsNextWrite c.base h y.object t o.time = next_write-of c.base h y.object o.time (Change co.commit) co.entry (set_writes c h f.ring s y o co) in
      ⊎_elim
      (λ a.
      let v = a.3 in
      (elim a.2.cut as (λ (b : Bool). a.2.cut ≡ b → NotAboveAny o.time f.time) [
        | true ↦ λ e. absurd (none_names_zero f.ring y.previous (old.cut a.0 a.1 a.2 v e) z st names)
        | false ↦ λ e.
            let mine : Names f.ring y.previous a.1 (Committed a.2) =
            subst (λ (l : ℕ). Names f.ring l a.1 (Committed a.2)) (sym (old.uncut a.0 a.1 a.2 v e)) v.names in
            let one = names_once c h f.ring k.checked k.history.in_time k.positions y.previous z a.1 st (Committed a.2) names mine in
            let gone : Dropped v.names.seat a.1 (Committed a.2) =
            subst (λ (p : WriteSetStatus). Dropped v.names.seat a.1 p) one.3
            (subst (λ (p : Version). Dropped v.names.seat p st) one.2 (subst (λ (q : ℕ). Dropped q z st) one.0 d)) in
            let dead = next_of y.object t a.0 a.1 a.2 v e gone in
            let at = next_write-once c.base h y.object t gone.dead.0 o.time dead next in
            let by = gone.dead.2 in
            λ q. lower_not_above (f.grace n) o.time (f.time q) (omega arith) ((k.grace.views n).1 q)
      ]) refl)
      (λ none.
      ⊎_elim
      (λ e. absurd (none_names_zero f.ring y.previous e z st names))
      (λ g. absurd (gone_names_none c h f.ring k.checked k.history.in_time k.positions y.previous g z st names))
      (old.none none))
      (find_write c h f.ring k.checked k.history.in_time k.positions y.object t)

  pub feet : ChainFoot c start h (λ o i. m (Master o i)) f.time later
  feet s j y o lives nothing =
      let lived = was s j y (Committed o) lives in
      ⊎_elim
      (λ a. ⊎_elim (λ names. absurd (nothing a.0 a.1 names)) (λ d. inl (above_is_old s j y o lived a.0 a.1 a.2 d)) (names_still y.previous a.0 a.1 a.2))
      (λ none. k.chain_foot s j y o lived none)
      (find_named c h f.ring k.checked k.history.in_time k.positions y.previous)

  pub freed_after : FreedIsOld c (m Clock) h f.grace later
  freed_after = record {
    writes = λ t o e at w.
        ⊎_elim
        (λ a.
        let v = a.3 in
        ⊎_elim (λ q. inl (a.0, a.1, a.2, q))
        (λ d.
        let low = log.dropped_is_old k n position r is v.names.seat v.names.slot a.1 a.2 v.names.lives d in
        let time_is = v.time_is in
        let co = k.write_sets.commit v.names.seat v.names.slot a.1 a.2 v.names.lives in
        let one : e ≡ Change co.commit =
        entry_once c.base h t e (Change co.commit) at (subst (λ (u : ℕ). IsEntry c.base h u (Change co.commit)) time_is co.entry) in
        let maker : maker_of e ≡ n = ap maker_of one ∙ co.seat ∙ d.seat_is in
        inr (subst (λ (s : ℕ). t < f.grace s) (sym maker) (omega arith)))
        (version_still o t a.0 a.1 a.2 v))
        (λ old. inr old)
        (k.freed_is_old.writes t o e at w);
    named = λ some.
        let a = k.freed_is_old.named some in
        (a.0, a.1, log.clock_kept k n position r is a.0 a.1 _ _ a.2 a.4, a.3, a.4);
  }
