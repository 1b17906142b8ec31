-- What holds of write sets, sections and version chains stays where each live version stays what it is to the other seats.
use Rattle.std.proofs.Common.{◌≡◌, ◌⊎◌, ℕ, ◌+◌, ◌-◌, ◌<◌, ◌≤◌, List, length, sym, ap, ◌∙◌, subst, inl, inr, ⊎_elim, arith, Option}
use Rattle.mv_core.proofs.Terms.{Entry, Change, State, Config, link_of, Ring, Built, Freeing, Build, Version, Held, Committed, CommitNote, OwnSection}
use Rattle.mv_core.proofs.Terms.{slot_at, index_of, HoldsNothing, Names, IsGone, IsTop, latest, latest_at, IsEntry, NotAboveAny}
use Rattle.mv_core.proofs.FactTerms.{WriteSets, IsHeldOrAborted, InHeldSet, InSet, CommitOf, Positions, LockFreshness, OpenSection, HeadIsTop}
use Rattle.mv_core.proofs.FactTerms.{HeldLink, LinksBelow, CommitLink, AbortedLink, PresentMaster, ChainFoot, FreedIsOld, CutIsOld}
use Rattle.mv_core.specs.ChainFacts.{IsGrounded}
use Rattle.mv_core.proofs.logs.Slots.{Becomes, Matches, match_weaker}
use Rattle.mv_core.proofs.frames.Matching.{KeepsPlace, LivesOn, AlikeOrCut, SameCut, on_place, alike_place, uncommitted_forth}
use Rattle.mv_core.proofs.frames.Matching.{uncommitted_back, still_held, unnamed_back, gone_forth, first_forth, set_forth}
use Rattle.mv_core.proofs.frames.Matching.{use_forth, use_back, held_back, aborted_back, committed_back, committed_forth}
use Rattle.mv_core.proofs.frames.Matching.{names_committed_forth, version_back, version_forth, none_holds_back, none_uncut_back, top_forth}

module _ (R : Becomes) (places : KeepsPlace R) (c : Config) (h : List Entry) (before after : ℕ → Ring) (k : Matches R before after) where
  -- positions, where each log has as many slots, what is freed stays, and a built slot is for the next position
  pub positions_match : ((s : ℕ) → length (after s).slots ≡ length (before s).slots)
      → ((s j p first : ℕ) → slot_at (after s) j ≡ Freeing p first → slot_at (before s) j ≡ Freeing p first)
      → ((s j p first : ℕ) → slot_at (before s) j ≡ Freeing p first → slot_at (after s) j ≡ Freeing p first)
      → ((s j : ℕ) (b : Build) → slot_at (after s) j ≡ Built b → index_of c (before s).next ≡ j) → Positions c h before → Positions c h after
  positions_match wide freeing freeing_still built old = record {
    wide = λ s. wide s ∙ old.wide s;
    within = λ s j y su lives. let b = k.back s j y su lives in old.within s j b.0 b.1 b.2;
    live = λ s j y su lives.
        let b = k.back s j y su lives in
        let position = (places b.0 b.1 y su b.3).position in
        let next = k.next s in
        let p = old.live s j b.0 b.1 b.2 in
        let low = p.1 in
        let high = p.2 in
        (ap (index_of c) position ∙ p.0, omega arith, omega arith);
    freeing = λ s j p first e.
        let q = old.freeing s j p first (freeing s j p first e) in
        let next = k.next s in
        let low = q.1 in
        let high = q.2 in
        (q.0, omega arith, omega arith);
    oldest = λ s j p first e.
        let a = old.oldest s j p first (freeing s j p first e) in (
          a.0,
          λ l y su lives.
              let b = k.back s l y su lives in
              let position = (places b.0 b.1 y su b.3).position in
              let lt = a.1 l b.0 b.1 b.2 in
              omega arith,
        );
    built = λ s j b e. ap (index_of c) (k.next s) ∙ built s j b e;
    no_gap = λ s p q in_use le lt.
        let next = k.next s in
        use_forth R places before after k freeing_still c s q
        (old.no_gap s p q (use_back R places before after k freeing c s p in_use) le (omega arith));
    bound = λ s. let next = k.next s in let le = old.bound s in omega arith;
  }

module _ (c : Config) (h : List Entry) (before after : ℕ → Ring) (k : Matches LivesOn before after) where
  -- nothing is held still
  pub nothing_match : (s : ℕ) → HoldsNothing (before s) → HoldsNothing (after s)
  nothing_match s none j y lives = let b = held_back before after k s j y lives in none j b.0 b.1

  -- a committed version's write set is whole still
  commit_match : (s j : ℕ) (x : Version) (m n : CommitNote) → n.time ≡ m.time → CommitOf c h before s x m → CommitOf c h after s x n
  commit_match s j x m n time r = record {
    commit = r.commit;
    entry = subst (λ (t : ℕ). IsEntry c.base h t (Change r.commit)) (sym time) r.entry;
    seat = r.seat;
    after_first = r.after_first;
    write = r.write;
    all = λ i lt.
        let a = r.all i lt in
        let f = committed_forth before after k s (index_of c (x.first + i)) a.0 a.1 a.2 in
        (a.0, f.0, f.1, a.3, a.4, f.2 ∙ a.5 ∙ sym time);
  }

  pub sets_match : WriteSets c h before → WriteSets c h after
  sets_match w = record {
    commit = λ s j x n lives. let b = committed_back before after k s j x n lives in commit_match s j x b.0 n b.2 (w.commit s j x b.0 b.1);
    once = λ s j l x y m n p q e.
        let a = committed_back before after k s j x m p in
        let b = committed_back before after k s l y n q in
        w.once s j l x y a.0 b.0 a.1 b.1 (sym a.2 ∙ e ∙ b.2);
    first = λ s j y su lives.
        let b = k.back s j y su lives in
        first_forth LivesOn on_place before after k c s b.0 y (on_place b.0 b.1 y su b.3).first (w.first s j b.0 b.1 b.2);
    after_first = λ s j y su lives.
        let b = k.back s j y su lives in
        let at = on_place b.0 b.1 y su b.3 in
        let first = at.first in
        let position = at.position in
        let le = w.after_first s j b.0 b.1 b.2 in
        omega arith;
    between = λ s j y su lives p from to.
        let b = k.back s j y su lives in
        let at = on_place b.0 b.1 y su b.3 in
        let first = at.first in
        let position = at.position in
        let r = w.between s j b.0 b.1 b.2 p (omega arith) (omega arith) in
        subst (λ (i : ℕ). InSet c after s i p) (sym first)
        (set_forth LivesOn on_place before after k (λ st. Unit {0}) (λ st. Unit {0}) (λ _ _ _ _ _ _. tt) c s b.0.first p r);
    apart = λ s j l y z su n p uncommitted q e.
        let a = k.back s j y su p in
        let b = committed_back before after k s l z n q in
        w.apart s j l a.0 z a.1 b.0 a.2 (uncommitted_back a.0 a.1 y su a.3 uncommitted) b.1 (sym (on_place a.0 a.1 y su a.3).first ∙ e);
    held = λ s j y lives p from below.
        let b = held_back before after k s j y lives in
        let first = b.2.first in
        let next = k.next s in
        let r = w.held s j b.0 b.1 p (omega arith) (omega arith) in
        subst (λ (i : ℕ). InHeldSet c after s i p IsHeldOrAborted) (sym first)
        (set_forth LivesOn on_place before after k IsHeldOrAborted IsHeldOrAborted uncommitted_forth c s b.0.first p r);
  }

  pub freshness_match : (time : ℕ → Option ℕ) → LockFreshness c h time before → LockFreshness c h time after
  freshness_match time old s j y lives =
      let b = held_back before after k s j y lives in
      let r = old s j b.0 b.1 in
      (r.0, r.1, subst (λ (o : ℕ). latest c.base h o ≤ r.0) (sym b.2.object) r.2, subst (λ (o : ℕ). o < c.objects) (sym b.2.object) r.3)

  -- a version that was held links to what was its object's top
  pub aborted_link_match : HeldLink c h before → AbortedLink before → AbortedLink after
  aborted_link_match tops old s j y e lives =
      let links : (y.previous ≡ 0) ⊎ (IsGone before y.previous ⊎
      ((z : Version) × (note : CommitNote) × Names before y.previous z (Committed note) × (z.object ≡ y.object))) =
      ⊎_elim
      (λ b. old s j y b.0 b.1)
      (λ held. ⊎_elim (λ a. inr (inr (a.0, a.1, a.2.names, a.2.object_is))) (λ z. inl z.0) (tops s j y held))
      (aborted_back before after k s j y e lives) in
      ⊎_elim
      (λ a. inl a)
      (λ r. inr (⊎_elim
      (λ g. inl (gone_forth LivesOn on_place before after k y.previous g))
      (λ d. let f = names_committed_forth before after k y.previous d.0 d.1 d.2 in inr (d.0, f.0, f.1, d.3))
      r))
      links

  pub foot_match : (start : State) (master : ℕ → ℕ → ℕ) (time : ℕ → Option ℕ) → ChainFoot c start h master time before → ChainFoot c start h master time after
  foot_match start master time old s j x n lives none =
      let b = committed_back before after k s j x n lives in
      subst (λ (t : ℕ). NotAboveAny t time ⊎ IsGrounded c start h master time x (record n { time = t })) (sym b.2)
      (old s j x b.0 b.1 (unnamed_back LivesOn on_place before after k x.previous none))

  pub freed_match : (clock : ℕ) (grace : ℕ → ℕ) → FreedIsOld c clock h grace before → FreedIsOld c clock h grace after
  freed_match clock grace old = record {
    writes = λ t o e at w.
        ⊎_elim (λ a. let f = version_forth before after k o t a.0 a.1 a.2 a.3 in inl (a.0, a.1, f.0, f.1)) (λ b. inr b) (old.writes t o e at w);
    named = λ ne.
        let r = old.named ne in
        let f = committed_forth before after k _ _ r.0 r.1 r.2 in
        (r.0, f.0, f.1, r.3, f.2 ∙ r.4);
  }

  module _ (same_cut : SameCut before after) where
    -- the top of an object's chain
    top_still : (o t link : ℕ) → IsTop before o t link → IsTop after o t link
    top_still = top_forth before after k same_cut

    pub held_link_match : HeldLink c h before → HeldLink c h after
    held_link_match old s j y lives =
        let b = held_back before after k s j y lives in
        let top : IsTop after b.0.object (latest c.base h b.0.object) y.previous =
        subst (IsTop after b.0.object (latest c.base h b.0.object)) (sym b.2.previous)
        (top_still b.0.object (latest c.base h b.0.object) b.0.previous (old s j b.0 b.1)) in
        subst (λ (o : ℕ). IsTop after o (latest c.base h o) y.previous) (sym b.2.object) top

    pub commit_link_match : CommitLink c h before → CommitLink c h after
    commit_link_match old s j x n lives =
        let b = committed_back before after k s j x n lives in
        let r : LinksBelow before x (latest_at c.base h x.object (n.time - 1)) =
        subst (λ (t : ℕ). LinksBelow before x (latest_at c.base h x.object (t - 1))) (sym b.2) (old s j x b.0 b.1) in
        let t : ℕ = latest_at c.base h x.object (n.time - 1) in record {
          uncut = λ link y note v uncut.
              let p = version_back before after k x.object t link y note v in
              r.uncut link y p.0 p.1 (sym (same_cut v.names.seat v.names.slot y p.0 note p.3 v.names.lives) ∙ uncut);
          cut = λ link y note v cut.
              let p = version_back before after k x.object t link y note v in
              r.cut link y p.0 p.1 (sym (same_cut v.names.seat v.names.slot y p.0 note p.3 v.names.lives) ∙ cut);
          none = λ none.
              ⊎_elim (λ a. inl a) (λ g. inr (gone_forth LivesOn on_place before after k x.previous g))
              (r.none (λ link y m v. let f = version_forth before after k x.object t link y m v in none link y f.0 f.1));
        }

    pub master_match : (start : State) (master : ℕ → ℕ → ℕ) (time : ℕ → Option ℕ) → PresentMaster c start h master time before
        → PresentMaster c start h master time after
    master_match start master time old o none = old o (none_uncut_back before after k same_cut o (latest c.base h o) none)

    pub cut_match : (time : ℕ → Option ℕ) → CutIsOld time before → CutIsOld time after
    cut_match time old s j x n lives cut =
        let b = committed_back before after k s j x n lives in
        subst (λ (t : ℕ). NotAboveAny t time) (sym b.2) (old s j x b.0 b.1 (sym (same_cut s j x b.0 n b.1 lives) ∙ cut))

module _ (c : Config) (h : List Entry) (before after : ℕ → Ring) (k : Matches AlikeOrCut before after) where
  on : Matches LivesOn before after
  on = match_weaker AlikeOrCut LivesOn before after (λ x st y su a. a.0) k

  pub open_match : (section : ℕ → Option OwnSection) → OpenSection c h section before → OpenSection c h section after
  open_match section old = record {
    own = old.own;
    held = λ s j y lives. let b = held_back before after on s j y lives in old.held s j b.0 b.1;
    one_set = λ s j l y z p q.
        let a = held_back before after on s j y p in
        let b = held_back before after on s l z q in
        a.2.first ∙ old.one_set s j l a.0 b.0 a.1 b.1 ∙ sym b.2.first;
    whole = λ s j y inside lives in_section mode p from below.
        let b = held_back before after on s j y lives in
        let first = b.2.first in
        let next = k.next s in
        let r = old.whole s j b.0 inside b.1 in_section mode p (omega arith) (omega arith) in
        subst (λ (i : ℕ). InHeldSet c after s i p (λ st. st ≡ Held)) (sym first)
        (set_forth AlikeOrCut alike_place before after k (λ st. st ≡ Held) (λ st. st ≡ Held) still_held c s b.0.first p r);
  }

  pub top_match : SameCut before after → (head : ℕ → ℕ) → HeadIsTop c h head before → HeadIsTop c h head after
  top_match same_cut head old = record {
    held = λ s j y lives. let b = held_back before after on s j y lives in ap head b.2.object ∙ old.held s j b.0 b.1 ∙ ap (link_of s) (sym b.2.position);
    top = λ o none. top_forth before after on same_cut o (latest c.base h o) (head o) (old.top o (none_holds_back before after k o none));
  }
