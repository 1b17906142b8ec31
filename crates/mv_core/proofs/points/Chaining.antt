-- Each object has a chain: its latest writes under perhaps one held version, ending grounded or loose.
use Rattle.std.proofs.Common.{◌≡◌, ◌⊎◌, ℕ, zero, suc, ◌+◌, ◌-◌, ◌≤◌, false, List, [], ◌∷◌, length, Option, Some}
use Rattle.std.proofs.Common.{None, sym, refl, ap, ◌∙◌, subst, inl, inr, ⊎_elim, arith}
use Rattle.mv_core.proofs.Terms.{State, Writes, Entry, Config, Head, Master, Prev, Memory, Version, WriteSetStatus, Held, Committed, CommitNote, Knowledge}
use Rattle.mv_core.proofs.Terms.{Lives}
use Rattle.mv_core.proofs.Terms.{Names, IsVersion, IsTop, latest, latest_at, words_of, AreThe, NotAboveAny, ViewParts, parts_of}
use Rattle.mv_core.proofs.FactTerms.{Facts, SlotVersion, IsLinked, HangFrom, lowest, time_before, last_link, AreWritesFrom, AreLatest, IsChain, IsLoose}
use Rattle.mv_core.specs.Chains.{IsGrounded}
use Rattle.mv_core.specs.Points.{ChainsHold}
use Rattle.mv_core.proofs.history.Latest.{latest_at-end}
use Rattle.mv_core.proofs.logs.Links.{none_names_zero, gone_names_none, names_once}
use Rattle.mv_core.proofs.logs.Finding.{find_holder, find_write}
use Rattle.mv_core.proofs.kinds.naming.entry.NewEntry.{bool_is}
use Rattle.mv_core.proofs.logs.Written.{commit_within}
use Rattle.mv_core.proofs.logs.BelowCommit.{next_after}
use Rattle.mv_core.proofs.points.ChainLengths.{chain_short}
use Rattle.mv_core.proofs.points.Reaching.{names_of, prev_is, prev_word}

module _ {starts : State → Type 0} {allows : List ℕ → State → Writes → Type 0} {c : Config} {start : State} {m : Memory} {h : List Entry}
    (seats : ℕ → Knowledge)
    (k : Facts starts allows c start m h (parts_of seats)) where
  abbrev f : ViewParts
  f = parts_of seats

  -- how a list of versions of the object ends that begins with this link, where `above` is the time of the lowest one before
  abbrev EndsWell : ℕ → Option ℕ → ℕ → List SlotVersion → Type 0
  EndsWell o above link ps =
      ((last_link m f.ring link ps ≡ 0)
      × (AreThe (λ i. m (Master o i)) (words_of c start h (time_before c h (lowest above ps)) o)
      × NotAboveAny (latest_at c.base h o (time_before c h (lowest above ps))) f.time))
      ⊎ ((t : ℕ) × (lowest above ps ≡ Some t) × NotAboveAny t f.time)

  -- what hangs from a link: the object's writes from this time down
  record Hangs (o time link : ℕ) (above : Option ℕ) : Type 0 where
    versions : List SlotVersion
    hang : HangFrom m f.ring link versions
    writes : AreWritesFrom c h o time versions
    ends : EndsWell o above link versions

  none_linked : (link : ℕ) → ((x : Version) (st : WriteSetStatus) → ¬ (Names f.ring link x st)) → (p : SlotVersion) → ¬ (IsLinked m f.ring link p)
  none_linked link none p l = none p.version p.status (names_of seats k link p l)

  -- a version under which something hangs
  on_top : (o time link : ℕ) (above : Option ℕ) (y : Version) (note : CommitNote) → (v : IsVersion f.ring o time link y note) → note.cut ≡ false
      → Hangs y.object (latest_at c.base h y.object (note.time - 1)) (m (Prev v.names.seat v.names.slot)) (Some note.time) → Hangs o time link above
  on_top o time link above y note v uncut b =
      let p : SlotVersion = record { seat = v.names.seat; slot = v.names.slot; version = y; status = Committed note } in record {
        versions = p ∷ b.versions;
        hang = ((v.names.is, v.names.lives), b.hang);
        writes = (
          v.object_is,
          (
            note,
            refl,
            uncut,
            v.time_is,
            subst (λ (u : ℕ). AreWritesFrom c h o (latest_at c.base h o (u - 1)) b.versions) v.time_is
                (subst (λ (q : ℕ). AreWritesFrom c h q (latest_at c.base h q (note.time - 1)) b.versions) v.object_is b.writes),
          ),
        );
        ends = subst (λ (q : ℕ). EndsWell q (Some note.time) (m (Prev v.names.seat v.names.slot)) b.versions) v.object_is b.ends;
      }

  -- what hangs below a committed version
  below : (n s i : ℕ) (x : Version) (note : CommitNote) → (lives : Lives f.ring s i x (Committed note)) → note.time ≤ n
      → Hangs x.object (latest_at c.base h x.object (note.time - 1)) (m (Prev s i)) (Some note.time)
  below zero s i x note lives le = let w = (commit_within c h f.ring k.write_sets s i x note lives).0 in absurd (omega arith)
  below (suc n) s i x note lives le =
      let p : SlotVersion = record { seat = s; slot = i; version = x; status = Committed note } in
      let word : m (Prev s i) ≡ x.previous = prev_word seats k p lives in
      let before : ℕ = latest_at c.base h x.object (note.time - 1) in
      let links = k.commit_link s i x note lives in
      let foot : ((y : Version) (st : WriteSetStatus) → ¬ (Names f.ring x.previous y st)) → Hangs x.object before (m (Prev s i)) (Some note.time) =
      λ none. record {
        versions = [];
        hang = subst (λ (l : ℕ). HangFrom m f.ring l []) (sym word) (none_linked x.previous none);
        writes = tt;
        ends = ⊎_elim (λ old. inr (note.time, refl, old)) (λ g. inl (word ∙ g.0, (g.1, g.2))) (k.chain_foot s i x note lives none);
      } in
      ⊎_elim
      (λ a.
      ⊎_elim
      (λ cut. foot (none_names_zero f.ring x.previous (links.cut a.0 a.1 a.2 a.3 cut)))
      (λ uncut.
      let v : IsVersion f.ring x.object before (m (Prev s i)) a.1 a.2 =
      subst (λ (l : ℕ). IsVersion f.ring x.object before l a.1 a.2) (sym (word ∙ links.uncut a.0 a.1 a.2 a.3 uncut)) a.3 in
      let later = (next_after k s i x note lives).later in
      let time = v.time_is in
      on_top x.object before (m (Prev s i)) (Some note.time) a.1 a.2 v uncut (below n v.names.seat v.names.slot a.1 a.2 v.names.lives (omega arith)))
      (bool_is a.2.cut))
      (λ none. foot
      (⊎_elim (λ e. none_names_zero f.ring x.previous e) (λ g. gone_names_none c h f.ring k.checked k.history.in_time k.positions x.previous g)
      (links.none none)))
      (find_write c h f.ring k.checked k.history.in_time k.positions x.object before)

  -- what hangs from the link of an object's top
  from_top : (o link : ℕ) → IsTop f.ring o (latest c.base h o) link → Hangs o (latest c.base h o) link None
  from_top o link top =
      ⊎_elim
      (λ a.
      let v = a.2 in
      on_top o (latest c.base h o) link None a.0 a.1 v a.3 (below a.1.time v.names.seat v.names.slot a.0 a.1 v.names.lives (omega arith)))
      (λ b.
      let p = k.present_master o b.1 in
      record {
        versions = [];
        hang = none_linked link (none_names_zero f.ring link b.0);
        writes = tt;
        ends = inl (b.0, (p.0, subst (λ (u : ℕ). NotAboveAny u f.time) (sym (latest_at-end c.base h o (c.base + length h) (omega arith))) p.1));
      })
      top

  -- the chain of an object, with its end
  pub chain_of : (o : ℕ) → (ps : List SlotVersion) × IsChain m f.ring o ps × AreLatest c h o ps
      × (IsGrounded m f.ring c start h f.time o ps ⊎ IsLoose m f.ring c start h f.time ps)
  chain_of o =
      ⊎_elim
      (λ a.
      let x : Version = a.2 in
      let p : SlotVersion = record { seat = a.0; slot = a.1; version = x; status = Held } in
      let is = ap (λ q. m (Head q)) (sym a.4) ∙ k.head_is_top.held a.0 a.1 x a.3 in
      let word = prev_is seats k (m (Head o)) p (is, a.3) in
      let b = from_top o (m (Prev a.0 a.1))
      (subst (λ (l : ℕ). IsTop f.ring o (latest c.base h o) l) (sym word)
      (subst (λ (q : ℕ). IsTop f.ring q (latest c.base h q) x.previous) a.4 (k.held_link a.0 a.1 x a.3))) in
      (p ∷ b.versions, ((is, a.3), b.hang), inr (p, b.versions, refl, a.4, refl, b.writes), b.ends))
      (λ none.
      let b = from_top o (m (Head o)) (k.head_is_top.top o none) in
      (b.versions, b.hang, inl b.writes, b.ends))
      (find_holder c h f.ring k.checked k.history.in_time k.positions o)

  -- from one link hang the same versions always
  pub hang_once : (link : ℕ) (ps qs : List SlotVersion) → HangFrom m f.ring link ps → HangFrom m f.ring link qs → ps ≡ qs
  hang_once link [] [] a b = refl
  hang_once link [] (q ∷ qs) a b = absurd (a q b.0)
  hang_once link (p ∷ ps) [] a b = absurd (b p a.0)
  hang_once link (p ∷ ps) (q ∷ qs) a b =
      let one = names_once c h f.ring k.checked k.history.in_time k.positions link p.version q.version p.status q.status (names_of seats k link p a.0)
      (names_of seats k link q b.0) in
      let same : p ≡ q = λ i. record { seat = one.0 i; slot = one.1 i; version = one.2 i; status = one.3 i } in
      let rest = hang_once (m (Prev q.seat q.slot)) ps qs (subst (λ (l : ℕ). HangFrom m f.ring l ps) (λ i. m (Prev (one.0 i) (one.1 i))) a.1) b.1 in
      λ i. same i ∷ rest i

  -- each object has one chain
  pub chains_hold : ChainsHold c start m h f
  chains_hold o =
      let b = chain_of o in record {
        versions = b.0;
        is = b.1;
        once = λ qs a. hang_once (m (Head o)) qs b.0 a b.1;
        short = chain_short seats k o b.0 b.1 b.2;
        latest = b.2;
        ends = b.3;
      }
