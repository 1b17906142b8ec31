-- What stays where the section of one seat begins or ends: that seat holds nothing, walks nowhere and writes nothing back, and what bounds the times of all
-- sections isn't above the time of the new one, if there is one.
use Rattle.std.proofs.Common.{◌≡◌, ◌≢◌, ℕ, ◌+◌, ◌-◌, ◌<◌, ◌≤◌, ◌^◌, true, false, cond, List}
use Rattle.std.proofs.Common.{length, refl, sym, ap, ◌∙◌, subst, inl, inr, ⊎_elim, arith, Option, Some, None}
use Rattle.mv_core.proofs.Terms.{Entry, State, Config, clock_time_of, IsUnset, Ring, Version, Held, Aborted, Committed, CommitNote, OwnSection, Open}
use Rattle.mv_core.proofs.Terms.{Named, Naming, LoadedClocks, Scan, WalkStage, WriteBack, HoldsNothing, Lives, Names, latest, latest_at, last_own}
use Rattle.mv_core.proofs.Terms.{NotAbove, NotAboveAny, time_in, IsUnnamed, set_at}
use Rattle.mv_core.specs.declared.view.WalkStage.TheVariants.{Nowhere, At}
use Rattle.mv_core.proofs.FactTerms.{stamp_of, WriteSets, UnstampedIsUnfinished, InHeldSet, IsPastHelp, StampedPastHelp, ScanIs, Grace, LockFreshness}
use Rattle.mv_core.proofs.FactTerms.{NamedIs, NamedCommit, OpenSection, PresentMaster, ChainFoot, StandsRight, WalkerPlace, IsBeforeDeath}
use Rattle.mv_core.proofs.FactTerms.{WalkerBeforeDeath, WalkerKnowledge, HasPassed, IsBelowPassed, WalkerFalls, WalkerLate, CutIsOld, SuccessorFlag}
use Rattle.mv_core.proofs.FactTerms.{IsWrittenBack, WriteBacks}
use Rattle.mv_core.proofs.frames.KeptRecords.{same_back}
use Rattle.mv_core.proofs.frames.FrameLaw.{set_at_all}
use Rattle.mv_core.proofs.frames.SectionBounds.{by_seat, any_after}
use Rattle.mv_core.proofs.history.Latest.{latest-le, latest_at-latest}
use Rattle.mv_core.proofs.logs.Written.{commit_within}

lower : (u w : ℕ) (t : Option ℕ) → u ≤ w → NotAbove w t → NotAbove u t
lower u w None le k = tt
lower u w (Some x) le k = omega arith

module _ (c : Config) (start : State) (h : List Entry) (rings : ℕ → Ring) (sets : WriteSets c h rings) (time : ℕ → Option ℕ) (n : ℕ) (t : Option ℕ)
    (late : NotAbove (c.base + length h) t) where
  any_more : (u : ℕ) → u ≤ c.base + length h → NotAboveAny u time → NotAboveAny u (set_at time n t)
  any_more u le all = any_after u time n t all (lower u (c.base + length h) t le late)

  scan_more : (clock : ℕ) → clock_time_of clock ≡ c.base + length h → (o : Option Scan) → ScanIs clock time o → ScanIs clock (set_at time n t) o
  scan_more clock e None k = tt
  scan_more clock e (Some scan) k =
      let a = k.0 in let b = k.1 in (
        k.0,
        k.1,
        set_at_all (λ s u. s < scan.next → NotAbove scan.least u) time n t
            (λ lt. lower scan.least (c.base + length h) t (omega arith) late) (λ s ne. k.2 s),
      )

  pub grace_more : (clock word : ℕ) (grace : ℕ → ℕ) (scan : ℕ → Option Scan) → clock_time_of clock ≡ c.base + length h → Grace clock word time grace scan
      → Grace clock word (set_at time n t) grace scan
  grace_more clock word grace scan e k = record {
    views = λ s. let r = k.views s in (r.0, any_more (grace s) (let a = r.0 in omega arith) r.1);
    shared = (k.shared.0, any_more word (let a = k.shared.0 in omega arith) k.shared.1);
    scans = λ s. scan_more clock e (scan s) (k.scans s);
  }

  pub freshness_more : HoldsNothing (rings n) → LockFreshness c h time rings → LockFreshness c h (set_at time n t) rings
  freshness_more nothing k s j x lives =
      by_seat s n (λ b. (u : ℕ) × (cond b t (time s) ≡ Some u) × (latest c.base h x.object ≤ u) × (x.object < c.objects))
      (λ e. absurd (nothing j x (subst (λ (r : ℕ). Lives rings r j x Held) e lives)))
      (λ ne. k s j x lives)

  pub master_more : (master : ℕ → ℕ → ℕ) → PresentMaster c start h master time rings → PresentMaster c start h master (set_at time n t) rings
  master_more master k o none = let r = k o none in (r.0, any_more (latest c.base h o) (latest-le c.base h o) r.1)

  pub foot_more : (master : ℕ → ℕ → ℕ) → ChainFoot c start h master time rings → ChainFoot c start h master (set_at time n t) rings
  foot_more master k s j x note lives none =
      ⊎_elim
      (λ old. inl (any_more note.time (commit_within c h rings sets s j x note lives).1 old))
      (λ ground. inr (
        ground.0,
        ground.1,
        any_more (latest_at c.base h x.object (note.time - 1))
            (let a = latest_at-latest c.base h x.object (note.time - 1) in let b = latest-le c.base h x.object in omega arith) ground.2,
      ))
      (k s j x note lives none)

  pub cut_more : CutIsOld time rings → CutIsOld (set_at time n t) rings
  cut_more k s j x note lives cut = any_more note.time (commit_within c h rings sets s j x note lives).1 (k s j x note lives cut)

  module _ (walk : ℕ → WalkStage) where
    pub place_more : (master : ℕ → ℕ → ℕ) → WalkerPlace c start h master time walk rings
        → WalkerPlace c start h master (set_at time n t) (set_at walk n Nowhere) rings
    place_more master k s u =
        by_seat s n (λ b. cond b t (time s) ≡ Some u → StandsRight c start h master rings u (cond b Nowhere (walk s))) (λ _ _. tt) (λ _. k s u)

    pub before_death_more : WalkerBeforeDeath time walk rings → WalkerBeforeDeath (set_at time n t) (set_at walk n Nowhere) rings
    before_death_more k = record {
      here = λ s u stand x st.
          by_seat s n (λ b. cond b t (time s) ≡ Some u → cond b Nowhere (walk s) ≡ At stand → Names rings stand.link x st → IsBeforeDeath u st)
          (λ _ _ e. absurd (cc)) (λ _. k.here s u stand x st);
      below = λ s u stand x y dead st.
          by_seat s n (λ b. cond b t (time s) ≡ Some u → cond b Nowhere (walk s) ≡ At stand → Names rings stand.link x (Aborted dead)
          → Names rings x.previous y st → IsBeforeDeath u st)
          (λ _ _ e. absurd (cc)) (λ _. k.below s u stand x y dead st);
    }

    pub late_more : WalkerLate time walk rings → WalkerLate (set_at time n t) (set_at walk n Nowhere) rings
    late_more k s u stand x note =
        by_seat s n (λ b. cond b t (time s) ≡ Some u → cond b Nowhere (walk s) ≡ At stand → stand.late ≡ true → Names rings stand.link x (Committed note)
        → u < note.time)
        (λ _ _ e. absurd (cc)) (λ _. k s u stand x note)

    pub falls_more : (stamp : ℕ → ℕ → ℕ) → WalkerFalls c stamp walk rings → WalkerFalls c stamp (set_at walk n Nowhere) rings
    falls_more stamp k = record {
      stamped = λ s stand x st.
          by_seat s n (λ b. cond b Nowhere (walk s) ≡ At stand → HasPassed stand.passed → (names : Names rings stand.link x st) → (note : CommitNote) ×
          (st ≡ Committed note) × (stamp_of c stamp names.seat x ≡ note.time) × IsBelowPassed note.time stand.passed)
          (λ _ e. absurd (cc)) (λ _. k.stamped s stand x st);
      found = λ s found stand.
          by_seat s n (λ b. cond b Nowhere (walk s) ≡ At stand → HasPassed stand.passed → stand.stamp ≡ Some found → found < 2 ^ 63)
          (λ _ e. absurd (cc)) (λ _. k.found s found stand);
    }

    module _ (section : ℕ → Option OwnSection) (clocks : ℕ → LoadedClocks) (inside : Option OwnSection) (x : LoadedClocks) where
      pub knowledge_more : WalkerKnowledge section time clocks walk rings
          → WalkerKnowledge (set_at section n inside) (set_at time n t) (set_at clocks n x) (set_at walk n Nowhere) rings
      knowledge_more k = record {
        helped = λ s i.
            by_seat s n (λ b. cond b inside (section s) ≡ Some i → cond b Nowhere (walk s) ≢ Nowhere → IsPastHelp (cond b x (clocks s)) i)
            (λ _ _ ne. absurd (ne refl)) (λ _. k.helped s i);
        first = λ s first stand y st.
            by_seat s n (λ b. cond b Nowhere (walk s) ≡ At stand → stand.first ≡ Some first → Names rings stand.link y st → first ≡ y.first)
            (λ _ e. absurd (cc)) (λ _. k.first s first stand y st);
        stamp = λ s found stand y st.
            by_seat s n (λ b. cond b Nowhere (walk s) ≡ At stand → stand.stamp ≡ Some found → found < 2 ^ 63 → Names rings stand.link y st → (note : CommitNote)
            × (st ≡ Committed note) × (note.time ≡ found))
            (λ _ e. absurd (cc)) (λ _. k.stamp s found stand y st);
        unset = λ s u found stand y note.
            by_seat s n (λ b. cond b t (time s) ≡ Some u → cond b Nowhere (walk s) ≡ At stand → stand.stamp ≡ Some found → IsUnset found
            → Names rings stand.link y (Committed note) → u < note.time)
            (λ _ _ e. absurd (cc)) (λ _. k.unset s u found stand y note);
      }

      pub back_more : (master : ℕ → ℕ → ℕ) (grace : ℕ → ℕ) (back : ℕ → Option WriteBack) → WriteBacks c h master section time clocks grace back rings
          → WriteBacks c h master (set_at section n inside) (set_at time n t) (set_at clocks n x) grace (set_at back n None) rings
      back_more master grace back k s b =
          by_seat s n (λ q. cond q None (back s) ≡ Some b → (i : OwnSection) × (cond q inside (section s) ≡ Some i) × IsWrittenBack c h master
          (set_at time n t) rings s (cond q x (clocks s)) (grace s) b i)
          (λ _ e. absurd (cc))
          (λ _ e.
          let o = k s b e in
          let r = o.2 in
          let old = any_more r.note.time (commit_within c h rings sets s _ r.version r.note r.lives).1 r.old in
          (o.0, o.1, same_back r r.note r.helped r.nothing r.lives old r.known r.last r.uncut r.words))

      pub past_help_more : (stamp : ℕ → ℕ → ℕ)
          → ((i : OwnSection) → inside ≡ Some i → IsPastHelp x i → (s j : ℕ) (y : Version) (note : CommitNote) → Lives rings s j y (Committed note)
          → note.time ≤ time_in i → stamp_of c stamp s y ≡ note.time)
          → StampedPastHelp c stamp section clocks rings → StampedPastHelp c stamp (set_at section n inside) (set_at clocks n x) rings
      past_help_more stamp here k s i =
          by_seat s n (λ b. cond b inside (section s) ≡ Some i → IsPastHelp (cond b x (clocks s)) i → (u j : ℕ) (y : Version) (note : CommitNote)
          → Lives rings u j y (Committed note) → note.time ≤ time_in i → stamp_of c stamp u y ≡ note.time)
          (λ _. here i) (λ _. k s i)

module _ (c : Config) (h : List Entry) (rings : ℕ → Ring) (section : ℕ → Option OwnSection) (n : ℕ) (inside : Option OwnSection)
    (unnamed : (i : OwnSection) → inside ≡ Some i → IsUnnamed i.mode) where
  none_named : {X : Type 0} (i : OwnSection) (naming : Naming) → inside ≡ Some i → i.mode ≡ Named naming → X
  none_named i naming e mode = absurd (subst IsUnnamed mode (unnamed i e))

  pub named_more : (stamp : ℕ → ℕ → ℕ) → NamedCommit c h stamp section rings → NamedCommit c h stamp (set_at section n inside) rings
  named_more stamp k s i naming =
      by_seat s n (λ b. cond b inside (section s) ≡ Some i → i.mode ≡ Named naming → NamedIs c h stamp rings s i naming) (λ _. none_named i naming)
      (λ _. k s i naming)

  pub flag_more : (super : ℕ → ℕ → ℕ) → SuccessorFlag super section rings → SuccessorFlag super (set_at section n inside) rings
  flag_more super k s j i naming x note =
      by_seat s n
      (λ b. cond b inside (section s) ≡ Some i → i.mode ≡ Named naming → Lives rings s j x (Committed note) → note.time ≡ naming.time
      → (x.previous ≡ 0 → note.linked ≡ true)
      × ((y : Version) (other : CommitNote) (below : Names rings x.previous y (Committed other))
      → (note.linked ≡ true → super below.seat below.slot ≡ naming.time) × (note.linked ≡ false → (super below.seat below.slot ≡ 0) × (other.dead ≡ None))))
      (λ _. none_named i naming)
      (λ _. k s j i naming x note)

  -- a commit whose stamp is unset stays unfinished, where the one of this seat isn't
  pub unfinished_more : (stamp : ℕ → ℕ → ℕ) → ((i : OwnSection) (naming : Naming) → section n ≡ Some i → i.mode ≡ Named naming → naming.stamped ≢ false)
      → UnstampedIsUnfinished c stamp section rings → UnstampedIsUnfinished c stamp (set_at section n inside) rings
  unfinished_more stamp done k s j x note lives unset =
      by_seat s n (λ b. (i : OwnSection) × (naming : Naming) × (cond b inside (section s) ≡ Some i) × (i.mode ≡ Named naming) × (naming.time ≡ note.time) ×
      (naming.stamped ≡ false))
      (λ e. let r = k s j x note lives unset in absurd (done r.0 r.1 (ap section (sym e) ∙ r.2) r.3 r.5))
      (λ _. k s j x note lives unset)

  pub open_more : HoldsNothing (rings n) → ((i : OwnSection) → inside ≡ Some i → last_own c.base h n ≤ time_in i) → OpenSection c h section rings
      → OpenSection c h (set_at section n inside) rings
  open_more nothing own k = record {
    own = λ s i. by_seat s n (λ b. cond b inside (section s) ≡ Some i → IsUnnamed i.mode → last_own c.base h s ≤ time_in i)
        (λ e is _. subst (λ (r : ℕ). last_own c.base h r ≤ time_in i) (sym e) (own i is)) (λ _. k.own s i);
    held = λ s j x lives. by_seat s n (λ b. (i : OwnSection) × (cond b inside (section s) ≡ Some i) × IsUnnamed i.mode)
        (λ e. absurd (nothing j x (subst (λ (r : ℕ). Lives rings r j x Held) e lives))) (λ _. k.held s j x lives);
    one_set = k.one_set;
    whole = λ s j x i lives. by_seat s n (λ b. cond b inside (section s) ≡ Some i → i.mode ≡ Open → (p : ℕ) → x.first ≤ p → p < (rings s).next
        → InHeldSet c rings s x.first p (λ st. st ≡ Held))
        (λ e. absurd (nothing j x (subst (λ (r : ℕ). Lives rings r j x Held) e lives))) (λ _. k.whole s j x i lives);
  }
