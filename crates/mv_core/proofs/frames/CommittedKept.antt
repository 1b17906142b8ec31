-- A step that changes logs but no committed version, and frees no slot: what it keeps of the facts that speak of committed versions.
use Rattle.std.proofs.Common.{◌≡◌, ◌⊎◌, ℕ, ◌≤◌, List, sym, ◌∙◌, ⊎_elim, inl, inr, le_trans, arith, Option, Some}
use Rattle.mv_core.proofs.Terms.{Entry, State, Config, link_of, clock_seat_of, clock_slot_of, Ring, Version, WriteSetStatus, Committed, CommitNote, EmptyHead}
use Rattle.mv_core.proofs.Terms.{LoadedClocks, OwnSection, Named, Naming, WriteBack, HoldsNothing, Lives, Names, IsGone, IsVersion, NoneUncut, IsTop, latest}
use Rattle.mv_core.proofs.FactTerms.{CommitOf, NamedCommit, IsNamedCommit, StampedPastHelp, CommitLink, PresentMaster, ChainFoot, FreedIsOld}
use Rattle.mv_core.proofs.FactTerms.{SuccessorFlag, WriteBacks, MasterServes, SucceededHasSuper}
use Rattle.mv_core.proofs.frames.KeptRecords.{same_back, same_named}

-- the committed versions are the same; each live version's position is live still, and each live one was, or wasn't used before
pub record KeepsCommitted (rings later : ℕ → Ring) : Type 0 where
  pub was : (s k : ℕ) (x : Version) (note : CommitNote) → Lives later s k x (Committed note) → Lives rings s k x (Committed note)
  pub still : (s k : ℕ) (x : Version) (note : CommitNote) → Lives rings s k x (Committed note) → Lives later s k x (Committed note)
  pub alive : (s k : ℕ) (x : Version) (st : WriteSetStatus) → Lives rings s k x st → (y : Version) × (su : WriteSetStatus) × Lives later s k y su
      × (y.position ≡ x.position)
  pub known : (s k : ℕ) (x : Version) (st : WriteSetStatus) → Lives later s k x st
      → ((y : Version) × (su : WriteSetStatus) × Lives rings s k y su × (y.position ≡ x.position)) ⊎ ((rings s).next ≤ x.position)
  pub grows : (s : ℕ) → (rings s).next ≤ (later s).next

module _ (rings later : ℕ → Ring) (kept : KeepsCommitted rings later) where
  abbrev pub names_was : (link : ℕ) (x : Version) (note : CommitNote) → Names later link x (Committed note) → Names rings link x (Committed note)
  names_was link x note n = record { seat = n.seat; slot = n.slot; lives = kept.was n.seat n.slot x note n.lives; is = n.is }

  abbrev pub names_still : (link : ℕ) (x : Version) (note : CommitNote) → Names rings link x (Committed note) → Names later link x (Committed note)
  names_still link x note n = record { seat = n.seat; slot = n.slot; lives = kept.still n.seat n.slot x note n.lives; is = n.is }

  pub version_was : (o t link : ℕ) (x : Version) (note : CommitNote) → IsVersion later o t link x note → IsVersion rings o t link x note
  version_was o t link x note v = record { names = names_was link x note v.names; object_is = v.object_is; time_is = v.time_is }

  pub version_still : (o t link : ℕ) (x : Version) (note : CommitNote) → IsVersion rings o t link x note → IsVersion later o t link x note
  version_still o t link x note v = record { names = names_still link x note v.names; object_is = v.object_is; time_is = v.time_is }

  pub uncut_was : (o t : ℕ) → NoneUncut later o t → NoneUncut rings o t
  uncut_was o t none link x note v = none link x note (version_still o t link x note v)

  pub uncut_still : (o t : ℕ) → NoneUncut rings o t → NoneUncut later o t
  uncut_still o t none link x note v = none link x note (version_was o t link x note v)

  pub top_still : (o t link : ℕ) → IsTop rings o t link → IsTop later o t link
  top_still o t link =
      ⊎_elim (λ a. inl (a.0, a.1, version_still o t link a.0 a.1 a.2, a.3)) (λ z. inr (z.0, uncut_still o t z.1))

  -- a link to a position that isn't live any more stays one
  pub gone_still : (link : ℕ) → IsGone rings link → IsGone later link
  gone_still link g = record {
    seat = g.seat;
    position = g.position;
    is = g.is;
    used = le_trans (g.used) (kept.grows g.seat);
    gone = λ k x st lives same.
        ⊎_elim
        (λ a. g.gone k a.0 a.1 a.2 (a.3 ∙ same))
        (λ new. let used = g.used in omega arith)
        (kept.known g.seat k x st lives);
  }

  -- a link that names no version any more named none
  pub unnamed_was : (link : ℕ) → ((x : Version) (st : WriteSetStatus) → ¬ (Names later link x st)) → (x : Version) (st : WriteSetStatus)
      → ¬ (Names rings link x st)
  unnamed_was link none x st n =
      let a = kept.alive n.seat n.slot x st n.lives in
      none a.0 a.1 (record { seat = n.seat; slot = n.slot; lives = a.2; is = n.is ∙ (λ i. link_of n.seat (sym a.3 i)) })

  module _ (c : Config) (h : List Entry) where
    pub commit_kept : (s : ℕ) (x : Version) (note : CommitNote) → CommitOf c h rings s x note → CommitOf c h later s x note
    commit_kept s x note o = record {
      commit = o.commit;
      entry = o.entry;
      seat = o.seat;
      after_first = o.after_first;
      write = o.write;
      all = λ i lt. let a = o.all i lt in (a.0, a.1, kept.still s _ a.0 a.1 a.2, a.3, a.4, a.5);
    }

    pub link_kept : CommitLink c h rings → CommitLink c h later
    link_kept k s j x note lives =
        let b = k s j x note (kept.was s j x note lives) in record {
          uncut = λ link y n v. b.uncut link y n (version_was x.object _ link y n v);
          cut = λ link y n v. b.cut link y n (version_was x.object _ link y n v);
          none = λ none. ⊎_elim (λ z. inl z) (λ g. inr (gone_still x.previous g)) (b.none (λ link y n v. none link y n (version_still x.object _ link y n v)));
        }

    pub freed_kept : (clock : ℕ) (grace : ℕ → ℕ) → FreedIsOld c clock h grace rings → FreedIsOld c clock h grace later
    freed_kept clock grace k = record {
      writes = λ t o e at w. ⊎_elim (λ a. inl (a.0, a.1, a.2, version_still o t a.0 a.1 a.2 a.3)) (λ old. inr old) (k.writes t o e at w);
      named = λ some. let a = k.named some in (a.0, a.1, kept.still _ _ a.0 a.1 a.2, a.3, a.4);
    }

    module _ (start : State) (master : ℕ → ℕ → ℕ) (time : ℕ → Option ℕ) where
      pub master_kept : PresentMaster c start h master time rings → PresentMaster c start h master time later
      master_kept k o none = k o (uncut_was o (latest c.base h o) none)

      pub foot_kept : ChainFoot c start h master time rings → ChainFoot c start h master time later
      foot_kept k s j x note lives none = k s j x note (kept.was s j x note lives) (unnamed_was x.previous none)

      pub serves_kept : (t o : ℕ) → MasterServes c start h master rings t o → MasterServes c start h master later t o
      serves_kept t o k = (k.0, uncut_still o _ k.1)

    -- a commit that was named, where the seats that have named one hold nothing still
    pub named_kept : (stamp : ℕ → ℕ → ℕ) (section : ℕ → Option OwnSection)
        → ((s : ℕ) (inside : OwnSection) (n : Naming) → section s ≡ Some inside → inside.mode ≡ Named n → HoldsNothing (rings s) → HoldsNothing (later s))
        → NamedCommit c h stamp section rings → NamedCommit c h stamp section later
    named_kept stamp section nothing k s inside n at mode =
        let r = k s inside n at mode in
        same_named r r.note r.last (nothing s inside n at mode r.nothing) (kept.still s _ r.version r.note r.lives) r.time_is r.stamped

    -- a write-back, where the seats that write back hold nothing still
    pub back_kept : (master : ℕ → ℕ → ℕ) (section : ℕ → Option OwnSection) (time : ℕ → Option ℕ) (clocks : ℕ → LoadedClocks) (grace : ℕ → ℕ)
        (back : ℕ → Option WriteBack)
        → ((s : ℕ) (b : WriteBack) → back s ≡ Some b → HoldsNothing (rings s) → HoldsNothing (later s))
        → WriteBacks c h master section time clocks grace back rings → WriteBacks c h master section time clocks grace back later
    back_kept master section time clocks grace back nothing k s b at =
        let o = k s b at in
        let r = o.2 in
        (o.0, o.1, same_back r r.note r.helped (nothing s b at r.nothing) (kept.still s _ r.version r.note r.lives) r.old r.known r.last r.uncut r.words)

  pub past_help_kept : (c : Config) (stamp : ℕ → ℕ → ℕ) (section : ℕ → Option OwnSection) (clocks : ℕ → LoadedClocks)
      → StampedPastHelp c stamp section clocks rings
      → StampedPastHelp c stamp section clocks later
  past_help_kept c stamp section clocks k s inside at past t j x note lives = k s inside at past t j x note (kept.was t j x note lives)

  pub flag_kept : (super : ℕ → ℕ → ℕ) (section : ℕ → Option OwnSection) → SuccessorFlag super section rings → SuccessorFlag super section later
  flag_kept super section k s j inside n x note at mode lives e =
      let r = k s j inside n x note at mode (kept.was s j x note lives) e in
      (r.0, λ y other below. r.1 y other (names_was x.previous y other below))

  pub super_kept : (c : Config) (h : List Entry) (super : ℕ → ℕ → ℕ) (empty : ℕ → List EmptyHead) → SucceededHasSuper c h super empty rings
      → SucceededHasSuper c h super empty later
  super_kept c h super empty k s e has = let r = k s e has in (r.0, λ j x note lives. r.1 j x note (kept.was s j x note lives))

  -- the commit that a clock word names is it still
  pub is_named_kept : (word unset : ℕ) → IsNamedCommit rings word unset → IsNamedCommit later word unset
  is_named_kept word unset d = record {
    version = d.version;
    note = d.note;
    lives = kept.still (clock_seat_of word) (clock_slot_of word) d.version d.note d.lives;
    first_is = d.first_is;
    time_is = d.time_is;
    unset_is = d.unset_is;
  }
