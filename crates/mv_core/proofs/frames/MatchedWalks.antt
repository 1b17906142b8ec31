-- What holds of walks stays where each live version stays what it is to the other seats; and what holds of deaths and of unfinished commits, where what the
-- owner noted stays too.
use Rattle.std.proofs.Common.{◌≡◌, ◌⊎◌, ℕ, ◌<◌, List, refl, sym, ap, ◌∙◌, subst, inl, inr, ⊎_elim, Option, Some, None}
use Rattle.mv_core.proofs.Terms.{Entry, State, Config, link_of, Ring, Version, WriteSetStatus, Held, Aborted, Committed, CommitNote, OwnSection, LoadedClocks}
use Rattle.mv_core.proofs.Terms.{WalkStage, Stand, Lives, Names, latest_at}
use Rattle.mv_core.specs.declared.view.WalkStage.TheVariants.{Nowhere, At, Master}
use Rattle.mv_core.proofs.FactTerms.{stamp_of, MasterServes, IsRightFor, MayStandAt, StandsRight, WalkerPlace, WalkerKnowledge, IsBelowPassed}
use Rattle.mv_core.proofs.FactTerms.{WalkerFalls, WalkerLate}
use Rattle.mv_core.proofs.logs.Slots.{Matches}
use Rattle.mv_core.proofs.frames.Matching.{LivesOn, on_place}
use Rattle.mv_core.proofs.frames.Matching.{is_committed_so, names_back, names_committed_forth, committed_back, none_uncut_forth}

-- a link names the version that is there
abbrev names_at : (rings : ℕ → Ring) (link seat slot : ℕ) (x : Version) (st : WriteSetStatus) → Lives rings seat slot x st → (p : ℕ) → x.position ≡ p
    → link ≡ link_of seat p → Names rings link x st
names_at rings link seat slot x st lives p e is = record { seat = seat; slot = slot; lives = lives; is = is ∙ ap (link_of seat) (sym e) }

module _ (c : Config) (h : List Entry) (before after : ℕ → Ring) (k : Matches LivesOn before after) where
  module _ (start : State) (master : ℕ → ℕ → ℕ) where
    serves_match : (t o : ℕ) → MasterServes c start h master before t o → MasterServes c start h master after t o
    serves_match t o a = (a.0, none_uncut_forth before after k o (latest_at c.base h o t) a.1)

    right_match : (t : ℕ) (x y : Version) (m n : CommitNote) → y ≡ x → n.time ≡ m.time → IsRightFor c h t x m → IsRightFor c h t y n
    right_match t x y m n same time a =
        subst (λ (v : Version). IsRightFor c h t v n) (sym same) (subst (λ (u : ℕ). (t < u) ⊎ (u ≡ latest_at c.base h x.object t)) (sym time) a)

    aborted_match : (t : ℕ) (x y : Version) (d e : Option ℕ) → y ≡ x → MayStandAt c start h master before t x (Aborted d)
        → MayStandAt c start h master after t y (Aborted e)
    aborted_match t x y d e same may =
        subst (λ (v : Version). MayStandAt c start h master after t v (Aborted e)) (sym same)
        (⊎_elim
        (λ p. inl (p.0, serves_match t x.object p.1))
        (λ q. let f = names_committed_forth before after k x.previous q.0 q.1 q.2 in inr (q.0, f.0, f.1, q.3, right_match t q.0 q.0 q.1 f.0 refl f.2 q.4))
        may)

    stand_match : (t : ℕ) (x : Version) (st : WriteSetStatus) (y : Version) (su : WriteSetStatus) → LivesOn x st y su
        → (st ≡ Held → MayStandAt c start h master before t x (Aborted None)) → MayStandAt c start h master before t x st
        → MayStandAt c start h master after t y su
    stand_match t x Held y Held a held may = tt
    stand_match t x Held y (Aborted e) a held may = aborted_match t x y None e a.0 (held refl)
    stand_match t x (Aborted d) y (Aborted e) a held may = aborted_match t x y d e a may
    stand_match t x (Committed m) y (Committed n) a held may = right_match t x y m n a.0 a.1 may
    stand_match t x Held y (Committed n) a held may = absurd a
    stand_match t x (Aborted d) y Held a held may = absurd a
    stand_match t x (Aborted d) y (Committed n) a held may = absurd a
    stand_match t x (Committed m) y Held a held may = absurd a
    stand_match t x (Committed m) y (Aborted e) a held may = absurd a

    stands_match : (t : ℕ) (w : WalkStage)
        → ((stand : Stand) (x : Version) → w ≡ At stand → Names before stand.link x Held → MayStandAt c start h master before t x (Aborted None))
        → StandsRight c start h master before t w → StandsRight c start h master after t w
    stands_match t Nowhere held a = tt
    stands_match t (Master o) held a = serves_match t o a
    stands_match t (At stand) held a =
        let n = a.2 in
        let f = k.forth n.seat n.slot a.0 a.1 n.lives in
        let at = on_place a.0 a.1 f.0 f.1 f.3 in
        let names : Names after stand.link f.0 f.1 = names_at after stand.link n.seat n.slot f.0 f.1 f.2 a.0.position at.position n.is in
        let may = stand_match t a.0 a.1 f.0 f.1 f.3 (λ is. held stand a.0 refl (subst (Names before stand.link a.0) is n)) a.4 in
        (f.0, f.1, names, at.object ∙ a.3, may)

    -- where a walk may stand at a held version that it stands at, if that is aborted
    pub place_match : (time : ℕ → Option ℕ) (walk : ℕ → WalkStage)
        → ((s t : ℕ) (stand : Stand) (x : Version) → time s ≡ Some t → walk s ≡ At stand → Names before stand.link x Held
        → MayStandAt c start h master before t x (Aborted None))
        → WalkerPlace c start h master time walk before → WalkerPlace c start h master time walk after
    place_match time walk held old s t e = stands_match t (walk s) (λ stand x at. held s t stand x e at) (old s t e)

module _ (c : Config) (before after : ℕ → Ring) (k : Matches LivesOn before after) where
  pub knowledge_match : (section : ℕ → Option OwnSection) (time : ℕ → Option ℕ) (clocks : ℕ → LoadedClocks) (walk : ℕ → WalkStage)
      → WalkerKnowledge section time clocks walk before → WalkerKnowledge section time clocks walk after
  knowledge_match section time clocks walk old = record {
    helped = old.helped;
    first = λ s first stand y su e f names.
        let b = names_back LivesOn on_place before after k stand.link y su names in
        old.first s first stand b.0 b.1 e f b.2 ∙ sym (on_place b.0 b.1 y su b.3).first;
    stamp = λ s found stand y su e f small names.
        let b = names_back LivesOn on_place before after k stand.link y su names in
        let r = old.stamp s found stand b.0 b.1 e f small b.2 in
        let i = is_committed_so b.0 b.1 y su r.0 b.3 r.1 in
        (i.0, i.1, i.3 ∙ r.2);
    unset = λ s t found stand x n e w f unset names.
        let b = committed_back before after k names.seat names.slot x n names.lives in
        subst (λ (u : ℕ). t < u) (sym b.2) (old.unset s t found stand x b.0 e w f unset
        (record { seat = names.seat; slot = names.slot; lives = b.1; is = names.is }));
  }

  pub falls_match : (stamp stamp' : ℕ → ℕ → ℕ) → ((s j : ℕ) (x : Version) (st : WriteSetStatus) → Lives before s j x st
      → stamp_of c stamp' s x ≡ stamp_of c stamp s x)
      → (walk : ℕ → WalkStage) → WalkerFalls c stamp walk before → WalkerFalls c stamp' walk after
  falls_match stamp stamp' same walk old = record {
    stamped = λ s stand y su e passed names.
        let b = k.back names.seat names.slot y su names.lives in
        let at = on_place b.0 b.1 y su b.3 in
        let was : Names before stand.link b.0 b.1 = names_at before stand.link names.seat names.slot b.0 b.1 b.2 y.position (sym at.position) names.is in
        let r = old.stamped s stand b.0 b.1 e passed was in
        let i = is_committed_so b.0 b.1 y su r.0 b.3 r.1 in
        let word : stamp_of c stamp' names.seat y ≡ i.0.time = ap (stamp_of c stamp' names.seat) i.2 ∙ same names.seat names.slot b.0 b.1 b.2 ∙ r.2 ∙ sym i.3 in
        (i.0, i.1, word, subst (λ (t : ℕ). IsBelowPassed t stand.passed) (sym i.3) r.3);
    found = old.found;
  }

  pub late_match : (time : ℕ → Option ℕ) (walk : ℕ → WalkStage) → WalkerLate time walk before → WalkerLate time walk after
  late_match time walk old s t stand x n e w late names =
      let b = committed_back before after k names.seat names.slot x n names.lives in
      subst (λ (u : ℕ). t < u) (sym b.2) (old s t stand x b.0 e w late (record { seat = names.seat; slot = names.slot; lives = b.1; is = names.is }))
