-- What is known where a walk stands at the version that its section's time reads, or at the master, and an exchange of HEAD is
-- made there: the version or the master is the object's top where it is won, and where it is lost the new top is later than the
-- section.
use Rattle.std.proofs.Common.{◌≡◌, ◌≢◌, ◌⊎◌, ℕ, ◌<◌, ◌≤◌, false, true, List, sym, ap, ◌∙◌, subst, ⊎_elim, inl, inr, arith, None}
use Rattle.mv_core.proofs.Terms.{dite, ℕ_discrete, dec_lt, Entry, State, Writes, Config, Head, Master, Stamp, link_of, Memory, Ring, Version, WriteSetStatus}
use Rattle.mv_core.proofs.Terms.{Held, Committed, CommitNote, Knowledge, OwnSection, Names, IsVersion, NoneHolds, NoneUncut, IsTop, latest, latest_at}
use Rattle.mv_core.proofs.Terms.{time_in, time_of, parts_of}
use Rattle.mv_core.specs.declared.view.WalkStage.TheVariants as walk
use Rattle.mv_core.specs.declared.view.Passed.TheVariants.{Nothing}
use Rattle.mv_core.proofs.FactTerms.{IsPastHelp, stamp_of, IsRightFor, StandsRight, MayStandAt, Facts}
use Rattle.mv_core.specs.WalkSteps.{IsWalking, stand_at}
use Rattle.mv_core.specs.LockSteps.{StandsToLock}
use Rattle.mv_core.proofs.logs.Finding.{find_holder}
use Rattle.mv_core.proofs.frames.ClocksLoaded.{clock_small}
use Rattle.mv_core.proofs.kinds.walking.Landing.{not_above}
use Rattle.mv_core.proofs.history.Latest.{latest_at-whole}
use Rattle.mv_core.proofs.logs.Links.{note_once, link_some, names_some, names_once}
use Rattle.mv_core.proofs.history.SectionWords.{section_is, time_is}
use Rattle.mv_core.proofs.logs.Versions.{version_once}
use Rattle.mv_core.proofs.kinds.walking.Walks.{standing_of, Standing, WalksRight}
use Rattle.mv_core.proofs.kinds.walking.WalkOn.{at_zero, at_some, head_right}

-- the link is of the live version of the object's last write up to a time, or 0 where that has none but one that was cut
abbrev pub IsLastUpTo : Config → List Entry → (ℕ → Ring) → ℕ → ℕ → ℕ → Type 0
IsLastUpTo c h rings t object link =
    ((link ≡ 0) × NoneUncut rings object (latest_at c.base h object t))
    ⊎ ((x : Version) × (note : CommitNote) × IsVersion rings object (latest_at c.base h object t) link x note × (note.time ≤ t))

-- what a walk's version is known to be, once a time was found there
right_time : (c : Config) (h : List Entry) (t : ℕ) (x : Version) (note : CommitNote) → IsRightFor c h t x note → note.time ≤ t
    → note.time ≡ latest_at c.base h x.object t
right_time c h t x note right le = ⊎_elim (λ (lt : t < note.time). absurd (omega arith)) (λ e. e) right

module _ {starts : State → Type 0} {allows : List ℕ → State → Writes → Type 0} {c : Config} {start : State} {m : Memory} {h : List Entry}
    (seats : ℕ → Knowledge)
    (k : Facts starts allows c start m h (parts_of seats))
    (v : Knowledge) (is : seats v.number ≡ v) (inside : OwnSection) (walking : IsWalking v inside) (object previous : ℕ)
    (stands : StandsToLock v inside object previous) where
  abbrev rings : ℕ → Ring
  rings s = (seats s).ring

  abbrev t : ℕ
  t = time_in inside

  time_small : t ≤ 35184372088831
  time_small =
      let past = (k.loaded_words.inside v.number inside (section_is seats v inside k is walking.phase)).past in
      let low = clock_small k in
      omega arith

  pub last_there : IsLastUpTo c h rings t object previous
  last_there =
      ⊎_elim
      (λ (a : (v.walk ≡ walk.Master object) × (previous ≡ 0)).
      let there = ap (λ (u : Knowledge). u.walk) is ∙ a.0 in
      let timed = time_is seats v inside k is walking.phase in
      let serves = subst (StandsRight c start h (λ o w. m (Master o w)) rings t) there (k.walker_place v.number t timed) in
      inl (a.1, serves.1))
      (λ a.
      let s = standing_of seats v k is inside walking.phase a.0 a.2 in
      let low = time_small in
      let le = a.6 in
      let stamped = s.stamp a.1 a.5 (omega arith) in
      let note : CommitNote = stamped.0 in
      let on_time = stamped.2 in
      let early : note.time ≤ t = omega arith in
      let right = right_time c h t s.version note (subst (MayStandAt c start h (λ o w. m (Master o w)) rings t s.version) stamped.1 s.may) early in
      let object_is : s.version.object ≡ object = s.object_is ∙ a.3 in
      let names : Names rings previous s.version (Committed note) =
      subst (λ (link : ℕ). Names rings link s.version (Committed note)) a.4 (subst (Names rings a.0.link s.version) stamped.1 s.names) in
      inr (s.version, note, record { names = names; object_is = object_is; time_is = right ∙ ap (λ (o : ℕ). latest_at c.base h o t) object_is }, early))
      stands

  -- one link names one version
  once : (link : ℕ) (x y : Version) (st su : WriteSetStatus) → Names rings link x st → Names rings link y su → (x ≡ y) × (st ≡ su)
  once link x y st su a b = let r = names_once c h rings k.checked k.history.in_time k.positions link x y st su a b in (r.2, r.3)

  -- the version that the walk stands at is stamped
  pub below_stamped : (y : Version) (note : CommitNote) (below : Names rings previous y (Committed note))
      → stamp_of c (λ s j. m (Stamp s j)) below.seat y ≡ note.time
  below_stamped y note below =
      ⊎_elim
      (λ z. absurd (names_some rings previous y (Committed note) below z.0))
      (λ l.
      let same = note_once note l.1 (once previous y l.0 (Committed note) (Committed l.1) below l.2.names).1 in
      let le : note.time ≤ t = subst (λ (n : CommitNote). n.time ≤ t) (sym same) l.3 in
      let section = section_is seats v inside k is walking.phase in
      let past = subst (λ (u : Knowledge). IsPastHelp u.clocks inside) (sym is) walking.helped in
      k.stamped_past_help v.number inside section past below.seat below.slot y note below.lives le)
      last_there

  module _ (won : m (Head object) ≡ previous) where
    -- nobody holds the object
    pub none_holds : NoneHolds rings object
    none_holds s j y lives e =
        let head : previous ≡ link_of s y.position = sym won ∙ ap (λ (o : ℕ). m (Head o)) (sym e) ∙ k.head_is_top.held s j y lives in
        ⊎_elim
        (λ z. link_some s y.position (sym head ∙ z.0))
        (λ l. let same = (once previous l.0 y (Committed l.1) Held l.2.names (record { seat = s; slot = j; lives = lives; is = head })).1 in cc)
        last_there

    -- the link is the object's top
    pub is_top : IsTop rings object (latest c.base h object) previous
    is_top = subst (IsTop rings object (latest c.base h object)) won (k.head_is_top.top object none_holds)

    -- the object wasn't written after the section's time
    pub is_fresh : latest c.base h object ≤ t
    is_fresh =
        ⊎_elim
        (λ top.
        ⊎_elim
        (λ z. absurd (names_some rings previous top.0 (Committed top.1) top.2.names z.0))
        (λ l.
        let same = note_once top.1 l.1 (once previous top.0 l.0 (Committed top.1) (Committed l.1) top.2.names l.2.names).1 in
        let on_time = top.2.time_is in
        let le : top.1.time ≤ t = subst (λ (n : CommitNote). n.time ≤ t) (sym same) l.3 in omega arith)
        last_there)
        (λ z. not_above (latest c.base h object) v.number t (λ s. time_of (seats s).phase) (k.present_master object z.1).1
        (time_is seats v inside k is walking.phase))
        is_top

  -- where the exchange is lost, what is on top now is later than the section
  pub late_top : m (Head object) ≢ previous → (x : Version) (note : CommitNote) → Names rings (m (Head object)) x (Committed note) → t < note.time
  late_top lost x note names =
      let head : ℕ = m (Head object) in
      ⊎_elim
      (λ a.
      let is_head : head ≡ link_of a.0 a.2.position = ap (λ (o : ℕ). m (Head o)) (sym a.4) ∙ k.head_is_top.held a.0 a.1 a.2 a.3 in
      let same = (once head x a.2 (Committed note) Held names (record { seat = a.0; slot = a.1; lives = a.3; is = is_head })).1 in absurd (cc))
      (λ none.
      ⊎_elim
      (λ top.
      let same = note_once note top.1 (once head x top.0 (Committed note) (Committed top.1) names top.2.names).1 in
      let on_time : note.time ≡ latest c.base h object = ap (λ (n : CommitNote). n.time) same ∙ top.2.time_is in
      dite (dec_lt t note.time) (λ lt. lt)
      (λ ge.
      let last : latest_at c.base h object t ≡ latest c.base h object = latest_at-whole c.base h object t (omega arith) in
      let version : IsVersion rings object (latest_at c.base h object t) head top.0 top.1 =
      subst (λ (u : ℕ). IsVersion rings object u head top.0 top.1) (sym last) top.2 in
      ⊎_elim
      (λ z. let cut = z.1 head top.0 top.1 version in let uncut = top.3 in absurd (cc))
      (λ l. absurd
      (lost (version_once c start h rings k.checked k.history.in_time k.history.legal k.positions k.write_sets object (latest_at c.base h object t) head
      previous top.0 l.0 top.1 l.1 version l.2).0))
      last_there))
      (λ z. absurd (names_some rings head x (Committed note) names z.0))
      (k.head_is_top.top object none))
      (find_holder c h rings k.checked k.history.in_time k.positions object)

  -- a walk that the lost exchange put there
  late_right : (link : ℕ) → ((x : Version) (note : CommitNote) → Names rings link x (Committed note) → t < note.time)
      → WalksRight c start m h rings v.clocks inside (stand_at object link Nothing false)
      → WalksRight c start m h rings v.clocks inside (stand_at object link Nothing true)
  late_right link late =
      dite (ℕ_discrete link 0)
      (λ e r. subst (WalksRight c start m h rings v.clocks inside) (sym (at_zero object link Nothing false e) ∙ at_zero object link Nothing true e) r)
      (λ ne r.
      let s : Standing c start m h rings v.clocks inside (record { object = object; link = link; first = None; stamp = None; passed = Nothing; late = false }) =
      subst (WalksRight c start m h rings v.clocks inside) (sym (at_some object link Nothing false ne)) r in
      subst (WalksRight c start m h rings v.clocks inside) (at_some object link Nothing true ne) (record {
        version = s.version;
        status = s.status;
        names = s.names;
        object_is = s.object_is;
        may = s.may;
        helped = s.helped;
        death = s.death;
        below = s.below;
        first = λ first e. absurd (cc);
        stamp = λ found e small. absurd (cc);
        unset = λ found note e. absurd (cc);
        falls = λ none. absurd none;
        found = λ found none. absurd none;
        late = λ note _ e. late s.version note (subst (Names rings link s.version) e s.names);
      }))

  pub lost_right : m (Head object) ≢ previous → WalksRight c start m h rings v.clocks inside (stand_at object (m (Head object)) Nothing true)
  lost_right lost =
      late_right (m (Head object)) (late_top lost)
      (head_right k v.number v.clocks inside (time_is seats v inside k is walking.phase) walking.helped object)
