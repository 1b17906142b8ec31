-- What a walk's load leaves: where the walk stands afterwards, and with that all facts.
use Rattle.std.proofs.Common.{◌≡◌, ◌≢◌, ℕ, ◌+◌, ◌<◌, ◌≤◌, ◌^◌, true, List, length, Option, Some, None, sym, refl, ap, ◌∙◌, subst}
use Rattle.mv_core.proofs.Terms.{Entry, State, Writes, Config, Clock, Master, First, Stamp, Prev, Super, Data, IsUnset, link_seat_of, Memory, Ring}
use Rattle.mv_core.proofs.Terms.{Version, WriteSetStatus, Aborted, Committed, CommitNote, Knowledge, Past, Phase, Outside, Lowered, Marked, Inside, OwnSection}
use Rattle.mv_core.proofs.Terms.{LoadedClocks, WalkStage, Stand, EmptyHead, Lives, Names, parts_of, section_of, time_of, time_in, set_at}
use Rattle.mv_core.specs.declared.view.WalkStage.TheVariants as walk
use Rattle.mv_core.proofs.FactTerms.{History, stamp_of, HoldsVersion, HoldsSlot, IsPastHelp, DeathsSeen, MasterServes, MayStandAt, StandsRight}
use Rattle.mv_core.proofs.FactTerms.{IsBeforeDeath, IsBelowPassed, HasPassed, WalkerPlace, WalkerBeforeDeath, WalkerKnowledge, WalkerFalls}
use Rattle.mv_core.proofs.FactTerms.{WalkerLate, SucceededHasSuper, Facts}
use Rattle.mv_core.specs.WalkSteps.{slot_named}
use Rattle.mv_core.proofs.frames.FrameLaw.{set_at_all, after, unchanged, Fits, settle}
use Rattle.mv_core.proofs.logs.Links.{names_once, names_place}
use Rattle.mv_core.proofs.history.SectionWords.{section_is, time_is}

module _ (c : Config) (start : State) (m : Memory) (h : List Entry) (rings : ℕ → Ring) (clocks : LoadedClocks) (inside : OwnSection) where
  -- what holds of the one version that a walk of this section stands at
  pub record Standing (stand : Stand) : Type 0 where
    pub version : Version
    pub status : WriteSetStatus
    pub names : Names rings stand.link version status
    pub object_is : version.object ≡ stand.object
    pub may : MayStandAt c start h (λ o i. m (Master o i)) rings (time_in inside) version status
    pub helped : IsPastHelp clocks inside
    pub death : IsBeforeDeath (time_in inside) status
    pub below : (dead : Option ℕ) (y : Version) (st : WriteSetStatus) → status ≡ Aborted dead → Names rings version.previous y st
        → IsBeforeDeath (time_in inside) st
    pub first : (first : ℕ) → stand.first ≡ Some first → first ≡ version.first
    pub stamp : (found : ℕ) → stand.stamp ≡ Some found → found < 2 ^ 63 → (note : CommitNote) × (status ≡ Committed note) × (note.time ≡ found)
    pub unset : (found : ℕ) (note : CommitNote) → stand.stamp ≡ Some found → IsUnset found → status ≡ Committed note → time_in inside < note.time
    pub falls : HasPassed stand.passed → (note : CommitNote) × (status ≡ Committed note)
        × (stamp_of c (λ s k. m (Stamp s k)) (link_seat_of stand.link) version ≡ note.time) × IsBelowPassed note.time stand.passed
    pub found : (found : ℕ) → HasPassed stand.passed → stand.stamp ≡ Some found → found < 2 ^ 63
    pub late : (note : CommitNote) → stand.late ≡ true → status ≡ Committed note → time_in inside < note.time

  -- what is to be shown of where a walk is after its load: of a version all that, and of a master that it serves
  abbrev pub WalksRight : WalkStage → Type 0
  WalksRight walk.Nowhere = Unit {0}
  WalksRight (walk.At stand) = Standing stand
  WalksRight (walk.Master o) = MasterServes c start h (λ o i. m (Master o i)) rings (time_in inside) o × IsPastHelp clocks inside

  stands_right : (y : WalkStage) → WalksRight y → StandsRight c start h (λ o i. m (Master o i)) rings (time_in inside) y
  stands_right walk.Nowhere r = tt
  stands_right (walk.At stand) r = (r.version, r.status, r.names, r.object_is, r.may)
  stands_right (walk.Master o) r = r.0

  standing_at : (y : WalkStage) → WalksRight y → (stand : Stand) → y ≡ walk.At stand → Standing stand
  standing_at walk.Nowhere r stand e = absurd cc
  standing_at (walk.At at) r stand e = let same : at ≡ stand = cc in subst Standing same r
  standing_at (walk.Master o) r stand e = absurd cc

  helped_there : (y : WalkStage) → WalksRight y → y ≢ walk.Nowhere → IsPastHelp clocks inside
  helped_there walk.Nowhere r ne = absurd (ne refl)
  helped_there (walk.At stand) r ne = r.helped
  helped_there (walk.Master o) r ne = r.1

-- a seat that stands somewhere is in a section
section_by : (p : Phase) → time_of p ≢ None → (inside : OwnSection) × (p ≡ Inside inside)
section_by Outside some = absurd (some refl)
section_by (Lowered low) some = absurd (some refl)
section_by (Marked low) some = absurd (some refl)
section_by (Inside inside) some = (inside, refl)

module _ {starts : State → Type 0} {allows : List ℕ → State → Writes → Type 0} {c : Config} {start : State} {m : Memory} {h : List Entry}
    (seats : ℕ → Knowledge)
    (k : Facts starts allows c start m h (parts_of seats)) where
  -- the version that a link names is in the slot that it names
  pub lives_named : (link : ℕ) (x : Version) (st : WriteSetStatus) → Names (λ s. (seats s).ring) link x st
      → Lives (λ s. (seats s).ring) (link_seat_of link) (slot_named c link) x st
  lives_named link x st names =
      let p = names_place c h (λ s. (seats s).ring) k.checked k.history.in_time k.positions link x st names in
      subst (λ (s : ℕ). Lives (λ s. (seats s).ring) s (slot_named c link) x st) (sym p.0)
      (subst (λ (i : ℕ). Lives (λ s. (seats s).ring) names.seat i x st) (sym p.1) names.lives)

  -- the words of that slot are those of the version
  pub words_named : (link : ℕ) (x : Version) (st : WriteSetStatus) → Names (λ s. (seats s).ring) link x st
      → HoldsVersion (m (First (link_seat_of link) (slot_named c link))) (m (Prev (link_seat_of link) (slot_named c link)))
      (λ i. m (Data (link_seat_of link) (slot_named c link) i)) x
  words_named link x st names =
      let s = link_seat_of link in
      let i = slot_named c link in
      subst (HoldsSlot (m (First s i)) (m (Prev s i)) (λ w. m (Data s i w))) (lives_named link x st names) (k.slot_words s i)

module _ {starts : State → Type 0} {allows : List ℕ → State → Writes → Type 0} {c : Config} {start : State} {m : Memory} {h : List Entry}
    (seats : ℕ → Knowledge)
    (v : Knowledge) (k : Facts starts allows c start m h (parts_of seats)) (is : seats v.number ≡ v) where
  abbrev pub rings : ℕ → Ring
  rings s = (seats s).ring

  walk_is : (y : WalkStage) → v.walk ≡ y → (seats v.number).walk ≡ y
  walk_is y e = ap (λ (u : Knowledge). u.walk) is ∙ e

  pub section_there : (stand : Stand) → v.walk ≡ walk.At stand → (inside : OwnSection) × (v.phase ≡ Inside inside)
  section_there stand at =
      section_by v.phase (λ none.
      let nowhere : walk.At stand ≡ walk.Nowhere = sym (walk_is (walk.At stand) at) ∙
      (k.phases_and_scan.outside v.number (ap (λ (u : Knowledge). time_of u.phase) is ∙ none)).0 in absurd cc)

  module _ (inside : OwnSection) (phase : v.phase ≡ Inside inside) where
    at_time : (t : ℕ) → time_of (seats v.number).phase ≡ Some t → time_in inside ≡ t
    at_time t e = let same : Some (time_in inside) ≡ Some t = sym (time_is seats v inside k is phase) ∙ e in cc

    at_section : (s : OwnSection) → section_of (seats v.number).phase ≡ Some s → inside ≡ s
    at_section s e = let same : Some inside ≡ Some s = sym (section_is seats v inside k is phase) ∙ e in cc

    once : (link : ℕ) (x y : Version) (st su : WriteSetStatus) → Names rings link x st → Names rings link y su → (x ≡ y) × (st ≡ su)
    once link x y st su a b = let r = names_once c h rings k.checked k.history.in_time k.positions link x y st su a b in (r.2, r.3)

    -- all that is known of the version that the seat stands at
    pub standing_of : (stand : Stand) → v.walk ≡ walk.At stand → Standing c start m h rings v.clocks inside stand
    standing_of stand at =
        let n = v.number in
        let there = walk_is (walk.At stand) at in
        let time = time_is seats v inside k is phase in
        let section = section_is seats v inside k is phase in
        let somewhere : (seats n).walk ≢ walk.Nowhere = (λ e. let f : walk.At stand ≡ walk.Nowhere = sym there ∙ e in absurd cc) in
        let p = subst (StandsRight c start h (λ o i. m (Master o i)) rings (time_in inside)) there (k.walker_place n (time_in inside) time) in
        let names = p.2 in
        let seat_is = (names_place c h rings k.checked k.history.in_time k.positions stand.link p.0 p.1 names).0 in
        record {
          version = p.0;
          status = p.1;
          names = names;
          object_is = p.3;
          may = p.4;
          helped = subst (λ (u : Knowledge). IsPastHelp u.clocks inside) is (k.walker_knowledge.helped n inside section somewhere);
          death = k.walker_before_death.here n (time_in inside) stand p.0 p.1 time there names;
          below = λ dead y st e below. k.walker_before_death.below n (time_in inside) stand p.0 y dead st time there
              (subst (Names rings stand.link p.0) e names) below;
          first = λ first e. k.walker_knowledge.first n first stand p.0 p.1 there e names;
          stamp = λ found e low. k.walker_knowledge.stamp n found stand p.0 p.1 there e low names;
          unset = λ found note e high st. k.walker_knowledge.unset n (time_in inside) found stand p.0 note time there e high
              (subst (Names rings stand.link p.0) st names);
          falls = λ passed. let f = k.walker_falls.stamped n stand p.0 p.1 there passed names in
              (f.0, f.1, subst (λ (s : ℕ). stamp_of c (λ s k. m (Stamp s k)) s p.0 ≡ f.0.time) (sym seat_is) f.2, f.3);
          found = λ found passed e. k.walker_falls.found n found stand there passed e;
          late = λ note e st. k.walker_late n (time_in inside) stand p.0 note time there e (subst (Names rings stand.link p.0) st names);
        }

    module _ (y : WalkStage) (right : WalksRight c start m h rings v.clocks inside y) where
      abbrev walks : ℕ → WalkStage
      walks = set_at (λ s. (seats s).walk) v.number y

      -- what is known of the seat's new walk, in the words of the facts
      new_at : (stand : Stand) → y ≡ walk.At stand → Standing c start m h rings v.clocks inside stand
      new_at = standing_at c start m h rings v.clocks inside y right

      places : WalkerPlace c start h (λ o w. m (Master o w)) (λ s. time_of (seats s).phase) walks rings
      places s t = set_at_all (λ s x. time_of (seats s).phase ≡ Some t → StandsRight c start h (λ o w. m (Master o w)) rings t x)
          (λ s. (seats s).walk) v.number y
          (λ e. subst (λ (u : ℕ). StandsRight c start h (λ o w. m (Master o w)) rings u y) (at_time t e)
          (stands_right c start m h rings v.clocks inside y right))
          (λ s ne. k.walker_place s t) s

      death_here : (t : ℕ) (stand : Stand) (x : Version) (st : WriteSetStatus) → time_of (seats v.number).phase ≡ Some t → y ≡ walk.At stand
          → Names rings stand.link x st → IsBeforeDeath t st
      death_here t stand x st e at names =
          let r = new_at stand at in
          let same = once stand.link r.version x r.status st r.names names in
          subst (λ (u : ℕ). IsBeforeDeath u st) (at_time t e) (subst (IsBeforeDeath (time_in inside)) same.1 r.death)

      death_below : (t : ℕ) (stand : Stand) (x z : Version) (dead : Option ℕ) (st : WriteSetStatus) → time_of (seats v.number).phase ≡ Some t
          → y ≡ walk.At stand
          → Names rings stand.link x (Aborted dead) → Names rings x.previous z st → IsBeforeDeath t st
      death_below t stand x z dead st e at names below =
          let r = new_at stand at in
          let same = once stand.link r.version x r.status (Aborted dead) r.names names in
          subst (λ (u : ℕ). IsBeforeDeath u st) (at_time t e)
          (r.below dead z st same.1 (subst (λ (o : Version). Names rings o.previous z st) (sym same.0) below))

      deaths : WalkerBeforeDeath (λ s. time_of (seats s).phase) walks rings
      deaths = record {
        here = λ s t stand x st. set_at_all (λ s w. time_of (seats s).phase ≡ Some t → w ≡ walk.At stand → Names rings stand.link x st → IsBeforeDeath t st)
            (λ s. (seats s).walk) v.number y
            (death_here t stand x st) (λ s ne. k.walker_before_death.here s t stand x st) s;
        below = λ s t stand x z dead st. set_at_all (λ s w. time_of (seats s).phase ≡ Some t → w ≡ walk.At stand → Names rings stand.link x (Aborted dead)
            → Names rings x.previous z st → IsBeforeDeath t st) (λ s. (seats s).walk) v.number y
            (death_below t stand x z dead st) (λ s ne. k.walker_before_death.below s t stand x z dead st) s;
      }

      knows_helped : (s : OwnSection) → section_of (seats v.number).phase ≡ Some s → y ≢ walk.Nowhere → IsPastHelp (seats v.number).clocks s
      knows_helped s e ne =
          subst (λ (u : Knowledge). IsPastHelp u.clocks s) (sym is)
          (subst (IsPastHelp v.clocks) (at_section s e) (helped_there c start m h rings v.clocks inside y right ne))

      knows_first : (first : ℕ) (stand : Stand) (x : Version) (st : WriteSetStatus) → y ≡ walk.At stand → stand.first ≡ Some first → Names rings stand.link x st
          → first ≡ x.first
      knows_first first stand x st at e names =
          let r = new_at stand at in
          r.first first e ∙ ap (λ (o : Version). o.first) (once stand.link r.version x r.status st r.names names).0

      knows_stamp : (found : ℕ) (stand : Stand) (x : Version) (st : WriteSetStatus) → y ≡ walk.At stand → stand.stamp ≡ Some found → found < 2 ^ 63
          → Names rings stand.link x st → (note : CommitNote) × (st ≡ Committed note) × (note.time ≡ found)
      knows_stamp found stand x st at e low names =
          let r = new_at stand at in
          let t = r.stamp found e low in
          (t.0, sym (once stand.link r.version x r.status st r.names names).1 ∙ t.1, t.2)

      knows_unset : (t found : ℕ) (stand : Stand) (x : Version) (note : CommitNote) → time_of (seats v.number).phase ≡ Some t → y ≡ walk.At stand
          → stand.stamp ≡ Some found → IsUnset found → Names rings stand.link x (Committed note) → t < note.time
      knows_unset t found stand x note time at e high names =
          let r = new_at stand at in
          subst (λ (u : ℕ). u < note.time) (at_time t time) (r.unset found note e high (once stand.link r.version x r.status (Committed note) r.names names).1)

      knowledge : WalkerKnowledge (λ s. section_of (seats s).phase) (λ s. time_of (seats s).phase) (λ s. (seats s).clocks) walks rings
      knowledge = record {
        helped = λ s inside. set_at_all (λ s w. section_of (seats s).phase ≡ Some inside → w ≢ walk.Nowhere → IsPastHelp (seats s).clocks inside)
            (λ s. (seats s).walk) v.number y
            (knows_helped inside) (λ s ne. k.walker_knowledge.helped s inside) s;
        first = λ s first stand x st. set_at_all (λ s w. w ≡ walk.At stand → stand.first ≡ Some first → Names rings stand.link x st → first ≡ x.first)
            (λ s. (seats s).walk) v.number y
            (knows_first first stand x st) (λ s ne. k.walker_knowledge.first s first stand x st) s;
        stamp = λ s found stand x st. set_at_all (λ s w. w ≡ walk.At stand → stand.stamp ≡ Some found → found < 2 ^ 63 → Names rings stand.link x st →
            (note : CommitNote) × (st ≡ Committed note) × (note.time ≡ found)) (λ s. (seats s).walk) v.number y
            (knows_stamp found stand x st) (λ s ne. k.walker_knowledge.stamp s found stand x st) s;
        unset = λ s t found stand x note. set_at_all (λ s w. time_of (seats s).phase ≡ Some t → w ≡ walk.At stand → stand.stamp ≡ Some found → IsUnset found
            → Names rings stand.link x (Committed note) → t < note.time) (λ s. (seats s).walk) v.number y
            (knows_unset t found stand x note) (λ s ne. k.walker_knowledge.unset s t found stand x note) s;
      }

      falls_there : (stand : Stand) (x : Version) (st : WriteSetStatus) → y ≡ walk.At stand → HasPassed stand.passed → (names : Names rings stand.link x st)
          → (note : CommitNote) × (st ≡ Committed note) × (stamp_of c (λ s k. m (Stamp s k)) names.seat x ≡ note.time) × IsBelowPassed note.time stand.passed
      falls_there stand x st at passed names =
          let r = new_at stand at in
          let same = once stand.link r.version x r.status st r.names names in
          let seat_is = (names_place c h rings k.checked k.history.in_time k.positions stand.link x st names).0 in
          let f = r.falls passed in (
            f.0,
            sym same.1 ∙ f.1,
            subst (λ (s : ℕ). stamp_of c (λ s k. m (Stamp s k)) s x ≡ f.0.time) seat_is
                (subst (λ (o : Version). stamp_of c (λ s k. m (Stamp s k)) (link_seat_of stand.link) o ≡ f.0.time) same.0 f.2),
            f.3,
          )

      falls : WalkerFalls c (λ s k. m (Stamp s k)) walks rings
      falls = record {
        stamped = λ s stand x st. set_at_all (λ s w. w ≡ walk.At stand → HasPassed stand.passed → (names : Names rings stand.link x st) → (note : CommitNote) ×
            (st ≡ Committed note) × (stamp_of c (λ s k. m (Stamp s k)) names.seat x ≡ note.time) × IsBelowPassed note.time stand.passed)
            (λ s. (seats s).walk) v.number y
            (falls_there stand x st) (λ s ne. k.walker_falls.stamped s stand x st) s;
        found = λ s found stand. set_at_all (λ s w. w ≡ walk.At stand → HasPassed stand.passed → stand.stamp ≡ Some found → found < 2 ^ 63)
            (λ s. (seats s).walk) v.number y
            (λ at passed e. (new_at stand at).found found passed e) (λ s ne. k.walker_falls.found s found stand) s;
      }

      late_there : (t : ℕ) (stand : Stand) (x : Version) (note : CommitNote) → time_of (seats v.number).phase ≡ Some t → y ≡ walk.At stand → stand.late ≡ true
          → Names rings stand.link x (Committed note) → t < note.time
      late_there t stand x note time at e names =
          let r = new_at stand at in
          subst (λ (u : ℕ). u < note.time) (at_time t time) (r.late note e (once stand.link r.version x r.status (Committed note) r.names names).1)

      lates : WalkerLate (λ s. time_of (seats s).phase) walks rings
      lates s t stand x note =
          set_at_all (λ s w. time_of (seats s).phase ≡ Some t → w ≡ walk.At stand → stand.late ≡ true → Names rings stand.link x (Committed note)
          → t < note.time) (λ s. (seats s).walk) v.number y
          (late_there t stand x note) (λ s ne. k.walker_late s t stand x note) s

      outside : (s : ℕ) → time_of (seats s).phase ≡ None → (walks s ≡ walk.Nowhere) × ((seats s).back ≡ None)
      outside = set_at_all (λ s w. time_of (seats s).phase ≡ None → (w ≡ walk.Nowhere) × ((seats s).back ≡ None)) (λ s. (seats s).walk) v.number y
          (λ e. let f : Some (time_in inside) ≡ None = sym (time_is seats v inside k is phase) ∙ e in absurd cc)
          (λ s ne. k.phases_and_scan.outside s)

      -- all facts after a load of a walk, which moves the walk and may change what was seen or which heads were found empty
      pub walked : (w : Knowledge) (p : Option Past) (e : Option (List EmptyHead)) → Fits v w (record unchanged { past = p; walk = Some y; empty = e })
          → History starts allows c start (m Clock) h (after (λ s. (seats s).past) v.number p)
          → ((s t : ℕ) → time_of (seats s).phase ≡ Some t → t ≤ c.base + length (after (λ s. (seats s).past) v.number p s).seen)
          → SucceededHasSuper c h (λ s k. m (Super s k)) (after (λ s. (seats s).empty) v.number e) rings
          → DeathsSeen c (after (λ s. (seats s).past) v.number p) rings
          → Facts starts allows c start m h (parts_of (set_at seats v.number w))
      walked w p e fits history seen succeeded deaths_seen =
          settle starts allows c start m h seats v.number v w is (record unchanged { past = p; walk = Some y; empty = e }) fits
          (assumption (history, seen, succeeded, deaths_seen, places, deaths, knowledge, falls, lates, outside, k))
