-- Where load HEAD and load PREV put a walk, it is right.
use Rattle.std.proofs.Common.{◌≡◌, ◌≢◌, ◌⊎◌, ℕ, ◌<◌, ◌^◌, leb, Bool, true, false, List, Option, Some, None, sym, refl, ap}
use Rattle.std.proofs.Common.{◌∙◌, subst, inl, inr, ⊎_elim, arith, if◌then◌else◌, eq-eqb, ne_eqb, leb-true, leb-false}
use Rattle.mv_core.proofs.Terms.{dite, dec_lt, Entry, State, Writes, Config, Head, Master, Stamp, Memory, link_of, IsUnset, Version, WriteSetStatus, Held}
use Rattle.mv_core.proofs.Terms.{Aborted, Committed, CommitNote, OwnSection, Stand, LoadedClocks, Lives, IsTop, latest, latest_at, ViewParts, time_in}
use Rattle.mv_core.specs.declared.view.WalkStage.TheVariants as walk
use Rattle.mv_core.specs.declared.view.Passed.{Passed}
use Rattle.mv_core.specs.declared.view.Passed.TheVariants.{Nothing, Unset, Time}
use Rattle.mv_core.proofs.FactTerms.{stamp_of, IsPastHelp, MasterServes, MayStandAt, HasPassed, IsBelowPassed, Facts}
use Rattle.mv_core.specs.WalkSteps.{IsLinkOf, stand_at, passed_unset, passed_too}
use Rattle.mv_core.proofs.logs.Links.{names_some, names_place, names_link}
use Rattle.mv_core.proofs.logs.Finding.{find_holder}
use Rattle.mv_core.proofs.kinds.walking.Landing.{LandsAt, Lands, top_lands, below_lands, earlier_stamped}
use Rattle.mv_core.proofs.kinds.walking.Walks.{Standing, WalksRight}

passed_unset-below : (u : ℕ) (passed : Passed) → (HasPassed passed → ⊥) → IsBelowPassed u (passed_unset passed)
passed_unset-below u Nothing none = tt
passed_unset-below u Unset none = tt
passed_unset-below u (Time least) none = absurd (none tt)

-- a time is below what a walk passed that goes on from this stamp: it is below a time found, and before an unset stamp nothing was passed
passed_too-below : (u found : ℕ) (passed : Passed) → (found < 2 ^ 63 → u < found) → (IsUnset found → HasPassed passed → ⊥) → (b : Bool)
    → leb 9223372036854775808 found ≡ b → IsBelowPassed u (if b then passed_unset passed else Time found)
passed_too-below u found passed timed none true e = passed_unset-below u passed (none (leb-true 9223372036854775808 found e))
passed_too-below u found passed timed none false e = timed (leb-false 9223372036854775808 found e)

-- where a walk over the object stands that found this link
pub at_zero : (o link : ℕ) (passed : Passed) (late : Bool) → link ≡ 0 → walk.Master o ≡ stand_at o link passed late
at_zero o link passed late e =
    ap (λ (b : Bool). if b then walk.Master o else walk.At (record { object = o; link = link; first = None; stamp = None; passed = passed; late = late }))
    (sym (eq-eqb link 0 e))

pub at_some : (o link : ℕ) (passed : Passed) (late : Bool) → link ≢ 0
    → walk.At (record { object = o; link = link; first = None; stamp = None; passed = passed; late = late }) ≡ stand_at o link passed late
at_some o link passed late ne =
    ap (λ (b : Bool). if b then walk.Master o else walk.At (record { object = o; link = link; first = None; stamp = None; passed = passed; late = late }))
    (sym (ne_eqb link 0 ne))

module _ (c : Config) (start : State) (m : Memory) (h : List Entry) (f : ViewParts) (clocks : LoadedClocks) (inside : OwnSection) where
  -- a walk that found 0 stands at the master, and is right if that serves
  pub zero_right : (o link : ℕ) (passed : Passed) (late : Bool) → link ≡ 0 → MasterServes c start h (λ p i. m (Master p i)) f.ring (time_in inside) o
      → IsPastHelp clocks inside → WalksRight c start m h f.ring clocks inside (stand_at o link passed late)
  zero_right o link passed late e serves helped = subst (WalksRight c start m h f.ring clocks inside) (at_zero o link passed late e) (serves, helped)

  -- a walk that found the link of a version stands at it
  pub some_right : (o link : ℕ) (passed : Passed) (late : Bool)
      → Standing c start m h f.ring clocks inside (record { object = o; link = link; first = None; stamp = None; passed = passed; late = late })
      → WalksRight c start m h f.ring clocks inside (stand_at o link passed late)
  some_right o link passed late r =
      subst (WalksRight c start m h f.ring clocks inside) (at_some o link passed late (names_some f.ring link r.version r.status r.names)) r

module _ {starts : State → Type 0} {allows : List ℕ → State → Writes → Type 0} {c : Config} {start : State} {m : Memory} {h : List Entry} {f : ViewParts}
    (k : Facts starts allows c start m h f) (n : ℕ) (clocks : LoadedClocks) (inside : OwnSection) (timed : f.time n ≡ Some (time_in inside))
    (helped : IsPastHelp clocks inside) where
  abbrev t : ℕ
  t = time_in inside

  -- a walk that found a link to a version that it may land at
  landed : (o link : ℕ) (passed : Passed) (l : LandsAt c h f.ring t o link)
      → (HasPassed passed → (stamp_of c (λ s j. m (Stamp s j)) l.names.seat l.version ≡ l.note.time) × IsBelowPassed l.note.time passed)
      → Standing c start m h f.ring clocks inside (record { object = o; link = link; first = None; stamp = None; passed = passed; late = false })
  landed o link passed l below = record {
    version = l.version;
    status = Committed l.note;
    names = l.names;
    object_is = l.object_is;
    may = subst (λ (p : ℕ). (t < l.note.time) ⊎ (l.note.time ≡ latest_at c.base h p t)) (sym l.object_is) l.right;
    helped = helped;
    death = l.alive;
    below = λ dead y st e names. absurd cc;
    first = λ first e. absurd cc;
    stamp = λ found e small. absurd cc;
    unset = λ found note e. absurd cc;
    falls = λ passed.
        let b = below passed in
        let seat_is = (names_place c h f.ring k.checked k.history.in_time k.positions link l.version (Committed l.note) l.names).0 in
        (l.note, refl, subst (λ (s : ℕ). stamp_of c (λ q j. m (Stamp q j)) s l.version ≡ l.note.time) (sym seat_is) b.0, b.1);
    found = λ found passed e. absurd cc;
    late = λ note e s. absurd cc;
  }

  -- a link by which a walk may land is 0 or a packed link to a seat of the domain
  landing_link : (o link : ℕ) → Lands c start h (λ p i. m (Master p i)) f.ring t o link → IsLinkOf c link
  landing_link o link lands some =
      ⊎_elim (λ z. absurd (some z.0)) (λ l. names_link c h f.ring k.checked k.history.in_time k.positions link l.version (Committed l.note) l.names) lands

  -- load HEAD
  pub head_right : (o : ℕ) → WalksRight c start m h f.ring clocks inside (stand_at o (m (Head o)) Nothing false)
  head_right o =
      ⊎_elim
      (λ a.
      let x : Version = a.2 in
      let is : m (Head o) ≡ link_of a.0 x.position = ap (λ p. m (Head p)) (sym a.4) ∙ k.head_is_top.held a.0 a.1 x a.3 in
      some_right c start m h f clocks inside o (m (Head o)) Nothing false (record {
        version = x;
        status = Held;
        names = record { seat = a.0; slot = a.1; lives = a.3; is = is };
        object_is = a.4;
        may = tt;
        helped = helped;
        death = tt;
        below = λ dead y st e names. absurd cc;
        first = λ first e. absurd cc;
        stamp = λ found e small. absurd cc;
        unset = λ found note e. absurd cc;
        falls = λ none. absurd none;
        found = λ found none. absurd none;
        late = λ note e s. absurd cc;
      }))
      (λ none.
      ⊎_elim
      (λ z. zero_right c start m h f clocks inside o (m (Head o)) Nothing false z.0 z.1 helped)
      (λ l. some_right c start m h f clocks inside o (m (Head o)) Nothing false (landed o (m (Head o)) Nothing l (λ none. absurd none)))
      (top_lands k n t o (m (Head o)) timed (k.head_is_top.top o none)))
      (find_holder c h f.ring k.checked k.history.in_time k.positions o)

  pub head_link : (o : ℕ) → IsLinkOf c (m (Head o))
  head_link o some =
      ⊎_elim
      (λ a. names_link c h f.ring k.checked k.history.in_time k.positions (m (Head o)) a.2 Held
      (record { seat = a.0; slot = a.1; lives = a.3; is = ap (λ p. m (Head p)) (sym a.4) ∙ k.head_is_top.held a.0 a.1 a.2 a.3 }))
      (λ none. landing_link o (m (Head o)) (top_lands k n t o (m (Head o)) timed (k.head_is_top.top o none)) some)
      (find_holder c h f.ring k.checked k.history.in_time k.positions o)

  -- load PREV: the walk stands somewhere and found a stamp from which it goes on
  module _ (stand : Stand) (there : Standing c start m h f.ring clocks inside stand) (found : ℕ) (stamp_is : stand.stamp ≡ Some found)
      (goes_on : IsUnset found ⊎ (time_in inside < found)) where
    -- the version below is stamped, and earlier than a time found
    abbrev IsUnder : (o link : ℕ) → LandsAt c h f.ring t o link → Type 0
    IsUnder o link l = (stamp_of c (λ s j. m (Stamp s j)) l.names.seat l.version ≡ l.note.time) × (found < 2 ^ 63 → l.note.time < found)

    abbrev Goes : (o link : ℕ) → Type 0
    Goes o link = ((link ≡ 0) × MasterServes c start h (λ p i. m (Master p i)) f.ring t o) ⊎ ((l : LandsAt c h f.ring t o link) × IsUnder o link l)

    lives_as : (st : WriteSetStatus) → there.status ≡ st → Lives f.ring there.names.seat there.names.slot there.version st
    lives_as st e = subst (λ (su : WriteSetStatus). Lives f.ring there.names.seat there.names.slot there.version su) e there.names.lives

    -- a time found is that of a commit
    time_found : (st : WriteSetStatus) → there.status ≡ st → found < 2 ^ 63 → (note : CommitNote) × (st ≡ Committed note) × (note.time ≡ found)
    time_found st e small = let g = there.stamp found stamp_is small in (g.0, sym e ∙ g.1, g.2)

    goes_held : there.status ≡ Held → Goes stand.object there.version.previous
    goes_held e =
        let x : Version = there.version in
        let lives = lives_as Held e in
        let top : IsTop f.ring stand.object (latest c.base h stand.object) x.previous =
        subst (λ (o : ℕ). IsTop f.ring o (latest c.base h o) x.previous) there.object_is (k.held_link there.names.seat there.names.slot x lives) in
        ⊎_elim
        (λ z. inl z)
        (λ l. inr (
          l,
          (
            k.below_is_stamped there.names.seat there.names.slot x Held lives tt l.version l.note l.names,
            λ small. let g = (time_found Held e small).1 in absurd cc,
          ),
        ))
        (top_lands k n t stand.object x.previous timed top)

    goes_aborted : (dead : Option ℕ) → there.status ≡ Aborted dead → Goes stand.object there.version.previous
    goes_aborted dead e =
        let x : Version = there.version in
        let may : MayStandAt c start h (λ p i. m (Master p i)) f.ring t x (Aborted dead) =
        subst (MayStandAt c start h (λ p i. m (Master p i)) f.ring t x) e there.may in
        ⊎_elim
        (λ z. inl (z.0, subst (MasterServes c start h (λ p i. m (Master p i)) f.ring t) there.object_is z.1))
        (λ a.
        let l : LandsAt c h f.ring t stand.object x.previous = record {
          version = a.0;
          note = a.1;
          names = a.2;
          object_is = a.3 ∙ there.object_is;
          right = subst (λ (o : ℕ). (t < a.1.time) ⊎ (a.1.time ≡ latest_at c.base h o t)) (a.3 ∙ there.object_is) a.4;
          alive = there.below dead a.0 (Committed a.1) e a.2;
        } in
        inr (
          l,
          (
            k.below_is_stamped there.names.seat there.names.slot x (Aborted dead) (lives_as (Aborted dead) e) tt a.0 a.1 a.2,
            λ small. let g = (time_found (Aborted dead) e small).1 in absurd cc,
          ),
        ))
        may

    same_note : (a b : CommitNote) → ◌≡◌ {A = WriteSetStatus} (Committed a) (Committed b) → a ≡ b
    same_note a b e = cc

    -- a commit where a walk goes on is later than the section
    is_late : (note : CommitNote) → there.status ≡ Committed note → t < note.time
    is_late note e =
        ⊎_elim
        (λ large. there.unset found note stamp_is large e)
        (λ lt. dite (dec_lt found 9223372036854775808)
        (λ small. let g = time_found (Committed note) e small in let time_is = ap (λ (q : CommitNote). q.time) (same_note note g.0 g.1) ∙ g.2 in omega arith)
        (λ large. there.unset found note stamp_is (omega arith) e))
        goes_on

    goes_committed : (note : CommitNote) → there.status ≡ Committed note → Goes stand.object there.version.previous
    goes_committed note e =
        let x : Version = there.version in
        let lives = lives_as (Committed note) e in
        subst (λ (o : ℕ). Goes o x.previous) there.object_is
        (⊎_elim
        (λ z. inl z)
        (λ l. inr (
          l.0,
          (
            earlier_stamped k there.names.seat there.names.slot l.0.names.seat l.0.names.slot x l.0.version note l.0.note lives l.0.names.lives l.1,
            λ small. let g = time_found (Committed note) e small in let time_is = ap (λ (q : CommitNote). q.time) (same_note note g.0 g.1) ∙ g.2 in let lt =
                l.1 in omega arith,
          ),
        ))
        (below_lands k n t timed there.names.seat there.names.slot x note lives (is_late note e)))

    goes : (st : WriteSetStatus) → there.status ≡ st → Goes stand.object there.version.previous
    goes Held e = goes_held e
    goes (Aborted dead) e = goes_aborted dead e
    goes (Committed note) e = goes_committed note e

    -- before an unset stamp nothing was passed
    unpassed : IsUnset found → HasPassed stand.passed → ⊥
    unpassed large passed = let small = there.found found passed stamp_is in omega arith

    below_passed : (u : ℕ) → (found < 2 ^ 63 → u < found) → IsBelowPassed u (passed_too stand.passed stand.stamp)
    below_passed u lt =
        subst (λ (s : Option ℕ). IsBelowPassed u (passed_too stand.passed s)) (sym stamp_is)
        (passed_too-below u found stand.passed lt unpassed (leb 9223372036854775808 found) refl)

    pub prev_right : WalksRight c start m h f.ring clocks inside (stand_at stand.object there.version.previous (passed_too stand.passed stand.stamp) false)
    prev_right =
        ⊎_elim
        (λ z. zero_right c start m h f clocks inside stand.object there.version.previous (passed_too stand.passed stand.stamp) false z.0 z.1 helped)
        (λ l. some_right c start m h f clocks inside stand.object there.version.previous (passed_too stand.passed stand.stamp) false
        (landed stand.object there.version.previous (passed_too stand.passed stand.stamp) l.0 (λ any. (l.1.0, below_passed l.0.note.time l.1.1))))
        (goes there.status refl)

    pub prev_link : IsLinkOf c there.version.previous
    prev_link = landing_link stand.object there.version.previous (⊎_elim (λ z. inl z) (λ l. inr l.0) (goes there.status refl))
