-- Where the walks of sections stand, and what they know.
use Rattle.std.specs.Prelude.{◌≡◌, ◌≢◌, ◌⊎◌, ℕ, ◌+◌, ◌<◌, ◌≤◌, ◌^◌, true, false, List, length, Option, Some}
use Rattle.std.specs.Prelude.{None, Contains}
use Rattle.mv_history.specs.declared.Entry.{Entry}
use Rattle.mv_history.specs.State.{State}
use Rattle.mv_layout.specs.declared.Config.{Config}
use Rattle.mv_layout.specs.Words.{IsUnset}
use Rattle.mv_core.specs.declared.ring.Ring.{Ring}
use Rattle.mv_core.specs.declared.ring.Version.{Version}
use Rattle.mv_core.specs.declared.ring.WriteSetStatus.{WriteSetStatus}
use Rattle.mv_core.specs.declared.ring.WriteSetStatus.TheVariants.{Held, Aborted, Committed}
use Rattle.mv_core.specs.declared.ring.CommitNote.{CommitNote}
use Rattle.mv_core.specs.declared.view.OwnSection.{OwnSection}
use Rattle.mv_core.specs.declared.view.LoadedClocks.{LoadedClocks}
use Rattle.mv_core.specs.declared.view.WalkStage.{WalkStage}
use Rattle.mv_core.specs.declared.view.WalkStage.TheVariants.{Nowhere, At, Master}
use Rattle.mv_core.specs.declared.view.Stand.{Stand}
use Rattle.mv_core.specs.declared.view.Passed.{Passed}
use Rattle.mv_core.specs.declared.view.Passed.TheVariants.{Nothing, Unset, Time}
use Rattle.mv_core.specs.declared.view.EmptyHead.{EmptyHead}
use Rattle.mv_core.specs.Rings.{Lives, Names, NoneUncut}
use Rattle.mv_core.specs.Times.{latest_at, words_of, AreThe}
use Rattle.mv_core.specs.SetFacts.{stamp_of}
use Rattle.mv_core.specs.SectionFacts.{IsPastHelp}

-- the master has an object's words of time t, and the version of its last write up to t isn't live and uncut
abbrev pub MasterServes : Config → State → List Entry → (ℕ → ℕ → ℕ) → (ℕ → Ring) → ℕ → ℕ → Type 0
MasterServes c start h master rings t o =
    AreThe (master o) (words_of c start h t o) × NoneUncut rings o (latest_at c.base h o t)

-- a committed version that a walk of time t may stand at: it is later, or its object's last write up to t
abbrev pub IsRightFor : Config → List Entry → ℕ → Version → CommitNote → Type 0
IsRightFor c h t x note = (t < note.time) ⊎ (note.time ≡ latest_at c.base h x.object t)

-- a version that a walk of time t may stand at, by its status
abbrev pub MayStandAt : Config → State → List Entry → (ℕ → ℕ → ℕ) → (ℕ → Ring) → ℕ → Version → WriteSetStatus → Type 0
MayStandAt c start h master rings t x Held = Unit {0}
MayStandAt c start h master rings t x (Committed note) = IsRightFor c h t x note
MayStandAt c start h master rings t x (Aborted dead) =
    ((x.previous ≡ 0) × MasterServes c start h master rings t x.object)
    ⊎ ((y : Version) × (note : CommitNote) × Names rings x.previous y (Committed note) × (y.object ≡ x.object) × IsRightFor c h t y note)

-- where a walk of time t stands
abbrev pub StandsRight : Config → State → List Entry → (ℕ → ℕ → ℕ) → (ℕ → Ring) → ℕ → WalkStage → Type 0
StandsRight c start h master rings t Nowhere = Unit {0}
StandsRight c start h master rings t (Master o) = MasterServes c start h master rings t o
StandsRight c start h master rings t (At stand) =
    (x : Version) × (st : WriteSetStatus) × Names rings stand.link x st × (x.object ≡ stand.object) × MayStandAt c start h master rings t x st

-- walker-place: a walk stands at a live version of its object that is right for it, or at a master that serves it
abbrev pub WalkerPlace : Config → State → List Entry → (ℕ → ℕ → ℕ) → (ℕ → Option ℕ) → (ℕ → WalkStage) → (ℕ → Ring) → Type 0
WalkerPlace c start h master time walk rings =
    (s t : ℕ) → time s ≡ Some t → StandsRight c start h master rings t (walk s)

-- the time is below a noted time of death, if one was noted
abbrev pub IsBeforeDeath : ℕ → WriteSetStatus → Type 0
IsBeforeDeath t Held = Unit {0}
IsBeforeDeath t (Aborted None) = Unit {0}
IsBeforeDeath t (Aborted (Some dead)) = t < dead
IsBeforeDeath t (Committed note) = (dead : ℕ) → note.dead ≡ Some dead → t < dead

-- walker-before-death: a section's time is below the noted death of the version it stands at, and of one that an aborted version there links to
pub record WalkerBeforeDeath (time : ℕ → Option ℕ) (walk : ℕ → WalkStage) (rings : ℕ → Ring) : Type 0 where
  pub here : (s t : ℕ) (stand : Stand) (x : Version) (st : WriteSetStatus) → time s ≡ Some t → walk s ≡ At stand → Names rings stand.link x st
      → IsBeforeDeath t st
  pub below : (s t : ℕ) (stand : Stand) (x y : Version) (dead : Option ℕ) (st : WriteSetStatus) → time s ≡ Some t → walk s ≡ At stand
      → Names rings stand.link x (Aborted dead) → Names rings x.previous y st → IsBeforeDeath t st

-- walker-knowledge: who stands somewhere is past the help; the FIRST found is that version's, a time found is that of its commit,
-- and an unset stamp found means that it isn't committed at or before the section's time
pub record WalkerKnowledge (section : ℕ → Option OwnSection) (time : ℕ → Option ℕ) (clocks : ℕ → LoadedClocks) (walk : ℕ → WalkStage)
    (rings : ℕ → Ring) : Type 0 where
  pub helped : (s : ℕ) (inside : OwnSection) → section s ≡ Some inside → walk s ≢ Nowhere → IsPastHelp (clocks s) inside
  pub first : (s first : ℕ) (stand : Stand) (x : Version) (st : WriteSetStatus) → walk s ≡ At stand → stand.first ≡ Some first
      → Names rings stand.link x st → first ≡ x.first
  pub stamp : (s found : ℕ) (stand : Stand) (x : Version) (st : WriteSetStatus) → walk s ≡ At stand → stand.stamp ≡ Some found → found < 2 ^ 63
      → Names rings stand.link x st → (note : CommitNote) × (st ≡ Committed note) × (note.time ≡ found)
  pub unset : (s t found : ℕ) (stand : Stand) (x : Version) (note : CommitNote) → time s ≡ Some t → walk s ≡ At stand → stand.stamp ≡ Some found
      → IsUnset found → Names rings stand.link x (Committed note) → t < note.time

-- a version's time is below the least that a walk has passed
abbrev pub IsBelowPassed : ℕ → Passed → Type 0
IsBelowPassed t Nothing = Unit {0}
IsBelowPassed t Unset = Unit {0}
IsBelowPassed t (Time least) = t < least

-- a walk has passed a version
abbrev pub HasPassed : Passed → Type 0
HasPassed Nothing = ⊥
HasPassed Unset = Unit {0}
HasPassed (Time least) = Unit {0}

-- walker-falls: a walk that has passed a version stands at a committed and stamped one whose time is below all that it passed,
-- and the stamp found there isn't unset; so it ends
pub record WalkerFalls (c : Config) (stamp : ℕ → ℕ → ℕ) (walk : ℕ → WalkStage) (rings : ℕ → Ring) : Type 0 where
  pub stamped : (s : ℕ) (stand : Stand) (x : Version) (st : WriteSetStatus) → walk s ≡ At stand → HasPassed stand.passed
      → (names : Names rings stand.link x st) → (note : CommitNote) × (st ≡ Committed note) × (stamp_of c stamp names.seat x ≡ note.time)
      × IsBelowPassed note.time stand.passed
  pub found : (s found : ℕ) (stand : Stand) → walk s ≡ At stand → HasPassed stand.passed → stand.stamp ≡ Some found → found < 2 ^ 63

-- walker-late: where a lost exchange of a lock put a walk, the version isn't committed at or before the section's time
abbrev pub WalkerLate : (ℕ → Option ℕ) → (ℕ → WalkStage) → (ℕ → Ring) → Type 0
WalkerLate time walk rings =
    (s t : ℕ) (stand : Stand) (x : Version) (note : CommitNote) → time s ≡ Some t → walk s ≡ At stand → stand.late ≡ true
    → Names rings stand.link x (Committed note) → t < note.time

-- succeeded-has-super: a section that found an object's HEAD empty had a time of the history, and SUPER of each own live version
-- of the object up to that time that wasn't cut isn't 0
abbrev pub SucceededHasSuper : Config → List Entry → (ℕ → ℕ → ℕ) → (ℕ → List EmptyHead) → (ℕ → Ring) → Type 0
SucceededHasSuper c h super empty rings =
    (s : ℕ) (e : EmptyHead) → Contains (empty s) e
    → (e.time ≤ c.base + length h)
    × ((k : ℕ) (x : Version) (note : CommitNote) → Lives rings s k x (Committed note) → x.object ≡ e.object → note.time ≤ e.time
    → note.cut ≡ false → super s k ≢ 0)
