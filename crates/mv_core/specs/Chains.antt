-- The version chains, followed link by link, and what a section reaches.
use Rattle.std.specs.Prelude.{◌≡◌, ◌⊎◌, ℕ, ◌+◌, ◌-◌, ◌<◌, true, false, List, [], ◌∷◌, length, Option, Some, None}
use Rattle.mv_history.specs.declared.Entry.{Entry}
use Rattle.mv_history.specs.State.{State}
use Rattle.mv_layout.specs.declared.Config.{Config}
use Rattle.mv_layout.specs.declared.SharedWord.TheVariants.{Head, Master, Stamp, Prev}
use Rattle.mv_layout.specs.Places.{Memory}
use Rattle.mv_layout.specs.Words.{link_of, IsUnset}
use Rattle.mv_core.specs.declared.ring.Ring.{Ring}
use Rattle.mv_core.specs.declared.ring.Version.{Version}
use Rattle.mv_core.specs.declared.ring.WriteSetStatus.{WriteSetStatus}
use Rattle.mv_core.specs.declared.ring.WriteSetStatus.TheVariants.{Held, Aborted, Committed}
use Rattle.mv_core.specs.declared.ring.CommitNote.{CommitNote}
use Rattle.mv_core.specs.declared.view.WalkStage.TheVariants.{At}
use Rattle.mv_core.specs.declared.view.Stand.{Stand}
use Rattle.mv_core.specs.Rings.{Lives}
use Rattle.mv_core.specs.Times.{latest, latest_at, words_of, AreThe, NotAboveAny}
use Rattle.mv_core.specs.Views.{ViewParts}
use Rattle.mv_core.specs.SetFacts.{stamp_of}

-- a version with its status, in a slot of a seat's log
pub record SlotVersion : Type 0 where
  pub seat : ℕ
  pub slot : ℕ
  pub version : Version
  pub status : WriteSetStatus

-- the time of a committed version, and else the one given
abbrev pub time_down : Option ℕ → WriteSetStatus → Option ℕ
time_down above Held = above
time_down above (Aborted dead) = above
time_down above (Committed note) = Some note.time

-- the time of the committed version lowest in a list, or `above` where none is
abbrev pub lowest : Option ℕ → List SlotVersion → Option ℕ
lowest above [] = above
lowest above (p ∷ ps) = lowest (time_down above p.status) ps

-- the time before the version of this time, or the present time where there is none
abbrev pub time_before : Config → List Entry → Option ℕ → ℕ
time_before c h None = c.base + length h
time_before c h (Some t) = t - 1

-- committed versions that were not cut, of the object's write at this time and of each one before it, down to the last in the list
abbrev pub AreWritesFrom : Config → List Entry → ℕ → ℕ → List SlotVersion → Type 0
AreWritesFrom c h o time [] = Unit {0}
AreWritesFrom c h o time (p ∷ ps) =
    (p.version.object ≡ o)
    × ((note : CommitNote) × (p.status ≡ Committed note) × (note.cut ≡ false) × (note.time ≡ time)
    × AreWritesFrom c h o (latest_at c.base h o (time - 1)) ps)

-- the object's latest writes, under perhaps one held version
abbrev pub AreLatest : Config → List Entry → ℕ → List SlotVersion → Type 0
AreLatest c h o ps =
    AreWritesFrom c h o (latest c.base h o) ps
    ⊎ ((p : SlotVersion) × (below : List SlotVersion) × (ps ≡ p ∷ below) × (p.version.object ≡ o) × (p.status ≡ Held)
    × AreWritesFrom c h o (latest c.base h o) below)

-- what follows is over the words by name and the logs of all seats
module _ (m : Memory) (rings : ℕ → Ring) where
  -- the link names this live version
  abbrev pub IsLinked : ℕ → SlotVersion → Type 0
  IsLinked link p = (link ≡ link_of p.seat p.version.position) × Lives rings p.seat p.slot p.version p.status

  -- PREV of a version
  abbrev pub prev_of : SlotVersion → ℕ
  prev_of p = m (Prev p.seat p.slot)

  -- the versions got from a link by following PREV, down to a link that is 0 or names no live version
  abbrev pub HangFrom : ℕ → List SlotVersion → Type 0
  HangFrom link [] = (p : SlotVersion) → ¬ (IsLinked link p)
  HangFrom link (p ∷ ps) = IsLinked link p × HangFrom (prev_of p) ps

  -- the chain of an object
  abbrev pub IsChain : ℕ → List SlotVersion → Type 0
  IsChain o ps = HangFrom (m (Head o)) ps

  -- the link at which a list of versions ends that begins with this one
  abbrev pub last_link : ℕ → List SlotVersion → ℕ
  last_link link [] = link
  last_link link (p ∷ ps) = last_link (prev_of p) ps

  -- one gets from the first link to the other by following PREV of these versions, of each of which P holds
  abbrev pub LeadsBy : (SlotVersion → Type 0) → ℕ → List SlotVersion → ℕ → Type 0
  LeadsBy P link [] to = to ≡ link
  LeadsBy P link (p ∷ ps) to = IsLinked link p × P p × LeadsBy P (prev_of p) ps to

  module _ (c : Config) (start : State) (h : List Entry) (time : ℕ → Option ℕ) where
    -- the last link is 0, the master is the state before the lowest version, or the present one, and the last write up to there isn't above any section's time
    abbrev pub IsGrounded : ℕ → List SlotVersion → Type 0
    IsGrounded o ps =
        (last_link (m (Head o)) ps ≡ 0)
        × (AreThe (λ i. m (Master o i)) (words_of c start h (time_before c h (lowest None ps)) o)
        × NotAboveAny (latest_at c.base h o (time_before c h (lowest None ps))) time)

    -- a committed version is chained, and the time of the lowest isn't above any section's
    abbrev pub IsLoose : List SlotVersion → Type 0
    IsLoose ps = (t : ℕ) × (lowest None ps ≡ Some t) × NotAboveAny t time

-- a walk of a section of time t goes on from a version with this stamp: it is unset or above t
abbrev pub GoesOn : ℕ → ℕ → Type 0
GoesOn t stamp = IsUnset stamp ⊎ (t < stamp)

-- a version that is held, or committed later than t
abbrev pub IsLater : ℕ → WriteSetStatus → Type 0
IsLater t Held = Unit {0}
IsLater t (Aborted dead) = ⊥
IsLater t (Committed note) = t < note.time

-- the section of seat j, of time t, reaches a link: the HEAD of an object, the link at which it stands, or one got from these by
-- following PREV, each time out of a version whose stamp is unset or above t
pub record ReachesLink (c : Config) (m : Memory) (f : ViewParts) (j t link : ℕ) : Type 0 where
  pub in_section : f.time j ≡ Some t
  pub from : ℕ
  pub begins : ((o : ℕ) × (from ≡ m (Head o))) ⊎ ((stand : Stand) × (f.walk j ≡ At stand) × (from ≡ stand.link))
  pub passed : List SlotVersion
  pub leads : LeadsBy m f.ring (λ p. GoesOn t (stamp_of c (λ s k. m (Stamp s k)) p.seat p.version)) from passed link

-- it reaches a version: it reaches a link that names it
abbrev pub Reaches : Config → Memory → ViewParts → ℕ → ℕ → SlotVersion → Type 0
Reaches c m f j t p = (link : ℕ) × ReachesLink c m f j t link × IsLinked m f.ring link p

-- from HEAD of the object one gets to the link by versions alone that are held, or committed later than t
abbrev pub IsUnderLater : Memory → (ℕ → Ring) → ℕ → ℕ → ℕ → Type 0
IsUnderLater m rings o t link = (above : List SlotVersion) × LeadsBy m rings (λ p. IsLater t p.status) (m (Head o)) above link

module _ (c : Config) (start : State) (m : Memory) (h : List Entry) (f : ViewParts) where
  -- the version was cut from its chain, and has its object's words of time t
  pub record IsCutFor (t o : ℕ) (p : SlotVersion) : Type 0 where
    pub note : CommitNote
    pub committed : p.status ≡ Committed note
    pub cut : note.cut ≡ true
    pub words : p.version.words ≡ words_of c start h t o

  -- the link names a version of the object that is chained, with all above it held, or committed later than t, or was cut and has the words of time t
  abbrev pub IsRightLink : ℕ → ℕ → ℕ → Type 0
  IsRightLink t o link = (p : SlotVersion) × IsLinked m f.ring link p × (p.version.object ≡ o) × (IsUnderLater m f.ring o t link ⊎ IsCutFor t o p)

  -- the object's chain is grounded, and the master has the words of time t
  abbrev pub IsRightMaster : ℕ → ℕ → Type 0
  IsRightMaster t o =
      AreThe (λ i. m (Master o i)) (words_of c start h t o) × ((ps : List SlotVersion) × IsChain m f.ring o ps × IsGrounded m f.ring c start h f.time o ps)

  -- the link names an aborted version of the object whose PREV is such a link, or 0 with such a master
  pub record IsAbortedOver (t o link : ℕ) : Type 0 where
    pub version : SlotVersion
    pub linked : IsLinked m f.ring link version
    pub object_is : version.version.object ≡ o
    pub dead : Option ℕ
    pub aborted : version.status ≡ Aborted dead
    pub below : ((prev_of m f.ring version ≡ 0) × IsRightMaster t o) ⊎ IsRightLink t o (prev_of m f.ring version)
