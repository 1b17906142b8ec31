-- Walks down a version chain: what the calls need of a view, where they put the walk, and what they leave.
use Rattle.std.specs.Prelude.{◌≡◌, ◌≢◌, ◌⊎◌, ℕ, ◌+◌, ◌-◌, ◌<◌, ◌≤◌, ◌^◌, false, List, ◌++◌, length, All}
use Rattle.std.specs.Prelude.{Option, Some, None, Result, Ok, Err}
use Rattle.mv_history.specs.declared.Entry.{Entry}
use Rattle.mv_history.specs.declared.Step.{Step}
use Rattle.mv_history.specs.declared.StepKind.{StepKind}
use Rattle.mv_history.specs.declared.StepKind.TheVariants.{LoadHead, LoadFirst, LoadStamp, LoadPrev}
use Rattle.mv_layout.specs.declared.Config.{Config}
use Rattle.mv_layout.specs.Words.{IsUnset}
use Rattle.mv_core.specs.declared.view.Knowledge.{Knowledge}
use Rattle.mv_core.specs.declared.view.Phase.{Phase}
use Rattle.mv_core.specs.declared.view.Phase.TheVariants.{Inside}
use Rattle.mv_core.specs.declared.view.OwnSection.{OwnSection}
use Rattle.mv_core.specs.declared.view.Mode.TheVariants.{Open}
use Rattle.mv_core.specs.declared.view.WalkStage as core
use Rattle.mv_core.specs.declared.view.WalkStage.TheVariants as place
use Rattle.mv_core.specs.declared.view.Stand.{Stand}
use Rattle.mv_core.specs.declared.view.Passed.TheVariants.{Nothing}
use Rattle.mv_core.specs.Views.{time_in}
use Rattle.mv_core.specs.HistoryFacts.{BeginsWith}
use Rattle.mv_core.specs.Slots.{IsSlotLinked}
use Rattle.mv_core.specs.WalkSteps.{IsPackedOf, IsLinkOf, IsWalking, stand_at, first_loaded, StampSays, stamp_loaded, prev_loaded}
use Rattle.version_chain.specs.declared.walking.Walk.{Walk}
use Rattle.version_chain.specs.declared.walking.FoundVersion.{FoundVersion}

-- the section of a phase; it tells nothing of a phase outside one
abbrev pub inside_of : Phase → OwnSection
inside_of (Inside inside) = inside
inside_of _ = record { low = 0; word = 0; mode = Open }

-- the section that a view is in
abbrev pub section_in : Knowledge → OwnSection
section_in v = inside_of v.phase

-- the printed time of that section
abbrev pub time_at : Knowledge → ℕ
time_at v = time_in (section_in v)

-- the version that a walk stands at; it tells nothing of a walk that stands at none
abbrev pub stand_of : core.WalkStage → Stand
stand_of (place.At stand) = stand
stand_of _ = record { object = 0; link = 0; first = None; stamp = None; passed = Nothing; late = false }

-- the version that a view's walk stands at
abbrev pub stand_in : Knowledge → Stand
stand_in v = stand_of v.walk

-- what every call needs: an open section past its help, with no write-back under way
abbrev pub MayWalk : Knowledge → Type 0
MayWalk v = IsWalking v (section_in v)

-- the walk that a view says is under way is this one: at the version that its link names, or with link 0 at the master
pub record StandsAt (c : Config) (v : Knowledge) (walk : Walk) : Type 0 where
  pub link : IsLinkOf c walk.link
  pub stands : v.walk ≡ stand_at walk.object walk.link (stand_in v).passed false

-- the walk stands at this version, whose stamp it found to be a time not above the section's, and the cell is that of its slot
pub record StandsAtVersion (c : Config) (v : Knowledge) (at : FoundVersion) : Type 0 where
  pub stands : v.walk ≡ place.At (stand_in v)
  pub link_is : (stand_in v).link ≡ at.link
  pub packed : IsPackedOf c at.link
  pub slot : IsSlotLinked c at.link at.slot
  pub time : ℕ
  pub stamp_is : (stand_in v).stamp ≡ Some time
  pub not_above : time ≤ time_at v

-- the walk stands at what was found for the object
abbrev pub HasFound : Config → Knowledge → ℕ → Option FoundVersion → Type 0
HasFound c v object None = v.walk ≡ place.Master object
HasFound c v object (Some at) = StandsAtVersion c v at × ((stand_in v).object ≡ object)

-- a kind of step of a walk
abbrev pub IsWalkStep : StepKind → Type 0
IsWalkStep LoadHead = Unit {0}
IsWalkStep LoadFirst = Unit {0}
IsWalkStep LoadStamp = Unit {0}
IsWalkStep LoadPrev = Unit {0}
IsWalkStep _ = ⊥

-- What a walk leaves of a view, with the counter of steps before and after: what was seen is only longer, the trail has a record
-- for each step and each is of a walk, and nothing else changes but where the walk stands and which HEADs were found empty.
pub record Walks (v w : Knowledge) (before after : ℕ) : Type 0 where
  pub seen : BeginsWith w.past.seen v.past.seen
  pub trail : (steps : List Step) × (w.trail ≡ v.trail ++ steps) × (after ≡ before + length steps) × All (λ s. IsWalkStep s.kind) steps
  pub rest : w ≡ record v { past = record v.past { seen = w.past.seen }; walk = w.walk; empty = w.empty; trail = w.trail }

-- where a walk stands after it found this FIRST
abbrev pub with_first : Stand → ℕ → Stand
with_first stand first = record stand { first = Some first; stamp = None }

-- and this STAMP
abbrev pub with_stamp : Stand → ℕ → ℕ → Stand
with_stamp stand first found = record stand { first = Some first; stamp = Some found }

-- the view after FIRST and STAMP of the version that the walk stands at were loaded, and this much was seen
abbrev pub version_looked_at : Config → Knowledge → ℕ → ℕ → List Entry → Knowledge
version_looked_at c v first found seen =
    stamp_loaded c (first_loaded c v (stand_in v) first) (with_first (stand_in v) first) first found seen

-- what that stamp tells
abbrev pub LookSays : Config → Knowledge → ℕ → ℕ → List Entry → Type 0
LookSays c v first found seen = StampSays c (first_loaded c v (stand_in v) first) (with_first (stand_in v) first) found seen

-- the view after PREV was loaded too
abbrev pub version_passed : Config → Knowledge → ℕ → ℕ → List Entry → ℕ → Knowledge
version_passed c v first found seen link =
    prev_loaded c (version_looked_at c v first found seen) (with_stamp (stand_in v) first found) link

-- the walk ends at this version: its stamp is a time not above the section's
pub record EndsAt (c : Config) (v w : Knowledge) (walk : Walk) (at : FoundVersion) : Type 0 where
  pub linked : walk.link ≢ 0
  pub link_is : walk.link ≡ at.link
  pub first : ℕ
  pub found : ℕ
  pub says : LookSays c v first found w.past.seen
  pub view : w ≡ version_looked_at c v first found w.past.seen
  pub time : found < 2 ^ 63
  pub not_above : found ≤ time_at v

-- the walk goes on to PREV of the version that it looked at, whose stamp is unset or above the section's time
pub record GoesOn (c : Config) (v w : Knowledge) (walk on : Walk) : Type 0 where
  pub linked : walk.link ≢ 0
  pub object : on.object ≡ walk.object
  pub first : ℕ
  pub found : ℕ
  pub says : LookSays c v first found w.past.seen
  pub view : w ≡ version_passed c v first found w.past.seen on.link
  pub later : IsUnset found ⊎ (time_at v < found)

-- what a look at one link answers, and how many steps it makes: none at link 0, and else two or three
abbrev pub Answers : Config → Knowledge → Knowledge → Walk → ℕ → ℕ → Result (Option FoundVersion) Walk → Type 0
Answers c v w walk before after (Ok None) = (walk.link ≡ 0) × (w ≡ v) × (after ≡ before)
Answers c v w walk before after (Ok (Some at)) = EndsAt c v w walk at × (after ≡ before + 2)
Answers c v w walk before after (Err on) = GoesOn c v w walk on × (after ≡ before + 3)

-- where that puts the walk
abbrev pub IsPutAt : Config → Knowledge → Walk → Result (Option FoundVersion) Walk → Type 0
IsPutAt c w walk (Ok found) = HasFound c w walk.object found
IsPutAt c w walk (Err on) = StandsAt c w on

-- the length of the section's snapshot
abbrev pub snapshot_length : Config → Knowledge → ℕ
snapshot_length c v = time_at v - c.base
