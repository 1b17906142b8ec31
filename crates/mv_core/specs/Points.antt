-- The points of the protocol as they hold between any two steps, each over the words of the table, the history and the views.
use Rattle.std.specs.Prelude.{◌≡◌, ◌≢◌, ◌⊎◌, ℕ, ◌+◌, ◌-◌, ◌*◌, ◌^◌, ◌<◌, ◌≤◌, true, false, List, length}
use Rattle.std.specs.Prelude.{Contains, Some, slice_index}
use mathlib.Core.Option.{some}
use lib.ListN.{get_elem?}
use Rattle.atomic_table.specs.Table as table
use Rattle.mv_history.specs.declared.Entry.{Entry}
use Rattle.mv_history.specs.State.{State, Writes, maker_of}
use Rattle.mv_layout.specs.declared.Config.{Config}
use Rattle.mv_layout.specs.declared.SharedWord.TheVariants.{Clock, Grace, Mark, Master, First, Stamp, Prev, Super, Data}
use Rattle.mv_layout.specs.Places.{Memory}
use Rattle.mv_layout.specs.Words.{clock_of, clock_time_of, clock_seat_of, clock_slot_of, link_of}
use Rattle.mv_core.specs.declared.ring.Ring.{Ring}
use Rattle.mv_core.specs.declared.ring.Slot.TheVariants.{Live}
use Rattle.mv_core.specs.declared.ring.Version.{Version}
use Rattle.mv_core.specs.declared.ring.WriteSetStatus.{WriteSetStatus}
use Rattle.mv_core.specs.declared.ring.WriteSetStatus.TheVariants.{Committed}
use Rattle.mv_core.specs.declared.ring.CommitNote.{CommitNote}
use Rattle.mv_core.specs.declared.view.Knowledge.{Knowledge}
use Rattle.mv_core.specs.declared.view.JoinedSeat.{JoinedSeat}
use Rattle.mv_core.specs.declared.view.Past.{Past}
use Rattle.mv_core.specs.declared.view.WriteBack.{WriteBack}
use Rattle.mv_core.specs.declared.view.WalkStage.TheVariants.{At}
use Rattle.mv_core.specs.declared.view.WalkStage.TheVariants as walk
use Rattle.mv_core.specs.declared.view.Stand.{Stand}
use Rattle.mv_core.specs.declared.shared.Opening.{Opening}
use Rattle.mv_core.specs.Rings.{slot_at, Lives, index_of}
use Rattle.mv_core.specs.Times.{latest_at, words_of, AreThe, NotAboveAny}
use Rattle.mv_core.specs.Views.{ViewParts, parts_of}
use Rattle.mv_core.specs.HistoryFacts.{History}
use Rattle.mv_core.specs.SetFacts.{stamp_of, SlotWords, Stamps, WriteSets, Successors, Positions}
use Rattle.mv_core.specs.SectionFacts.{Marks, StampedPastHelp, HelpedWords, LockFreshness}
use Rattle.mv_core.specs.SectionFacts as section
use Rattle.mv_core.specs.ReclaimFacts.{Deaths}
use Rattle.mv_core.specs.WalkFacts.{IsBeforeDeath}
use Rattle.mv_core.specs.Chains.{SlotVersion, IsLinked, AreLatest, IsChain, IsGrounded, IsLoose, ReachesLink, Reaches, IsUnderLater, IsRightLink}
use Rattle.mv_core.specs.Chains.{IsRightMaster, IsAbortedOver}
use Rattle.mv_core.specs.ReclaimSteps.{MayStoreFree}
use Rattle.mv_core.specs.WholeSets.{SetsAreWhole}
use Rattle.mv_core.specs.Frees.{FreesHold, FirstFree}
use Rattle.mv_core.specs.Rule.{IsThere, Ruled}

-- the numbers of the unspent views and of the notes of joined seats all differ
pub record AllDiffer (vs : List Knowledge) : Type 0 where
  pub views : (i j : ℕ) (v w : Knowledge) → get_elem? vs i ≡ some v → get_elem? vs j ≡ some w → v.spent ≡ false → w.spent ≡ false
      → v.number ≡ w.number → i ≡ j
  pub joined : (i j : ℕ) (v w : Knowledge) (n : JoinedSeat) → get_elem? vs i ≡ some v → get_elem? vs j ≡ some w → v.spent ≡ false → w.spent ≡ false
      → Contains v.notes n → w.number ≢ n.number
  pub notes : (i j a b : ℕ) (v w : Knowledge) (m n : JoinedSeat) → get_elem? vs i ≡ some v → get_elem? vs j ≡ some w → v.spent ≡ false
      → w.spent ≡ false → get_elem? v.notes a ≡ some m → get_elem? w.notes b ≡ some n → m.number ≡ n.number → (i ≡ j) × (a ≡ b)

-- each entry of a history is of a seat that has an unspent view among these, or a note in one
abbrev pub EntriesAreNamed : List Knowledge → List Entry → Type 0
EntriesAreNamed vs h = (e : Entry) → Contains h e → IsThere vs (maker_of e)

-- what is said of the history by number is said of the unspent views and of the notes of joined seats
pub record AreThePasts (vs : List Knowledge) (past : ℕ → Past) : Type 0 where
  pub views : (id : ℕ) (v : Knowledge) → get_elem? vs id ≡ some v → v.spent ≡ false → past v.number ≡ v.past
  pub notes : (id : ℕ) (v : Knowledge) (n : JoinedSeat) → get_elem? vs id ≡ some v → v.spent ≡ false → Contains v.notes n → past n.number ≡ n.past

-- While the clock names a commit, the first version of that commit's write set is live in the clock's slot of that seat's log. The word
-- has the time, the seat and the first slot of each live version of the commit of its time.
pub record ClockNames (c : Config) (clock : ℕ) (rings : ℕ → Ring) : Type 0 where
  pub first : clock_slot_of clock ≢ 8191
      → (x : Version) × (note : CommitNote) × Lives rings (clock_seat_of clock) (clock_slot_of clock) x (Committed note) × (x.position ≡ x.first)
      × (note.time ≡ clock_time_of clock)
  pub word : (s k : ℕ) (x : Version) (note : CommitNote) → Lives rings s k x (Committed note) → note.time ≡ clock_time_of clock
      → clock ≡ clock_of note.time s (index_of c x.first)

-- write-sets: the words of each slot are those of its version or of what was built there; a committed set has the writes of one
-- commit, and a held one goes on to the next position; each set is a run of positions, whose versions were all committed, or are
-- held or aborted; a set's stamp is its commit's time, or unset while the clock names the commit or there is none; and a clock
-- word that was helped is done
pub record WriteSetsHold (c : Config) (m : Memory) (h : List Entry) (f : ViewParts) : Type 0 where
  pub words : SlotWords (λ s k. m (First s k)) (λ s k. m (Prev s k)) (λ s k i. m (Data s k i)) f.ring
  pub stamps : Stamps c (m Clock) (λ s k. m (Stamp s k)) f.ring
  pub sets : WriteSets c h f.ring
  pub whole : SetsAreWhole c m f
  pub helped : HelpedWords (m Clock) (λ s k. m (Stamp s k)) f.clocks

-- marks: each seat has the mark of its phase, and a section that is past its help finds each live commit up to its time stamped
pub record MarksHold (c : Config) (m : Memory) (f : ViewParts) : Type 0 where
  pub marks : Marks (m Clock) (λ s. m (Mark s)) f.phase
  pub stamped : StampedPastHelp c (λ s k. m (Stamp s k)) f.section f.clocks f.ring

-- grace: no watermark is above the time of a section or the clock's, and a running scan keeps below what it scanned
abbrev pub GraceHolds : Memory → ViewParts → Type 0
GraceHolds m f = section.Grace (m Clock) (m Grace) f.time f.grace f.scan

-- lock-freshness: the object of a held version was last written at or before its section's time
abbrev pub LocksAreFresh : Config → List Entry → ViewParts → Type 0
LocksAreFresh c h f = LockFreshness c h f.time f.ring

-- successors: SUPER is 0 or the time of the next write of the version's object
abbrev pub SuccessorsHold : Config → Memory → List Entry → ViewParts → Type 0
SuccessorsHold c m h f = Successors c h (λ s k. m (Stamp s k)) (λ s k. m (Super s k)) f.section f.ring

-- deaths: a noted time of death is the next write of the version's object, or of a version out of its chain at most one above the clock
abbrev pub DeathsHold : Config → List Entry → ViewParts → Type 0
DeathsHold c h f = Deaths c h f.ring

-- reachable-links, of positions: a live slot has its own position among the last ones used, with no gap, and a built one the next
abbrev pub PositionsRunOn : Config → List Entry → ViewParts → Type 0
PositionsRunOn c h f = Positions c h f.ring

-- positions-bounded: a seat has used at most this many positions
abbrev pub PositionsAreBounded : Config → Memory → ViewParts → Type 0
PositionsAreBounded c m f = (s : ℕ) → (f.ring s).next ≤ c.slots * (clock_time_of (m Clock) - c.base + 1)

-- helped-commit: a live commit before the clock's time is stamped, so each won exchange of the clock comes after the stamp of the commit before
abbrev pub EarlierAreStamped : Config → Memory → ViewParts → Type 0
EarlierAreStamped c m f =
    (s k : ℕ) (x : Version) (note : CommitNote) → Lives f.ring s k x (Committed note) → note.time < clock_time_of (m Clock)
    → stamp_of c (λ t l. m (Stamp t l)) s x ≡ note.time

-- stalled-write-back: between its first store into an object's master and its leave, a seat is the only one
abbrev pub OneWritesBack : ViewParts → Type 0
OneWritesBack f = (s t : ℕ) (a b : WriteBack) → f.back s ≡ Some a → f.back t ≡ Some b → a.object ≡ b.object → s ≡ t

-- the one chain of an object: at most as many versions as there are slots, its latest writes, under perhaps one held version, ending grounded or loose
pub record ChainIs (c : Config) (start : State) (m : Memory) (h : List Entry) (f : ViewParts) (o : ℕ) : Type 0 where
  pub versions : List SlotVersion
  pub is : IsChain m f.ring o versions
  pub once : (others : List SlotVersion) → IsChain m f.ring o others → others ≡ versions
  pub short : length versions ≤ c.seats * c.slots
  pub latest : AreLatest c h o versions
  pub ends : IsGrounded m f.ring c start h f.time o versions ⊎ IsLoose m f.ring c start h f.time versions

-- chains: each object has one
abbrev pub ChainsHold : Config → State → Memory → List Entry → ViewParts → Type 0
ChainsHold c start m h f = (o : ℕ) → ChainIs c start m h f o

-- reachable-links: a link that a section reaches is 0 or names a live version, in the slot of its position
abbrev pub ReachedAreLive : Config → Memory → ViewParts → Type 0
ReachedAreLive c m f =
    (j t link : ℕ) → ReachesLink c m f j t link → link ≢ 0 → (p : SlotVersion) × IsLinked m f.ring link p × (index_of c p.version.position ≡ p.slot)

-- no-slot-reuse: while a section reaches the link of a position, its slot has the version of that very position, so it isn't built again
abbrev pub ReachedAreKept : Config → Memory → ViewParts → Type 0
ReachedAreKept c m f =
    (j t link s position : ℕ) → ReachesLink c m f j t link → position < 2 ^ 57 → link ≡ link_of s position
    → (x : Version) × (st : WriteSetStatus) × Lives f.ring s (index_of c position) x st × (x.position ≡ position)

-- walkers-and-deaths, of deaths: a noted time of death of a version is above the time of each section that stands at the version or reaches it
abbrev pub ReachedBeforeDeath : Config → Memory → ViewParts → Type 0
ReachedBeforeDeath c m f = (j t : ℕ) (p : SlotVersion) → Reaches c m f j t p → IsBeforeDeath t p.status

-- walkers-and-deaths, of places: a walk stands at a chained version above which all are held or later than its section's time, at
-- one that was cut and has the words of that time, at an aborted one over such a one, or at a master with those words
abbrev pub WalksStandRight : Config → State → Memory → List Entry → ViewParts → Type 0
WalksStandRight c start m h f =
    ((j t : ℕ) (stand : Stand) → f.time j ≡ Some t → f.walk j ≡ At stand
    → IsRightLink c start m h f t stand.object stand.link ⊎ IsAbortedOver c start m h f t stand.object stand.link)
    × ((j t o : ℕ) → f.time j ≡ Some t → f.walk j ≡ walk.Master o → IsRightMaster c start m h f t o)

-- master-read: a section at an object's master finds there the words of the state at its time, and no seat is then between its
-- first store there and its exchange of HEAD
abbrev pub MastersAreRead : Config → State → Memory → List Entry → ViewParts → Type 0
MastersAreRead c start m h f =
    (j t o : ℕ) → f.time j ≡ Some t → f.walk j ≡ walk.Master o
    → AreThe (λ i. m (Master o i)) (words_of c start h t o) × ((s : ℕ) (b : WriteBack) → f.back s ≡ Some b → b.object ≡ o → b.tried ≡ true)

-- who writes back is in a section, and the version is its object's last write up to that section's time, not above any section's;
-- until the exchange of HEAD all above it in its chain are held or later than that section, and the words stored so far are its
-- own
pub record BackIs (c : Config) (m : Memory) (h : List Entry) (f : ViewParts) (s : ℕ) (b : WriteBack) : Type 0 where
  pub at : ℕ
  pub in_section : f.time s ≡ Some at
  pub version : Version
  pub note : CommitNote
  pub lives : Lives f.ring s (index_of c b.position) version (Committed note)
  pub position_is : version.position ≡ b.position
  pub object_is : version.object ≡ b.object
  pub old : NotAboveAny note.time f.time
  pub last : latest_at c.base h b.object at ≡ note.time
  pub chained : b.tried ≡ false → IsUnderLater m f.ring b.object at (link_of s b.position)
  pub words : b.tried ≡ false → (i : ℕ) → i < b.stored → m (Master b.object i) ≡ slice_index version.words i

-- write-back: this holds of each
abbrev pub BacksHold : Config → Memory → List Entry → ViewParts → Type 0
BacksHold c m h f = (s : ℕ) (b : WriteBack) → f.back s ≡ Some b → BackIs c m h f s b

module _ (starts : State → Type 0) (allows : List ℕ → State → Writes → Type 0) where
  -- in each state that the rule allows, this holds of the words by name, of the history and of the seats' views
  abbrev pub InEachState : (Config → State → Memory → List Entry → ViewParts → Type 0) → Type 0
  InEachState P = (key : Opening) (s : table.State (List ℕ) Knowledge) (r : Ruled starts allows key s)
      → P key.config key.start.value.items r.memory r.history (parts_of r.seats)

  -- history: it is legal and allowed, its length is the clock's time less base, each seat has seen a part of it and one all of
  -- it, the clock names its last entry by its seat and the first slot of its write set, and each seat knows its own commits and
  -- rests; the seats' numbers differ, each entry is of one of them, and what a seat knows is in its view or its note
  abbrev pub HistoryPoint : Type 0
  HistoryPoint =
      (key : Opening) (s : table.State (List ℕ) Knowledge) (r : Ruled starts allows key s)
      → History starts allows key.config key.start.value.items (r.memory Clock) r.history (λ n. (r.seats n).past)
      × ClockNames key.config (r.memory Clock) (λ n. (r.seats n).ring) × AllDiffer s.views × EntriesAreNamed s.views r.history
      × AreThePasts s.views (λ n. (r.seats n).past)

  -- write-sets, in each such state
  abbrev pub WriteSetsPoint : Type 0
  WriteSetsPoint = InEachState (λ c start m h f. WriteSetsHold c m h f)

  -- frees of write sets: what is being freed and what is dead, and each first free that a seat may make
  abbrev pub FreesPoint : Type 0
  FreesPoint =
      (key : Opening) (s : table.State (List ℕ) Knowledge) (r : Ruled starts allows key s)
      → FreesHold key.config r.memory r.history (parts_of r.seats)
      × ((n position : ℕ) (x : Version) (st : WriteSetStatus) → MayStoreFree key.config (r.seats n) position
      → slot_at (r.seats n).ring (index_of key.config position) ≡ Live x st → FirstFree key.config (r.seats n) position x)

  -- marks, in each such state
  abbrev pub MarksPoint : Type 0
  MarksPoint = InEachState (λ c start m h f. MarksHold c m f)

  -- grace, in each such state
  abbrev pub GracePoint : Type 0
  GracePoint = InEachState (λ c start m h f. GraceHolds m f)

  -- lock-freshness, in each such state
  abbrev pub LockFreshnessPoint : Type 0
  LockFreshnessPoint = InEachState (λ c start m h f. LocksAreFresh c h f)

  -- successors, in each such state
  abbrev pub SuccessorsPoint : Type 0
  SuccessorsPoint = InEachState (λ c start m h f. SuccessorsHold c m h f)

  -- deaths, in each such state
  abbrev pub DeathsPoint : Type 0
  DeathsPoint = InEachState (λ c start m h f. DeathsHold c h f)

  -- reachable-links, of positions, in each such state
  abbrev pub PositionsPoint : Type 0
  PositionsPoint = InEachState (λ c start m h f. PositionsRunOn c h f)

  -- positions-bounded, in each such state
  abbrev pub PositionsBoundedPoint : Type 0
  PositionsBoundedPoint = InEachState (λ c start m h f. PositionsAreBounded c m f)

  -- helped-commit, of the commits before the clock's time, in each such state
  abbrev pub EarlierStampedPoint : Type 0
  EarlierStampedPoint = InEachState (λ c start m h f. EarlierAreStamped c m f)

  -- stalled-write-back, in each such state
  abbrev pub OneWriteBackPoint : Type 0
  OneWriteBackPoint = InEachState (λ c start m h f. OneWritesBack f)

  -- reachable-links, in each such state
  abbrev pub ReachableLinksPoint : Type 0
  ReachableLinksPoint = InEachState (λ c start m h f. ReachedAreLive c m f)

  -- no-slot-reuse, in each such state
  abbrev pub NoSlotReusePoint : Type 0
  NoSlotReusePoint = InEachState (λ c start m h f. ReachedAreKept c m f)

  -- walkers-and-deaths, of deaths, in each such state
  abbrev pub BeforeDeathPoint : Type 0
  BeforeDeathPoint = InEachState (λ c start m h f. ReachedBeforeDeath c m f)

  -- chains, in each such state
  abbrev pub ChainsPoint : Type 0
  ChainsPoint = InEachState ChainsHold

  -- walkers-and-deaths, of places, in each such state
  abbrev pub WalkersPoint : Type 0
  WalkersPoint = InEachState WalksStandRight

  -- master-read, in each such state
  abbrev pub MasterReadPoint : Type 0
  MasterReadPoint = InEachState MastersAreRead

  -- write-back, in each such state
  abbrev pub WriteBackPoint : Type 0
  WriteBackPoint = InEachState (λ c start m h f. BacksHold c m h f)
