-- Locking, writing and aborting: what each kind of step asks of its own view, and what it makes of it.
use Rattle.std.specs.Prelude.{◌≡◌, ◌≢◌, ◌⊎◌, ℕ, zero, suc, ◌+◌, ◌<◌, ◌≤◌, true, cond, List, [], ◌∷◌, ◌++◌}
use Rattle.std.specs.Prelude.{map, replicate, Option, Some, None, slice_set}
use Rattle.mv_history.specs.declared.Entry.{Entry}
use Rattle.mv_history.specs.declared.StepKind.TheVariants.{StoreBuilt, StoreData, LockHead, UnlockHead, LoadDeath}
use Rattle.mv_layout.specs.declared.Config.{Config}
use Rattle.mv_layout.specs.declared.SharedWord.{SharedWord}
use Rattle.mv_layout.specs.declared.SharedWord.TheVariants.{Clock, Head, First, Stamp, Prev, Super, Data}
use Rattle.mv_layout.specs.Words.{clock_time_of, link_of, unset_of}
use Rattle.mv_core.specs.declared.ring.Slot.{Slot}
use Rattle.mv_core.specs.declared.ring.Slot.TheVariants.{Free, Built, Live, Freeing}
use Rattle.mv_core.specs.declared.ring.Build.{Build}
use Rattle.mv_core.specs.declared.ring.Version.{Version}
use Rattle.mv_core.specs.declared.ring.WriteSetStatus.{WriteSetStatus}
use Rattle.mv_core.specs.declared.ring.WriteSetStatus.TheVariants.{Held, Aborted, Committed}
use Rattle.mv_core.specs.declared.view.Knowledge.{Knowledge}
use Rattle.mv_core.specs.declared.view.Phase.TheVariants.{Inside}
use Rattle.mv_core.specs.declared.view.OwnSection.{OwnSection}
use Rattle.mv_core.specs.declared.view.Mode.TheVariants.{Open, Aborting}
use Rattle.mv_core.specs.declared.view.WalkStage.TheVariants as walk
use Rattle.mv_core.specs.declared.view.Stand.{Stand}
use Rattle.mv_core.specs.declared.view.Passed.TheVariants.{Nothing}
use Rattle.mv_core.specs.Rings.{slot_at, index_of, put_slot, held_count, spare_count, set_first, own_of}
use Rattle.mv_core.specs.Views.{time_in, IsUnnamed, with_step}
use Rattle.mv_core.specs.WalkSteps.{IsWalking, stand_at}

-- which word of a slot
pub data Field : Type 0 where
  of_first : Field
  of_stamp : Field
  of_previous : Field
  of_successor : Field
  of_word : ℕ → Field

-- the word at an offset from where its slot begins: FIRST, STAMP, PREV, SUPER, and then the data words
abbrev pub field_at : ℕ → Field
field_at zero = of_first
field_at (suc zero) = of_stamp
field_at (suc (suc zero)) = of_previous
field_at (suc (suc (suc zero))) = of_successor
field_at (suc (suc (suc (suc w)))) = of_word w

-- where that word is of a slot
abbrev pub place_in : ℕ → ℕ → Field → SharedWord
place_in seat k of_first = First seat k
place_in seat k of_stamp = Stamp seat k
place_in seat k of_previous = Prev seat k
place_in seat k of_successor = Super seat k
place_in seat k (of_word w) = Data seat k w

-- where the word at an offset is of a slot
abbrev pub field_place : ℕ → ℕ → ℕ → SharedWord
field_place seat k field = place_in seat k (field_at field)

-- a slot of which nothing was stored yet
abbrev pub nothing_built : Build
nothing_built = record { first = None; stamp = None; previous = None; successor = None; words = replicate 6 None }

-- the build with this word stored too
abbrev pub with_field : Build → Field → ℕ → Build
with_field b of_first x = record b { first = Some x }
with_field b of_stamp x = record b { stamp = Some x }
with_field b of_previous x = record b { previous = Some x }
with_field b of_successor x = record b { successor = Some x }
with_field b (of_word w) x = record b { words = slice_set b.words w (Some x) }

-- the build with the word at this offset stored too
abbrev pub built_too : Build → ℕ → ℕ → Build
built_too b field x = with_field b (field_at field) x

-- what of a slot was stored so far, where it may be built
abbrev pub build_in : Slot → Option Build
build_in Free = Some nothing_built
build_in (Built b) = Some b
build_in (Live x st) = None
build_in (Freeing p first) = None

-- the number that may be stored into this field of the version at a position whose set begins at `first`
abbrev pub Fits : ℕ → ℕ → Field → ℕ → Type 0
Fits first position of_first x = x ≡ first
Fits first position of_stamp x = (first ≡ position) × (x ≡ unset_of position)
Fits first position of_previous x = Unit {0}
Fits first position of_successor x = x ≡ 0
Fits first position (of_word w) x = w < 6

-- the same, of the field at an offset
abbrev pub FitsField : ℕ → ℕ → ℕ → ℕ → Type 0
FitsField first position field x = Fits first position (field_at field) x

-- store into a built slot: in an open section, at the next position, whose slot is free or being built
pub record MayStoreBuilt (c : Config) (v : Knowledge) (position field x : ℕ) (b : Build) : Type 0 where
  pub inside : OwnSection
  pub phase : v.phase ≡ Inside inside
  pub open_is : inside.mode ≡ Open
  pub next : position ≡ v.ring.next
  pub build : build_in (slot_at v.ring (index_of c position)) ≡ Some b
  pub fits : FitsField (set_first v.ring) position field x

-- the word is stored, and noted
abbrev pub built_stored : Config → Knowledge → ℕ → ℕ → ℕ → Build → Knowledge
built_stored c v position field x b = record v {
  ring = put_slot v.ring (index_of c position) (Built (built_too b field x));
  trail = with_step c v StoreBuilt (field_place v.number (index_of c position) field) None (Some x);
}

-- store DATA of a held slot: in an open section, of a position that is held
pub record MayStoreData (c : Config) (v : Knowledge) (position word : ℕ) (x : Version) : Type 0 where
  pub inside : OwnSection
  pub phase : v.phase ≡ Inside inside
  pub open_is : inside.mode ≡ Open
  pub held : slot_at v.ring (index_of c position) ≡ Live x Held
  pub position_is : x.position ≡ position
  pub in_range : word < 6

-- the version has this word now
abbrev pub data_stored : Config → Knowledge → ℕ → ℕ → ℕ → Version → Knowledge
data_stored c v position word value x = record v {
  ring = put_slot v.ring (index_of c position) (Live (record x { words = slice_set x.words word value }) Held);
  trail = with_step c v StoreData (Data v.number (index_of c position) word) None (Some value);
}

-- the walk stands where a lock may be put: at the master, or at a version whose time, which it found, is not above the section's
abbrev pub StandsToLock : Knowledge → OwnSection → ℕ → ℕ → Type 0
StandsToLock v inside object previous =
    ((v.walk ≡ walk.Master object) × (previous ≡ 0))
    ⊎ ((stand : Stand) × (found : ℕ) × (v.walk ≡ walk.At stand) × (stand.object ≡ object) × (stand.link ≡ previous)
    × (stand.stamp ≡ Some found) × (found ≤ time_in inside))

-- compare_exchange HEAD (lock): an open section past its help stands there, doesn't hold the object, has room in its write set, and built the slot whole,
-- with any six words: a held version is nobody else's to read
pub record MayLock (c : Config) (write_max : ℕ) (v : Knowledge) (object previous position : ℕ) (words : List ℕ) (b : Build) (inside : OwnSection) : Type 0 where
  pub walking : IsWalking v inside
  pub in_range : object < c.objects
  pub stands : StandsToLock v inside object previous
  pub unheld : (k : ℕ) (x : Version) → slot_at v.ring k ≡ Live x Held → x.object ≢ object
  pub room : held_count v.ring < write_max
  pub next : position ≡ v.ring.next
  pub build : slot_at v.ring (index_of c position) ≡ Built b
  pub first : b.first ≡ Some (set_first v.ring)
  pub stamp : set_first v.ring ≡ position → b.stamp ≡ Some (unset_of position)
  pub previous_is : b.previous ≡ Some previous
  pub successor : b.successor ≡ Some 0
  pub words_are : b.words ≡ map Some words

-- the version that a won lock holds
abbrev pub locked_version : Knowledge → ℕ → ℕ → ℕ → List ℕ → Version
locked_version v object previous position words = record {
  position = position;
  first = set_first v.ring;
  object = object;
  previous = previous;
  words = words;
}

-- won: the version is held, and the next position is used
abbrev pub head_locked : Config → Knowledge → ℕ → ℕ → ℕ → List ℕ → Knowledge
head_locked c v object previous position words = record v {
  ring = record (put_slot v.ring (index_of c position) (Live (locked_version v object previous position words) Held)) { next = position + 1 };
  trail = with_step c v LockHead (Head object) (Some previous) (Some (link_of v.number position));
}

-- lost: the walk stands at the link found
abbrev pub lock_lost : Config → Knowledge → ℕ → ℕ → Knowledge
lock_lost c v object link =
    record v { walk = stand_at object link Nothing true; trail = with_step c v LockHead (Head object) (Some link) None }

-- what the exchange tells
abbrev pub LockTold : Config → Knowledge → ℕ → ℕ → ℕ → List ℕ → ℕ → Knowledge → Type 0
LockTold c v object previous position words found w =
    (found ≡ previous → w ≡ head_locked c v object previous position words) × (found ≢ previous → w ≡ lock_lost c v object found)

-- a lock adds one write to those that the section holds, of the words that were built, and takes a spare slot
abbrev pub OneMoreWrite : Config → Knowledge → ℕ → List ℕ → Knowledge → Type 0
OneMoreWrite c v object words w =
    (own_of c w.ring ≡ own_of c v.ring ++ (object, words) ∷ [])
    × (spare_count w.ring + 1 ≡ spare_count v.ring)

-- store HEAD (abort): in a section that named nothing and holds the object with this previous link
pub record MayUnlock (v : Knowledge) (object previous : ℕ) (k : ℕ) (x : Version) (inside : OwnSection) : Type 0 where
  pub phase : v.phase ≡ Inside inside
  pub unnamed : IsUnnamed inside.mode
  pub held : slot_at v.ring k ≡ Live x Held
  pub object_is : x.object ≡ object
  pub previous_is : x.previous ≡ previous

-- the version is aborted, and so is the section from now on
abbrev pub head_unlocked : Config → Knowledge → ℕ → ℕ → ℕ → Version → OwnSection → Knowledge
head_unlocked c v object previous k x inside = record v {
  phase = Inside (record inside { mode = Aborting });
  ring = put_slot v.ring k (Live x (Aborted None));
  trail = with_step c v UnlockHead (Head object) None (Some previous);
}

-- the time of death where none was noted of an aborted or cut version
abbrev pub dead_if : Option ℕ → ℕ → Option ℕ
dead_if None t = Some t
dead_if (Some dead) t = Some dead

-- the status with that time of death
abbrev pub timed_status : ℕ → WriteSetStatus → WriteSetStatus
timed_status t Held = Held
timed_status t (Aborted dead) = Aborted (dead_if dead t)
timed_status t (Committed note) = Committed (cond note.cut (record note { dead = dead_if note.dead t }) note)

-- the slot with that time of death
abbrev pub timed : ℕ → Slot → Slot
timed t Free = Free
timed t (Built b) = Built b
timed t (Live x st) = Live x (timed_status t st)
timed t (Freeing p first) = Freeing p first

-- a version that waits for its time of death
abbrev pub WaitsForDeath : WriteSetStatus → Type 0
WaitsForDeath Held = ⊥
WaitsForDeath (Aborted dead) = dead ≡ None
WaitsForDeath (Committed note) = (note.cut ≡ true) × (note.dead ≡ None)

-- load CLOCK (time a dead version): an own aborted or cut version has no time of death yet
abbrev pub MayLoadDeath : Knowledge → Type 0
MayLoadDeath v = (k : ℕ) × (x : Version) × (st : WriteSetStatus) × (slot_at v.ring k ≡ Live x st) × WaitsForDeath st

-- they are dead from the time after the clock's, and the whole history h is seen
abbrev pub death_loaded : Config → Knowledge → ℕ → List Entry → Knowledge
death_loaded c v word h = record v {
  past = record v.past { seen = h };
  ring = record v.ring { slots = map (timed (clock_time_of word + 1)) v.ring.slots };
  trail = with_step c v LoadDeath Clock (Some word) None;
}
