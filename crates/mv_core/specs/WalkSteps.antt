-- Walking a version chain: what each kind of step asks of its own view, and what it makes of it.
use Rattle.std.specs.Prelude.{◌≡◌, ◌≢◌, ◌⊎◌, ℕ, ◌+◌, ◌<◌, ◌≤◌, ◌^◌, ◌==◌, leb, Bool, true, false}
use Rattle.std.specs.Prelude.{if◌then◌else◌, List, [], ◌∷◌, ◌++◌, length, Option, Some, None, slice_index}
use Rattle.mv_history.specs.declared.Entry.{Entry}
use Rattle.mv_history.specs.declared.StepKind.TheVariants.{LoadHead, LoadFirst, LoadStamp, LoadPrev, LoadData, LoadMaster}
use Rattle.mv_layout.specs.declared.Config.{Config}
use Rattle.mv_layout.specs.declared.SharedWord.TheVariants.{Head, Master, First, Stamp, Prev, Data}
use Rattle.mv_layout.specs.Words.{link_of, link_seat_of, link_position_of, IsLink, IsUnset}
use Rattle.mv_core.specs.declared.ring.Slot.TheVariants.{Live}
use Rattle.mv_core.specs.declared.ring.Version.{Version}
use Rattle.mv_core.specs.declared.ring.WriteSetStatus.{WriteSetStatus}
use Rattle.mv_core.specs.declared.ring.WriteSetStatus.TheVariants.{Held, Committed}
use Rattle.mv_core.specs.declared.ring.CommitNote.{CommitNote}
use Rattle.mv_core.specs.declared.view.Knowledge.{Knowledge}
use Rattle.mv_core.specs.declared.view.Phase.TheVariants.{Inside}
use Rattle.mv_core.specs.declared.view.OwnSection.{OwnSection}
use Rattle.mv_core.specs.declared.view.Mode.TheVariants.{Open}
use Rattle.mv_core.specs.declared.view.WalkStage.{WalkStage}
use Rattle.mv_core.specs.declared.view.WalkStage.TheVariants as walk
use Rattle.mv_core.specs.declared.view.Stand.{Stand}
use Rattle.mv_core.specs.declared.view.Passed.{Passed}
use Rattle.mv_core.specs.declared.view.Passed.TheVariants.{Nothing, Unset, Time}
use Rattle.mv_core.specs.declared.view.EmptyHead.{EmptyHead}
use Rattle.mv_core.specs.Rings.{slot_at, index_of}
use Rattle.mv_core.specs.Times.{words_of, writes_to, latest, IsEntry}
use Rattle.mv_core.specs.Views.{time_in, with_step}
use Rattle.mv_core.specs.HistoryFacts.{BeginsWith}
use Rattle.mv_core.specs.SectionFacts.{IsPastHelp}
use Rattle.mv_core.specs.WalkFacts.{HasPassed, IsBelowPassed}

-- a packed link to a seat of the domain
abbrev pub IsPackedOf : Config → ℕ → Type 0
IsPackedOf c link = IsLink link × (link_seat_of link < c.seats)

-- the link is 0 or such a link
abbrev pub IsLinkOf : Config → ℕ → Type 0
IsLinkOf c link = link ≢ 0 → IsPackedOf c link

-- the slot that a link names
abbrev pub slot_named : Config → ℕ → ℕ
slot_named c link = index_of c (link_position_of link)

-- the link isn't to the own log, or names a version of the object there that is held, or is committed and wasn't cut
abbrev pub IsOwnTop : Config → Knowledge → ℕ → ℕ → Type 0
IsOwnTop c v object link =
    link ≢ 0 → link_seat_of link ≡ v.number → (x : Version) × (st : WriteSetStatus) × (slot_at v.ring (slot_named c link) ≡ Live x st)
    × (x.object ≡ object) × ((st ≡ Held) ⊎ ((note : CommitNote) × (st ≡ Committed note) × (note.cut ≡ false)))

-- where the link is to the own log, it is that of the version in the slot that it names
abbrev pub IsOwnLink : Config → Knowledge → ℕ → Type 0
IsOwnLink c v link =
    link ≢ 0 → link_seat_of link ≡ v.number → (x : Version) (st : WriteSetStatus) → slot_at v.ring (slot_named c link) ≡ Live x st
    → link ≡ link_of v.number x.position

-- where the link names a committed version of the own log, each other one of the object there that is committed has a lesser time
abbrev pub IsLastOwn : Config → Knowledge → ℕ → ℕ → Type 0
IsLastOwn c v object link =
    link ≢ 0 → link_seat_of link ≡ v.number → (x : Version) (note : CommitNote) → slot_at v.ring (slot_named c link) ≡ Live x (Committed note)
    → (k : ℕ) (y : Version) (other : CommitNote) → slot_at v.ring k ≡ Live y (Committed other) → y.object ≡ object → k ≢ slot_named c link
    → other.time < note.time

-- where the link names a committed version of the own log, no later write of the object was seen
abbrev pub IsLastSeen : Config → Knowledge → ℕ → ℕ → Type 0
IsLastSeen c v object link =
    link ≢ 0 → link_seat_of link ≡ v.number → (x : Version) (note : CommitNote) → slot_at v.ring (slot_named c link) ≡ Live x (Committed note)
    → latest c.base v.past.seen object ≤ note.time

-- a stamp of the own log that was found is a time, where the version there is committed
abbrev pub IsOwnTime : Config → Knowledge → ℕ → ℕ → Type 0
IsOwnTime c v link found =
    link_seat_of link ≡ v.number → (x : Version) (note : CommitNote) → slot_at v.ring (slot_named c link) ≡ Live x (Committed note)
    → (inside : OwnSection) → v.phase ≡ Inside inside → inside.mode ≡ Open → found < 2 ^ 63

-- an open section past its help, with no write-back under way
pub record IsWalking (v : Knowledge) (inside : OwnSection) : Type 0 where
  pub phase : v.phase ≡ Inside inside
  pub open_is : inside.mode ≡ Open
  pub helped : IsPastHelp v.clocks inside
  pub no_back : v.back ≡ None

-- where a walk over the object goes that found this link
abbrev pub stand_at : ℕ → ℕ → Passed → Bool → WalkStage
stand_at object link passed late =
    if link == 0 then walk.Master object else walk.At (record { object = object; link = link; first = None; stamp = None; passed = passed; late = late })

-- load HEAD: in an open section past its help, with no write-back
abbrev pub MayLoadHead : Knowledge → OwnSection → Type 0
MayLoadHead v inside = IsWalking v inside

-- an empty HEAD is kept in mind
abbrev pub empty_too : List EmptyHead → ℕ → ℕ → ℕ → List EmptyHead
empty_too empty object time link = if link == 0 then empty ++ record { object = object; time = time } ∷ [] else empty

-- the walk stands at the link found, or at the master
abbrev pub head_loaded : Config → Knowledge → OwnSection → ℕ → ℕ → Knowledge
head_loaded c v inside object link = record v {
  walk = stand_at object link Nothing false;
  empty = empty_too v.empty object (time_in inside) link;
  trail = with_step c v LoadHead (Head object) (Some link) None;
}

-- load FIRST: the walk stands at the link
pub record MayLoadFirst (v : Knowledge) (link : ℕ) (stand : Stand) : Type 0 where
  pub stands : v.walk ≡ walk.At stand
  pub link_is : stand.link ≡ link

-- the FIRST that was found is kept
abbrev pub first_loaded : Config → Knowledge → Stand → ℕ → Knowledge
first_loaded c v stand found = record v {
  walk = walk.At (record stand { first = Some found; stamp = None });
  trail = with_step c v LoadFirst (First (link_seat_of stand.link) (slot_named c stand.link)) (Some found) None;
}

-- load STAMP: the walk stands at the link and found that FIRST
pub record MayLoadStamp (v : Knowledge) (link first : ℕ) (stand : Stand) : Type 0 where
  pub stands : v.walk ≡ walk.At stand
  pub link_is : stand.link ≡ link
  pub first_is : stand.first ≡ Some first

-- what is seen after a stamp: at least up to a time that was found
pub record SeesStamp (c : Config) (v : Knowledge) (found : ℕ) (seen : List Entry) : Type 0 where
  pub more : BeginsWith seen v.past.seen
  pub time : found < 2 ^ 63 → found ≤ c.base + length seen
  pub least : (length seen ≡ length v.past.seen) ⊎ (c.base + length seen ≡ found)

-- a time is that of a write of the object in what was seen
abbrev pub IsWriteOf : Config → List Entry → ℕ → ℕ → Type 0
IsWriteOf c seen object time = (e : Entry) × IsEntry c.base seen time e × (writes_to object e ≡ true)

-- what a stamp tells: a time is that of a write of the object, which was seen; below versions that the walk has passed it is one,
-- and less than theirs; and where a lost exchange of a lock put the walk it is none up to the section's time
pub record StampSays (c : Config) (v : Knowledge) (stand : Stand) (found : ℕ) (seen : List Entry) : Type 0 where
  pub sees : SeesStamp c v found seen
  pub write : found < 2 ^ 63 → IsWriteOf c seen stand.object found
  pub falls : HasPassed stand.passed → (found < 2 ^ 63) × IsBelowPassed found stand.passed
  pub late : (inside : OwnSection) → v.phase ≡ Inside inside → stand.late ≡ true → found < 2 ^ 63 → time_in inside < found

-- the STAMP that was found is kept, and this much is seen
abbrev pub stamp_loaded : Config → Knowledge → Stand → ℕ → ℕ → List Entry → Knowledge
stamp_loaded c v stand first found seen = record v {
  past = record v.past { seen = seen };
  walk = walk.At (record stand { stamp = Some found });
  trail = with_step c v LoadStamp (Stamp (link_seat_of stand.link) (index_of c first)) (Some found) None;
}

-- load PREV: the walk stands at the link and found its stamp unset or above the section's time
pub record MayLoadPrev (v : Knowledge) (link : ℕ) (stand : Stand) : Type 0 where
  pub inside : OwnSection
  pub phase : v.phase ≡ Inside inside
  pub stands : v.walk ≡ walk.At stand
  pub link_is : stand.link ≡ link
  pub found : ℕ
  pub stamp_is : stand.stamp ≡ Some found
  pub goes_on : IsUnset found ⊎ (time_in inside < found)

-- what the walk has passed when it goes on from a stamp
abbrev pub passed_unset : Passed → Passed
passed_unset Nothing = Unset
passed_unset Unset = Unset
passed_unset (Time least) = Time least

-- the same of any stamp that was found
abbrev pub passed_too : Passed → Option ℕ → Passed
passed_too passed None = passed_unset passed
passed_too passed (Some found) = if leb 9223372036854775808 found then passed_unset passed else Time found

-- the walk stands at the link found, or at the master
abbrev pub prev_loaded : Config → Knowledge → Stand → ℕ → Knowledge
prev_loaded c v stand link = record v {
  walk = stand_at stand.object link (passed_too stand.passed stand.stamp) false;
  trail = with_step c v LoadPrev (Prev (link_seat_of stand.link) (slot_named c stand.link)) (Some link) None;
}

-- load DATA: the walk stands at the link and found its stamp to be a time not above the section's
pub record MayLoadData (v : Knowledge) (link word : ℕ) (stand : Stand) (inside : OwnSection) : Type 0 where
  pub phase : v.phase ≡ Inside inside
  pub stands : v.walk ≡ walk.At stand
  pub link_is : stand.link ≡ link
  pub found : ℕ
  pub stamp_is : stand.stamp ≡ Some found
  pub time_is : found ≤ time_in inside
  pub in_range : word < 6

-- a load that only joins the trail
abbrev pub data_loaded : Config → Knowledge → Stand → ℕ → ℕ → Knowledge
data_loaded c v stand word found =
    record v { trail = with_step c v LoadData (Data (link_seat_of stand.link) (slot_named c stand.link) word) (Some found) None }

-- load MASTER: the walk stands at the master of the object
pub record MayLoadMaster (v : Knowledge) (object word : ℕ) (inside : OwnSection) : Type 0 where
  pub phase : v.phase ≡ Inside inside
  pub stands : v.walk ≡ walk.Master object
  pub in_range : word < 6

-- a load that only joins the trail
abbrev pub master_loaded : Config → Knowledge → ℕ → ℕ → ℕ → Knowledge
master_loaded c v object word found =
    record v { trail = with_step c v LoadMaster (Master object word) (Some found) None }

-- the words of the object in the state that the section reads
abbrev pub words_read : Config → Knowledge → OwnSection → ℕ → List ℕ
words_read c v inside object = words_of c v.start v.past.seen (time_in inside) object

-- one of these words
abbrev pub word_read : Config → Knowledge → OwnSection → ℕ → ℕ → ℕ
word_read c v inside object word = slice_index (words_read c v inside object) word
