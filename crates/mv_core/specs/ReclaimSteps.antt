-- Reclaiming the slots of a log: what each kind of step asks of its own view, and what it makes of it.
use Rattle.std.specs.Prelude.{◌≡◌, ◌≢◌, ◌⊎◌, ℕ, ◌+◌, ◌-◌, ◌<◌, ◌≤◌, ◌==◌, nat_lt, min, max, true, false}
use Rattle.std.specs.Prelude.{if◌then◌else◌, List, length, map, Contains, Option, Some, None, slice_index}
use Rattle.mv_history.specs.declared.Entry.{Entry}
use Rattle.mv_history.specs.declared.StepKind.TheVariants.{LoadScan, LoadMark, LoadSuper, StoreMaster, CutHead, StoreFree}
use Rattle.mv_layout.specs.declared.Config.{Config}
use Rattle.mv_layout.specs.declared.SharedWord.TheVariants.{Clock, Mark, Head, Master, Stamp, Super}
use Rattle.mv_layout.specs.Words.{clock_time_of, link_of, link_seat_of}
use Rattle.mv_core.specs.declared.ring.Ring.{Ring}
use Rattle.mv_core.specs.declared.ring.Slot.{Slot}
use Rattle.mv_core.specs.declared.ring.Slot.TheVariants.{Free, Built, Live, Freeing}
use Rattle.mv_core.specs.declared.ring.Version.{Version}
use Rattle.mv_core.specs.declared.ring.WriteSetStatus.{WriteSetStatus}
use Rattle.mv_core.specs.declared.ring.WriteSetStatus.TheVariants.{Held, Aborted, Committed}
use Rattle.mv_core.specs.declared.ring.CommitNote.{CommitNote}
use Rattle.mv_core.specs.declared.view.Knowledge.{Knowledge}
use Rattle.mv_core.specs.declared.view.Phase.TheVariants.{Outside, Inside}
use Rattle.mv_core.specs.declared.view.OwnSection.{OwnSection}
use Rattle.mv_core.specs.declared.view.Mode.TheVariants.{Open}
use Rattle.mv_core.specs.declared.view.WalkStage.TheVariants as walk
use Rattle.mv_core.specs.declared.view.Stand.{Stand}
use Rattle.mv_core.specs.declared.view.Scan.{Scan}
use Rattle.mv_core.specs.declared.view.EmptyHead.{EmptyHead}
use Rattle.mv_core.specs.declared.view.WriteBack.{WriteBack}
use Rattle.mv_core.specs.Rings.{slot_at, index_of, put_slot, HoldsNothing}
use Rattle.mv_core.specs.Times.{writes_to, IsEntry}
use Rattle.mv_core.specs.Views.{with_step}
use Rattle.mv_core.specs.HistoryFacts.{BeginsWith}
use Rattle.mv_core.specs.SectionFacts.{IsPastHelp}

-- the next seat from this number on that isn't the seat itself
abbrev pub other_from : ℕ → ℕ → ℕ
other_from seat from = if from == seat then from + 1 else from

-- a scan goes on to the next seat, if there is one
abbrev pub scan_on : Config → ℕ → ℕ → ℕ → Option Scan
scan_on c clock least next =
    if nat_lt next c.seats then Some (record { clock = clock; least = least; next = next }) else None

-- and else it is finished, which makes its least time known
abbrev pub grace_on : Config → ℕ → ℕ → ℕ → ℕ
grace_on c grace least next = if nat_lt next c.seats then grace else max grace least

-- load CLOCK (scan): outside, with no scan
pub record MayLoadScan (v : Knowledge) : Type 0 where
  pub outside : v.phase ≡ Outside
  pub no_scan : v.scan ≡ None

-- a scan begins, and the whole history h is seen
abbrev pub scan_loaded : Config → Knowledge → ℕ → List Entry → Knowledge
scan_loaded c v word h = record v {
  past = record v.past { seen = h };
  scan = scan_on c (clock_time_of word) (clock_time_of word) (other_from v.number 0);
  grace = grace_on c v.grace (clock_time_of word) (other_from v.number 0);
  trail = with_step c v LoadScan Clock (Some word) None;
}

-- load MARK: of the seat that the running scan comes to next
pub record MayLoadMark (c : Config) (v : Knowledge) (seat : ℕ) (scan : Scan) : Type 0 where
  pub running : v.scan ≡ Some scan
  pub next : scan.next ≡ seat
  pub in_range : seat < c.seats

-- the least time, where a seat has this mark
abbrev pub least_with : ℕ → ℕ → ℕ
least_with least mark = if mark == 0 then least else min least (mark - 1)

-- the scan goes on with this mark
abbrev pub mark_loaded : Config → Knowledge → ℕ → Scan → ℕ → Knowledge
mark_loaded c v seat scan mark = record v {
  scan = scan_on c scan.clock (least_with scan.least mark) (other_from v.number (seat + 1));
  grace = grace_on c v.grace (least_with scan.least mark) (other_from v.number (seat + 1));
  trail = with_step c v LoadMark (Mark seat) (Some mark) None;
}

-- load SUPER: of an own committed version that has no time of death and wasn't cut
pub record MayLoadSuper (c : Config) (v : Knowledge) (position : ℕ) (x : Version) (note : CommitNote) : Type 0 where
  pub own : slot_at v.ring (index_of c position) ≡ Live x (Committed note)
  pub position_is : x.position ≡ position
  pub no_death : note.dead ≡ None
  pub uncut : note.cut ≡ false

-- a section of a time not below this one found the object's HEAD empty
abbrev pub FoundEmpty : Knowledge → ℕ → ℕ → Type 0
FoundEmpty v object time = (e : EmptyHead) × Contains v.empty e × (e.object ≡ object) × (time ≤ e.time)

-- a time found is the time of death
abbrev pub super_note : CommitNote → ℕ → CommitNote
super_note note found = if found == 0 then note else record note { dead = Some found }

-- the death is noted, and this much is seen
abbrev pub super_loaded : Config → Knowledge → ℕ → Version → CommitNote → ℕ → List Entry → Knowledge
super_loaded c v position x note found seen = record v {
  past = record v.past { seen = seen };
  ring = put_slot v.ring (index_of c position) (Live x (Committed (super_note note found)));
  trail = with_step c v LoadSuper (Super v.number (index_of c position)) (Some found) None;
}

-- what is seen after it: at least up to a time that was found; and where none was, no write of the object is known between the version's time and the watermark
pub record SeesSuper (c : Config) (v : Knowledge) (x : Version) (note : CommitNote) (found : ℕ) (seen : List Entry) : Type 0 where
  pub more : BeginsWith seen v.past.seen
  pub time : found ≤ c.base + length seen
  pub least : (length seen ≡ length v.past.seen) ⊎ (c.base + length seen ≡ found)
  pub no_write : found ≡ 0 → (t : ℕ) (e : Entry) → IsEntry c.base v.past.seen t e → writes_to x.object e ≡ true → note.time < t → v.grace < t

-- the write-back that stores the word i next: one begins at the own version that the walk stands at, whose time the watermark has reached
abbrev pub GoesToWord : Knowledge → ℕ → ℕ → ℕ → Version → CommitNote → Type 0
GoesToWord v object i position x note =
    ((i ≡ 0) × (v.back ≡ None)
    × ((stand : Stand) × (v.walk ≡ walk.At stand) × (stand.object ≡ object) × (stand.link ≡ link_of v.number position)) × (note.cut ≡ false)
    × (note.time ≤ v.grace))
    ⊎ ((0 < i) × (v.back ≡ Some (record { object = object; position = position; stored = i; tried = false })))

-- store MASTER: in an open section past its help that holds nothing, the next word of such a version
pub record MayStoreMaster (c : Config) (v : Knowledge) (object i value position : ℕ) (x : Version) (note : CommitNote) (inside : OwnSection) : Type 0 where
  pub phase : v.phase ≡ Inside inside
  pub open_is : inside.mode ≡ Open
  pub past_help : IsPastHelp v.clocks inside
  pub nothing : HoldsNothing v.ring
  pub own : slot_at v.ring (index_of c position) ≡ Live x (Committed note)
  pub position_is : x.position ≡ position
  pub object_is : x.object ≡ object
  pub goes : GoesToWord v object i position x note
  pub in_range : i < 6
  pub value_is : value ≡ slice_index x.words i

-- one word more is written back
abbrev pub master_stored : Config → Knowledge → ℕ → ℕ → ℕ → ℕ → Knowledge
master_stored c v object i value position = record v {
  back = Some (record { object = object; position = position; stored = i + 1; tried = false });
  trail = with_step c v StoreMaster (Master object i) None (Some value);
}

-- compare_exchange HEAD (cut): all words of the write-back were stored, and no exchange was tried
pub record MayCutHead (c : Config) (v : Knowledge) (object position : ℕ) (x : Version) (note : CommitNote) : Type 0 where
  pub back : v.back ≡ Some (record { object = object; position = position; stored = 6; tried = false })
  pub own : slot_at v.ring (index_of c position) ≡ Live x (Committed note)

-- the write-back once its exchange was tried
abbrev pub cut_tried : ℕ → ℕ → Option WriteBack
cut_tried object position = Some (record { object = object; position = position; stored = 6; tried = true })

-- won: the version is cut
abbrev pub head_cut : Config → Knowledge → ℕ → ℕ → Version → CommitNote → Knowledge
head_cut c v object position x note = record v {
  back = cut_tried object position;
  ring = put_slot v.ring (index_of c position) (Live x (Committed (record note { cut = true })));
  trail = with_step c v CutHead (Head object) (Some (link_of v.number position)) (Some 0);
}

-- lost to the link found
abbrev pub cut_lost : Config → Knowledge → ℕ → ℕ → ℕ → Knowledge
cut_lost c v object position found =
    record v { back = cut_tried object position; trail = with_step c v CutHead (Head object) (Some found) None }

-- what the exchange tells
abbrev pub CutTold : Config → Knowledge → ℕ → ℕ → Version → CommitNote → ℕ → Knowledge → Type 0
CutTold c v object position x note found w =
    (found ≡ link_of v.number position → w ≡ head_cut c v object position x note)
    × (found ≢ link_of v.number position → w ≡ cut_lost c v object position found)

-- the word isn't 0, and is a link to the log of another seat
abbrev pub IsOfOther : Knowledge → ℕ → Type 0
IsOfOther v found = (found ≢ 0) × (link_seat_of found ≢ v.number)

-- the slot is in use for this position
abbrev pub UsesPosition : Slot → ℕ → Type 0
UsesPosition Free p = ⊥
UsesPosition (Built b) p = ⊥
UsesPosition (Live x st) p = x.position ≡ p
UsesPosition (Freeing q first) p = q ≡ p

-- a version is dead from a time not above this
abbrev pub IsDeadBy : ℕ → WriteSetStatus → Type 0
IsDeadBy t Held = ⊥
IsDeadBy t (Aborted dead) = (d : ℕ) × (dead ≡ Some d) × (d ≤ t)
IsDeadBy t (Committed note) = (d : ℕ) × (note.dead ≡ Some d) × (d ≤ t)

-- the set of this version is being freed, or every version of it is dead from a time not above the watermark
abbrev pub MayFreeSlot : Knowledge → Slot → Type 0
MayFreeSlot v Free = ⊥
MayFreeSlot v (Built b) = ⊥
MayFreeSlot v (Live x st) = (k : ℕ) (y : Version) (other : WriteSetStatus) → slot_at v.ring k ≡ Live y other → y.first ≡ x.first → IsDeadBy v.grace other
MayFreeSlot v (Freeing p first) = Unit {0}

-- store STAMP 0 (free): outside, of the oldest position of the log
pub record MayStoreFree (c : Config) (v : Knowledge) (position : ℕ) : Type 0 where
  pub outside : v.phase ≡ Outside
  pub in_use : UsesPosition (slot_at v.ring (index_of c position)) position
  pub oldest : (k p : ℕ) → UsesPosition (slot_at v.ring k) p → position ≤ p
  pub may_free : MayFreeSlot v (slot_at v.ring (index_of c position))

-- the other versions of the set are being freed
abbrev pub freeing_slot : ℕ → Slot → Slot
freeing_slot first Free = Free
freeing_slot first (Built b) = Built b
freeing_slot first (Live x st) = if x.first == first then Freeing x.position x.first else Live x st
freeing_slot first (Freeing p f) = Freeing p f

-- the log after the free of this slot
abbrev pub freed_ring : Ring → ℕ → Slot → Ring
freed_ring r k (Live x st) = put_slot (record r { slots = map (freeing_slot x.first) r.slots }) k Free
freed_ring r k slot = put_slot r k Free

-- the slot is free
abbrev pub free_stored : Config → Knowledge → ℕ → Knowledge
free_stored c v position = record v {
  ring = freed_ring v.ring (index_of c position) (slot_at v.ring (index_of c position));
  trail = with_step c v StoreFree (Stamp v.number (index_of c position)) None (Some 0);
}
