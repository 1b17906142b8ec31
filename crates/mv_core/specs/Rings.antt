-- The slots of a log, and the versions in them.
use Rattle.std.specs.Prelude.{◌≡◌, ◌≢◌, ◌⊎◌, ℕ, zero, suc, ◌+◌, ◌-◌, ◌%◌, ◌<◌, Bool, true, false, List, []}
use Rattle.std.specs.Prelude.{◌∷◌, replicate, count_by, slice_index_or, slice_set}
use Rattle.mv_history.specs.State.{Writes}
use Rattle.mv_layout.specs.declared.Config.{Config}
use Rattle.mv_layout.specs.Words.{link_of}
use Rattle.mv_core.specs.declared.ring.Ring.{Ring}
use Rattle.mv_core.specs.declared.ring.Slot.{Slot}
use Rattle.mv_core.specs.declared.ring.Slot.TheVariants.{Free, Built, Live, Freeing}
use Rattle.mv_core.specs.declared.ring.Version.{Version}
use Rattle.mv_core.specs.declared.ring.WriteSetStatus.{WriteSetStatus}
use Rattle.mv_core.specs.declared.ring.WriteSetStatus.TheVariants.{Held, Committed}
use Rattle.mv_core.specs.declared.ring.CommitNote.{CommitNote}

-- what is in a slot
abbrev pub slot_at : Ring → ℕ → Slot
slot_at r k = slice_index_or r.slots k Free

-- the slot of a position
abbrev pub index_of : Config → ℕ → ℕ
index_of c position = position % c.slots

-- the log with this in a slot
abbrev pub put_slot : Ring → ℕ → Slot → Ring
put_slot r k x = record r { slots = slice_set r.slots k x }

-- a log whose slots are all free
abbrev pub empty_ring : Config → Ring
empty_ring c = record { slots = replicate c.slots Free; next = 0 }

-- whether a slot holds a version that is held
abbrev pub is_held : Slot → Bool
is_held (Live x Held) = true
is_held _ = false

-- whether a slot may be built for a new version
abbrev pub is_spare : Slot → Bool
is_spare Free = true
is_spare (Built b) = true
is_spare _ = false

-- how many versions are held
abbrev pub held_count : Ring → ℕ
held_count r = count_by is_held r.slots

-- how many slots are spare
abbrev pub spare_count : Ring → ℕ
spare_count r = count_by is_spare r.slots

-- the first position of the write set that is held, or the next position where none is
abbrev pub set_first : Ring → ℕ
set_first r = r.next - held_count r

-- the object and the words of a version
abbrev pub write_of : Slot → ℕ × List ℕ
write_of (Live x st) = (x.object, x.words)
write_of _ = (0, [])

-- the writes of this many positions from one on
abbrev pub writes_from : Config → Ring → ℕ → ℕ → Writes
writes_from c r position zero = []
writes_from c r position (suc n) = write_of (slot_at r (index_of c position)) ∷ writes_from c r (position + 1) n

-- the held objects with their words, in the order of locking
abbrev pub own_of : Config → Ring → Writes
own_of c r = writes_from c r (set_first r) (held_count r)

-- nothing is held
abbrev pub HoldsNothing : Ring → Type 0
HoldsNothing r = (k : ℕ) (x : Version) → slot_at r k ≢ Live x Held

-- what follows is over the logs of all seats, by number
module _ (rings : ℕ → Ring) where
  -- the slot k of the seat s has this version, with this status
  abbrev pub Lives : ℕ → ℕ → Version → WriteSetStatus → Type 0
  Lives s k x st = slot_at (rings s) k ≡ Live x st

  -- the link names this version
  pub record Names (link : ℕ) (x : Version) (st : WriteSetStatus) : Type 0 where
    pub seat : ℕ
    pub slot : ℕ
    pub lives : Lives seat slot x st
    pub is : link ≡ link_of seat x.position

  -- the link names no version: its position was used, and isn't live any more
  pub record IsGone (link : ℕ) : Type 0 where
    pub seat : ℕ
    pub position : ℕ
    pub is : link ≡ link_of seat position
    pub used : position < (rings seat).next
    pub gone : (k : ℕ) (x : Version) (st : WriteSetStatus) → Lives seat k x st → x.position ≢ position

  -- the link names the version of the object's write at this time
  pub record IsVersion (object time link : ℕ) (x : Version) (note : CommitNote) : Type 0 where
    pub names : Names link x (Committed note)
    pub object_is : x.object ≡ object
    pub time_is : note.time ≡ time

  -- no seat holds the object
  abbrev pub NoneHolds : ℕ → Type 0
  NoneHolds object = (s k : ℕ) (x : Version) → Lives s k x Held → x.object ≢ object

  -- the write of the object at this time has no live version but one that was cut
  abbrev pub NoneUncut : ℕ → ℕ → Type 0
  NoneUncut object time = (link : ℕ) (x : Version) (note : CommitNote) → IsVersion object time link x note → note.cut ≡ true

  -- the link is of the version of that write, if it is live and wasn't cut, and else it is 0
  abbrev pub IsTop : ℕ → ℕ → ℕ → Type 0
  IsTop object time link =
      ((x : Version) × (note : CommitNote) × IsVersion object time link x note × (note.cut ≡ false))
      ⊎ ((link ≡ 0) × NoneUncut object time)

  -- a position is in use where its slot has a version of it, or is being freed
  abbrev pub InUse : Config → ℕ → ℕ → Type 0
  InUse c s p =
      ((x : Version) × (st : WriteSetStatus) × Lives s (index_of c p) x st × (x.position ≡ p))
      ⊎ ((first : ℕ) × (slot_at (rings s) (index_of c p) ≡ Freeing p first))

  -- the first version of a version's write set is live too
  pub record HasFirst (c : Config) (s : ℕ) (x : Version) : Type 0 where
    pub version : Version
    pub status : WriteSetStatus
    pub lives : Lives s (index_of c x.first) version status
    pub position_is : version.position ≡ x.first
    pub first_is : version.first ≡ x.first
