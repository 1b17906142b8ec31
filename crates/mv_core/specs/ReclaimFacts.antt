-- What holds of versions that are dead, cut, freed or written back.
use Rattle.std.specs.Prelude.{◌≡◌, ◌≢◌, ◌⊎◌, ℕ, ◌+◌, ◌-◌, ◌/◌, ◌%◌, ◌<◌, ◌≤◌, true, false, List, length}
use Rattle.std.specs.Prelude.{Option, Some, None, slice_index}
use Rattle.mv_history.specs.declared.Entry.{Entry}
use Rattle.mv_history.specs.State.{maker_of}
use Rattle.mv_layout.specs.declared.Config.{Config}
use Rattle.mv_layout.specs.Words.{clock_time_of, clock_seat_of, clock_slot_of}
use Rattle.mv_core.specs.declared.ring.Ring.{Ring}
use Rattle.mv_core.specs.declared.ring.Slot.TheVariants.{Free, Built, Freeing}
use Rattle.mv_core.specs.declared.ring.Build.{Build}
use Rattle.mv_core.specs.declared.ring.Version.{Version}
use Rattle.mv_core.specs.declared.ring.WriteSetStatus.{WriteSetStatus}
use Rattle.mv_core.specs.declared.ring.WriteSetStatus.TheVariants.{Held, Aborted, Committed}
use Rattle.mv_core.specs.declared.ring.CommitNote.{CommitNote}
use Rattle.mv_core.specs.declared.view.Past.{Past}
use Rattle.mv_core.specs.declared.view.OwnSection.{OwnSection}
use Rattle.mv_core.specs.declared.view.Mode.TheVariants.{Open, Named}
use Rattle.mv_core.specs.declared.view.Naming.{Naming}
use Rattle.mv_core.specs.declared.view.LoadedClocks.{LoadedClocks}
use Rattle.mv_core.specs.declared.view.WriteBack.{WriteBack}
use Rattle.mv_core.specs.Rings.{slot_at, index_of, HoldsNothing, Lives, Names, IsVersion}
use Rattle.mv_core.specs.Times.{writes_to, latest_at, IsEntry, IsNextWrite, NotAboveAny}
use Rattle.mv_core.specs.Views.{time_in}
use Rattle.mv_core.specs.SectionFacts.{IsPastHelp}

-- deaths: a noted death of an aborted or cut version is at most one above the clock, and that of another committed one is the next write of its object
pub record Deaths (c : Config) (h : List Entry) (rings : ℕ → Ring) : Type 0 where
  pub aborted : (s k dead : ℕ) (x : Version) → Lives rings s k x (Aborted (Some dead)) → dead ≤ c.base + length h + 1
  pub cut : (s k dead : ℕ) (x : Version) (note : CommitNote) → Lives rings s k x (Committed note) → note.cut ≡ true → note.dead ≡ Some dead
      → dead ≤ c.base + length h + 1
  pub superseded : (s k dead : ℕ) (x : Version) (note : CommitNote) → Lives rings s k x (Committed note) → note.cut ≡ false
      → note.dead ≡ Some dead → IsNextWrite c.base h x.object note.time dead

-- the death that is noted in a status
abbrev pub death_in : WriteSetStatus → Option ℕ
death_in Held = None
death_in (Aborted dead) = dead
death_in (Committed note) = note.dead

-- the version is committed and wasn't cut
abbrev pub IsUncut : WriteSetStatus → Type 0
IsUncut Held = ⊥
IsUncut (Aborted dead) = ⊥
IsUncut (Committed note) = note.cut ≡ false

-- a death that is noted in the status isn't after what was seen up to this time; of a version that was aborted or cut it may be the time after it
abbrev pub DeathSeen : ℕ → WriteSetStatus → Type 0
DeathSeen now st = (dead : ℕ) → death_in st ≡ Some dead → (dead ≤ now + 1) × (IsUncut st → dead ≤ now)

-- deaths-seen: a death that a seat noted is a time that it has seen, or, of a version that was aborted or cut, at most the time after all that it has seen
abbrev pub DeathsSeen : Config → (ℕ → Past) → (ℕ → Ring) → Type 0
DeathsSeen c past rings = (s k : ℕ) (x : Version) (st : WriteSetStatus) → Lives rings s k x st → DeathSeen (c.base + length (past s).seen) st

-- death-after-write: a noted death of a committed version is above its time
abbrev pub DeathAfterWrite : (ℕ → Ring) → Type 0
DeathAfterWrite rings =
    (s k dead : ℕ) (x : Version) (note : CommitNote) → Lives rings s k x (Committed note) → note.dead ≡ Some dead → note.time < dead

-- freed-is-old: the time of a write whose version isn't live any more is below the watermark of the seat that made it, and the commit that CLOCK names is live
pub record FreedIsOld (c : Config) (clock : ℕ) (h : List Entry) (grace : ℕ → ℕ) (rings : ℕ → Ring) : Type 0 where
  pub writes : (t o : ℕ) (e : Entry) → IsEntry c.base h t e → writes_to o e ≡ true
      → ((link : ℕ) × (x : Version) × (note : CommitNote) × IsVersion rings o t link x note) ⊎ (t < grace (maker_of e))
  pub named : clock_slot_of clock ≢ 8191
      → (x : Version) × (note : CommitNote) × Lives rings (clock_seat_of clock) (clock_slot_of clock) x (Committed note) × (x.position ≡ x.first)
      × (note.time ≡ clock_time_of clock)

-- cut-is-old: the time of a cut version isn't above any section's
abbrev pub CutIsOld : (ℕ → Option ℕ) → (ℕ → Ring) → Type 0
CutIsOld time rings =
    (s k : ℕ) (x : Version) (note : CommitNote) → Lives rings s k x (Committed note) → note.cut ≡ true → NotAboveAny note.time time

-- successor-flag: under a commit that isn't finished, the version below is uncut, and its SUPER is that commit's time where the
-- view says so, and else 0, with no death noted there
abbrev pub SuccessorFlag : (ℕ → ℕ → ℕ) → (ℕ → Option OwnSection) → (ℕ → Ring) → Type 0
SuccessorFlag super section rings =
    (s k : ℕ) (inside : OwnSection) (n : Naming) (x : Version) (note : CommitNote) → section s ≡ Some inside → inside.mode ≡ Named n
    → Lives rings s k x (Committed note) → note.time ≡ n.time
    → (x.previous ≡ 0 → note.linked ≡ true)
    × ((y : Version) (other : CommitNote) (below : Names rings x.previous y (Committed other))
    → (note.linked ≡ true → super below.seat below.slot ≡ n.time)
    × (note.linked ≡ false → (super below.seat below.slot ≡ 0) × (other.dead ≡ None)))

-- what a write-back is of: a live committed version of the object in the own log, the object's last write up to that section's
-- time, not above any section's time nor the watermark; until its exchange it isn't cut, and the words stored so far are its own
pub record IsWrittenBack (c : Config) (h : List Entry) (master : ℕ → ℕ → ℕ) (time : ℕ → Option ℕ) (ring : ℕ → Ring) (s : ℕ)
    (clocks : LoadedClocks) (grace : ℕ) (b : WriteBack) (inside : OwnSection) : Type 0 where
  pub mode : inside.mode ≡ Open
  pub helped : IsPastHelp clocks inside
  pub nothing : HoldsNothing (ring s)
  pub version : Version
  pub note : CommitNote
  pub lives : Lives ring s (index_of c b.position) version (Committed note)
  pub position_is : version.position ≡ b.position
  pub object_is : version.object ≡ b.object
  pub old : NotAboveAny note.time time
  pub known : note.time ≤ grace
  pub last : latest_at c.base h b.object (time_in inside) ≡ note.time
  pub some_stored : (0 < b.stored) × (b.stored ≤ 6)
  pub uncut : b.tried ≡ false → note.cut ≡ false
  pub words : b.tried ≡ false → (i : ℕ) → i < b.stored → master b.object i ≡ slice_index version.words i

-- write-back, with words-written and uncut-while-writing: who writes back is in such a section
abbrev pub WriteBacks : Config → List Entry → (ℕ → ℕ → ℕ) → (ℕ → Option OwnSection) → (ℕ → Option ℕ) → (ℕ → LoadedClocks)
    → (ℕ → ℕ) → (ℕ → Option WriteBack) → (ℕ → Ring) → Type 0
WriteBacks c h master section time clocks grace back rings =
    (s : ℕ) (b : WriteBack) → back s ≡ Some b → (inside : OwnSection) × (section s ≡ Some inside)
    × IsWrittenBack c h master time rings s (clocks s) (grace s) b inside

-- the least position from `next` on that has this slot
abbrev pub next_in : Config → Ring → ℕ → ℕ
next_in c r k = r.next + (k + c.slots - r.next % c.slots) % c.slots

-- positions-and-grace: the time of the round that a position is of isn't above its seat's watermark, and a commit and a death come after it
pub record PositionsAndGrace (c : Config) (grace : ℕ → ℕ) (rings : ℕ → Ring) : Type 0 where
  pub live : (s k : ℕ) (x : Version) (st : WriteSetStatus) → Lives rings s k x st → c.base + x.position / c.slots ≤ grace s
  pub free : (s k : ℕ) → k < c.slots → slot_at (rings s) k ≡ Free → c.base + next_in c (rings s) k / c.slots ≤ grace s
  pub built : (s k : ℕ) (b : Build) → slot_at (rings s) k ≡ Built b → c.base + (rings s).next / c.slots ≤ grace s
  pub freeing : (s k p first : ℕ) → slot_at (rings s) k ≡ Freeing p first → c.base + p / c.slots < grace s
  pub commit : (s k : ℕ) (x : Version) (note : CommitNote) → Lives rings s k x (Committed note) → c.base + x.position / c.slots < note.time
  pub dead : (s k t : ℕ) (x : Version) (note : CommitNote) → Lives rings s k x (Committed note) → note.dead ≡ Some t
      → c.base + x.position / c.slots < t
  pub aborted : (s k t : ℕ) (x : Version) → Lives rings s k x (Aborted (Some t)) → c.base + x.position / c.slots < t
