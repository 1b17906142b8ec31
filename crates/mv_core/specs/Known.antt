-- What every pass knows of its own view, and what it has of it at run time.
use Rattle.std.specs.Prelude.{◌≡◌, ◌≢◌, ◌^◌, ℕ, ◌+◌, ◌<◌, ◌≤◌, List, length, Contains, All, false, Some, None}
use Rattle.mv_history.specs.State.{State, Writes, maker_of, commits_of, rests_of}
use Rattle.mv_history.specs.Legal.{AreWords, IsLegal, IsAllowed}
use Rattle.mv_layout.specs.declared.Config.{Config}
use Rattle.mv_layout.specs.Words.{clock_slot_of}
use Rattle.mv_core.specs.declared.ring.Slot.TheVariants.{Built, Live}
use Rattle.mv_core.specs.declared.ring.Build.{Build}
use Rattle.mv_core.specs.declared.ring.Version.{Version}
use Rattle.mv_core.specs.declared.ring.WriteSetStatus.{WriteSetStatus}
use Rattle.mv_core.specs.declared.ring.WriteSetStatus.TheVariants.{Held, Committed}
use Rattle.mv_core.specs.declared.ring.CommitNote.{CommitNote}
use Rattle.mv_core.specs.declared.view.Knowledge.{Knowledge}
use Rattle.mv_core.specs.declared.view.Phase.TheVariants.{Outside, Lowered, Inside}
use Rattle.mv_core.specs.declared.view.FoundStamp.{FoundStamp}
use Rattle.mv_core.specs.declared.view.WriteBack.{WriteBack}
use Rattle.mv_core.specs.declared.view.OwnSection.{OwnSection}
use Rattle.mv_core.specs.declared.view.WalkStage.TheVariants.{Nowhere}
use Rattle.mv_core.specs.declared.view.Mode.TheVariants.{Open, Named}
use Rattle.mv_core.specs.declared.view.Naming.{Naming}
use Rattle.mv_core.specs.Rings.{slot_at, HoldsNothing, held_count, set_first}
use Rattle.mv_core.specs.Times.{latest, latest_at, last_own, IsNextIn}
use Rattle.mv_core.specs.Views.{time_in, IsUnnamed}
use Rattle.mv_core.specs.SectionFacts.{IsWord}
use Rattle.mv_core.specs.ReclaimFacts.{death_in}

-- what a pass knows of a version that it holds: its object is one of the domain and wasn't written after the section's time, and it has six words
pub record KnownHeld (v : Knowledge) (inside : OwnSection) (x : Version) : Type 0 where
  pub in_range : x.object < length v.start
  pub wide : length x.words ≡ 6
  pub unwritten : latest v.base v.past.seen x.object ≤ time_in inside

-- what a pass knows of its section: its time was seen, while it has named nothing no entry of the seat is later, and the versions held are of distinct objects
pub record KnownSection (v : Knowledge) (inside : OwnSection) : Type 0 where
  pub seen : time_in inside ≤ v.base + length v.past.seen
  pub own : IsUnnamed inside.mode → last_own v.base v.past.seen v.number ≤ time_in inside
  pub held : (k : ℕ) (x : Version) → slot_at v.ring k ≡ Live x Held → KnownHeld v inside x
  pub apart : (k l : ℕ) (x y : Version) → slot_at v.ring k ≡ Live x Held → slot_at v.ring l ≡ Live y Held → x.object ≡ y.object → k ≡ l

-- what a pass knows of a committed version of its own log: its object is one of the domain, it has six words, its write was seen,
-- and a death noted while it isn't cut is that of the next write of its object that was seen
pub record KnownCommit (v : Knowledge) (x : Version) (note : CommitNote) : Type 0 where
  pub in_range : x.object < length v.start
  pub wide : length x.words ≡ 6
  pub after : v.base < note.time
  pub seen : note.time ≤ v.base + length v.past.seen
  pub written : latest_at v.base v.past.seen x.object note.time ≡ note.time
  pub superseded : (dead : ℕ) → note.cut ≡ false → note.dead ≡ Some dead → IsNextIn v.base v.past.seen x.object note.time dead

-- the opening state is lawful, what was seen is legal and allowed and has all its own commits and rests, its time is in range, and so is a
-- low time that was loaded, outside a section it holds nothing, walks nowhere and writes nothing back, a clock word that it loaded and that
-- names no commit counts as helped, an unset stamp was found for a word that names a commit, the position that it writes back fits a link,
-- and so do the next one while something is built for it and the first one of a commit that its section has named, and of its section and of the
-- versions of its own log it knows this
pub record Known (starts : State → Type 0) (allows : List ℕ → State → Writes → Type 0) (v : Knowledge) : Type 0 where
  pub unspent : v.spent ≡ false
  pub opening : starts v.start
  pub words : AreWords v.start
  pub legal : IsLegal (length v.start) v.past.seen
  pub allowed : IsAllowed allows v.start v.past.seen
  pub mine : v.past.mine ≡ commits_of v.number v.past.seen
  pub rests : v.past.rests ≡ rests_of v.number v.past.seen
  pub in_time : v.base + length v.past.seen ≤ 35184372088831
  pub lowered : (low : ℕ) → v.phase ≡ Lowered low → low ≤ 35184372088831
  pub none : (word : ℕ) → Contains v.clocks.loaded word → clock_slot_of word ≡ 8191 → Contains v.clocks.helped word
  pub found : (f : FoundStamp) → v.clocks.found ≡ Some f → clock_slot_of f.word ≢ 8191
  pub section : (inside : OwnSection) → v.phase ≡ Inside inside → KnownSection v inside
  pub idle : v.phase ≡ Outside → HoldsNothing v.ring
  pub still : v.phase ≡ Outside → (v.walk ≡ Nowhere) × (v.back ≡ None)
  pub back : (b : WriteBack) → v.back ≡ Some b → b.position < 2 ^ 57
  pub next : (k : ℕ) (b : Build) → slot_at v.ring k ≡ Built b → v.ring.next < 2 ^ 57
  pub named : (inside : OwnSection) (naming : Naming) → v.phase ≡ Inside inside → inside.mode ≡ Named naming → naming.first < 2 ^ 57
  pub commits : (k : ℕ) (x : Version) (note : CommitNote) → slot_at v.ring k ≡ Live x (Committed note) → KnownCommit v x note
  pub deaths : (k : ℕ) (x : Version) (st : WriteSetStatus) (dead : ℕ) → slot_at v.ring k ≡ Live x st → death_in st ≡ Some dead
      → dead ≤ v.base + length v.past.seen + 1

-- what a pass knows by the numbers of its domain: each clock word that it loaded, and that of the stamp that it found, names a seat and a
-- slot of the domain, or no commit, and each entry that it has seen is by a seat of the domain
abbrev pub KnownInDomain : Config → Knowledge → Type 0
KnownInDomain c v =
    ((word : ℕ) → Contains v.clocks.loaded word → IsWord c word) × ((f : FoundStamp) → v.clocks.found ≡ Some f → IsWord c f.word)
    × All (λ e. maker_of e < c.seats) v.past.seen

-- in a section this is its time
abbrev pub IsTimed : ℕ → Knowledge → Type 0
IsTimed time v = (inside : OwnSection) → v.phase ≡ Inside inside → time ≡ time_in inside

-- in an open section that holds something this is the first position of its write set
abbrev pub IsBegun : ℕ → Knowledge → Type 0
IsBegun first v = (inside : OwnSection) → v.phase ≡ Inside inside → inside.mode ≡ Open → 0 < held_count v.ring → first ≡ set_first v.ring

-- what a pass has at run time of the one view it has of the other too
abbrev pub RunsOn : Knowledge → Knowledge → Type 0
RunsOn v w = (time first : ℕ) → IsTimed time v → IsBegun first v → IsTimed time w × IsBegun first w
