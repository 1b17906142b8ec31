-- The log stands for the pass: every note in it is a fact of the pass's view.
use Rattle.std.specs.Prelude.{◌≡◌, ◌≢◌, ℕ, zero, suc, ◌+◌, ◌<◌, ◌≤◌, ◌&&◌, not, nat_le, Bool, true, false, cond, List, [], ◌∷◌, length}
use Rattle.std.specs.Prelude.{map, count_by, sum_by, Option, Some, None, is_some}
use Rattle.mv_history.specs.declared.Commit.{Commit}
use Rattle.mv_history.specs.declared.Step.{Step}
use Rattle.mv_history.specs.declared.StepKind.{StepKind}
use Rattle.mv_history.specs.declared.StepKind.TheVariants.{LockHead, UnlockHead, StoreFree, CutHead}
use Rattle.mv_layout.specs.declared.Config.{Config}
use Rattle.mv_layout.specs.Words.{unset_of}
use Rattle.reader_marks.specs.mv_core.declared.ring.Ring.{Ring}
use Rattle.reader_marks.specs.mv_core.declared.ring.Slot.{Slot}
use Rattle.reader_marks.specs.mv_core.declared.ring.Slot.TheVariants.{Built, Live, Freeing}
use Rattle.reader_marks.specs.mv_core.declared.ring.Build.{Build}
use Rattle.reader_marks.specs.mv_core.declared.ring.Version.{Version}
use Rattle.reader_marks.specs.mv_core.declared.ring.WriteSetStatus.{WriteSetStatus}
use Rattle.reader_marks.specs.mv_core.declared.ring.WriteSetStatus.TheVariants.{Held, Aborted, Committed}
use Rattle.reader_marks.specs.mv_core.declared.view.Knowledge.{Knowledge}
use Rattle.reader_marks.specs.mv_core.Rings.{slot_at, index_of, held_count, spare_count}
use Rattle.seat_log.specs.declared.version.Note.{Note}
use Rattle.seat_log.specs.Notes.{Noted, next_of, held_from, IsNoteAt, IsLog}

-- the version that a note is of
abbrev pub version_of : Note → Version
version_of n =
    record { position = n.position; first = n.first; object = n.object; previous = n.previous; words = n.words }

-- a noted time of death; 0 is none
abbrev pub death_of : ℕ → Option ℕ
death_of zero = None
death_of (suc t) = Some (suc t)

-- What a note says of its version's write set, by whether it is one of those noted as held: a held one has no time; an aborted
-- one has its death; a committed one has its time, and its death if one is known, which it is once the version was cut.
abbrev pub IsAsNoted : Bool → Note → WriteSetStatus → Type 0
IsAsNoted held n Held = (held ≡ true) × (n.time ≡ 0) × (n.dead ≡ 0)
IsAsNoted held n (Aborted dead) = (held ≡ false) × (n.time ≡ 0) × (0 < n.dead) × (dead ≡ Some n.dead)
IsAsNoted held n (Committed note) =
    (held ≡ false) × (0 < n.time) × (n.time ≡ note.time) × (note.dead ≡ death_of n.dead) × (n.dead ≡ 0 → note.cut ≡ false)

-- the slot of a position has this version, as noted
pub record HasNoted (c : Config) (r : Ring) (position : ℕ) (held : Bool) (n : Note) : Type 0 where
  pub status : WriteSetStatus
  pub lives : slot_at r (index_of c position) ≡ Live (version_of n) status
  pub as_noted : IsAsNoted held n status

-- all words of the slot were stored, as noted: it may be locked
pub record IsAllStored (b : Build) (n : Note) : Type 0 where
  pub first : b.first ≡ Some n.first
  pub stamp : n.first ≡ n.position → b.stamp ≡ Some (unset_of n.position)
  pub previous : b.previous ≡ Some n.previous
  pub successor : b.successor ≡ Some 0
  pub words : b.words ≡ map Some n.words
  pub wide : length n.words ≡ 6

-- the slot of the next position has what is noted as built
abbrev pub HasBuilt : Config → Ring → Option Note → Type 0
HasBuilt c r None = Unit {0}
HasBuilt c r (Some n) = (b : Build) × (slot_at r (index_of c r.next) ≡ Built b) × IsAllStored b n

-- whether a slot has a version that was cut
abbrev pub is_cut : Slot → Bool
is_cut (Live x (Committed note)) = note.cut
is_cut _ = false

-- how many versions in the log were cut
abbrev pub cut_count : Ring → ℕ
cut_count r = count_by is_cut r.slots

-- whether a step of this kind frees a slot
abbrev pub is_free_kind : StepKind → Bool
is_free_kind StoreFree = true
is_free_kind _ = false

-- and whether it is an exchange of HEAD that cuts a chain
abbrev pub is_cut_kind : StepKind → Bool
is_cut_kind CutHead = true
is_cut_kind _ = false

-- a step that freed a slot
abbrev pub is_free : Step → Bool
is_free s = is_free_kind s.kind

-- an exchange that cut a chain: it was won, and so stored something
abbrev pub is_won_cut : Step → Bool
is_won_cut s = is_cut_kind s.kind && is_some s.stored

-- whether it is an exchange of HEAD that locks an object
abbrev pub is_lock_kind : StepKind → Bool
is_lock_kind LockHead = true
is_lock_kind _ = false

-- an exchange that locked an object: it was won, and so stored something
abbrev pub is_won_lock : Step → Bool
is_won_lock s = is_lock_kind s.kind && is_some s.stored

-- whether it is a store of HEAD that gives a locked object up
abbrev pub is_unlock_kind : StepKind → Bool
is_unlock_kind UnlockHead = true
is_unlock_kind _ = false

-- a step that gives a locked object up
abbrev pub is_unlock : Step → Bool
is_unlock s = is_unlock_kind s.kind

-- whether the last of these steps gives an object up; where there are none, as told
abbrev pub ends_unlocking : Bool → List Step → Bool
ends_unlocking before [] = before
ends_unlocking before (s ∷ steps) = ends_unlocking (is_unlock s) steps

-- how many of these steps give an object up and don't follow one that does, where `before` tells that of the step before them
abbrev pub unlocks_after : Bool → List Step → ℕ
unlocks_after before [] = 0
unlocks_after before (s ∷ steps) = cond (is_unlock s && not before) 1 0 + unlocks_after (is_unlock s) steps

-- The aborts among a seat's steps, of sections that held something. Such an abort gives up its objects one right after the other, and then
-- makes two steps of other kinds: so there is one for each step that gives an object up and doesn't follow another that does.
-- Cleared marks aren't counted instead: each step of entering and leaving would have to be told apart, and
-- loads of CLOCK come from write-backs too.
abbrev pub aborts_in : List Step → ℕ
aborts_in steps = unlocks_after false steps

-- how many writes these commits have
abbrev pub writes_in : List Commit → ℕ
writes_in cs = sum_by (λ (c : Commit). length c.writes) cs

-- The log stands for the pass: its live versions are those of the view's log, at their positions, and its counts are those of the
-- view. Each position that was ever in a chain was put there by a won exchange that locked, and by no other; so they are as many as
-- these. Each is of a write of a commit, held, or of an abort. No abort is under way.
pub record Stands (c : Config) (v : Knowledge) (l : Noted) : Type 0 where
  pub seat : l.seat ≡ v.number
  pub slots : l.slots ≡ c.slots
  pub wide : length v.ring.slots ≡ c.slots
  pub log : IsLog l
  pub next : v.ring.next ≡ next_of l
  pub held : held_count v.ring ≡ l.held
  pub live : (i : ℕ) (n : Note) → IsNoteAt l i n → HasNoted c v.ring (l.freed + i) (nat_le (held_from l) i) n
  pub all : (k : ℕ) (x : Version) (st : WriteSetStatus) → slot_at v.ring k ≡ Live x st → (i : ℕ) × (i < length l.live) × (k ≡ index_of c (l.freed + i))
  pub none_freeing : (k p first : ℕ) → slot_at v.ring k ≢ Freeing p first
  pub builds : (k : ℕ) (b : Build) → slot_at v.ring k ≡ Built b → length b.words ≡ 6
  pub built : HasBuilt c v.ring l.built
  pub spare : spare_count v.ring + length l.live ≡ c.slots
  pub commits : l.commits ≡ length v.past.mine
  pub rests : l.rests ≡ v.past.rests
  pub frees : l.freed ≡ count_by is_free v.trail
  pub backs : l.back ≡ count_by is_won_cut v.trail
  pub cuts : l.back ≤ l.freed + cut_count v.ring
  pub locks : next_of l ≡ count_by is_won_lock v.trail
  pub aborts : l.aborts ≡ aborts_in v.trail
  pub settled : ends_unlocking false v.trail ≡ false
  pub used : writes_in v.past.mine + l.held ≤ next_of l
  pub all_used : l.aborts ≡ 0 → next_of l ≡ writes_in v.past.mine + l.held
