-- What holds of sections: their marks, their clock words, the watermarks, and their commits.
use Rattle.std.specs.Prelude.{◌≡◌, ◌≢◌, ◌⊎◌, ℕ, ◌+◌, ◌<◌, ◌≤◌, true, List, length, Contains, Option, Some, None}
use Rattle.mv_history.specs.declared.Entry.{Entry}
use Rattle.mv_layout.specs.declared.Config.{Config}
use Rattle.mv_layout.specs.Words.{clock_time_of, clock_seat_of, clock_slot_of, unset_of}
use Rattle.mv_core.specs.declared.ring.Ring.{Ring}
use Rattle.mv_core.specs.declared.ring.Version.{Version}
use Rattle.mv_core.specs.declared.ring.WriteSetStatus.{WriteSetStatus}
use Rattle.mv_core.specs.declared.ring.WriteSetStatus.TheVariants.{Held, Committed}
use Rattle.mv_core.specs.declared.ring.CommitNote.{CommitNote}
use Rattle.mv_core.specs.declared.view.Past.{Past}
use Rattle.mv_core.specs.declared.view.Phase.{Phase}
use Rattle.mv_core.specs.declared.view.Phase.TheVariants.{Outside, Lowered, Marked, Inside}
use Rattle.mv_core.specs.declared.view.OwnSection.{OwnSection}
use Rattle.mv_core.specs.declared.view.Mode.TheVariants.{Open, Named}
use Rattle.mv_core.specs.declared.view.Naming.{Naming}
use Rattle.mv_core.specs.declared.view.LoadedClocks.{LoadedClocks}
use Rattle.mv_core.specs.declared.view.FoundStamp.{FoundStamp}
use Rattle.mv_core.specs.declared.view.Scan.{Scan}
use Rattle.mv_core.specs.declared.view.WalkStage.{WalkStage}
use Rattle.mv_core.specs.declared.view.WalkStage.TheVariants.{Nowhere}
use Rattle.mv_core.specs.declared.view.WriteBack.{WriteBack}
use Rattle.mv_core.specs.Rings.{index_of, HoldsNothing, Lives}
use Rattle.mv_core.specs.Times.{NotAbove, NotAboveAny, latest, last_own}
use Rattle.mv_core.specs.Views.{time_in, IsUnnamed}
use Rattle.mv_core.specs.SetFacts.{stamp_of, InHeldSet}

-- the mark of a seat, by its phase
abbrev pub MarkedAs : ℕ → ℕ → Phase → Type 0
MarkedAs clock mark Outside = mark ≡ 0
MarkedAs clock mark (Lowered low) = (mark ≡ 0) × (low ≤ clock_time_of clock)
MarkedAs clock mark (Marked low) = (mark ≡ 1 + low) × (low ≤ clock_time_of clock)
MarkedAs clock mark (Inside s) = (mark ≡ 1 + s.low) × (s.low ≤ time_in s) × (time_in s ≤ clock_time_of clock)

-- marks: each seat has the mark of its phase
abbrev pub Marks : ℕ → (ℕ → ℕ) → (ℕ → Phase) → Type 0
Marks clock mark phase = (s : ℕ) → MarkedAs clock (mark s) (phase s)

-- a section is past its help: its clock word was helped, or names no commit
abbrev pub IsPastHelp : LoadedClocks → OwnSection → Type 0
IsPastHelp clocks inside = Contains clocks.helped inside.word

-- stamped-past-help: where a section is past its help, every live commit up to its time is stamped
abbrev pub StampedPastHelp : Config → (ℕ → ℕ → ℕ) → (ℕ → Option OwnSection) → (ℕ → LoadedClocks) → (ℕ → Ring) → Type 0
StampedPastHelp c stamp section clocks rings =
    (s : ℕ) (inside : OwnSection) → section s ≡ Some inside → IsPastHelp (clocks s) inside
    → (t k : ℕ) (x : Version) (note : CommitNote) → Lives rings t k x (Committed note) → note.time ≤ time_in inside
    → stamp_of c stamp t x ≡ note.time

-- the clock word names a seat and a slot of the domain, or no commit
abbrev pub IsWord : Config → ℕ → Type 0
IsWord c word = clock_slot_of word ≢ 8191 → (clock_seat_of word < c.seats) × (clock_slot_of word < c.slots)

-- the word is in the clock, or was there before it
pub record WasClock (c : Config) (clock word : ℕ) : Type 0 where
  pub past : clock_time_of word ≤ clock_time_of clock
  pub same : clock_time_of word ≡ clock_time_of clock → word ≡ clock
  pub is_word : IsWord c word

-- loaded-words: each clock word that a view has was in the clock, and a loaded one that names no commit counts as helped
pub record LoadedWords (c : Config) (clock : ℕ) (section : ℕ → Option OwnSection) (clocks : ℕ → LoadedClocks) : Type 0 where
  pub clock_is : IsWord c clock
  pub loaded : (s word : ℕ) → Contains (clocks s).loaded word → WasClock c clock word
  pub none : (s word : ℕ) → Contains (clocks s).loaded word → clock_slot_of word ≡ 8191 → Contains (clocks s).helped word
  pub helped : (s word : ℕ) → Contains (clocks s).helped word → WasClock c clock word
  pub found : (s : ℕ) (f : FoundStamp) → (clocks s).found ≡ Some f → WasClock c clock f.word × (clock_slot_of f.word ≢ 8191)
  pub inside : (s : ℕ) (inside : OwnSection) → section s ≡ Some inside → WasClock c clock inside.word

-- a clock word is no longer in the clock, names no commit, or names one that is stamped
abbrev pub IsDone : ℕ → (ℕ → ℕ → ℕ) → ℕ → Type 0
IsDone clock stamp word =
    (clock ≢ word) ⊎ ((clock_slot_of word ≡ 8191) ⊎ (stamp (clock_seat_of word) (clock_slot_of word) ≡ clock_time_of word))

-- helped-words: each clock word that a view says it helped is done
abbrev pub HelpedWords : ℕ → (ℕ → ℕ → ℕ) → (ℕ → LoadedClocks) → Type 0
HelpedWords clock stamp clocks = (s word : ℕ) → Contains (clocks s).helped word → IsDone clock stamp word

-- the commit that a clock word names is live, this is its first version, and this its unset stamp
pub record IsNamedCommit (rings : ℕ → Ring) (word : ℕ) (unset : ℕ) : Type 0 where
  pub version : Version
  pub note : CommitNote
  pub lives : Lives rings (clock_seat_of word) (clock_slot_of word) version (Committed note)
  pub first_is : version.position ≡ version.first
  pub time_is : note.time ≡ clock_time_of word
  pub unset_is : unset ≡ unset_of version.first

-- an unset stamp that was found for a clock word is of a used position in the slot that the word names; if that position is live
-- it is the commit that the word names, and if not, the stamp there is another
pub record IsFound (c : Config) (stamp : ℕ → ℕ → ℕ) (rings : ℕ → Ring) (f : FoundStamp) : Type 0 where
  pub position : ℕ
  pub unset_is : f.unset ≡ unset_of position
  pub slot_is : index_of c position ≡ clock_slot_of f.word
  pub used : position < (rings (clock_seat_of f.word)).next
  pub live : (x : Version) (st : WriteSetStatus) → Lives rings (clock_seat_of f.word) (clock_slot_of f.word) x st → x.position ≡ position
      → (x.first ≡ position) × ((note : CommitNote) × (st ≡ Committed note) × (note.time ≡ clock_time_of f.word))
  pub gone : ((x : Version) (st : WriteSetStatus) → Lives rings (clock_seat_of f.word) (clock_slot_of f.word) x st → x.position ≢ position)
      → stamp (clock_seat_of f.word) (clock_slot_of f.word) ≢ f.unset

-- found-stamp: an unset stamp that a view found is the commit's own while the clock has its word, and is what it seems once the word was checked
pub record FoundStamps (c : Config) (clock : ℕ) (stamp : ℕ → ℕ → ℕ) (clocks : ℕ → LoadedClocks) (rings : ℕ → Ring) : Type 0 where
  pub now : (s : ℕ) (f : FoundStamp) → (clocks s).found ≡ Some f → clock ≡ f.word → IsNamedCommit rings f.word f.unset
  pub checked : (s : ℕ) (f : FoundStamp) → (clocks s).found ≡ Some f → f.checked ≡ true → IsFound c stamp rings f

-- a running scan: its least time is not above its clock, which is not above the clock, nor above the time of any section that it has scanned
abbrev pub ScanIs : ℕ → (ℕ → Option ℕ) → Option Scan → Type 0
ScanIs clock time None = Unit {0}
ScanIs clock time (Some scan) =
    (scan.least ≤ scan.clock) × (scan.clock ≤ clock_time_of clock) × ((s : ℕ) → s < scan.next → NotAbove scan.least (time s))

-- grace: each watermark, and GRACE, is not above the time of any section nor the clock's
pub record Grace (clock word : ℕ) (time : ℕ → Option ℕ) (grace : ℕ → ℕ) (scan : ℕ → Option Scan) : Type 0 where
  pub views : (s : ℕ) → (grace s ≤ clock_time_of clock) × NotAboveAny (grace s) time
  pub shared : (word ≤ clock_time_of clock) × NotAboveAny word time
  pub scans : (s : ℕ) → ScanIs clock time (scan s)

-- lock-freshness: a held version is of a seat in a section and of an object of the domain, which was last written at or before that section's time
abbrev pub LockFreshness : Config → List Entry → (ℕ → Option ℕ) → (ℕ → Ring) → Type 0
LockFreshness c h time rings =
    (s k : ℕ) (x : Version) → Lives rings s k x Held → (t : ℕ) × (time s ≡ Some t) × (latest c.base h x.object ≤ t) × (x.object < c.objects)

-- what holds of a section whose commit was named
pub record NamedIs (c : Config) (h : List Entry) (stamp : ℕ → ℕ → ℕ) (rings : ℕ → Ring) (s : ℕ) (inside : OwnSection) (n : Naming) : Type 0 where
  pub later : time_in inside < n.time
  pub last : last_own c.base h s ≡ n.time
  pub nothing : HoldsNothing (rings s)
  pub version : Version
  pub note : CommitNote
  pub lives : Lives rings s (index_of c n.first) version (Committed note)
  pub position_is : version.position ≡ n.first
  pub first_is : version.first ≡ n.first
  pub time_is : note.time ≡ n.time
  pub stamped : n.stamped ≡ true → stamp s (index_of c n.first) ≡ n.time

-- named-commit: the commit that a section named is its seat's last entry and live, and nothing is held any more
abbrev pub NamedCommit : Config → List Entry → (ℕ → ℕ → ℕ) → (ℕ → Option OwnSection) → (ℕ → Ring) → Type 0
NamedCommit c h stamp section rings =
    (s : ℕ) (inside : OwnSection) (n : Naming) → section s ≡ Some inside → inside.mode ≡ Named n → NamedIs c h stamp rings s inside n

-- open-section: the seat of a section that has named nothing made no entry after its time; held slots exist only there, in one
-- write set, which is whole while the section is open
pub record OpenSection (c : Config) (h : List Entry) (section : ℕ → Option OwnSection) (rings : ℕ → Ring) : Type 0 where
  pub own : (s : ℕ) (inside : OwnSection) → section s ≡ Some inside → IsUnnamed inside.mode → last_own c.base h s ≤ time_in inside
  pub held : (s k : ℕ) (x : Version) → Lives rings s k x Held → (inside : OwnSection) × (section s ≡ Some inside) × IsUnnamed inside.mode
  pub one_set : (s k l : ℕ) (x y : Version) → Lives rings s k x Held → Lives rings s l y Held → x.first ≡ y.first
  pub whole : (s k : ℕ) (x : Version) (inside : OwnSection) → Lives rings s k x Held → section s ≡ Some inside → inside.mode ≡ Open → (p : ℕ)
      → x.first ≤ p → p < (rings s).next → InHeldSet c rings s x.first p (λ st. st ≡ Held)

-- phases-and-scan: a scan runs only outside; outside a section there is no walk and no write-back; a section's time was seen;
-- sections are of the domain's seats
pub record PhasesAndScan (c : Config) (past : ℕ → Past) (phase : ℕ → Phase) (time : ℕ → Option ℕ) (walk : ℕ → WalkStage)
    (back : ℕ → Option WriteBack) (scan : ℕ → Option Scan) : Type 0 where
  pub scanning : (s : ℕ) (running : Scan) → scan s ≡ Some running → phase s ≡ Outside
  pub outside : (s : ℕ) → time s ≡ None → (walk s ≡ Nowhere) × (back s ≡ None)
  pub seen : (s t : ℕ) → time s ≡ Some t → t ≤ c.base + length (past s).seen
  pub within : (s t : ℕ) → time s ≡ Some t → s < c.seats
