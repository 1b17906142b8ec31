-- How far a tidy has come: what is known of its steps, of its scans, and of each version of the log.
use Rattle.std.proofs.Common.{◌≡◌, ℕ, ◌+◌, ◌<◌, ◌≤◌, Bool, true, false, List, [], ◌∷◌, ◌++◌, length, All, Option, Some, None}
use Rattle.mv_history.specs.declared.Step.{Step}
use Rattle.mv_history.specs.Trail.{clock_exchanges}
use Rattle.mv_layout.specs.Words.{clock_time_of}
use Rattle.mv_core.proofs.Terms.{Config}
use Rattle.mv_core.specs.declared.view.Knowledge.{Knowledge}
use Rattle.mv_core.specs.HistoryFacts.{BeginsWith}
use Rattle.mv_core.specs.ReclaimSteps.{FoundEmpty}
use Rattle.mv_core.specs.Known.{Known}
use Rattle.reader_marks.specs.declared.scanning.Watermark.{Watermark}
use Rattle.reader_marks.specs.Scans.{scan_step}
use Rattle.seat_log.specs.declared.version.Note.{Note}
use Rattle.log_reclaim.specs.Parts.{BeginsNoScan, DiesFrom, super_step}
use Rattle.log_reclaim.specs.Untimed.{TriedSo, StaysUntimed}
use Rattle.log_reclaim.specs.Holders.{ReadsMark, FindsLast}
use Rattle.log_reclaim.specs.Tidies.{RestsOnce}
use Rattle.replay_rules.specs.declared.seats.NotedVersion.{NotedVersion}
use Rattle.replay_rules.specs.declared.seats.Scanned.{Scanned}
use Rattle.replay_rules.specs.declared.seats.Sweep.{Sweep}
use Rattle.replay_rules.specs.declared.seats.State.{State}
use Rattle.replay_rules.specs.declared.seats.Ending.{Ending}
use Rattle.replay_rules.specs.declared.seats.Ending.TheVariants.{LoadNow}
use Rattle.replay_rules.specs.declared.seats.WriteBackEnd.{WriteBackEnd}
use Rattle.replay_rules.specs.declared.seats.WriteBackEnd.TheVariants.{WasCut, WasGone, WasAbove}
use Rattle.replay_rules.specs.declared.seats.Sweeping.{Sweeping}
use Rattle.replay_rules.specs.declared.seats.Sweeping.TheVariants.{LoadGrace, Free, LoadScan, LoadMark, RaiseGrace, LoadSuper, LoadTop, StoreMaster}
use Rattle.replay_rules.specs.declared.seats.Sweeping.TheVariants.{CutHead, LoadCutDeath, LeaveBack, LoadSuperAgain, NameRest}
use Rattle.replay_rules.specs.declared.seats.NextStep.TheVariants.{Enters, Helps, Walks, Locks, Writes, EndsSection, Tidies}
use Rattle.replay_rules.specs.SeatNotes.{version_at}
use Rattle.replay_rules.specs.States.{any_commit, any_start}
use Rattle.replay_rules.proofs.runs.Notes.{note_of}
use Rattle.replay_rules.proofs.runs.Sections.{RestsAt, helped_word}
use Rattle.replay_rules.proofs.answers.Progress.{FarOf}
use Rattle.replay_rules.proofs.answers.Tidying.Further.{Further}

-- the version at a position, as a note
abbrev pub note_in : List NotedVersion → ℕ → Note
note_in log i = note_of i (version_at log i)

-- what a scan found, as the watermark that it answers
abbrev pub mark_of : Scanned → Watermark
mark_of s = record { time = s.time; low = s.low; marked = true; seat = s.seat }

-- of the versions that are left nothing has changed but times of death, where there was none
pub record AreSame (old log : List NotedVersion) (began freed : ℕ) : Type 0 where
  pub long : length log ≡ length old
  pub low : began ≤ freed
  pub each : (i : ℕ) → freed ≤ i → i < length log → DiesFrom (note_in old i) (note_in log i)

-- the seat was at rest before the tidy, which has made these steps since
pub record HasCome (c : Config) (v0 v : Knowledge) (log : List NotedVersion) (freed from began : ℕ) : Type 0 where
  pub old : List NotedVersion
  pub rests : RestsAt c v0 old began from None
  pub known : Known any_start any_commit v0
  pub made : List Step
  pub further : Further v0 v made
  pub same : AreSame old log began freed

-- a scan among the steps found this low time, not above its time of CLOCK; one below is that of a mark that it read
pub record HasMarks (c : Config) (v : Knowledge) (made : List Step) (scan : Scanned) : Type 0 where
  pub low : scan.low ≤ scan.clock
  pub marked : scan.low < scan.clock → ReadsMark c v.number made scan.seat scan.low
  pub within : scan.clock ≤ v.base + length v.past.seen

-- the last scan among the steps found this time in CLOCK
pub record HasBegun (c : Config) (made : List Step) (clock : ℕ) : Type 0 where
  pub word : ℕ
  pub before : List Step
  pub after : List Step
  pub made_is : made ≡ before ++ scan_step c word ∷ after
  pub last : All (λ s. BeginsNoScan s.kind) after
  pub clock_is : clock ≡ clock_time_of word

-- a version is dead only after the last time where a step found that time in CLOCK
abbrev pub EndIsFound : List Step → List NotedVersion → ℕ → Type 0
EndIsFound made log freed = (i : ℕ) → freed ≤ i → i < length log → 35184372088831 < (version_at log i).dead → FindsLast made

-- each time of death up to the last time was seen
abbrev pub DeathsAreSeen : Knowledge → List NotedVersion → ℕ → Type 0
DeathsAreSeen v log freed =
    (i : ℕ) → freed ≤ i → i < length log → (version_at log i).dead ≤ 35184372088831 → (version_at log i).dead ≤ v.base + length v.past.seen

-- The first scan was made; and of each version before a position that has no time of death it is known why its write-back left it so.
pub record KnowsUntimed (c : Config) (v0 v : Knowledge) (made : List Step) (log : List NotedVersion) (freed up : ℕ) (first : Scanned) : Type 0 where
  pub read : HasMarks c v made first
  pub known : first.low ≤ first.time
  pub after : v0.base + length v0.past.seen ≤ first.clock
  pub ends : EndIsFound made log freed
  pub untimed : (i : ℕ) → freed ≤ i → i < length log → i < up → (version_at log i).dead ≡ 0
      → StaysUntimed c v made (mark_of first) first.clock true (note_in log i) (version_at log i).above

-- no rest was tried yet
abbrev pub AreUnrested : Knowledge → Knowledge → List Step → Type 0
AreUnrested v0 v made = (v.past.rests ≡ v0.past.rests) × (clock_exchanges made ≡ [])

-- at most one was
abbrev pub AreRested : Knowledge → Knowledge → List Step → Type 0
AreRested v0 v made = RestsOnce v0 v × (length (clock_exchanges made) ≤ 1)

-- the first round hasn't scanned yet
pub record IsOpening (v0 v : Knowledge) (made : List Step) (old log : List NotedVersion) (latest : ℕ) : Type 0 where
  pub log_is : log ≡ old
  pub unrested : AreUnrested v0 v made
  pub within : latest ≤ v.base + length v.past.seen

-- the first round has scanned, and looked at the versions before a position
pub record IsFirst (c : Config) (v0 v : Knowledge) (made : List Step) (log : List NotedVersion) (freed up : ℕ) (sweep : Sweep) : Type 0 where
  pub again : sweep.again ≡ false
  pub swept : sweep.swept ≡ true
  pub tried : KnowsUntimed c v0 v made log freed up sweep.first
  pub unrested : AreUnrested v0 v made
  pub latest : sweep.latest ≤ v.base + length v.past.seen
  pub same : sweep.last ≡ sweep.first

-- the second round has versions left
pub record IsSecond (c : Config) (v0 v : Knowledge) (made : List Step) (log : List NotedVersion) (freed : ℕ) (first : Scanned) : Type 0 where
  pub tried : KnowsUntimed c v0 v made log freed (length log) first
  pub deaths : DeathsAreSeen v log freed

-- its scan has begun, before which the seat had this view; it has made no entry since
pub record IsScanning (c : Config) (v : Knowledge) (made : List Step) (scan : Scanned) : Type 0 where
  pub before : Knowledge
  pub known : Known any_start any_commit before
  pub number : v.number ≡ before.number
  pub base : v.base ≡ before.base
  pub seen : BeginsWith v.past.seen before.past.seen
  pub mine : v.past.mine ≡ before.past.mine
  pub rests : v.past.rests ≡ before.past.rests
  pub from : before.base + length before.past.seen ≤ scan.clock
  pub read : HasMarks c v made scan
  pub begun : HasBegun c made scan.clock

-- and is whole
pub record ScanIsWhole (c : Config) (v : Knowledge) (made : List Step) (last : Scanned) (bound : ℕ) : Type 0 where
  pub scan : IsScanning c v made last
  pub known : last.low ≤ last.time
  pub bound_is : bound ≡ last.time

-- SUPER was found 0 in the version at a position, which is old enough to be written back
pub record LookedAt (c : Config) (v : Knowledge) (made : List Step) (log : List NotedVersion) (freed : ℕ) (first : Scanned) (at : ℕ) : Type 0 where
  pub low : freed ≤ at
  pub live : at < length log
  pub still : StaysUntimed c v made (mark_of first) first.clock false (note_in log at) None
  pub before : List Step
  pub later : List Step
  pub made_is : made ≡ before ++ super_step c v.number (note_in log at) ∷ later

module _ (c : Config) (v0 v : Knowledge) (made : List Step) (old log : List NotedVersion) (freed : ℕ) (sweep : Sweep) where
  -- a round that frees, by which it is, and whether it has scanned
  abbrev pub Frees : Bool → Bool → Type 0
  Frees false false = IsOpening v0 v made old log sweep.latest
  Frees false true = IsFirst c v0 v made log freed (length log) sweep
  Frees true false = AreRested v0 v made × (freed < length log → IsSecond c v0 v made log freed sweep.first)
  Frees true true = AreRested v0 v made × (freed < length log → IsSecond c v0 v made log freed sweep.first × ScanIsWhole c v made sweep.last sweep.bound)

  -- a round that scans
  abbrev pub Scans : Bool → Type 0
  Scans false = IsOpening v0 v made old log sweep.latest × HasMarks c v made sweep.last × (v0.base + length v0.past.seen ≤ sweep.last.clock)
      × EndIsFound made log freed
  Scans true = AreRested v0 v made × IsSecond c v0 v made log freed sweep.first × IsScanning c v made sweep.last

  -- a round that looks at the version at a position
  abbrev pub Looks : Bool → ℕ → Type 0
  Looks false at = IsFirst c v0 v made log freed at sweep
  Looks true at = (sweep.swept ≡ true) × AreRested v0 v made × IsSecond c v0 v made log freed sweep.first × ScanIsWhole c v made sweep.last sweep.bound

  -- a write-back of it is under way
  abbrev pub Backs : ℕ → Type 0
  Backs at = IsFirst c v0 v made log freed at sweep × LookedAt c v made log freed sweep.first at

  -- what it has come to when its section is left
  abbrev pub Leaves : ℕ → WriteBackEnd → Type 0
  Leaves at (WasCut dead) = 35184372088831 < dead → FindsLast made
  Leaves at WasGone = FoundEmpty v (version_at log at).object (version_at log at).time
  Leaves at (WasAbove above) = TriedSo c v made (mark_of sweep.first) sweep.first.clock (note_in log at) above

  -- a section that was entered since the tidy began is of a time that isn't before it
  abbrev pub IsLate : Option ℕ → Type 0
  IsLate (Some time) = v0.base + length v0.past.seen ≤ time
  IsLate None = ⊥

  -- a rest is tried from a clock word
  abbrev pub Rests : ℕ → Type 0
  Rests word = IsFirst c v0 v made log freed (length log) sweep × (clock_time_of word ≤ v.base + length v.past.seen)
      × ((i : ℕ) → freed ≤ i → i < length log → (version_at log i).dead ≤ clock_time_of word + 1)

  -- a help of a clock word: in the section of a write-back, or outside before a rest
  abbrev pub HelpsIn : Option ℕ → ℕ → Type 0
  HelpsIn (Some time) word = Backs sweep.at × (v0.base + length v0.past.seen ≤ time)
  HelpsIn None word = Rests word

module _ (c : Config) (v0 v : Knowledge) (log : List NotedVersion) (s : State) where
  -- what it has come to so far, and what holds of its steps besides
  abbrev Come : (List Step → List NotedVersion → Type 0) → Type 0
  Come P = (k : HasCome c v0 v log s.freed s.from s.sweep.began) × P k.made k.old

  abbrev pub SweepsFar : Sweeping → Type 0
  SweepsFar (LoadGrace false) = Come (λ made old. IsOpening v0 v made old log s.sweep.latest)
  SweepsFar (LoadGrace true) = Come (λ made old. Frees c v0 v made old log s.freed s.sweep true false)
  SweepsFar (Free at left) = Come (λ made old. Frees c v0 v made old log s.freed s.sweep s.sweep.again s.sweep.swept)
  SweepsFar LoadScan =
      (s.freed < length log) × (s.sweep.swept ≡ false) × Come (λ made old. Frees c v0 v made old log s.freed s.sweep s.sweep.again false)
  SweepsFar (LoadMark seat) = Come (λ made old. Scans c v0 v made old log s.freed s.sweep s.sweep.again)
  SweepsFar (RaiseGrace low) = Come (λ made old. Scans c v0 v made old log s.freed s.sweep s.sweep.again)
  SweepsFar (LoadSuper at) = Come (λ made old. Looks c v0 v made old log s.freed s.sweep s.sweep.again at)
  SweepsFar (LoadTop at object) =
      Come (λ made old. Backs c v0 v made old log s.freed s.sweep at × IsLate c v0 v made old log s.freed s.sweep s.time)
  SweepsFar (StoreMaster at object words word) = Come (λ made old. Backs c v0 v made old log s.freed s.sweep at)
  SweepsFar (CutHead at object) = Come (λ made old. Backs c v0 v made old log s.freed s.sweep at)
  SweepsFar (LoadCutDeath at) = Come (λ made old. Backs c v0 v made old log s.freed s.sweep at)
  SweepsFar (LeaveBack at back) =
      Come (λ made old. Backs c v0 v made old log s.freed s.sweep at × Leaves c v0 v made old log s.freed s.sweep at back)
  SweepsFar (LoadSuperAgain at) =
      Come (λ made old. Backs c v0 v made old log s.freed s.sweep at × Leaves c v0 v made old log s.freed s.sweep at WasGone)
  SweepsFar (NameRest word new) = Come (λ made old. Rests c v0 v made old log s.freed s.sweep word)

  abbrev pub EndsFar : Ending → Type 0
  EndsFar LoadNow = Come (λ made old. IsFirst c v0 v made log s.freed (length log) s.sweep)
  EndsFar step = ⊥

-- how far a tidy has come that goes on by this task
abbrev pub TidyFar : FarOf
TidyFar c n v0 v log s (Enters step) = Come c v0 v log s (λ made old. Backs c v0 v made old log s.freed s.sweep s.sweep.at)
TidyFar c n v0 v log s (Helps step) = Come c v0 v log s (λ made old. HelpsIn c v0 v made old log s.freed s.sweep s.time (helped_word step))
TidyFar c n v0 v log s (EndsSection step) = EndsFar c v0 v log s step
TidyFar c n v0 v log s (Tidies step) = SweepsFar c v0 v log s step
TidyFar c n v0 v log s (Walks o next) = ⊥
TidyFar c n v0 v log s (Locks version at next) = ⊥
TidyFar c n v0 v log s (Writes at words word) = ⊥
