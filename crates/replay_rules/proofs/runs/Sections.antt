-- What a seat of a replay is at, by its view: its notes, its section, and the next step of an entering, a help and a walk.
use Rattle.std.proofs.Common.{◌≡◌, ◌≢◌, ◌⊎◌, ℕ, ◌+◌, ◌<◌, ◌≤◌, ◌^◌, true, false, List, length, Option, Some, None, Contains, slice_index, drop, max}
use Rattle.mv_layout.specs.Words.{clock_time_of, clock_slot_of, IsUnset}
use Rattle.mv_core.proofs.Terms.{Config}
use Rattle.mv_core.specs.declared.view.Knowledge.{Knowledge}
use Rattle.mv_core.specs.declared.view.OwnSection.{OwnSection}
use Rattle.mv_core.specs.declared.view.Stand.{Stand}
use Rattle.mv_core.specs.declared.view.Phase.TheVariants.{Outside, Lowered, Marked, Inside}
use Rattle.mv_core.specs.declared.view.Mode.TheVariants.{Open}
use Rattle.mv_core.specs.declared.view.WalkStage.TheVariants as walk
use Rattle.mv_core.specs.Views.{time_in}
use Rattle.mv_core.specs.WalkSteps.{IsWalking, word_read}
use Rattle.mv_core.specs.LockSteps.{StandsToLock}
use Rattle.seat_log.specs.Notes.{Noted}
use Rattle.seat_log.specs.Stands.{Stands}
use Rattle.replay_rules.specs.declared.plan.Call.{Call}
use Rattle.replay_rules.specs.declared.plan.Call.TheVariants.{Enter, Read, Lock, Write, Commit, Abort, Leave, Tidy}
use Rattle.replay_rules.specs.declared.plan.CallOf.{CallOf}
use Rattle.replay_rules.specs.declared.seats.NotedVersion.{NotedVersion}
use Rattle.replay_rules.specs.declared.seats.Sweep.{Sweep}
use Rattle.replay_rules.specs.declared.seats.Entering.{Entering}
use Rattle.replay_rules.specs.declared.seats.Entering.TheVariants.{LoadLow, StoreMark, LoadTime}
use Rattle.replay_rules.specs.declared.seats.Helping.{Helping}
use Rattle.replay_rules.specs.declared.seats.Helping.TheVariants.{LoadNamed, LoadCheck, SwapStamp}
use Rattle.replay_rules.specs.declared.seats.Walking.{Walking}
use Rattle.replay_rules.specs.declared.seats.Walking.TheVariants.{LoadHead, LoadFirst, LoadStamp, LoadPrev, LoadWord}
use Rattle.replay_rules.specs.declared.seats.Ending.TheVariants.{Leave}
use Rattle.replay_rules.specs.declared.seats.NextStep.{NextStep}
use Rattle.replay_rules.specs.SeatNotes.{version_at}
use Rattle.replay_rules.specs.Runs.{SeatOf}
use Rattle.replay_rules.proofs.runs.Notes.{notes_from}

-- a seat by its parts
abbrev pub seat_with : ℕ → List NotedVersion → ℕ → ℕ → Option ℕ → Call → Sweep → Option NextStep → List CallOf → SeatOf
seat_with n log freed from time call sweep task left = record {
  log = log;
  state = record { seat = n; time = time; from = from; freed = freed; call = call; sweep = sweep };
  task = task;
  left = left;
}

-- What a log has noted is these versions: the first ones were freed, and those from a place on are held.
pub record IsNoted (c : Config) (l : Noted) (log : List NotedVersion) (freed from : ℕ) : Type 0 where
  pub live : l.live ≡ notes_from freed (drop freed log)
  pub gone : l.freed ≡ freed
  pub within : freed ≤ length log
  pub unbuilt : l.built ≡ None
  pub held : l.held + from ≡ length log
  pub few : l.held ≤ c.write_max

-- the versions that a seat notes stand for its view
pub record Logs (c : Config) (v : Knowledge) (log : List NotedVersion) (freed from : ℕ) : Type 0 where
  pub noted : Noted
  pub stands : Stands c v noted
  pub is : IsNoted c noted log freed from

-- an open section past its help, of this time
pub record InSection (c : Config) (v : Knowledge) (log : List NotedVersion) (freed from : ℕ) (time : Option ℕ) : Type 0 where
  pub section : OwnSection
  pub walking : IsWalking v section
  pub time_is : time ≡ Some (time_in section)
  pub logs : Logs c v log freed from

-- a seat that is in no call, by the time of its section
abbrev pub RestsAt : Config → Knowledge → List NotedVersion → ℕ → ℕ → Option ℕ → Type 0
RestsAt c v log freed from None = (v.phase ≡ Outside) × (from ≡ length log) × Logs c v log freed from
RestsAt c v log freed from (Some t) = InSection c v log freed from (Some t)

-- the next step of an entering
abbrev pub EntersAt : Knowledge → Entering → Type 0
EntersAt v LoadLow = v.phase ≡ Outside
EntersAt v (StoreMark mark) = (low : ℕ) × (v.phase ≡ Lowered low) × (mark ≡ 1 + low)
EntersAt v LoadTime = (low : ℕ) × (v.phase ≡ Marked low)

-- the next step of a help
abbrev pub HelpsAt : Knowledge → Helping → Type 0
HelpsAt v (LoadNamed word) = Contains v.clocks.loaded word × (clock_slot_of word ≢ 8191)
HelpsAt v (LoadCheck word unset) = Contains v.clocks.loaded word × (v.clocks.found ≡ Some (record { word = word; unset = unset; checked = false }))
HelpsAt v (SwapStamp word unset) = Contains v.clocks.loaded word × (v.clocks.found ≡ Some (record { word = word; unset = unset; checked = true }))

-- the clock word that is helped
abbrev pub helped_word : Helping → ℕ
helped_word (LoadNamed word) = word
helped_word (LoadCheck word unset) = word
helped_word (SwapStamp word unset) = word

-- an open section whose clock word is this, and isn't helped yet
pub record BeforeHelp (c : Config) (v : Knowledge) (log : List NotedVersion) (freed from : ℕ) (time : Option ℕ) (word : ℕ) : Type 0 where
  pub section : OwnSection
  pub phase : v.phase ≡ Inside section
  pub open_is : section.mode ≡ Open
  pub no_back : v.back ≡ None
  pub word_is : section.word ≡ word
  pub time_is : time ≡ Some (time_in section)
  pub logs : Logs c v log freed from

-- What a tidy writes back: the version at a position, which is committed and has no time of death yet, and whose time the watermark has reached.
pub record IsBack (grace : ℕ) (log : List NotedVersion) (freed at : ℕ) : Type 0 where
  pub unfreed : freed ≤ at
  pub live : at < length log
  pub no_death : (version_at log at).dead ≡ 0
  pub known : (version_at log at).time ≤ grace

-- the times up to which a tidy frees and writes back aren't above the watermark
abbrev pub IsSwept : ℕ → Sweep → Type 0
IsSwept grace sweep = (sweep.bound ≤ grace) × (sweep.last.time ≤ grace)

-- with a time that was found in CLOCK
abbrev pub later : Sweep → ℕ → Sweep
later sweep word = record sweep { latest = max sweep.latest (clock_time_of word) }

-- a tidy that is to write back, in a section that holds nothing
abbrev pub BacksUp : ℕ → List NotedVersion → ℕ → ℕ → Sweep → Type 0
BacksUp grace log freed from sweep = IsBack grace log freed sweep.at × IsSwept grace sweep × (from ≡ length log)

-- the call of an entering
abbrev pub EntersFor : ℕ → List NotedVersion → ℕ → ℕ → Sweep → Call → Type 0
EntersFor grace log freed from sweep Enter = Unit
EntersFor grace log freed from sweep Tidy = BacksUp grace log freed from sweep
EntersFor grace log freed from sweep Commit = ⊥
EntersFor grace log freed from sweep (Read o) = ⊥
EntersFor grace log freed from sweep (Lock o) = ⊥
EntersFor grace log freed from sweep (Write o words) = ⊥
EntersFor grace log freed from sweep Abort = ⊥
EntersFor grace log freed from sweep Leave = ⊥

-- the call that helps a clock word: an entering, a commit of what is held, or a tidy that is to write back or to make a rest
abbrev pub HelpsFor : Config → Knowledge → List NotedVersion → ℕ → ℕ → Option ℕ → Sweep → ℕ → Call → Type 0
HelpsFor c v log freed from time sweep word Enter = BeforeHelp c v log freed from time word
HelpsFor c v log freed from time sweep word Commit = InSection c v log freed from time × (from < length log)
HelpsFor c v log freed from time sweep word Tidy =
    (BeforeHelp c v log freed from time word × BacksUp v.grace log freed from sweep) ⊎ (RestsAt c v log freed from None × (time ≡ None))
HelpsFor c v log freed from time sweep word (Read o) = ⊥
HelpsFor c v log freed from time sweep word (Lock o) = ⊥
HelpsFor c v log freed from time sweep word (Write o words) = ⊥
HelpsFor c v log freed from time sweep word Abort = ⊥
HelpsFor c v log freed from time sweep word Leave = ⊥

-- a section may hold one object more, which it doesn't hold: there is room for it
pub record MayHold (c : Config) (log : List NotedVersion) (freed from o : ℕ) : Type 0 where
  pub unheld : (i : ℕ) → from ≤ i → i < length log → (version_at log i).object ≢ o
  pub few : length log < from + c.write_max
  pub room : length log < freed + c.slots

-- the call of a walk
abbrev pub WalksFor : Config → List NotedVersion → ℕ → ℕ → ℕ → Call → Type 0
WalksFor c log freed from o (Read p) = o ≡ p
WalksFor c log freed from o (Lock p) = (o ≡ p) × MayHold c log freed from o
WalksFor c log freed from o Enter = ⊥
WalksFor c log freed from o (Write p words) = ⊥
WalksFor c log freed from o Commit = ⊥
WalksFor c log freed from o Abort = ⊥
WalksFor c log freed from o Leave = ⊥
WalksFor c log freed from o Tidy = ⊥

-- the walk stands at a link of the object
pub record StandsAt (v : Knowledge) (o link : ℕ) : Type 0 where
  pub stand : Stand
  pub at : v.walk ≡ walk.At stand
  pub object_is : stand.object ≡ o
  pub link_is : stand.link ≡ link

-- six words of 64 bits, of which so many, the first ones, are those of the object in the section's state
pub record WordsSoFar (c : Config) (v : Knowledge) (s : OwnSection) (o : ℕ) (words : List ℕ) (w : ℕ) : Type 0 where
  pub wide : length words ≡ 6
  pub small : (i : ℕ) → slice_index words i < 2 ^ 64
  pub are : (i : ℕ) → i < w → slice_index words i ≡ word_read c v s o i

-- the next step of a walk of this section
abbrev pub WalksAt : Config → Knowledge → OwnSection → ℕ → Walking → Type 0
WalksAt c v s o LoadHead = Unit
WalksAt c v s o (LoadFirst link) = StandsAt v o link
WalksAt c v s o (LoadStamp link first) = (at : StandsAt v o link) × (at.stand.first ≡ Some first)
WalksAt c v s o (LoadPrev link) = (at : StandsAt v o link) × (found : ℕ) × (at.stand.stamp ≡ Some found) × (IsUnset found ⊎ (time_in s < found))
WalksAt c v s o (LoadWord link words w) = (w < 6) × (link < 2 ^ 64) × StandsToLock v s o link × WordsSoFar c v s o words w
