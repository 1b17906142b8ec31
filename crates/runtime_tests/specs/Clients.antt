-- Where a client of a domain stands between two of its moves.
use Rattle.std.specs.Prelude.{◌≡◌, ℕ, ◌+◌, ◌<◌, ◌≤◌, List, All, Option, Some, None, Contains}
use Rattle.mv_history.specs.declared.rules.AnyRules.{AnyRules}
use Rattle.mv_layout.specs.declared.Config.{Config}
use Rattle.mv_layout.specs.Words.{clock_time_of}
use Rattle.mv_core.specs.declared.view.Knowledge.{Knowledge}
use Rattle.mv_core.specs.declared.view.Phase.TheVariants as phase
use Rattle.mv_core.specs.declared.view.OwnSection.{OwnSection}
use Rattle.mv_core.specs.declared.view.Mode.TheVariants.{Open}
use Rattle.mv_core.specs.declared.shared.Shared.{Shared}
use Rattle.mv_core.specs.declared.shared.Pass.{Pass}
use Rattle.mv_core.specs.Start.{starting_view}
use Rattle.mv_history.specs.declared.Protocol.{Ghosts}
use Rattle.mv_core.specs.Passes.{view, IsOf, config_of, start_of}
use Rattle.mv_core.specs.EnterSteps.{MayLoadLow, MayStoreMark, MayLoadTime}
use Rattle.commit_clock.specs.Helps.{HasLoaded}
use Rattle.reader_marks.specs.Sections.{IsOpen}
use Rattle.seat_log.specs.Notes.{Noted}
use Rattle.seat_log.specs.Stands.{Stands}
use Rattle.version_chain.specs.Walks.{MayWalk, StandsAt, HasFound}
use Rattle.object_lock.specs.declared.locking.StartedLock.{StartedLock}
use Rattle.object_lock.specs.Locks.{IsStarted}
use Rattle.commit_abort.specs.Finishes.{WonNaming, IsJustNamed}
use Rattle.log_reclaim.specs.Backs.{IsWriting}
use Rattle.runtime_tests.specs.declared.clients.Client.{Client}
use Rattle.runtime_tests.specs.declared.clients.Stage.{Stage}
use Rattle.runtime_tests.specs.declared.clients.Stage.TheVariants.{Outside, Lowered, Marked, Taken, Inside, Named, Locking, Loaded, Helped}
use Rattle.runtime_tests.specs.declared.clients.Stage.TheVariants.{WritingBack}
use Rattle.runtime_tests.specs.declared.clients.UnderWay.{UnderWay}
use Rattle.runtime_tests.specs.declared.clients.UnderWay.TheVariants.{Nothing, Walking, Ended, WriteBack}

-- outside a section, with no scan running; the log stands for the pass, and nothing is being built in it
pub record IsOutside (c : Config) (v : Knowledge) (l : Noted) : Type 0 where
  pub may : MayLoadLow v
  pub stands : Stands c v l
  pub unbuilt : l.built ≡ None

-- between the parts of a call: no scan is running, the log stands for the pass, and nothing is being built in it
pub record IsBetween (c : Config) (v : Knowledge) (l : Noted) : Type 0 where
  pub no_scan : v.scan ≡ None
  pub stands : Stands c v l
  pub unbuilt : l.built ≡ None

-- this low time was loaded
pub record HasLowered (c : Config) (v : Knowledge) (l : Noted) (low : ℕ) : Type 0 where
  pub may : MayStoreMark v low
  pub between : IsBetween c v l

-- the mark was stored
pub record HasMarked (c : Config) (v : Knowledge) (l : Noted) : Type 0 where
  pub may : MayLoadTime v
  pub between : IsBetween c v l

-- an open section began by the load of this word of CLOCK
pub record HasTaken (c : Config) (v : Knowledge) (l : Noted) (word : ℕ) : Type 0 where
  pub inside : OwnSection
  pub phase_is : v.phase ≡ phase.Inside inside
  pub open_is : inside.mode ≡ Open
  pub word_is : inside.word ≡ word
  pub loaded : HasLoaded v word
  pub no_back : v.back ≡ None
  pub between : IsBetween c v l

-- the word of CLOCK, if one is kept, was loaded and helped
abbrev pub HasHelped : Knowledge → Option ℕ → Type 0
HasHelped v word = (w : ℕ) → word ≡ Some w → Contains v.clocks.loaded w × Contains v.clocks.helped w

-- in an open section past its help
pub record IsInside (c : Config) (v : Knowledge) (l : Noted) (word : Option ℕ) : Type 0 where
  pub may : MayWalk v
  pub no_scan : v.scan ≡ None
  pub stands : Stands c v l
  pub unbuilt : l.built ≡ None
  pub helped : HasHelped v word

-- the last step of the pass named a commit of this time
pub record HasJustNamed (c : Config) (v : Knowledge) (l : Noted) (time : ℕ) : Type 0 where
  pub won : WonNaming
  pub named : IsJustNamed c v l won
  pub time_is : time ≡ clock_time_of won.word + 1
  pub within : time ≤ 35184372088831
  pub no_scan : v.scan ≡ None

-- a lock was begun in its section, and HEAD wasn't exchanged yet
pub record HasStarted (c : Config) (v : Knowledge) (l : Noted) (lock : StartedLock) : Type 0 where
  pub started : IsStarted c v l lock
  pub no_scan : v.scan ≡ None

-- outside a section, where this word of CLOCK was loaded
pub record HasClock (c : Config) (v : Knowledge) (l : Noted) (word : ℕ) : Type 0 where
  pub outside : IsOutside c v l
  pub loaded : HasLoaded v word

-- and was helped too
pub record HasHelpedClock (c : Config) (v : Knowledge) (l : Noted) (word : ℕ) : Type 0 where
  pub outside : IsOutside c v l
  pub loaded : Contains v.clocks.loaded word
  pub helped : Contains v.clocks.helped word

-- in an open section that holds nothing, in which a version is written back
pub record IsWritingBack (c : Config) (v : Knowledge) (l : Noted) : Type 0 where
  pub opened : IsOpen v
  pub between : IsBetween c v l

-- what holds at each stage
abbrev pub IsAt : Config → Knowledge → Noted → Stage → Type 0
IsAt c v l Outside = IsOutside c v l
IsAt c v l (Lowered low) = HasLowered c v l low
IsAt c v l Marked = HasMarked c v l
IsAt c v l (Taken word) = HasTaken c v l word
IsAt c v l (Inside word) = IsInside c v l word
IsAt c v l (Named time) = HasJustNamed c v l time
IsAt c v l (Locking lock) = HasStarted c v l lock
IsAt c v l (Loaded word) = HasClock c v l word
IsAt c v l (Helped word) = HasHelpedClock c v l word
IsAt c v l WritingBack = IsWritingBack c v l

-- the client is of this domain, and stands where its stage says
abbrev pub IsReady : Shared AnyRules → Client → Type 0
IsReady s client = IsOf s client.pass × IsAt (config_of s) (view client.pass) client.log client.stage

-- the view says of what is under way that it is: the walk stands at its link, or at what it ended at; or so many words of the
-- write-back were stored
abbrev pub IsUnderWay : Config → Knowledge → UnderWay → Type 0
IsUnderWay c v Nothing = Unit {0}
IsUnderWay c v (Walking object walk) = StandsAt c v walk × (walk.object ≡ object) × (object < c.objects)
IsUnderWay c v (Ended object found) = HasFound c v object found × (object < c.objects)
IsUnderWay c v (WriteBack back stored) = IsWriting c v back × (back.stored ≡ stored)

-- the client is ready, and can go on with what it has under way
abbrev pub IsPlayable : Shared AnyRules → Client → Type 0
IsPlayable s client = IsReady s client × IsUnderWay (config_of s) (view client.pass) client.under_way

-- each of them is so
abbrev pub AreReady : Shared AnyRules → List Client → Type 0
AreReady s clients = All (IsPlayable s) clients

-- the pass is as it was when the domain was opened
abbrev pub IsNew : {g : Ghosts AnyRules} → Shared AnyRules → Pass AnyRules g → Type 0
IsNew s pass = IsOf s pass × (view pass ≡ starting_view (config_of s) (start_of s) pass.number)
