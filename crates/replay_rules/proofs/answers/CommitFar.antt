-- How far a commit has come: its load of CLOCK, the help of the word found, the exchange of CLOCK, and the finish.
use Rattle.std.proofs.Common.{◌≡◌, ◌≢◌, ℕ, ◌+◌, ◌-◌, ◌<◌, ◌≤◌, List, length}
use Rattle.mv_history.specs.declared.Entry.{Entry}
use Rattle.mv_layout.specs.Words.{clock_time_of}
use Rattle.mv_core.proofs.Terms.{Config}
use Rattle.mv_core.specs.declared.view.Knowledge.{Knowledge}
use Rattle.mv_core.specs.declared.view.Phase.TheVariants.{Inside}
use Rattle.mv_core.specs.declared.view.Mode.TheVariants.{Open}
use Rattle.mv_core.specs.Known.{Known}
use Rattle.mv_core.specs.Rings.{held_count}
use Rattle.mv_core.specs.SectionFacts.{IsPastHelp}
use Rattle.mv_core.specs.EnterSteps.{IsWhole, check_loaded}
use Rattle.mv_core.specs.NameSteps.{commit_named}
use Rattle.reader_marks.specs.Sections.{section_in}
use Rattle.commit_clock.specs.Helps.{Helps}
use Rattle.commit_abort.specs.Finishes.{IsFinishStep}
use Rattle.replay_rules.specs.declared.seats.NotedVersion.{NotedVersion}
use Rattle.replay_rules.specs.declared.seats.Helping.{Helping}
use Rattle.replay_rules.specs.declared.seats.Ending.{Ending}
use Rattle.replay_rules.specs.declared.seats.Ending.TheVariants.{LoadNow, Name, StampOwn, StoreSuper, Unlock, LoadDeath, Leave}
use Rattle.replay_rules.specs.declared.seats.Leaving.TheVariants.{Plainly, WithCommit, WithAbort}
use Rattle.replay_rules.specs.declared.seats.NextStep.TheVariants as task
use Rattle.replay_rules.specs.Kinds.{no_tag}
use Rattle.replay_rules.specs.States.{any_commit, any_start}
use Rattle.replay_rules.proofs.runs.Sections.{helped_word}
use Rattle.replay_rules.proofs.answers.Trails.{Grows}
use Rattle.replay_rules.proofs.answers.Helps.{HelpFar}
use Rattle.replay_rules.proofs.answers.Progress.{FarOf}

-- the section that a commit is of: it is open and past its help, and holds what the notes say
pub record Opens (v : Knowledge) (log : List NotedVersion) (from : ℕ) : Type 0 where
  pub phase : v.phase ≡ Inside (section_in v)
  pub open_is : (section_in v).mode ≡ Open
  pub past_help : IsPastHelp v.clocks (section_in v)
  pub held : held_count v.ring + from ≡ length log

-- the first step of the commit loaded this word of CLOCK, whose time isn't the last one
pub record LoadedNow (c : Config) (v x : Knowledge) (word : ℕ) : Type 0 where
  pub history : List Entry
  pub whole : IsWhole c v word history
  pub is : x ≡ check_loaded c v word history
  pub knows : Known any_start any_commit x
  pub early : clock_time_of word ≢ 35184372088831

-- the word that the commit loaded is being helped
pub record HelpingNow (c : Config) (v w : Knowledge) (step : Helping) : Type 0 where
  pub loaded_by : Knowledge
  pub loaded : LoadedNow c v loaded_by (helped_word step)
  pub far : HelpFar c loaded_by w step

-- and was
pub record HelpedNow (c : Config) (v y : Knowledge) (word : ℕ) : Type 0 where
  pub loaded_by : Knowledge
  pub loaded : LoadedNow c v loaded_by word
  pub helps : Helps c loaded_by y word

-- the exchange of CLOCK from that word was won, and named the commit of this time
pub record NamedNow (c : Config) (v z : Knowledge) (time : ℕ) : Type 0 where
  pub word : ℕ
  pub before : Knowledge
  pub helped : HelpedNow c v before word
  pub time_is : time ≡ clock_time_of word + 1
  pub history : List Entry
  pub whole : IsWhole c before word history
  pub is : z ≡ commit_named c before (section_in v) no_tag word history

-- Since the view z at most so many steps were made, each of a finish. Nothing else changed but the phase, the clock words and the log.
pub record FinishingBy (z w : Knowledge) (made : ℕ) : Type 0 where
  pub trail : Grows IsFinishStep made z.trail w.trail
  pub rest : w ≡ record z { phase = w.phase; clocks = w.clocks; ring = w.ring; trail = w.trail }

-- a commit that was named is being finished
pub record Finishing (c : Config) (v w : Knowledge) (time made : ℕ) : Type 0 where
  pub at_name : Knowledge
  pub named : NamedNow c v at_name time
  pub by_steps : FinishingBy at_name w made

-- how far a commit has come, by its next step
abbrev pub CommittingFar : Config → Knowledge → Knowledge → List NotedVersion → ℕ → Ending → Type 0
CommittingFar c v w log from LoadNow = Opens v log from × (w ≡ v)
CommittingFar c v w log from (Name word new) = Opens v log from × HelpedNow c v w word
CommittingFar c v w log from (StampOwn first time) = Opens v log from × NamedNow c v w time
CommittingFar c v w log from (StoreSuper at link time) =
    Opens v log from × (from ≤ at) × (at < length log) × Finishing c v w time (at + 1 - from)
CommittingFar c v w log from (Leave (WithCommit time)) = Opens v log from × Finishing c v w time (held_count v.ring + 1)
CommittingFar c v w log from (Leave Plainly) = ⊥
CommittingFar c v w log from (Leave (WithAbort dead)) = ⊥
CommittingFar c v w log from (Unlock at object previous) = ⊥
CommittingFar c v w log from LoadDeath = ⊥

abbrev pub CommitFar : FarOf
CommitFar c n v0 v log s (task.EndsSection step) = CommittingFar c v0 v log s.from step
CommitFar c n v0 v log s (task.Helps step) = Opens v0 log s.from × HelpingNow c v0 v step
CommitFar c n v0 v log s (task.Enters step) = ⊥
CommitFar c n v0 v log s (task.Walks object next) = ⊥
CommitFar c n v0 v log s (task.Locks version at next) = ⊥
CommitFar c n v0 v log s (task.Writes at words word) = ⊥
CommitFar c n v0 v log s (task.Tidies step) = ⊥
