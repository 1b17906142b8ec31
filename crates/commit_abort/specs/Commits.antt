-- Committing what a section holds: what the call needs of the view, what it answers, and what it leaves.
use Rattle.std.specs.Prelude.{◌≡◌, ◌≢◌, ℕ, ◌+◌, ◌-◌, ◌<◌, ◌≤◌, List, [], ◌∷◌, ◌++◌, length, Some, None, slice_get}
use Rattle.mv_history.specs.declared.Entry.{Entry}
use Rattle.mv_history.specs.declared.Entry.TheVariants.{Change}
use Rattle.mv_history.specs.declared.Step.{Step}
use Rattle.mv_history.specs.declared.StepKind.TheVariants.{LoadCheck, NameCommit}
use Rattle.mv_history.specs.declared.answers.Rival.{Rival}
use Rattle.mv_history.specs.State.{State, Writes, maker_of, state_at}
use Rattle.mv_history.specs.Drift.{IsFit}
use Rattle.mv_history.specs.Trail.{commit_exchanges, IsOneWon}
use Rattle.mv_layout.specs.declared.Config.{Config}
use Rattle.mv_layout.specs.Words.{clock_time_of, clock_seat_of}
use Rattle.seat_log.specs.mv_core.declared.view.Knowledge.{Knowledge}
use Rattle.seat_log.specs.mv_core.declared.view.Phase.TheVariants.{Outside, Inside}
use Rattle.seat_log.specs.mv_core.declared.view.OwnSection.{OwnSection}
use Rattle.seat_log.specs.mv_core.declared.view.Mode.TheVariants.{Open}
use Rattle.seat_log.specs.mv_core.declared.view.WalkStage.TheVariants.{Nowhere}
use Rattle.seat_log.specs.mv_core.Rings.{held_count, own_of}
use Rattle.seat_log.specs.mv_core.Times.{IsEntry}
use Rattle.seat_log.specs.mv_core.Views.{no_clocks, time_in}
use Rattle.seat_log.specs.mv_core.HistoryFacts.{BeginsWith}
use Rattle.seat_log.specs.mv_core.SectionFacts.{IsPastHelp}
use Rattle.seat_log.specs.mv_core.EnterSteps.{IsWhole}
use Rattle.seat_log.specs.mv_core.NameSteps.{commit_of}
use Rattle.seat_log.specs.Notes.{Noted, committed_noted}
use Rattle.commit_abort.specs.declared.committing.Ended.{Ended}
use Rattle.commit_abort.specs.declared.committing.Ended.TheVariants.{Done, Again, End}

-- an open section past its help holds something, and the drift condition holds of the tag
pub record MayCommit (allows : List ℕ → State → Writes → Type 0) (c : Config) (v : Knowledge) (tag : List ℕ) (inside : OwnSection) : Type 0 where
  pub phase : v.phase ≡ Inside inside
  pub open_is : inside.mode ≡ Open
  pub past_help : IsPastHelp v.clocks inside
  pub some_held : 0 < held_count v.ring
  pub fit : IsFit allows (state_at v.start v.past.seen (time_in inside - c.base)) tag (own_of c v.ring)

-- the first step of this call loaded this word of CLOCK, with all that had been seen before it in its history; the trail has at most so many steps more
pub record LoadsClock (c : Config) (v w : Knowledge) (word most : ℕ) (steps : List Step) : Type 0 where
  pub trail : w.trail ≡ v.trail ++ steps
  pub few : length steps ≤ most
  pub loaded : slice_get steps 0 ≡ Some (record { kind = LoadCheck; word = 0; found = Some word; stored = None })
  pub old : c.base + length v.past.seen ≤ clock_time_of word

-- The section's commit, of exactly what it held, is the entry of this time, which is the next after that of the word loaded; it
-- is the last of the seat's commits, and the one commit exchange of this call was won. The section has ended.
pub record Commits (c : Config) (v w : Knowledge) (inside : OwnSection) (tag : List ℕ) (time : ℕ) : Type 0 where
  pub word : ℕ
  pub time_is : time ≡ clock_time_of word + 1
  pub history : List Entry
  pub whole : IsWhole c v word history
  pub past : w.past ≡ record v.past { seen = history ++ Change (commit_of c v inside tag) ∷ []; mine = v.past.mine ++ commit_of c v inside tag ∷ [] }
  pub steps : List Step
  pub loads : LoadsClock c v w word (held_count v.ring + 8) steps
  pub one_won : IsOneWon (commit_exchanges steps)
  pub outside : w.phase ≡ Outside
  pub rest : w ≡ record v { past = w.past; phase = Outside; clocks = no_clocks; walk = Nowhere; back = None; ring = w.ring; trail = w.trail }

-- the section is as before, but that more was seen, more clock words were loaded and helped, and the trail is longer
pub record IsKept (v w : Knowledge) (inside : OwnSection) : Type 0 where
  pub seen : BeginsWith w.past.seen v.past.seen
  pub past_help : IsPastHelp w.clocks inside
  pub rest : w ≡ record v { past = record v.past { seen = w.past.seen }; clocks = w.clocks; trail = w.trail }

-- a lost exchange of CLOCK for a commit, which found this word
abbrev pub lost_exchange : ℕ → Step
lost_exchange found = record { kind = NameCommit; word = 0; found = Some found; stored = None }

-- The one commit exchange of this call was lost, to the word that names the rival: another seat made the entry of the rival's time after
-- this call had loaded the clock.
pub record IsOvertakenBy (c : Config) (v w : Knowledge) (inside : OwnSection) (rival : Rival) : Type 0 where
  pub kept : IsKept v w inside
  pub word : ℕ
  pub steps : List Step
  pub loads : LoadsClock c v w word 5 steps
  pub found : ℕ
  pub one_lost : commit_exchanges steps ≡ lost_exchange found ∷ []
  pub rival_is : rival ≡ record { seat = clock_seat_of found; time = clock_time_of found }
  pub other : rival.seat ≢ v.number
  pub later : clock_time_of word < rival.time
  pub entry : (e : Entry) × IsEntry c.base w.past.seen rival.time e × (maker_of e ≡ rival.seat)

-- no time is left: the word that this call loaded has the last one
pub record IsAtEnd (c : Config) (v w : Knowledge) (inside : OwnSection) : Type 0 where
  pub kept : IsKept v w inside
  pub word : ℕ
  pub steps : List Step
  pub loads : LoadsClock c v w word 1 steps
  pub none : commit_exchanges steps ≡ []
  pub last : clock_time_of word ≡ 35184372088831
  pub all_seen : c.base + length w.past.seen ≡ 35184372088831

-- what the answer says
abbrev pub EndsSo : Config → Knowledge → Knowledge → OwnSection → List ℕ → Ended → Type 0
EndsSo c v w inside tag (Done time) = Commits c v w inside tag time
EndsSo c v w inside tag (Again rival) = IsOvertakenBy c v w inside rival
EndsSo c v w inside tag End = IsAtEnd c v w inside

-- and what became of the log
abbrev pub LogEndsSo : Noted → Noted → Ended → Type 0
LogEndsSo l m (Done time) = m ≡ committed_noted l time
LogEndsSo l m (Again rival) = m ≡ l
LogEndsSo l m End = m ≡ l
