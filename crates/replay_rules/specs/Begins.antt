-- How calls begin: their conditions, and their first step.
use Rattle.std.specs.Prelude.{ℕ, ◌==◌, ◌&&◌, ltb, List, is_some, Bool, false, not, if◌then◌else◌}
use Rattle.mv_layout.specs.declared.config.Config.{Config}
use Rattle.mv_history.specs.declared.answers.LockAnswer.TheVariants as refusals
use Rattle.replay_rules.specs.declared.plan.Call.{Call}
use Rattle.replay_rules.specs.declared.plan.Call.TheVariants.{Enter, Read, Lock, Write, Commit, Abort, Leave, Tidy}
use Rattle.replay_rules.specs.declared.seats.NotedVersion.{NotedVersion}
use Rattle.replay_rules.specs.declared.seats.Scanned.{Scanned}
use Rattle.replay_rules.specs.declared.seats.Sweep.{Sweep}
use Rattle.replay_rules.specs.declared.seats.State.{State}
use Rattle.replay_rules.specs.declared.seats.Entering.TheVariants as enter
use Rattle.replay_rules.specs.declared.seats.Walking.TheVariants as walk
use Rattle.replay_rules.specs.declared.seats.Ending.TheVariants as finish
use Rattle.replay_rules.specs.declared.seats.Leaving.TheVariants.{Plainly}
use Rattle.replay_rules.specs.declared.seats.Sweeping.TheVariants as sweep
use Rattle.replay_rules.specs.declared.seats.NextStep.{NextStep}
use Rattle.replay_rules.specs.declared.seats.NextStep.TheVariants.{Enters, Walks, Writes, EndsSection, Tidies}
use Rattle.replay_rules.specs.declared.seats.CallAnswer.TheVariants.{Locked}
use Rattle.replay_rules.specs.declared.seats.Then.{Then}
use Rattle.replay_rules.specs.declared.seats.Then.TheVariants.{Goes, Ends}
use Rattle.replay_rules.specs.SeatNotes.{version_at, held, place_held, holds, live}

-- the seat is in a section
abbrev pub is_inside : State → Bool
is_inside s = is_some s.time

-- the condition of a call
abbrev pub may_begin : List NotedVersion → State → Call → Bool
may_begin log s Enter = not (is_inside s)
may_begin log s (Read object) = is_inside s && not (holds log s object)
may_begin log s (Lock object) = is_inside s
may_begin log s (Write object words) = is_inside s && holds log s object
may_begin log s Commit = is_inside s && ltb 0 (held log s)
may_begin log s Abort = is_inside s
may_begin log s Leave = is_inside s && (held log s == 0)
may_begin log s Tidy = not (is_inside s)

-- nothing was scanned yet
abbrev pub no_scan : Scanned
no_scan = record { time = 0; low = 0; seat = 0; clock = 0 }

-- a tidy that has made no step, behind so many frees
abbrev pub new_sweep : ℕ → Sweep
new_sweep began =
    record { again = false; swept = false; bound = 0; first = no_scan; last = no_scan; latest = 0; at = 0; began = began }

-- what a seat is at that begins a call
abbrev pub begun : State → Call → State
begun s call = record s { call = call; sweep = new_sweep s.freed }

-- a lock that needs no step, where the object is held, as many are held as may be, or no slot is free
abbrev pub begin_lock : Config → List NotedVersion → State → ℕ → Then
begin_lock c log s object =
    if holds log s object then Ends (Locked refusals.Held)
    else (if held log s == c.write_max then Ends (Locked refusals.SetFull)
    else (if live log s == c.slots then Ends (Locked refusals.LogFull)
    else Goes (Walks object walk.LoadHead)))

-- the step that gives HEAD back of the object of the version at a position
abbrev pub unlock : List NotedVersion → ℕ → NextStep
unlock log at = EndsSection (finish.Unlock at (version_at log at).object (version_at log at).previous)

-- an abort gives up what is held from the first version on
abbrev pub begin_abort : List NotedVersion → State → NextStep
begin_abort log s = if held log s == 0 then EndsSection (finish.Leave Plainly) else unlock log s.from

-- the first step of a call, or the answer of one that needs no step
abbrev pub begin_call : Call → Config → List NotedVersion → State → Then
begin_call Enter c log s = Goes (Enters enter.LoadLow)
begin_call (Read object) c log s = Goes (Walks object walk.LoadHead)
begin_call (Lock object) c log s = begin_lock c log s object
begin_call (Write object words) c log s = Goes (Writes (place_held log s object) words 0)
begin_call Commit c log s = Goes (EndsSection finish.LoadNow)
begin_call Abort c log s = Goes (begin_abort log s)
begin_call Leave c log s = Goes (EndsSection (finish.Leave Plainly))
begin_call Tidy c log s = Goes (Tidies (sweep.LoadGrace false))
