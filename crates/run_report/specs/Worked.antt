-- The lines of one script, each at its place in a history.
use Rattle.std.specs.Prelude.{◌≡◌, ℕ, suc, ◌+◌, ◌-◌, ◌<◌, ◌≤◌, ◌==◌, false, List, [], ◌∷◌, ◌++◌, length, take, drop, Some, slice_get}
use Rattle.mv_history.specs.declared.history.Commit.{Commit}
use Rattle.mv_history.specs.declared.history.Entry.{Entry}
use Rattle.mv_history.specs.declared.history.Entry.TheVariants.{Change}
use Rattle.mv_history.specs.State.{State, state_at}
use Rattle.mv_history.specs.Meaning.{Seat}
use Rattle.mv_history.specs.Calls.{Continues}
use Rattle.set_model.specs.CatalogueOf.{catalogue_of}
use Rattle.set_model.specs.Replies.{reply, changes}
use Rattle.set_model.specs.Rules.{capacity}
use Rattle.set_model.specs.Tags.{tag_of}
use Rattle.set_model.specs.declared.commands.Command.{Command}
use Rattle.section_work.specs.declared.place.Place.{Place}
use Rattle.section_work.specs.declared.place.Place.TheVariants.{Commit as AtCommit, Read}
use Rattle.set_model.specs.declared.commands.Reply.{Reply}
use Rattle.run_report.specs.declared.line.Line.{Line}
use Rattle.run_report.specs.Order.{time_of}
use Rattle.run_report.specs.Legal.{Follows}

-- A history with its opening state: the printed time of that state, the last printed time, and the entries.
pub record Past : Type 0 where
  pub start : State
  pub base : ℕ
  pub last : ℕ
  pub entries : List Entry

-- the history that a seat has seen
abbrev pub past_of : Seat → Past
past_of s = record { start = s.start; base = s.base; last = s.last; entries = s.seen }

-- the state of a printed time
abbrev pub state_of_time : Past → ℕ → State
state_of_time p time = state_at p.start p.entries (time - p.base)

-- The commit is the entry of this printed time, by this seat and with the command's tag, and this is the command's reply
-- in the state just before it, which is not at the last time.
pub record IsCommitOf (p : Past) (seat : ℕ) (command : Command) (time : ℕ) (answer : Reply) (c : Commit) : Type 0 where
  pub later : p.base < time
  pub there : slice_get p.entries (time - (p.base + 1)) ≡ Some (Change c)
  pub seat_is : c.seat ≡ seat
  pub tagged : c.tag ≡ tag_of command
  pub answers : answer ≡ reply command (catalogue_of (state_of_time p (time - 1))) (capacity p.start) false

-- This is the command's reply in the state of this printed time, and it has nothing to change there.
pub record IsReadOf (p : Past) (command : Command) (time : ℕ) (answer : Reply) : Type 0 where
  pub after : p.base ≤ time
  pub seen : time ≤ p.base + length p.entries
  pub answers : answer ≡ reply command (catalogue_of (state_of_time p time)) (capacity p.start) (time == p.last)
  pub unchanging : changes command (catalogue_of (state_of_time p time)) (capacity p.start) (time == p.last) ≡ false

-- the command has this place and this reply in the history, and these are the commits of it: one, or none
abbrev pub PlaceOf : Past → ℕ → Command → Place → Reply → List Commit → Type 0
PlaceOf p seat command (AtCommit time) answer commits = (c : Commit) × (commits ≡ c ∷ []) × IsCommitOf p seat command time answer c
PlaceOf p seat command (Read time) answer commits = (commits ≡ []) × IsReadOf p command time answer

-- The line of a seat's command of this number, whose place follows a time.
pub record LineOf (p : Past) (seat number before : ℕ) (command : Command) (line : Line) (commits : List Commit) : Type 0 where
  pub by : line.seat ≡ seat
  pub numbered : line.number ≡ number
  pub follows : Follows before line.place
  pub place : PlaceOf p seat command line.place line.reply commits

-- The lines of a seat's commands in order, the first of this number and following this time, and the commits of them.
abbrev pub LinesOf : Past → ℕ → ℕ → ℕ → List Command → List Line → List Commit → Type 0
LinesOf p seat number before [] [] commits = commits ≡ []
LinesOf p seat number before [] (line ∷ lines) commits = ⊥
LinesOf p seat number before (command ∷ commands) [] commits = ⊥
LinesOf p seat number before (command ∷ commands) (line ∷ lines) commits =
    (first : List Commit) × (others : List Commit) × (commits ≡ first ++ others) × LineOf p seat number before command line first
    × LinesOf p seat (suc number) (time_of line.place) commands lines others

-- A seat ran a script: its commits grew by exactly those of the lines, in order.
pub record Ran (old new : Seat) (script : List Command) (lines : List Line) : Type 0 where
  pub continues : Continues old new
  pub commits : List Commit
  pub mine : new.mine ≡ old.mine ++ commits
  pub each : LinesOf (past_of new) new.number 1 (old.base + length old.seen) script lines commits

-- Each seat did this with the script of its place, and has a line for each command; the lines stand by seat and then by number.
abbrev pub BySeat : (Seat → Seat → List Command → List Line → Type 0) → List Seat → List Seat → List (List Command) → List Line → Type 0
BySeat did [] [] [] lines = lines ≡ []
BySeat did (o ∷ os) (n ∷ ns) (script ∷ scripts) lines =
    did o n script (take (length script) lines) × BySeat did os ns scripts (drop (length script) lines)
BySeat did _ _ _ lines = ⊥

-- Each seat ran the script of its place.
abbrev pub AllRan : List Seat → List Seat → List (List Command) → List Line → Type 0
AllRan os ns scripts lines = BySeat Ran os ns scripts lines
