-- The turns of one script on a growing hash set, each at its place in a history: its lines, and the splits between them.
use Rattle.std.specs.Prelude.{
  ◌≡◌,
  ℕ,
  suc,
  ◌+◌,
  ◌-◌,
  ◌<◌,
  ◌≤◌,
  ◌==◌,
  ◌&&◌,
  ◌⊎◌,
  not,
  Bool,
  true,
  false,
  if◌then◌else◌,
  List,
  [],
  ◌∷◌,
  ◌++◌,
  length,
  map,
  Option,
  Some,
  None,
  slice_get,
  ⊤,
}
use Rattle.mv_history.specs.declared.history.Commit.{Commit}
use Rattle.mv_history.specs.declared.history.Entry.TheVariants.{Change}
use Rattle.mv_history.specs.Meaning.{Seat}
use Rattle.mv_history.specs.Calls.{Continues}
use Rattle.set_model.specs.Replies.{reply, changes, next}
use Rattle.set_model.specs.Tags.{tag_of}
use Rattle.set_model.specs.declared.commands.Command.{Command}
use Rattle.set_model.specs.declared.commands.Command.TheVariants.{Add, Put, Del, Has, Get, Move, Pair, Size, Next}
use Rattle.section_work.specs.declared.place.Place.{Place}
use Rattle.section_work.specs.declared.place.Place.TheVariants.{Commit as AtCommit, Read}
use Rattle.set_model.specs.declared.commands.Reply.{Reply}
use Rattle.run_report.specs.declared.line.Line.{Line}
use Rattle.run_report.specs.Legal.{Follows}
use Rattle.run_report.specs.Order.{time_of}
use Rattle.run_report.specs.Summary.{says_yes}
use Rattle.run_report.specs.Worked.{Past, past_of, state_of_time}
use Rattle.grow_hash.specs.Tables.{grow_levels, level, most_level, split_place}
use Rattle.grow_hash.specs.Grown.{grown_catalogue, grown_capacity}
use Rattle.grow_hash.specs.GrowRules.{split_tag}
use Rattle.grow_hash.specs.SplitCalls.{keys_at_place, most_split}

-- The commit is the entry of this printed time, by this seat and with the command's tag. In the state just before it, which is not at the
-- last time, this is the command's reply and the command changes something; it leaves what the command leaves.
pub record IsGrowCommitOf (p : Past) (seat : ℕ) (command : Command) (time : ℕ) (answer : Reply) (c : Commit) : Type 0 where
  pub later : p.base < time
  pub there : slice_get p.entries (time - (p.base + 1)) ≡ Some (Change c)
  pub seat_is : c.seat ≡ seat
  pub tagged : c.tag ≡ tag_of command
  pub answers : answer ≡ reply command (grown_catalogue grow_levels (state_of_time p (time - 1))) (grown_capacity grow_levels p.start) false
  pub changing : changes command (grown_catalogue grow_levels (state_of_time p (time - 1))) (grown_capacity grow_levels p.start) false ≡ true
  pub leaves : grown_catalogue grow_levels (state_of_time p time) ≡ next command (grown_catalogue grow_levels (state_of_time p (time - 1)))
      (grown_capacity grow_levels p.start) false

-- This is the command's reply in the state of this printed time, and it has nothing to change there.
pub record IsGrowReadOf (p : Past) (command : Command) (time : ℕ) (answer : Reply) : Type 0 where
  pub after : p.base ≤ time
  pub seen : time ≤ p.base + length p.entries
  pub answers : answer ≡ reply command (grown_catalogue grow_levels (state_of_time p time)) (grown_capacity grow_levels p.start) (time == p.last)
  pub unchanging : changes command (grown_catalogue grow_levels (state_of_time p time)) (grown_capacity grow_levels p.start) (time == p.last) ≡ false

-- the command has this place and this reply in the history, and these are the commits of it: one, or none
abbrev pub GrowPlaceOf : Past → ℕ → Command → Place → Reply → List Commit → Type 0
GrowPlaceOf p seat command (AtCommit time) answer commits = (c : Commit) × (commits ≡ c ∷ []) × IsGrowCommitOf p seat command time answer c
GrowPlaceOf p seat command (Read time) answer commits = (commits ≡ []) × IsGrowReadOf p command time answer

-- The commit is the entry of this printed time, by this seat, and with the tag of a split of the bucket at the split place.
pub record IsSplitOf (p : Past) (seat time : ℕ) (c : Commit) : Type 0 where
  pub later : p.base < time
  pub there : slice_get p.entries (time - (p.base + 1)) ≡ Some (Change c)
  pub seat_is : c.seat ≡ seat
  pub tagged : c.tag ≡ split_tag (split_place (state_of_time p (time - 1)))

-- The state of this printed time can't be split: the level is the greatest, or the next bucket has too many keys, or it is the last time.
abbrev pub CannotSplit : Past → ℕ → Type 0
CannotSplit p time =
    (level (state_of_time p time) ≡ most_level grow_levels) ⊎ (most_split < keys_at_place (state_of_time p time)) ⊎ (time ≡ p.last)

-- The time is ahead of a seat's next line, if there is one: that line follows it.
abbrev pub IsAhead : Option Place → ℕ → Type 0
IsAhead None time = ⊤
IsAhead (Some place) time = Follows time place

-- Where a split is due from this time on, ahead of the seat's next line: there is one, and these are the commits of it; or there is none,
-- and the state of some time of the history from then on, ahead of that line, can't be split.
abbrev pub SplitDue : Past → ℕ → ℕ → Option Place → Option ℕ → List Commit → Type 0
SplitDue p seat from next (Some time) commits =
    (c : Commit) × (commits ≡ c ∷ []) × (from < time) × IsAhead next time × IsSplitOf p seat time c
SplitDue p seat from next None commits =
    (commits ≡ []) × (time : ℕ) × (from ≤ time) × (time ≤ p.base + length p.entries) × IsAhead next time × CannotSplit p time

-- where none is due there is none
abbrev pub SplitIf : Bool → Past → ℕ → ℕ → Option Place → Option ℕ → List Commit → Type 0
SplitIf true p seat from next split commits = SplitDue p seat from next split commits
SplitIf false p seat from next split commits = (split ≡ None) × (commits ≡ [])

-- What a seat did for one command: its line, and the printed time of the split that it made behind it, if it made one.
pub record LineAndSplit : Type 0 where
  pub line : Line
  pub split : Option ℕ

-- the line of a turn
abbrev pub line_of : LineAndSplit → Line
line_of turn = turn.line

-- whether a command is an add
abbrev pub is_add : Command → Bool
is_add (Add name key) = true
is_add (Put name key value) = false
is_add (Del name key) = false
is_add (Has name key) = false
is_add (Get name key) = false
is_add (Move source target key) = false
is_add (Pair first second key) = false
is_add (Size name) = false
is_add (Next name key) = false

-- whether a command is an add that replied yes
abbrev pub is_added : Command → Reply → Bool
is_added command answer = is_add command && says_yes answer

-- whether the adds that replied yes are an odd number, with one more if this is one
abbrev pub odd_with : Bool → Bool → Bool
odd_with odd added = if added then not odd else odd

-- the place of the first turn's line
abbrev pub first_place : List LineAndSplit → Option Place
first_place [] = None
first_place (turn ∷ turns) = Some turn.line.place

-- The line of a seat's command of this number, whose place follows a time.
pub record GrowLineOf (p : Past) (seat number before : ℕ) (command : Command) (line : Line) (commits : List Commit) : Type 0 where
  pub by : line.seat ≡ seat
  pub numbered : line.number ≡ number
  pub follows : Follows before line.place
  pub place : GrowPlaceOf p seat command line.place line.reply commits

-- The turns of a seat's commands in order, the first of this number and following this time, and the commits of them: each line is at its
-- place, and a split is due behind each second add that replied yes, of which an odd number is before them or not.
abbrev pub TurnsOf : Past → ℕ → ℕ → ℕ → Bool → List Command → List LineAndSplit → List Commit → Type 0
TurnsOf p seat number before odd [] [] commits = commits ≡ []
TurnsOf p seat number before odd [] (turn ∷ turns) commits = ⊥
TurnsOf p seat number before odd (command ∷ commands) [] commits = ⊥
TurnsOf p seat number before odd (command ∷ commands) (turn ∷ turns) commits =
    (own split others : List Commit) × (commits ≡ own ++ (split ++ others)) × GrowLineOf p seat number before command turn.line own
    × SplitIf (odd && is_added command turn.line.reply) p seat (time_of turn.line.place) (first_place turns) turn.split split
    × TurnsOf p seat (suc number) (time_of turn.line.place) (odd_with odd (is_added command turn.line.reply)) commands turns others

-- A seat ran a script: its commits grew by exactly those of the lines and of the splits between them, in order.
pub record RanGrow (old new : Seat) (script : List Command) (lines : List Line) : Type 0 where
  pub continues : Continues old new
  pub commits : List Commit
  pub mine : new.mine ≡ old.mine ++ commits
  pub turns : List LineAndSplit
  pub lines_are : lines ≡ map line_of turns
  pub each : TurnsOf (past_of new) new.number 1 (old.base + length old.seen) false script turns commits

-- Each seat ran the script of its place; the lines stand by seat and then by number.
abbrev pub AllRanGrow : List Seat → List Seat → List (List Command) → List Line → Type 0
AllRanGrow [] [] [] lines = lines ≡ []
AllRanGrow (o ∷ os) (n ∷ ns) (script ∷ scripts) lines =
    (own others : List Line) × (lines ≡ own ++ others) × RanGrow o n script own × AllRanGrow os ns scripts others
AllRanGrow _ _ _ lines = ⊥
