-- What each call of a seat of a growing set leaves, by its answer.
use Rattle.std.specs.Prelude.{◌≡◌, ◌-◌, ◌==◌, false, ⊤}
use Rattle.mv_history.specs.Calls.{Continues}
use Rattle.mv_history.specs.Meaning.{Seat, state_of_time}
use Rattle.mv_history.specs.declared.answers.LogTable.{LogTable}
use Rattle.mvrlu.specs.Causes.{Took, Loaded, FoundLocked}
use Rattle.mvrlu.specs.Holding.{HoldsSeat}
use Rattle.mvrlu.specs.Holding as holding
use Rattle.mvrlu.specs.Meant.{seat_of, aborts_in}
use Rattle.mvrlu.specs.declared.domain.Seat as domain
use Rattle.log_reclaim.specs.declared.rounds.Tidy.{Tidy}
use Rattle.section_work.specs.Causes.{Causes, causes}
use Rattle.section_work.specs.declared.place.Place.TheVariants.{Commit as AtCommit, Read}
use Rattle.grow_hash.specs.GrowRules.{MakesGrown}
use Rattle.grow_hash.specs.GrowReplies.{reply_grown, changes_grown}
use Rattle.grow_hash.specs.GrowAttempts.{GrowAttempted}
use Rattle.grow_hash.specs.SplitAttempts.{SplitTried}
use Rattle.grow_hash.specs.declared.answer.Split.{Split}
use Rattle.grow_hash.specs.declared.attempt.GrowStep.{GrowStep}
use Rattle.grow_hash.specs.declared.attempt.GrowStep.TheVariants.{Done, Again}
use Rattle.grow_seats.specs.Commands.{table_levels, as_command, IsTableOpening, IsTableCommit}
use Rattle.grow_seats.specs.declared.command.GrowCommand.{GrowCommand}

-- what the causes of answers mean in a domain of the set, all of which its steps show
abbrev pub domain_causes : Causes
domain_causes = causes ⊤ ⊤ Took (HoldsSeat IsTableOpening IsTableCommit) FoundLocked Loaded

-- an attempt of a command
abbrev pub Attempted : Seat → Seat → GrowCommand → GrowStep → Type 0
Attempted old new command step = GrowAttempted table_levels domain_causes old new (as_command command) step

-- The reply of a command is the catalogue's: just before its commit, which leaves the catalogue that the command leaves there, or at the time
-- that it read, where it changes nothing.
abbrev pub Replied : Seat → GrowCommand → GrowStep → Type 0
Replied new command (Done answer (AtCommit time)) =
    (answer ≡ reply_grown table_levels (as_command command) (state_of_time new (time - 1)) false)
    × MakesGrown table_levels (as_command command) (state_of_time new (time - 1)) (state_of_time new time)
Replied new command (Done answer (Read time)) =
    (answer ≡ reply_grown table_levels (as_command command) (state_of_time new time) (time == new.last))
    × (changes_grown table_levels (as_command command) (state_of_time new time) (time == new.last) ≡ false)
Replied new command (Again cause) = ⊤

-- a try to split the bucket that is next
abbrev pub Splits : Seat → Seat → Split → Type 0
Splits old new split = SplitTried table_levels domain_causes old new split

module _ {P : Type 0} {rules : _} where
  -- what a call leaves of the seat's place in its domain
  abbrev pub GoesOn : domain.Seat P rules → domain.Seat P rules → Type 0
  GoesOn old new = Continues (seat_of old) (seat_of new)

  -- `tidy`: what is reclaimed of the log
  abbrev pub Tidies : domain.Seat P rules → domain.Seat P rules → Tidy → Type 0
  Tidies old new tidy = holding.Tidies old.idle new.idle tidy

  -- `count`: the counts are those of the seat's log
  abbrev pub Counts : domain.Seat P rules → LogTable → Type 0
  Counts seat table = holding.IsSeatTable (seat_of seat) table × (table.aborts ≡ aborts_in seat)
