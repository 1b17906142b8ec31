-- What each call of a seat of the sets leaves, by its answer.
use Rattle.std.specs.Prelude.{◌≡◌, ℕ, ◌-◌, ◌==◌, true, false, ⊤, [], ◌∷◌, List}
use Rattle.mv_history.specs.Calls.{Continues}
use Rattle.mv_history.specs.Meaning.{Seat, state_of_time}
use Rattle.mvrlu.specs.Causes.{Took, Loaded, FoundLocked}
use Rattle.log_reclaim.specs.declared.rounds.Tidy.{Tidy}
use Rattle.mv_history.specs.declared.answers.LogTable.{LogTable}
use Rattle.mvrlu.specs.Holding.{HoldsSeat}
use Rattle.mvrlu.specs.Holding as holding
use Rattle.mvrlu.specs.Meant.{seat_of, aborts_in}
use Rattle.mvrlu.specs.declared.domain.Seat as domain
use Rattle.section_work.specs.Causes.{Causes, causes}
use Rattle.section_work.specs.declared.place.Place.TheVariants.{Commit as AtCommit, Read}
use Rattle.set_model.specs.Lawful.{IsOpening}
use Rattle.set_model.specs.declared.commands.Command.{Command}
use Rattle.set_blocks.specs.BlockAttempts.{BlockAttempted}
use Rattle.set_blocks.specs.BlockRules.{IsBlockCommit}
use Rattle.set_blocks.specs.declared.attempt.BlockAttempt.{BlockAttempt}
use Rattle.set_blocks.specs.declared.attempt.BlockAttempt.TheVariants.{Done as BlockDone, Again as BlockAgain}
use Rattle.set_blocks.specs.declared.rules.BlockRules.{BlockRules}
use Rattle.set_catalog.specs.Replies.{reply_in, changes_in}
use Rattle.set_catalog.specs.declared.answer.CommandAttempt.{CommandAttempt}
use Rattle.set_catalog.specs.declared.answer.CommandAttempt.TheVariants.{Done, Again}
use Rattle.set_seats.specs.Walks.{IsWalk}
use Rattle.set_seats.specs.declared.walk.KeyValue.{KeyValue}
use Rattle.set_seats.specs.declared.walk.Walked.{Walked}

-- what the causes of answers mean in a domain of the sets, all of which its steps show
abbrev pub domain_causes : Causes
domain_causes = causes ⊤ ⊤ Took (HoldsSeat IsOpening IsBlockCommit) FoundLocked Loaded

-- the answer of a command, as that of the block of one
abbrev pub as_block : CommandAttempt → BlockAttempt
as_block (Done answer place) = BlockDone (answer ∷ []) place
as_block (Again cause) = BlockAgain cause

-- an attempt of a block
abbrev pub AttemptedBlock : Seat → Seat → List Command → BlockAttempt → Type 0
AttemptedBlock old new commands answer = BlockAttempted domain_causes old new commands answer

-- an attempt of a command, which is the block of one
abbrev pub Attempted : Seat → Seat → Command → CommandAttempt → Type 0
Attempted old new command answer = AttemptedBlock old new (command ∷ []) (as_block answer)

-- The reply of a command is the catalogue's: just before its commit, which it changes there, or at the time that it read, where
-- it changes nothing.
abbrev pub Replied : Seat → Command → CommandAttempt → Type 0
Replied new command (Done answer (AtCommit time)) =
    (answer ≡ reply_in command (state_of_time new (time - 1)) false) × (changes_in command (state_of_time new (time - 1)) false ≡ true)
Replied new command (Done answer (Read time)) =
    (answer ≡ reply_in command (state_of_time new time) (time == new.last)) × (changes_in command (state_of_time new time) (time == new.last) ≡ false)
Replied new command (Again cause) = ⊤

-- a walk over the set of a name from a key on
abbrev pub WalksOver : ℕ → ℕ → List KeyValue → List KeyValue → Seat → Seat → Walked → Type 0
WalksOver name from before after old new walked = IsWalk domain_causes name from before after old new walked

-- what a call leaves of the seat's place in its domain
abbrev pub GoesOn : {rules : _} → domain.Seat BlockRules rules → domain.Seat BlockRules rules → Type 0
GoesOn old new = Continues (seat_of old) (seat_of new)

-- `tidy`: what is reclaimed of the log
abbrev pub Tidies : {rules : _} → domain.Seat BlockRules rules → domain.Seat BlockRules rules → Tidy → Type 0
Tidies old new tidy = holding.Tidies old.idle new.idle tidy

-- `count`: the counts are those of the seat's log
abbrev pub Counts : {rules : _} → domain.Seat BlockRules rules → LogTable → Type 0
Counts seat table = holding.IsSeatTable (seat_of seat) table × (table.aborts ≡ aborts_in seat)
