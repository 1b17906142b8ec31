-- What a call of a block of commands leaves.
use Rattle.std.specs.Prelude.{◌≡◌, ◌≢◌, ℤ, true, false, List, length}
use Rattle.crossbeam_utils.specs.Padded.{padded_value}
use Rattle.mvrlu.specs.Meant.{seat_of}
use Rattle.section_work.specs.Sections.{TriesOne}
use Rattle.set_model.specs.declared.commands.Command.{Command}
use Rattle.set_blocks.specs.declared.attempt.BlockAttempt.{BlockAttempt}
use Rattle.set_seats.specs.Calls.{AttemptedBlock, GoesOn}
use Rattle.set_seats.specs.declared.seat.SetSeat.{SetSeat}
use Rattle.c_answers.specs.declared.blocks.MvrluCommand.{MvrluCommand}
use Rattle.c_answers.specs.declared.replies.MvrluReply.{MvrluReply}
use Rattle.c_answers.specs.declared.status.Status.{Status}
use Rattle.c_answers.specs.declared.status.Status.TheVariants as status
use Rattle.c_answers.specs.Commands.{IsBlockOf, IsNoBlock}
use Rattle.c_answers.specs.Blocks.{block_told, status_of_block}
use Rattle.c_answers.specs.Statuses.{code_of}
use Rattle.mvrlu_c.specs.declared.sets_handle.MvrluSets.{MvrluSets}
use Rattle.mvrlu_c.specs.OnHandle.{IsRefused}

-- the block was attempted on the seat, with one try to commit at most
abbrev pub AnswersBlock : List Command → SetSeat → SetSeat → BlockAttempt → Type 0
AnswersBlock commands old new answer =
    AttemptedBlock (seat_of old.seat) (seat_of new.seat) commands answer × GoesOn old.seat new.seat × TriesOne (seat_of old.seat) (seat_of new.seat)

-- The block was attempted on the seat, if that is open, and this is told.
pub record AttemptsBlock (commands : List Command) (old new : MvrluSets) (before after : List MvrluReply) (code : ℤ) : Type 0 where
  pub closed : old.is_open ≡ false → IsRefused status.Closed old new before after code
  pub open_is : old.is_open ≡ true → new.is_open ≡ true
  pub answered : old.is_open ≡ true → (answer : BlockAttempt) × AnswersBlock commands (padded_value old.state) (padded_value new.state) answer
      × (after ≡ block_told answer (length before)) × (code ≡ code_of (status_of_block answer))

-- What a call of a block leaves: nothing where the commands are no block, or have too few or too many replies; else the block was attempted.
pub data TellsBlock (given : List MvrluCommand) (old new : MvrluSets) (before after : List MvrluReply) (code : ℤ) : Type 0 where
  replies : length before ≢ length given → IsRefused status.BadBlock old new before after code → TellsBlock given old new before after code
  no_block : (why : Status) → IsNoBlock given why → IsRefused why old new before after code → TellsBlock given old new before after code
  attempted : (commands : List Command) → length before ≡ length given → IsBlockOf given commands → AttemptsBlock commands old new before after code
      → TellsBlock given old new before after code
