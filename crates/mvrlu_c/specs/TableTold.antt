-- What a call on a growing set leaves, by the number that it answers.
use Rattle.std.specs.Prelude.{ℤ}
use Rattle.mvrlu.specs.Meant.{seat_of}
use Rattle.section_work.specs.Sections.{TriesOne}
use Rattle.grow_hash.specs.declared.answer.Split.{Split}
use Rattle.grow_hash.specs.declared.attempt.GrowStep.{GrowStep}
use Rattle.grow_seats.specs.Calls.{Attempted, Replied, Splits, GoesOn}
use Rattle.grow_seats.specs.declared.command.GrowCommand.{GrowCommand}
use Rattle.grow_seats.specs.declared.seat.GrowSeat.{GrowSeat}
use Rattle.c_answers.specs.declared.replies.MvrluReply.{MvrluReply}
use Rattle.c_answers.specs.declared.status.Status.{Status}
use Rattle.mvrlu_c.specs.declared.table_handle.MvrluTable.{MvrluTable}
use Rattle.mvrlu_c.specs.OnHandle.{TellsCall}
use Rattle.mvrlu_c.specs.TableOpening.{opened, seat_in}
use Rattle.c_answers.specs.Statuses.{code_of}
use Rattle.c_answers.specs.TableReplies.{step_told, split_told}

-- the command was attempted on the seat: what it leaves, that its reply is the catalogue's, and that it tried one commit at most
abbrev pub Answers : GrowCommand → GrowSeat → GrowSeat → GrowStep → Type 0
Answers command old new answer =
    Attempted (seat_of old.seat) (seat_of new.seat) command answer × Replied (seat_of new.seat) command answer × GoesOn old.seat new.seat
    × TriesOne (seat_of old.seat) (seat_of new.seat)

-- a split was tried on the seat, with one try to commit at most
abbrev pub AnswersSplit : GrowSeat → GrowSeat → Split → Type 0
AnswersSplit old new answer =
    Splits (seat_of old.seat) (seat_of new.seat) answer × GoesOn old.seat new.seat × TriesOne (seat_of old.seat) (seat_of new.seat)

-- The call was made on the seat, if that is open: the command was attempted on it, and its reply and its status are told.
abbrev pub TellsCommand : GrowCommand → MvrluTable → MvrluTable → MvrluReply → MvrluReply → ℤ → Type 0
TellsCommand command old new before after code =
    TellsCall opened seat_in (Answers command) (λ answer. (step_told answer).status) step_told old new before after code

-- The same of a split.
abbrev pub TellsSplit : MvrluTable → MvrluTable → MvrluReply → MvrluReply → ℤ → Type 0
TellsSplit old new before after code =
    TellsCall opened seat_in AnswersSplit (λ answer. (split_told answer).status) split_told old new before after code

-- The same of a call that asks the seat for something else.
abbrev pub TellsSeat : {A Out : Type 0} → (GrowSeat → GrowSeat → A → Type 0) → (A → Status) → (A → Out) → MvrluTable → MvrluTable → Out → Out → ℤ → Type 0
TellsSeat Call status_of told old new before after code =
    TellsCall opened seat_in Call (λ answer. code_of (status_of answer)) told old new before after code
