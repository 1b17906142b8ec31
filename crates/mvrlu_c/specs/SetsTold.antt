-- What a call on the sets leaves, by the number that it answers.
use Rattle.std.specs.Prelude.{ℕ, ℤ}
use Rattle.set_model.specs.declared.commands.Command.{Command}
use Rattle.set_catalog.specs.declared.answer.CommandAttempt.{CommandAttempt}
use Rattle.set_seats.specs.Calls.{Attempted, Replied, GoesOn}
use Rattle.set_seats.specs.declared.seat.SetSeat.{SetSeat}
use Rattle.mvrlu.specs.Meant.{seat_of}
use Rattle.section_work.specs.Sections.{TriesOne}
use Rattle.log_reclaim.specs.declared.rounds.Tidy.{Tidy}
use Rattle.mvrlu_c.specs.declared.sets_handle.MvrluSets.{MvrluSets}
use Rattle.c_answers.specs.declared.replies.MvrluReply.{MvrluReply}
use Rattle.c_answers.specs.declared.status.Status.{Status}
use Rattle.c_answers.specs.SetReplies.{reply_told}
use Rattle.mvrlu_c.specs.OnHandle.{TellsCall}
use Rattle.mvrlu_c.specs.SetsOpening.{opened, seat_in}
use Rattle.c_answers.specs.Statuses.{code_of}

-- the command was attempted on the seat: what it leaves, that its reply is the catalogue's, and that it tried one commit at most
abbrev pub Answers : Command → SetSeat → SetSeat → CommandAttempt → Type 0
Answers command old new answer =
    Attempted (seat_of old.seat) (seat_of new.seat) command answer × Replied (seat_of new.seat) command answer × GoesOn old.seat new.seat
    × TriesOne (seat_of old.seat) (seat_of new.seat)

-- The call was made on the seat, if that is open: the command was attempted on it, and its reply and its status are told.
abbrev pub TellsCommand : Command → MvrluSets → MvrluSets → MvrluReply → MvrluReply → ℤ → Type 0
TellsCommand command old new before after code =
    TellsCall opened seat_in (Answers command) (λ answer. (reply_told answer).status) reply_told old new before after code

-- The same of a call that asks the seat for something else.
abbrev pub TellsSeat : {A Out : Type 0} → (SetSeat → SetSeat → A → Type 0) → (A → Status) → (A → Out) → MvrluSets → MvrluSets → Out → Out → ℤ → Type 0
TellsSeat Call status_of told old new before after code =
    TellsCall opened seat_in Call (λ answer. code_of (status_of answer)) told old new before after code

-- how many slots are live
abbrev pub live_told : Tidy → ℕ
live_told tidy = tidy.live
