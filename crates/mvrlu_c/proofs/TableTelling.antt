-- What a call on a growing set tells, read back from its 32 bits.
use Rattle.std.proofs.Common.{ℤ, w32, to_z, of_z}
use Rattle.grow_seats.specs.declared.command.GrowCommand.{GrowCommand}
use Rattle.c_answers.specs.declared.replies.MvrluReply.{MvrluReply}
use Rattle.c_answers.proofs.Numbers.{step_back, split_number_back}
use Rattle.mvrlu_c.specs.declared.table_handle.MvrluTable.{MvrluTable}
use Rattle.mvrlu_c.specs.TableOpening.{opened, seat_in}
use Rattle.c_answers.specs.TableReplies.{step_told, split_told}
use Rattle.mvrlu_c.specs.TableTold.{Answers, AnswersSplit, TellsCommand, TellsSplit}
use Rattle.mvrlu_c.proofs.Telling.{call_back}

-- So what a call tells is told by the number that it hands on.
pub told_back : (command : GrowCommand) (old new : MvrluTable) (before after : MvrluReply) (code : ℤ) → TellsCommand command old new before after code
    → TellsCommand command old new before after (to_z w32 (of_z w32 code))
told_back command = call_back opened seat_in (Answers command) (λ answer. (step_told answer).status) step_told step_back

-- and so what a split tells
pub split_back : (old new : MvrluTable) (before after : MvrluReply) (code : ℤ) → TellsSplit old new before after code
    → TellsSplit old new before after (to_z w32 (of_z w32 code))
split_back = call_back opened seat_in AnswersSplit (λ answer. (split_told answer).status) split_told split_number_back
