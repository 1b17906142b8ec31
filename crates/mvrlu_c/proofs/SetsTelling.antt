-- What a call on the sets tells, read back from its 32 bits.
use Rattle.std.proofs.Common.{◌≡◌, ℤ, w32, to_z, of_z, Result, Ok, Err, IfOk, IfErr, subst}
use Rattle.set_model.specs.declared.commands.Command.{Command}
use Rattle.c_answers.proofs.Numbers.{answer_back, code_back}
use Rattle.mvrlu_c.specs.declared.sets_handle.MvrluSets.{MvrluSets}
use Rattle.c_answers.specs.declared.replies.MvrluReply.{MvrluReply}
use Rattle.c_answers.specs.declared.status.Status.{Status}
use Rattle.c_answers.specs.SetReplies.{reply_told}
use Rattle.mvrlu_c.specs.OnHandle.{IsRefused}
use Rattle.mvrlu_c.specs.SetsOpening.{opened, seat_in}
use Rattle.mvrlu_c.specs.SetsTold.{Answers, TellsCommand}
use Rattle.mvrlu_c.proofs.Telling.{call_back}

-- So what a call tells is told by the number that it hands on.
pub told_back : (command : Command) (old new : MvrluSets) (before after : MvrluReply) (code : ℤ) → TellsCommand command old new before after code
    → TellsCommand command old new before after (to_z w32 (of_z w32 code))
told_back command = call_back opened seat_in (Answers command) (λ answer. (reply_told answer).status) reply_told answer_back

-- The command that was issued was attempted, and this is told by the number that is handed on;
pub issued_back : (issued : Result Command Status) (command : Command) (old new : MvrluSets) (before after : MvrluReply) (code : ℤ)
    → issued ≡ Ok command → IfOk issued (λ c. TellsCommand c old new before after code)
    → TellsCommand command old new before after (to_z w32 (of_z w32 code))
issued_back issued command old new before after code is tells =
    told_back command old new before after code
    (subst (λ (r : Result Command Status). IfOk r (λ c. TellsCommand c old new before after code)) is tells)

-- or none was, and the number tells why.
pub refused_back : (issued : Result Command Status) (why : Status) (old new : MvrluSets) (before after : MvrluReply) (code : ℤ)
    → issued ≡ Err why → IfErr issued (λ w. IsRefused w old new before after code)
    → IsRefused why old new before after (to_z w32 (of_z w32 code))
refused_back issued why old new before after code is refused =
    let r = subst (λ (r : Result Command Status). IfErr r (λ w. IsRefused w old new before after code)) is refused in
    (code_back why code r.0, r.1, r.2)
