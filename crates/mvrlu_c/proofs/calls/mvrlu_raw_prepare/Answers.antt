use Rattle.std.proofs.Common.{ap, ◌∙◌, w32, to_z, of_z}
use Rattle.object_seats.specs.Calls as calls
use Rattle.c_answers.specs.Statuses.{code_of, status_of_room, told_by}
use Rattle.c_answers.proofs.Numbers.{reads_back}
use Rattle.mvrlu_c.proofs.Telling.{tells_by}
use Rattle.mvrlu_c.proofs.calls.mvrlu_raw_prepare.Goals as goal

pub returns : goal.returns
returns c =
    let on = c.on_open-answer in
    let is = ap (λ z. to_z w32 (of_z w32 z)) (c.code.ensures ∙ ap code_of c.tell_room.ensures) ∙ reads_back (told_by status_of_room on.result) in
    record {
      tells = tells_by status_of_room c.args.seat.now on.new.handle calls.MakesRoom on.result _ _ (λ a said. said) on.ensures.closed on.ensures.open is;
    }
