-- A handle may go to another thread, as the seat behind it may.
use denote.Param.Send.{IsSend, owning_send, struct_send, sendable}
use denote.Builtin.{RawPtr, bool}
use denote.Struct.Struct.{exits_of}
use denote.Struct.Owning.{shape, fields, to}
use Rattle.std_alloc.proofs.SendSync.{quiet}
use Rattle.set_seats.proofs.seat.SetSeat.TheSendSync.{the_send as seat_send}
use Rattle.crossbeam_utils.proofs.cache_padded.CachePadded.TheSendSync.{the_send as padded_send}
use Rattle.mvrlu_c.specs.Held.{sets_row}
use Rattle.mvrlu_c.proofs.HandleValues.{held_keyless}
use Rattle.set_seats.specs.contracts.seat.SetSeat as seated
use Rattle.mvrlu_c.specs.contracts.sets_handle.MvrluSets.{the_row, the_type}

pub send : IsSend the_row
send = let O = the_type in let ps : IsSend RawPtr = search sendable in let bs : IsSend bool = search sendable in
    let s : IsSend sets_row = padded_send seated.the_row seat_send in
    owning_send O (bs, (ps, tt)) (λ d. held_keyless sets_row s d.is_open d.at d.state)
    (λ k. quiet (to O) (exits_of k (fields O)) ((struct_send (shape O) (bs, (ps, tt))).leaving k))
