-- What making room answers, by the room.
use Rattle.std.proofs.Common.{◌≡◌, ◌<◌, ◌≤◌, refl}
use Rattle.mv_history.specs.declared.answers.Holder.{Holder}
use Rattle.mv_history.specs.declared.answers.Room.{Room}
use Rattle.mv_history.specs.declared.answers.Room.TheVariants.{Enough, Short}
use Rattle.mvrlu.specs.Holding.{HoldsBack}
use Rattle.mvrlu.specs.Placed.{Placed, seat_from}
use Rattle.object_seats.specs.Calls.{HasRoom}

-- each room has what is said of it
pub has_room : (p q : Placed) (room : Room) → (room ≡ Enough → (seat_from q).write_max ≤ (seat_from q).spare)
    → ((holder : Holder) → room ≡ Short holder → (seat_from q).spare < (seat_from q).write_max)
    → ((holder : Holder) → room ≡ Short holder → HoldsBack p q holder) → HasRoom p q room
has_room p q Enough enough short holds = enough refl
has_room p q (Short holder) enough short holds = (short holder refl, holds holder refl)
