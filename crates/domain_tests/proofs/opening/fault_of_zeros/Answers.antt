use Rattle.mvrlu.proofs.AllSeats.{opened_all}
use Rattle.domain_tests.proofs.opening.fault_of_zeros.Goals as goal

pub meet-closing-requires : goal.meet-closing-requires
meet-closing-requires c = record { all = opened_all c.in-Ok.domain c.in-Ok.seats.items c.args.config _ c.in-Ok.ensures.opened.1 }
