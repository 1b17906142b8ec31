use Rattle.std.proofs.Common.{map, ◌∙◌, sym, subst}
use Rattle.std.specs.List.{AllZip}
use Rattle.std.proofs.lemmas.List.{length-map}
use Rattle.mvrlu.specs.Meant.{seat_of}
use Rattle.domain_loan.specs.New.{fresh}
use Rattle.domain_loan.proofs.Seats.{new_own, left_for}
use Rattle.domain_run.proofs.Working.{seats_ready}
use Rattle.domain_run.proofs.running.run_lent.Goals as goal

-- each task is ready for the handle of its seat
pub run_each-handles-requires-clause-ready : goal.run_each-handles-requires-clause-ready
run_each-handles-requires-clause-ready g c κs within =
    let seats = map (λ s. seat_of s) c.args.seats.items in
    subst (λ ss. AllZip g.T.Task.ready ss c.args.tasks.items) (sym c.in-Ok-lend_all.ensures.handles)
    (seats_ready g.T.Task.ready (fresh c.args.domain.now) seats c.args.tasks.items c.requires.new
    (c.requires.as_many ∙ sym (length-map c.args.seats.items (λ s. seat_of s))) c.requires.ready)

-- the seats are of the domain
pub lend_all-requires : goal.lend_all-requires
lend_all-requires g c = record { own = new_own c.args.domain.now c.args.seats.items c.requires.new }

-- as many handles come back as seats were lent
pub take_back-requires : goal.take_back-requires
take_back-requires g c = record {
  left = left_for c.in-Ok-lend_all.lent.1 c.in-Ok-lend_all.lent.0.items _ c.run_each-handles.ensures.gone_on c.in-Ok-lend_all.ensures.left;
}
