use Rattle.domain_lines.proofs.NewSeats.{lent_length, lent_may_hold}
use Rattle.pool_domain.proofs.Terms.{arith, new_own, left_for}
use Rattle.pool_domain.proofs.OnePool.{all_went_on}
use Rattle.pool_domain.proofs.running.run_seats.Goals as goal

-- the seats are of the domain, and their handles are as many and may hold what a command locks
pub lend_all-requires : goal.lend_all-requires
lend_all-requires g c = record { own = new_own c.args.domain.now c.args.seats.items c.requires.new }

pub run_pool-requires-clause-some : goal.run_pool-requires-clause-some
run_pool-requires-clause-some g c κs within =
    omega (arith, lent_length c.args.seats.items c.in_ok-handles.handles.items c.in_ok-handles.ensures.handles, c.requires.some)

pub run_pool-requires-clause-few : goal.run_pool-requires-clause-few
run_pool-requires-clause-few g c κs within =
    omega (arith, lent_length c.args.seats.items c.in_ok-handles.handles.items c.in_ok-handles.ensures.handles, c.requires.few)

pub run_pool-requires-clause-most : goal.run_pool-requires-clause-most
run_pool-requires-clause-most g c κs within =
    lent_may_hold c.args.seats.items c.in_ok-handles.handles.items c.in_ok-handles.ensures.handles c.args.domain.now c.requires.new 5
    c.requires.most

-- as many handles come back as seats were lent
pub take_back-requires : goal.take_back-requires
take_back-requires g c = record {
  left = left_for c.in_ok-handles.left c.in_ok-handles.handles.items c.in-Ok.handles.items
      (all_went_on _ _ _ _ c.in-Ok.ensures.pool) c.in_ok-handles.ensures.left;
}

-- the seats that come back are those of the handles
pub returns-in-Ok : goal.returns-in-Ok
returns-in-Ok g c = record {
  ran = rw (c.take_back.ensures.seats, ← c.in_ok-handles.ensures.handles) c.in-Ok.ensures.pool;
  linked = rw (c.take_back.ensures.seats, ← c.in_ok-handles.ensures.handles) c.in-Ok.ensures.linked;
  err = tt;
}
