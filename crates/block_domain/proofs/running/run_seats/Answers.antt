use Rattle.domain_lines.proofs.NewSeats.{lent_length, lent_numbered, lent_may_hold}
use Rattle.block_domain.proofs.Terms.{◌∙◌, new_own, left_for}
use Rattle.block_domain.proofs.OneRun.{all_continue}
use Rattle.block_domain.proofs.running.run_seats.Goals as goal

-- the seats are of the domain, and their handles are numbered in order and may hold what a block locks
pub lend_all-requires : goal.lend_all-requires
lend_all-requires g c = record { own = new_own c.args.domain.now c.args.seats.items c.requires.new }

pub run_blocks-requires-clause-as_many : goal.run_blocks-requires-clause-as_many
run_blocks-requires-clause-as_many g c κs within =
    c.requires.as_many ∙ lent_length c.args.seats.items c.in_ok-handles.handles.items c.in_ok-handles.ensures.handles

pub run_blocks-requires-clause-numbers : goal.run_blocks-requires-clause-numbers
run_blocks-requires-clause-numbers g c κs within =
    lent_numbered c.args.seats.items c.in_ok-handles.handles.items c.in_ok-handles.ensures.handles c.args.domain.now c.requires.new

pub run_blocks-requires-clause-most : goal.run_blocks-requires-clause-most
run_blocks-requires-clause-most g c κs within =
    lent_may_hold c.args.seats.items c.in_ok-handles.handles.items c.in_ok-handles.ensures.handles c.args.domain.now c.requires.new 40
    c.requires.most

-- as many handles come back as seats were lent
pub take_back-requires : goal.take_back-requires
take_back-requires g c = record {
  left = left_for c.in_ok-handles.left c.in_ok-handles.handles.items c.in-Ok.handles.items
      (all_continue _ _ _ _ c.in-Ok.ensures.ran) c.in_ok-handles.ensures.left;
}

-- the seats that come back are those of the handles
pub returns-in-Ok : goal.returns-in-Ok
returns-in-Ok g c = record {
  ran = rw (c.take_back.ensures.seats, ← c.in_ok-handles.ensures.handles) c.in-Ok.ensures.ran;
  linked = rw (c.take_back.ensures.seats, ← c.in_ok-handles.ensures.handles) c.in-Ok.ensures.linked;
  err = tt;
}
