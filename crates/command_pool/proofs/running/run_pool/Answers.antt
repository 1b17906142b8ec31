use Rattle.command_pool.proofs.Terms.{◌≤◌, length, map, ap, arith, length-map, Hand}
use Rattle.command_pool.proofs.Taking.{pool_done, pool_ran}
use Rattle.command_pool.proofs.Sharing.{learns}
use Rattle.command_pool.proofs.running.run_pool.Goals as goal

-- the pass has the parts that the workers don't have
pub take_back-requires-clause-part : goal.take_back-requires-clause-part
take_back-requires-clause-part g c =
    let done = pool_done _ _ _ _ _ _ _ _ c.share_out.ensures.begun c.in-Ok-run_sources.ensures.served in
    let left = ap (λ (v : Hand). v.parts) c.share_out.ensures.left in
    let seats = length-map c.args.stores.items g.S.Store.seat_of in (
      omega (arith, left, done.many, seats, c.len-seats.ensures, c.args.stores.ok.0, c.requires.few),
      omega (arith, left, c.len-seats.ensures, c.args.stores.ok.0, c.requires.few),
    )

pub take_back-requires-clause-lent : goal.take_back-requires-clause-lent
take_back-requires-clause-lent g c = (pool_done _ _ _ _ _ _ _ _ c.share_out.ensures.begun c.in-Ok-run_sources.ensures.served).lent

-- the pass has all parts again
pub learn_as-requires-clause-rule : goal.learn_as-requires-clause-rule
learn_as-requires-clause-rule g c = learns _ _ c.take_back.ensures.whole

-- there is room for the lines
pub make_lines-requires-clause-room : goal.make_lines-requires-clause-room
make_lines-requires-clause-room g c =
    let some : 1 ≤ length (map g.S.Store.seat_of c.args.stores.items) = omega (arith, length-map c.args.stores.items g.S.Store.seat_of, c.requires.some) in
    let done = pool_done _ _ _ _ _ _ _ _ c.share_out.ensures.begun c.in-Ok-run_sources.ensures.served in
    let ran = pool_ran _ _ _ _ _ _ _ _ some done c.take_back.ensures.taken c.learn_as.ensures.rule.1 in
    rw c.deref.ensures.value (omega (arith, ran.count, c.in-Ok.ensures.lines.1))

-- each command was done once
pub returns-in-Ok-run_sources : goal.returns-in-Ok-run_sources
returns-in-Ok-run_sources g c =
    let some : 1 ≤ length (map g.S.Store.seat_of c.args.stores.items) = omega (arith, length-map c.args.stores.items g.S.Store.seat_of, c.requires.some) in
    let done = pool_done _ _ _ _ _ _ _ _ c.share_out.ensures.begun c.in-Ok-run_sources.ensures.served in
    let ran = pool_ran _ _ _ _ _ _ _ _ some done c.take_back.ensures.taken c.learn_as.ensures.rule.1 in
    record {
      pool = rw (c.make_lines.ensures, c.deref.ensures.value) ran;
      linked = rw (c.make_lines.ensures, c.deref.ensures.value) done.linked;
      err = tt;
    }
