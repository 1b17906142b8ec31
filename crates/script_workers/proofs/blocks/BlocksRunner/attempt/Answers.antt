use Rattle.script_workers.proofs.Terms.{arith, under_still}
use Rattle.script_workers.proofs.blocks.BlocksRunner.attempt.Goals as goal

-- the block is done
pub returns-in-Done : goal.returns-in-Done
returns-in-Done g c =
    let did = c.attempt_block-store.ensures in
    let new = c.attempt_block-store.result.0 in
    record {
      tried = λ s u. (
        (
          c.commands-commands.ensures.block.some,
          record { from = g.S.Store.seat_of c.args.self.store; none = u.none; attempted = rw c.in-Done.is at did.attempted; lawful = g.met.S.Store.lawful new },
        ),
        omega (arith, u.may, did.continues.write_max),
      );
    }

-- or no commit was made
pub returns-in-Again : goal.returns-in-Again
returns-in-Again g c =
    let did = c.attempt_block-store.ensures in
    record { tried = λ s u. under_still _ s _ _ u (record { continues = did.continues; mine = (rw c.in-Again.is at did.attempted).mine }) }
