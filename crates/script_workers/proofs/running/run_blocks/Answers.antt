use Rattle.script_workers.proofs.Runs.{few_in_blocks, all_blocks_ran, blocks_counted}
use Rattle.script_workers.proofs.Terms.{arith, all_free, all_may}
use Rattle.script_workers.proofs.running.run_blocks.Goals as goal

-- each block may be done on each store
pub run_lists-requires-clause-may : goal.run_lists-requires-clause-may
run_lists-requires-clause-may g c κs within = all_may _ _ c.args.scripts.now (few_in_blocks c.args.scripts.now c.requires.short) (all_free c.args.scripts.now)

-- there is room for the lines, and no number is too great
pub make_block_lines-requires : goal.make_block_lines-requires
make_block_lines-requires g c =
    let counted = blocks_counted _ g.S.Store.seat_of c.args.stores.items _ c.args.scripts.now c.in_ok-stores.rows.items c.in_ok-stores.ensures.did
    c.requires.short in record {
      empty = c.in-Ok.ensures.0;
      few = rw c.deref.ensures.value counted.1;
      room = rw c.deref.ensures.value (omega (arith, counted.0, c.in-Ok.ensures.1));
    }

pub returns : goal.returns
returns g c =
    let ran = all_blocks_ran _ g.S.Store.seat_of c.args.stores.items _ c.args.scripts.now c.in_ok-stores.rows.items c.in_ok-stores.ensures.did in record {
      ran = rw (c.make_block_lines.ensures, c.deref.ensures.value) ran.0;
      linked = rw (c.make_block_lines.ensures, c.deref.ensures.value) ran.1;
      err = tt;
    }
