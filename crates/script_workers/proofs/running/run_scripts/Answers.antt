use Rattle.script_workers.proofs.Runs.{few_numbers, all_ran, all_linked, line_counts}
use Rattle.script_workers.proofs.Terms.{arith, all_free, all_may, Linked}
use Rattle.script_workers.proofs.running.run_scripts.Goals as goal

-- each command may be done on each store
pub run_lists-requires-clause-may : goal.run_lists-requires-clause-may
run_lists-requires-clause-may g c κs within = all_may _ _ c.args.scripts.now (few_numbers c.args.scripts.now c.requires.short) (all_free c.args.scripts.now)

-- there is room for the lines
pub make_lines-requires-clause-room : goal.make_lines-requires-clause-room
make_lines-requires-clause-room g c =
    rw c.deref.ensures.value
    (omega (
      arith,
      line_counts g.S.Store.seat_of _ (Linked _) c.args.stores.items _ c.args.scripts.now c.in_ok-stores.rows.items c.in_ok-stores.ensures.did,
      c.in-Ok.ensures.1,
    ))

pub returns : goal.returns
returns g c =
    let each = c.in_ok-stores.ensures.did in record {
      ran = rw (c.make_lines.ensures, c.deref.ensures.value) (all_ran _ g.S.Store.seat_of c.args.stores.items _ _ c.in_ok-stores.rows.items each);
      linked = rw (c.make_lines.ensures, c.deref.ensures.value) (all_linked _ g.S.Store.seat_of c.args.stores.items _ _ c.in_ok-stores.rows.items each);
      err = tt;
    }
