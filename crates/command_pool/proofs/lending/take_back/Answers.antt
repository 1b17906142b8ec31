use Rattle.command_pool.proofs.Terms.{◌++◌, ◌∙◌, arith, ap, sym, length, append_assoc, flat_map, All-head, All-tail, IsLent, taken_of, view, Hand}
use Rattle.command_pool.proofs.Sharing.{merges}
use Rattle.command_pool.proofs.lending.take_back.Goals as goal

pub absorb-requires-clause-rule : goal.absorb-requires-clause-rule
absorb-requires-clause-rule c = merges _ _ _ _ (omega (arith, c.loop-turns.invariant.parts.1))

pub loop-turns-preserved : goal.loop-turns-preserved
loop-turns-preserved c =
    let l = c.loop-turns in
    let now = l.invariant in
    let one = c.take_first-part.result in
    let rest = c.take_first-part.new.from.items in
    let first = c.take_first-part.ensures.items in
    let lent = rw first at now.lent in
    let mine = All-head (IsLent c.args.queue.now) one rest lent in
    let rule = c.absorb.ensures.rule in
    let parts = ap (λ (v : Hand). v.parts) rule in
    record {
      pass = (c.absorb.ensures.queue.0 ∙ now.pass.0, c.absorb.ensures.queue.2 ∙ now.pass.1);
      parts = (
        omega (arith, parts, ap (λ (v : Hand). v.parts) mine.view_is, ap length first, now.parts.0),
        omega (arith, parts, now.parts.1),
      );
      lent = All-tail (IsLent c.args.queue.now) one rest lent;
      taken = ap (λ (v : Hand). v.taken ++ flat_map taken_of rest) rule
          ∙ append_assoc (view l.pass).taken (taken_of one) (flat_map taken_of rest)
          ∙ ap (λ ts. (view l.pass).taken ++ flat_map taken_of ts) (sym first)
          ∙ now.taken;
    }
