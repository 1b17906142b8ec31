use Rattle.std.specs.Prelude.{◌≡◌, sum_by}
use Rattle.accounts.proofs.Terms.{take, balance_of}
use Rattle.accounts.proofs.reading.total.Given as goal

abbrev pub invariant-loop-number : goal.invariant-loop-number
invariant-loop-number g l = record {
  as_before : g.V.View.as_before l.fn.view l.view;
  sum : l.sum ≡ sum_by balance_of (take l.number (g.V.View.state l.fn.view));
}
