use Rattle.item_workers.proofs.Terms.{◌+◌, ◌≤◌, length, vec_capacity, Serves}
use Rattle.item_workers.proofs.running.run_from.Given as goal

abbrev pub invariant-loop : goal.invariant-loop
invariant-loop g l = record {
  serves : Serves g.W.Runner.link g.P.Source.gives (g.W.Runner.seat_of (g.W.Runner.kept_of l.fn.runner)).number (g.W.Runner.kept_of l.fn.runner)
      l.fn.source (g.W.Runner.kept_of l.runner) l.source l.answers.items;
  ready : g.W.Runner.ready l.runner;
  may : g.P.Source.may l.source;
  room : length l.answers.items + g.P.Source.left l.source ≤ vec_capacity l.answers;
}
