use Rattle.set_blocks.proofs.Terms.{take, length, BlockPlan, ◌≡◌, ◌*◌, ◌≤◌}
use Rattle.set_blocks.proofs.finding.plan_turns.Given as goal

abbrev pub invariant-loop-command : goal.invariant-loop-command
invariant-loop-command g l = record {
  plan : BlockPlan (g.V.View.state l.fn.overlay.view) (take l.command-index l.commands) (take l.overlay.count l.overlay.writes) l.replies l.changes;
  view : g.V.View.as_before l.fn.overlay.view l.overlay.view;
  count : l.overlay.count ≤ 5 * l.command-index;
  said : length l.replies ≡ l.command-index;
}
