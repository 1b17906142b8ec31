use Rattle.set_blocks.proofs.Terms.{take, merged, ◌≡◌, ◌+◌, ◌≤◌}
use Rattle.set_blocks.proofs.overlay.Overlay.write.Given as goal

abbrev pub invariant-loop-change : goal.invariant-loop-change
invariant-loop-change g l = record {
  view : l.self.view ≡ l.fn.self.view;
  writes : take l.self.count l.self.writes ≡ merged (take l.fn.self.count l.fn.self.writes) (take l.change-index l.changes);
  count : l.self.count ≤ l.fn.self.count + l.change-index;
}
