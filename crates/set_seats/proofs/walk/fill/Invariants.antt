use Rattle.std.proofs.Common.{◌≡◌, ◌-◌, length}
use Rattle.set_seats.specs.Walks.{entries_in}
use Rattle.set_seats.proofs.Filling.{IsFilled}
use Rattle.set_seats.proofs.walk.fill.Given as goal

-- so many entries were written, and the one that comes next is known
abbrev pub invariant-loop-next : goal.invariant-loop-next
invariant-loop-next g l = record {
  before : g.V.View.as_before l.fn.view l.view;
  known : l.memo.known ≡ l.fn.memo.known;
  filled : IsFilled (entries_in (g.V.View.state l.fn.view) l.name l.from) l.initial.entries l.entries l.count l.next;
}

abbrev pub decreases-loop-next : goal.decreases-loop-next
decreases-loop-next g l = length l.initial.entries - l.count
