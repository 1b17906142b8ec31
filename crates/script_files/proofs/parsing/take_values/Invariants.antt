use Rattle.std.proofs.Common.{◌≡◌, ◌≤◌, ◌++◌, Ok, length, map, vec_capacity}
use Rattle.std.specs.Vec.Iter.{into_iter_items}
use Rattle.script_files.proofs.parsing.take_values.Given as goal

abbrev pub invariant-loop-result : goal.invariant-loop-result
invariant-loop-result g l = (goal.iterator-loop-result g).can_next l.result-iterator
    × (goal.iterator-loop-result g).is_finite l.result-iterator
    × (l.fn.results.items ≡ map Ok l.values.items ++ into_iter_items l.result-iterator)
    × (length l.fn.results.items ≤ vec_capacity l.values)
