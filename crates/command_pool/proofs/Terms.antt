-- What the proofs of this crate speak of and cite, under one name.
pub use Rattle.std.proofs.Common.{get_or, ◌≡◌, ℕ, zero, suc, ◌+◌, ◌<◌, ◌≤◌, ◌==◌, List, [], ◌∷◌, ◌++◌, length, map, All, refl, sum_by}
pub use Rattle.std.proofs.Common.{ap, ◌∙◌, arith, Vec, subst, Some, ◌-◌, set, sym, slice_get, append_assoc, vec_capacity, vec_len}
pub use Rattle.std.proofs.lemmas.List.{length-map, length_push}
pub use Rattle.std.proofs.lemmas.List.Elements.{All-nil, All-cons, All-head, All-tail}
pub use Rattle.std.proofs.lemmas.List.Sums.{sum_by-append}
pub use Rattle.script_workers.specs.Terms.{Line, flat_map, Seat, Command, Place, Reply, Causes, Answer, command_at, Chain, HaveNumbers, answered}
pub use Rattle.item_workers.specs.Serving.{EachServed, Serves}
pub use Rattle.script_workers.specs.Lines.{line_of, row_of}
pub use Rattle.script_workers.specs.Links.{Linked}
pub use Rattle.crossbeam_queue.specs.Passes.{view, IsSamePass, IsPassOf}
pub use mathlib.Core.Option.{some, some-injective, some-ne-none}
pub use lib.ListN.{get_elem?}
pub use Rattle.command_pool.specs.Pool.{times_of, AreTaken, EachSeat, Took, TookLinked, PoolRan, lines_from}
pub use Rattle.command_pool.specs.Queue.{total_to, last_of, hand, all_parts, AreFrom, IsHand, IsShared}
pub use Rattle.command_pool.specs.Turns.{QueueOf, IsBegun, IsLent, taken_of, GaveTurn, HasEnded}
pub use Rattle.command_pool.specs.declared.queue.Hand.{Hand}
pub use Rattle.command_pool.specs.declared.turns.PoolSource.{PoolSource}
