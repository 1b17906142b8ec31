-- The terms of this crate, under one name.
pub use Rattle.std.proofs.Common.{◌≡◌, ℕ, suc, ◌+◌, ◌<◌, ◌==◌, cond, List, length, refl, sym, ◌∙◌, subst, arith, [], ◌∷◌, ◌++◌, ap, take_at, drop_at, zero, ◌≤◌}
pub use Rattle.std.proofs.Common.{◌-◌, IsTrue, Option, Some, None, slice_get, replicate, inl, inr}
pub use Rattle.std.specs.List.{All}
pub use Rattle.std.proofs.lemmas.List.Elements.{All-weaker, All-nil, All-cons, All-append, All-head, All-tail}
pub use Rattle.mv_history.specs.Meaning.{Seat}
pub use Rattle.mv_history.specs.State.{state_after, commits_of}
pub use Rattle.set_model.specs.Catalogue.{Maps, empty}
pub use Rattle.set_model.specs.CatalogueOf.{catalogue_of}
pub use Rattle.set_model.specs.Lawful.{IsOpening}
pub use Rattle.set_model.specs.Rules.{capacity, IsSetCommit}
pub use Rattle.set_model.specs.declared.commands.Command.{Command}
pub use Rattle.run_report.specs.declared.line.Line.{Line}
pub use Rattle.run_report.specs.Order.{IsOrdered, time_of}
pub use Rattle.run_report.specs.Legal.{Follows, IsAlone, IsInTime, Replays, EachPair, MayStand, after, command_at, command_of, is_commit, is_last}
pub use Rattle.run_report.specs.Worked.{Past, AllRan, PlaceOf, LinesOf}
pub use Rattle.run_report.specs.Whole.{EachHasOneLine, StandsIn, commit_lines, is_commit_of}
pub use Rattle.run_report.proofs.Pairs.{pairs_permuted, pairs_cons, pairs_append}
pub use Rattle.command_pool.specs.Pool.{PoolRan, AreTaken, lines_from, EachSeat, Took}
pub use Rattle.domain_lines.proofs.OneHistory.{IsOneHistory, one_history}
pub use Rattle.pool_domain.specs.Legal.{ReplaysPool}
pub use Rattle.pool_domain.specs.Whole.{PoolOf, StandsInPool}
pub use Rattle.std.specs.Option.{IsSomeAnd}
pub use Rattle.mv_history.specs.declared.history.Commit.{Commit}
pub use Rattle.std.proofs.lemmas.List.{get_or-replicate, length-map}
pub use Rattle.domain_loan.proofs.Seats.{new_own, left_for, as_many}
