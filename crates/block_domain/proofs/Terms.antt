-- The terms of this crate, under one name.
pub use Rattle.std.proofs.Common.{◌≡◌, suc, ◌+◌, List, [], ◌∷◌, length, map, refl, sym, ◌∙◌, subst, arith, ℕ, ◌-◌, ◌≤◌, Some, ◌<◌, ◌==◌, nat_lt, Bool, true}
pub use Rattle.std.proofs.Common.{false, if◌then◌else◌, ◌++◌, sum_by, ap, cond, ◌*◌, IsTrue, get_or, add-one, append_assoc, length-append, zero, set}
pub use Rattle.std.specs.List.{All, slice_get, slice_index_or, swap}
pub use Rattle.script_workers.specs.Terms.{flat_map, Seat, catalogue_of, IsOpening, capacity, Command, Line, Follows, Past, Reply, Read, Place, Commit}
pub use Rattle.script_workers.specs.Terms.{commits_of, time_of, State, state_at, state_of_time}
pub use Rattle.std.specs.List.Sorted.{IsPermutation}
pub use Rattle.std.proofs.lemmas.List.Sorted.{IsPermutation-refl, IsPermutation-sym, IsPermutation-trans, IsPermutation-map, All-permutation}
pub use Rattle.std.proofs.lemmas.List.Sorted.{IsPermutation-swap, IsPermutation-keeps}
pub use Rattle.mv_history.specs.State.{state_after}
pub use Rattle.set_model.specs.Catalogue.{Maps, empty}
pub use Rattle.set_blocks.specs.BlockRules.{IsBlockCommit}
pub use Rattle.run_report.specs.Order.{IsOrdered}
pub use Rattle.run_report.specs.Legal.{EachPair, IsAlone, IsInTime, id_of, ids_of, ids_from, is_last, is_commit}
pub use Rattle.run_report.specs.Whole.{EachHasOneLine, commit_lines, is_commit_of}
pub use Rattle.run_report.proofs.history.Replay.{IsLeft, quiet_before, left_by_read, left_by_commit}
pub use Rattle.run_report.proofs.history.Steps.{IsSamePlace, IsPlaced, StepsOf}
pub use Rattle.domain_loan.specs.Met.{AllContinue, HasMet}
pub use Rattle.domain_lines.proofs.OneHistory.{IsOneHistory, one_history}
pub use Rattle.script_workers.specs.Lines.{DoneBlock, lines_of, lines_at}
pub use Rattle.script_workers.specs.BlockRuns.{AllRanBlocks, BlockPlaceOf, BlocksOf, RanBlocks}
pub use Rattle.block_domain.specs.Legal.{commands_of, IsInBlockTime, IsOfOneBlock, IsOfOnePlace, LegalBlocks, ReplaysBlocks, head_of, start_from, block_from}
pub use Rattle.block_domain.specs.Legal.{MayBlockStand, after_block, block_of, start_of}
pub use Rattle.block_domain.specs.Whole.{BlockStandsIn, BlocksRunOf, commit_blocks}
pub use Rattle.mv_history.specs.declared.history.Entry.{Entry}
pub use Rattle.std.proofs.lemmas.List.Elements.{All-head, All-tail, All-weaker, All-nil, All-cons, All-push, All-append}
pub use Rattle.std.proofs.lemmas.List.Sums.{sum_by-cons, sum_by_push}
pub use Rattle.std.proofs.lemmas.List.{map-append, take_all, map-set, length-map}
pub use Rattle.std.proofs.lemmas.List.Concat.{flat_map-append}
pub use Rattle.script_workers.proofs.Places.{block_longer, place_count}
pub use Rattle.domain_loan.proofs.Seats.{new_own, left_for, as_many}
