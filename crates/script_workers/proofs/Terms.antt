-- What the proofs of this crate speak of and cite, under one name.
pub use Rattle.std.proofs.Common.{◌≡◌, ℕ, suc, ◌+◌, ◌-◌, ◌<◌, ◌≤◌, ◌==◌, ◌^◌, ◌&&◌, ◌++◌, ◌∷◌, [], ◌∙◌, Bool, true, false, not, if◌then◌else◌, eqb, List}
pub use Rattle.std.proofs.Common.{length, map, take, drop, sum_by, All, Vec, Option, Some, None, inl, inr, refl, sym, ap, subst, arith, get_or, slice_get}
pub use Rattle.std.proofs.Common.{length-append, append_assoc, take_at, vec_capacity}
pub use Rattle.std.proofs.lemmas.List.{drop_at, length-map, append-nil, get_or_push, take-append-drop, take_more}
pub use Rattle.std.proofs.lemmas.List.Folds.{length-flat_map-take}
pub use Rattle.std.proofs.lemmas.Option.{slice_get_within, get_or_from_slice_get}
pub use Rattle.mv_history.specs.Calls.{IsEntryAt}
pub use Rattle.mv_history.proofs.Steps.{Continues-Continues}
pub use Rattle.mv_history.specs.declared.history.Entry.{Entry}
pub use Rattle.item_workers.proofs.Links.{each_seat, chain_told, chain_length, did_to, all_free, all_may}
pub use Rattle.work_runner.proofs.Tries.{entered_fresh, seen_grows, entered_continues, entered_within, gave_up, under_still}
pub use Rattle.run_report.proofs.history.Grown.{longer, place_longer, there_longer, state_longer}
pub use Rattle.grow_hash.specs.Tables.{grow_levels}
pub use Rattle.grow_report.specs.Turns.{is_added, odd_with}
pub use Rattle.script_workers.specs.Terms.{flat_map, Global, Seat, IsSeat, InSection, Continues, Continues-itself, Commit, Rest, Change, commits_of, State}
pub use Rattle.script_workers.specs.Terms.{Writes, state_at, Command, Place, AtCommit, Read, Reply, Causes, Line, catalogue_of, IsOpening, IsSetCommit}
pub use Rattle.script_workers.specs.Terms.{capacity, MOST_COMMANDS, Attempted, most_locks, Done, Again, Follows, time_of, Past, past_of, PlaceOf, BySeat}
pub use Rattle.script_workers.specs.Terms.{LinesOf, Ran, AllRan, state_of_time, Answer, Chain, DidAll, DidTo, EachDid, HaveNumbers, answered, OnTried}
pub use Rattle.script_workers.specs.Terms.{CommitsNone, IsUnder, IsEnteredBetween, none_begun}
pub use Rattle.script_workers.specs.Workers.{items_of, command_count, blocks_of, count_of}
pub use Rattle.script_workers.specs.Lines.{line_of, row_of, lines_at, lines_of, done_of, lines_in, row_in, block_row, FitsNumbers, AllFit}
pub use Rattle.script_workers.specs.Links.{Linked, LinkedLine, AllLinked, LinkedBlock, LinkedBlockOf, AllLinkedBlocks}
pub use Rattle.script_workers.specs.GrowLinks.{GrowKept, kept, LinkedCommand, LinkedTurn, LinkedTurnLine, LinkedTurns, AllLinkedTurns, LinkedIf, IsAnsweredBy}
pub use Rattle.script_workers.specs.GrowLinks.{IsUnderTurn}
pub use Rattle.script_workers.specs.BlockRuns.{BlockPlaceOf, BlocksOf, RanBlocks, AllRanBlocks}
