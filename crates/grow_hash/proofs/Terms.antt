-- What the proofs of this crate speak of and cite, under one name.
pub use Rattle.std.proofs.Common.{◌≡◌, ◌≢◌, ℕ, zero, suc, ◌+◌, ◌*◌, ◌/◌, ◌-◌, ◌%◌, ◌<◌, ◌≤◌, ◌⊎◌, inl, inr, cond, Bool, sym, ap, ◌∙◌, arith, lt-ltb, le-ltb}
pub use Rattle.std.proofs.Common.{◌^◌, List, [], ◌∷◌, length, drop, set, refl, subst, true, false, Some, Option, true≢false, None, not, get_or-set_other}
pub use Rattle.std.proofs.Common.{length-set, eqb, ne_eqb, get_or-drop, length-drop, eq-eqb, min, nat_lt, ◌&&◌, ◌++◌, append_assoc, append-nil, take}
pub use Rattle.std.proofs.Common.{slice_index_or, ◌==◌, length-take, get_or, get_or-set_same}
pub use Rattle.std.specs.Prelude.{MatchOption, ⊤}
pub use Rattle.std.proofs.lemmas.Bool.{cases_lt, cases_eq, false_from_ne_true, cases_order}
pub use Rattle.std.proofs.Math.Nat.{mod-lt, div-add-mod}
pub use Rattle.std.proofs.lemmas.List.{drop-set-lt, drop-set-add, get_or_past, take-append-drop, drop-set, get_or-take, take_more_set}
pub use Rattle.std.proofs.lemmas.Nat.{pow-add}
pub use Rattle.std.proofs.lemmas.Bool.Decides.{nat_tests}
pub use Rattle.mv_history.specs.State.{State, Writes, written, touches, state_after, state_at}
pub use Rattle.mv_history.specs.Meaning.{words_at, Seat, InSection, IsSeat, IsSection, state_of, state_of_time}
pub use Rattle.set_model.specs.Catalogue.{Map, Maps, empty, map_of, put, next_key, has_key, take_out, with_key}
pub use Rattle.set_model.specs.Objects.{owner, key, link, list_words, no_words, relink, value, head_words, kind}
pub use Rattle.set_model.proofs.ObjectWords.{word, owned_in_range, owner-relink, kind-relink, key-relink, value-relink}
pub use Rattle.mv_history.proofs.Writing.{length-written, state_after-append, words-written_other}
pub use Rattle.set_model.specs.declared.commands.Command.{Command}
pub use Rattle.set_model.specs.Replies.{changed, applies, overflows}
pub use Rattle.set_model.specs.Tags.{tag_of}
pub use Rattle.set_model.specs.CatalogueOf.{map_at, is_key_at}
pub use Rattle.list_set.specs.Linked.{IsLinked, IsNodeOf, IsAfter}
pub use Rattle.list_set.specs.Walks.{IsWindow, walk_left}
pub use Rattle.mv_history.specs.Drift.{IsFit}
pub use Rattle.mv_history.proofs.Drifting.{drift_keeps_apart, words-drifts, allowed_at_once}
pub use Rattle.set_model.specs.declared.commands.Command.TheVariants.{Add, Put, Del, Has, Get, Move, Pair, Size, Next}
pub use Rattle.section_work.proofs.Objects.{touches-in, IsIn, touches-out, in-touches}
pub use Rattle.list_set.specs.Places.{IsInList, IsAddPlace, add_writes, IsDelPlace, del_writes}
pub use Rattle.list_set.proofs.Changes.{Added, Taken}
pub use Rattle.set_model.proofs.Mapped.{map_among-same, map_among-more, map_among-less, map_among-has, has-map_among, IsMap-map_among}
pub use Rattle.set_model.proofs.Tally.{tally, tally-bound, length-map_among, tally-none, tally-same, node_at, length-put}
pub use Rattle.list_set.proofs.Linking.{head_no_node}
pub use Rattle.list_set.proofs.Counting.{keys_counted, count_first, count_in_range, count_falls, count_step, count_done, IsCount}
pub use Rattle.mv_history.specs.declared.history.Entry.TheVariants.{Rest, Change}
pub use Rattle.mv_history.specs.Legal.{IsAllowed, are_distinct, AreWithin}
pub use Rattle.set_model.specs.declared.commands.Reply.TheVariants.{Yes, No, Full, Worn, Count}
pub use Rattle.section_work.specs.Works.{IsPlanned}
pub use Rattle.mv_history.proofs.Histories.{IsAllowed-front}
pub use Rattle.section_work.specs.OwnWrites.{objects_of}
pub use Rattle.grow_hash.specs.Tables.{grow_levels, most_levels, most_level, hash, buckets_at, bucket_of, bucket, level, split_place, buckets, table_words}
pub use Rattle.grow_hash.specs.Tables.{IsTable, next_table}
pub use Rattle.grow_hash.specs.Grown.{most_buckets, first_grown, IsGrown, is_used, grown_name, grown_catalogue, grown_capacity, head_at, grown_map}
pub use Rattle.grow_hash.specs.Grown.{IsGrownOpening}
pub use Rattle.grow_hash.specs.GrowRules.{makes, growing_of, KeepsGrown, Grows, IsGrowCommit, Growing, splits, split_tag, SplitsGrown}
pub use Rattle.grow_hash.specs.GrowPlans.{head_of, GrowPlan, IsGrowing, IsFree, IsOfGrown}
pub use Rattle.grow_hash.specs.Splits.{is_splitting, count_splits}
pub use Rattle.grow_hash.specs.GrowFindings.{IsGrowFound, reply_at_last, IsGrowPlanned}
pub use Rattle.grow_hash.specs.declared.deciding.GrowFinding.TheVariants.{Settled, Open}
pub use Rattle.grow_hash.specs.BucketReads.{IsRead, IsMoved, ArePartedWrites}
pub use Rattle.grow_hash.specs.SplitPlans.{SplitPlan, IsPath, new_bucket, split_bucket, first_to, parted_nodes, split_writes}
pub use Rattle.grow_hash.specs.SplitSteps.{IsPlannedSplit, IsClosed}
