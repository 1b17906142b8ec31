-- What the proofs of this crate speak of and cite, under one name.
pub use Rattle.std.proofs.Common.{◌≡◌, true, false, [], ◌∷◌, refl, ℕ, List, ◌≢◌, ◌^◌, ◌<◌, inl, inr, Bool, cond, not, ◌&&◌, ◌||◌, sym, ap, ◌∙◌, subst, suc, ◌≤◌}
pub use Rattle.std.proofs.Common.{arith, ◌*◌, length, take, drop, ◌++◌, true≢false, Option, Some, None, set, ◌⊎◌, ◌+◌, get_or, append_assoc, append-nil}
pub use Rattle.std.proofs.Common.{replicate, ◌-◌, eqb, nat_lt, ◌==◌, min, eqb-true, slice_index_or, ap₂, length-take, length-append, rules}
pub use Rattle.std.proofs.lemmas.List.{take-append-drop, set-get_or, take_more, length-replicate, length-drop, length-take-le, get_or-take, take-replicate}
pub use Rattle.std.proofs.lemmas.Bool.{false_from_ne_true, cases_lt, cases_eq}
pub use Rattle.std.proofs.lemmas.List.Elements.{All-push, All-head, All-tail}
pub use Rattle.std.proofs.lemmas.List.Folds.{list_any_at, list_any-append}
pub use Rattle.std.specs.List.{list_any}
pub use Rattle.set_model.specs.Catalogue.{empty, with_key, Maps, map_of, has_key, has_entry, take_out, Map, value_of, next_key, put}
pub use Rattle.set_model.specs.declared.commands.Command.TheVariants.{Add, Del, Has, Move, Pair, Put, Get, Size, Next}
pub use Rattle.set_model.specs.declared.commands.Reply.TheVariants.{Yes, No, Full, Worn, Both, NoKey, Value, Count, Key}
pub use Rattle.mv_history.specs.Meaning.{Seat, words_at, InSection, IsSeat}
pub use Rattle.set_model.specs.declared.commands.Command.{Command}
pub use Rattle.set_model.specs.declared.commands.Reply.{Reply}
pub use Rattle.mv_history.specs.State.{State, Writes, written, touches, state_at, rewritten, writes_of, state_after}
pub use Rattle.mv_history.specs.Legal.{are_distinct, IsAllowed, IsWords, AreWrites, AreWithin, AreApart, NoneWrites}
pub use Rattle.mv_history.proofs.Drifting.{allowed_at_once, drift_keeps_apart, drifts_itself}
pub use Rattle.set_model.specs.CatalogueOf.{catalogue_of, name_of}
pub use Rattle.set_model.specs.Objects.{value, owner, key, link, no_words, relink, revalue, kind, leaf_words, first_node, first_root, inner_words}
pub use Rattle.set_model.specs.Lawful.{IsLawful, IsOpening}
pub use Rattle.set_model.specs.Replies.{applies, overflows, reply, changes, changed, value_reply, next, key_reply}
pub use Rattle.set_model.specs.Rules.{capacity, IsInRange, Makes, IsSetCommit, Keeps}
pub use Rattle.set_catalog.specs.Merges.{merged, merged_one, writes_in}
pub use Rattle.set_catalog.specs.Plans.{head_of, DelPlan, AddPlan, PutPlan, MovePlan, PlanOf}
pub use Rattle.set_catalog.specs.Replies.{changes_in, reply_in}
pub use Rattle.set_catalog.proofs.HeadNames.{head_below, low_head, low_fits, root_from, root_below, head_named}
pub use Rattle.set_catalog.proofs.Merging.{merged-is, touches-merged, merged-distinct, length-merged, merged_next, merged_all, written_there, written_last}
pub use Rattle.set_catalog.proofs.PlanWays.{AddedBy, RemovedBy, fit_add, fit_put_new, fit_put, fit_del, by_distinct, added_by, removed_by, by_within, ByWay}
pub use Rattle.set_catalog.proofs.PlanWays.{vacant_one, vacant_two, other_than}
pub use Rattle.set_model.specs.Trees.{HoldsTree, seek, EndsAt, top, Tree, objects_in, Stands, IsTree, IsDistinct, AllBelow, AllFrom, IsOrdered}
pub use Rattle.set_model.specs.Trees.Tree.{leaf, inner}
pub use Rattle.set_model.proofs.ObjectWords.{word, kind-revalue, owned_in_range}
pub use Rattle.section_work.proofs.Objects.{IsIn, in-touches, in_left, in_right, touches-in, in_either}
pub use Rattle.set_model.proofs.TreeShape.{seek_in, Stands-owner, only_in, seek_left, seek_right, top_in}
pub use Rattle.tree_set.specs.Paths.{PathStep, Path, plug, Follows, node_of, around}
pub use Rattle.tree_set.specs.Places.{IsCutPlace, tree_del_writes, sibling, IsLeaf, tree_add_writes, IsBarePlace, bare_writes, IsParent, IsGrowPlace}
pub use Rattle.tree_set.specs.Places.{grow_writes}
pub use Rattle.tree_set.proofs.Plugging.{distinct_part, stands_part, seek_plug, seek_beside, plug_in, plug_apart, ordered_part, ordered_within, IsWithin}
pub use Rattle.tree_set.proofs.Replacing.{redirect_keeps}
pub use Rattle.tree_set.proofs.Turns.{beside, seek_turn, plug_last, follows_front, follows_back, beside_not_leaf}
pub use Rattle.tree_set.proofs.CutFit.{cut_twig, cut_prunes, tree_with, path_to_leaf}
pub use Rattle.tree_set.proofs.TreeWays.{inner_same, leaf_same, child_same, parent_same, leaf_has, ends_at_root}
pub use Rattle.mv_history.specs.Drift.{Drifts, IsFit}
pub use Rattle.section_work.specs.OwnWrites.{objects_of, with_locks}
pub use Rattle.set_model.proofs.Entries.{has_entry-there, has_entry-value, has_entry-absent}
pub use Rattle.set_model.proofs.Heads.{name_bound, is_key_at-from, owned_kind}
pub use Rattle.list_set.proofs.Adding.{add_absent, add_writes_do}
pub use Rattle.list_set.proofs.ListHalves.{node_has, still_in}
pub use Rattle.list_set.proofs.Removing.{removal, Removal, del_writes_do}
pub use Rattle.tree_set.proofs.Found.{found_none, found_leaf, found_grow, found_words}
pub use Rattle.list_set.specs.Places.{IsInList, IsAddPlace, add_writes, IsDelPlace, del_writes, IsPutPlace, put_writes}
pub use Rattle.mv_history.proofs.Writing.{length-written, state_after-append, words-written_other, words-written_same, touches_more}
pub use Rattle.set_model.proofs.Ways.{IsAt, IsVacant, AreVacant, Way, Lacks, HasOther, vacant_same}
pub use Rattle.tree_set.proofs.Around.{at_in_range, part_not_parent, owned_not_vacant}
pub use Rattle.set_catalog.specs.Plans.AddPlan.{links, tree_adds, grows}
pub use Rattle.set_catalog.specs.Plans.DelPlan.{unlinks, bares, cuts}
pub use Rattle.set_catalog.specs.Plans.PutPlan.{in_list, in_tree}
pub use Rattle.set_model.specs.TreeLaws.{top_is_node, grown_once}
pub use Rattle.section_work.proofs.OwnWrites.{touches-with_locks, distinct-with_locks, written-with_locks, written-with_writes, words-written_as}
pub use Rattle.list_set.specs.Walks.{IsWindow}
pub use Rattle.tree_set.specs.Walks.{IsDescent}
pub use Rattle.set_catalog.specs.Picks.{count_vacant, vacant_nodes}
pub use Rattle.set_blocks.specs.BlockReplies.{block_replies, block_changes, block_next, after_turns, some_full, turn_replies, is_full, would_change}
pub use Rattle.set_blocks.specs.BlockReplies.{some_changes}
pub use Rattle.set_blocks.specs.BlockMeaning.{block_meaning, replies_in, block_changes_in, MakesBlock}
pub use Rattle.set_blocks.specs.BlockRules.{Remains, IsOfLists, IsBlockCommit, block_tag}
pub use Rattle.set_blocks.specs.Blocks.{IsBlock, stands_alone}
pub use Rattle.set_blocks.specs.BlockFindings.{IsBlockFound, found_by}
pub use Rattle.set_blocks.specs.declared.finding.BlockFinding.TheVariants.{Settled, Open}
pub use Rattle.set_blocks.specs.BlockPlans.{BlockPlan, LacksAt, HasAt, ValueAt, TellsAt, HoldPlan, holding, StepPlan}
pub use Rattle.set_blocks.specs.BlockPlans.LacksAt.{before_gap, no_tree, other_leaf}
pub use Rattle.set_blocks.specs.BlockPlans.HasAt.{before_node, own_leaf}
pub use Rattle.set_blocks.specs.BlockPlans.ValueAt.{in_node, in_leaf}
pub use Rattle.set_blocks.specs.BlockPlans.HoldPlan.{has_yes, has_no, del_no, add_no, get_none, get_value, put_no, move_from_none, move_to_one, pair_tells}
pub use Rattle.set_blocks.specs.BlockPlans.BlockPlan.{nothing_yet, one_more}
pub use Rattle.set_blocks.specs.Turns.{TurnsTo, HoldsReply}
pub use Rattle.set_blocks.specs.BlockPlans.StepPlan.{changing, keeping}
