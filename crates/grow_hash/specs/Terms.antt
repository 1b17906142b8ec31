-- The terms of the crates below that the definitions of this crate speak of, under one name.
pub use Rattle.std.specs.Prelude.{ℕ, ◌≡◌, ◌≢◌, List, [], ◌∷◌, Bool, true, false, length, Some, refl, ◌^◌, ◌<◌, ◌≤◌, Option, None, ◌+◌, ◌==◌, ◌&&◌}
pub use Rattle.std.specs.Prelude.{if◌then◌else◌, suc, ◌-◌, not, drop, set, slice_index_or, take, ⊤, ◌%◌, ◌*◌, nat_lt}
pub use Rattle.mv_history.specs.State.{State, Writes, written, touches}
pub use Rattle.mv_history.specs.Meaning.{words_at, Seat, InSection, state_of_time}
pub use Rattle.set_model.specs.Objects.{link, list_words, owner, kind, key, value, head_words, no_words}
pub use Rattle.set_model.specs.declared.commands.Command.{Command}
pub use Rattle.set_model.specs.declared.commands.Reply.{Reply}
pub use Rattle.section_work.specs.Attempts.{Attempted, IsDoneAt, IsReadAt, GivesUp}
pub use Rattle.section_work.specs.Causes.{Causes}
pub use Rattle.section_work.specs.declared.attempting.Attempt.{Attempt}
pub use Rattle.section_work.specs.declared.attempting.Attempt.TheVariants.{Done as WorkDone, Again as WorkAgain}
pub use Rattle.set_model.specs.Tags.{tag_of}
pub use Rattle.set_model.specs.declared.commands.Reply.TheVariants.{Yes}
pub use Rattle.section_work.specs.Works.{Meaning}
pub use Rattle.set_model.specs.declared.commands.Command.TheVariants.{Add, Put, Del, Has, Get, Move, Pair, Size, Next}
pub use Rattle.list_set.specs.Places.{IsAddPlace, add_writes, IsDelPlace, del_writes, IsInList}
pub use Rattle.set_model.specs.Replies.{reply, changes, next}
pub use Rattle.list_set.specs.Linked.{IsNodeOf, IsAfter, IsLinked}
pub use Rattle.set_model.specs.CatalogueOf.{map_among, map_at}
pub use Rattle.grow_hash.specs.declared.split_work.Looked.{Looked}
pub use Rattle.grow_hash.specs.declared.answer.Split.{Split}
pub use Rattle.grow_hash.specs.declared.answer.Split.TheVariants.{Done, Again, Whole as AllSplit, Long as TooLong, Worn as TooLate}
pub use Rattle.grow_hash.specs.declared.split_work.Looked.TheVariants.{Splits, Whole, Long, Worn}
