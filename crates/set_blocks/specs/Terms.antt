-- The terms of the crates below that the definitions of this crate speak of, under one name.
pub use Rattle.std.specs.Prelude.{ℕ, ◌≡◌, ◌+◌, ◌-◌, ◌<◌, ◌==◌, true, false, List, [], ◌∷◌, ◌++◌, length, Bool, if◌then◌else◌, ◌*◌, ◌≢◌, ◌≤◌, ◌||◌, not, ◌&&◌}
pub use Rattle.std.specs.Prelude.{replicate, ◌⊎◌, Option, None, Some}
pub use Rattle.std.specs.List.{list_any}
pub use Rattle.mv_history.specs.State.{state_at, State, Writes, written, touches}
pub use Rattle.mv_history.specs.Meaning.{Seat, InSection, state_of_time, words_at}
pub use Rattle.set_model.specs.CatalogueOf.{catalogue_of}
pub use Rattle.set_model.specs.Rules.{capacity, IsInRange}
pub use Rattle.set_model.specs.declared.commands.Command.{Command}
pub use Rattle.set_model.specs.declared.commands.Reply.{Reply}
pub use Rattle.set_model.specs.declared.commands.Command.TheVariants.{Add, Put, Del, Has, Get, Move, Pair, Size, Next}
pub use Rattle.set_model.specs.declared.commands.Reply.TheVariants.{Yes, No, Both, NoKey, Value, Full, Worn}
pub use Rattle.set_model.specs.Objects.{key, link, value, first_node, first_root, owner, kind}
pub use Rattle.set_model.specs.Trees.{EndsAt}
pub use Rattle.set_catalog.specs.Merges.{merged}
pub use Rattle.set_catalog.specs.Replies.{changes_in, reply_in}
pub use Rattle.set_blocks.specs.declared.block.TheConstants.{MOST_IN_BLOCK}
