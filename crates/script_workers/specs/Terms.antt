-- The terms of the crates below that the workers of commands, of blocks, of a growing set and of a pool speak of, under one name.
pub use Rattle.std.specs.List.{flat_map}
pub use Rattle.std.specs.declared.alloc.Global.{Global}
pub use Rattle.mv_history.specs.CallLaws.{Continues-itself}
pub use Rattle.mv_history.specs.Calls.{Continues}
pub use Rattle.mv_history.specs.Meaning.{Seat, IsSeat, InSection}
pub use Rattle.mv_history.specs.State.{commits_of, State, Writes, state_at}
pub use Rattle.mv_history.specs.declared.history.Commit.{Commit}
pub use Rattle.mv_history.specs.declared.history.Entry.TheVariants.{Rest, Change}
pub use Rattle.section_work.specs.Causes.{Causes, causes}
pub use Rattle.section_work.specs.declared.place.Place.{Place}
pub use Rattle.section_work.specs.declared.place.Place.TheVariants.{Read, Commit as AtCommit}
pub use Rattle.set_model.specs.CatalogueOf.{catalogue_of}
pub use Rattle.set_model.specs.Lawful.{IsOpening}
pub use Rattle.set_model.specs.Rules.{IsSetCommit, capacity}
pub use Rattle.set_model.specs.declared.commands.Command.{Command}
pub use Rattle.set_model.specs.declared.commands.Reply.{Reply}
pub use Rattle.set_catalog.specs.Attempts.{Attempted}
pub use Rattle.set_catalog.specs.Steps.{most_locks}
pub use Rattle.set_catalog.specs.declared.answer.CommandAttempt.TheVariants.{Done, Again}
pub use Rattle.set_model.specs.declared.script.TheConstants.{MOST_COMMANDS}
pub use Rattle.run_report.specs.Legal.{Follows, command_at}
pub use Rattle.run_report.specs.Order.{time_of}
pub use Rattle.run_report.specs.Worked.{Past, past_of, PlaceOf, BySeat, LinesOf, Ran, AllRan, state_of_time}
pub use Rattle.run_report.specs.declared.line.Line.{Line}
pub use Rattle.item_workers.specs.Chains.{Chain, DidAll, HaveNumbers, answered, DidTo, EachDid, OnTried}
pub use Rattle.item_workers.specs.declared.runner.Answer.{Answer}
pub use Rattle.work_runner.specs.Tries.{DoneBehind, IsUnder, IsEnteredBetween, CommitsNone, none_begun}
