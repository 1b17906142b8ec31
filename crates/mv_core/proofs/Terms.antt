-- The terms that the proofs speak of, under one name: states and entries, places and words, views, rings and times.
pub use Rattle.mv_history.specs.State.{State, Writes, maker_of, state_after, commits_of, rests_of, state_at, touches, writes_of, written}
pub use Rattle.mv_history.specs.declared.Entry.{Entry}
pub use Rattle.mv_history.specs.declared.Entry.TheVariants.{Change, Rest}
pub use Rattle.mv_history.specs.declared.Step.{Step}
pub use Rattle.mv_layout.specs.declared.Config.{Config}
pub use Rattle.mv_layout.specs.declared.SharedWord.{SharedWord}
pub use Rattle.mv_layout.specs.declared.SharedWord.TheVariants.{Clock, Grace, Mark, Head, Master, First, Stamp, Prev, Super, Data}
pub use Rattle.mv_layout.specs.Limits.{Checked}
pub use Rattle.mv_layout.specs.Words.{clock_of, clock_time_of, clock_slot_of, unset_of, clock_seat_of, link_seat_of, link_of, IsUnset}
pub use Rattle.mv_layout.specs.Words.{link_position_of, IsLink}
pub use Rattle.mv_layout.specs.Places.{Memory, put, same, IsPlace}
pub use Rattle.mv_layout.specs.Cells.{Shows, cells, cell_of}
pub use Rattle.mv_core.specs.declared.ring.Ring.{Ring}
pub use Rattle.mv_core.specs.declared.ring.Version.{Version}
pub use Rattle.mv_core.specs.declared.ring.Build.{Build}
pub use Rattle.mv_core.specs.declared.ring.CommitNote.{CommitNote}
pub use Rattle.mv_core.specs.declared.ring.WriteSetStatus.{WriteSetStatus}
pub use Rattle.mv_core.specs.declared.ring.WriteSetStatus.TheVariants.{Held, Aborted, Committed}
pub use Rattle.mv_core.specs.declared.ring.Slot.{Slot}
pub use Rattle.mv_core.specs.declared.ring.Slot.TheVariants.{Free, Built, Live, Freeing}
pub use Rattle.mv_core.specs.declared.view.Knowledge.{Knowledge}
pub use Rattle.mv_core.specs.declared.view.Past.{Past}
pub use Rattle.mv_core.specs.declared.view.Phase.{Phase}
pub use Rattle.mv_core.specs.declared.view.Phase.TheVariants.{Outside, Inside, Lowered, Marked}
pub use Rattle.mv_core.specs.declared.view.OwnSection.{OwnSection}
pub use Rattle.mv_core.specs.declared.view.Mode.{Mode}
pub use Rattle.mv_core.specs.declared.view.Mode.TheVariants.{Open, Aborting, Named}
pub use Rattle.mv_core.specs.declared.view.LoadedClocks.{LoadedClocks}
pub use Rattle.mv_core.specs.declared.view.Naming.{Naming}
pub use Rattle.mv_core.specs.declared.view.WalkStage.{WalkStage}
pub use Rattle.mv_core.specs.declared.view.Stand.{Stand}
pub use Rattle.mv_core.specs.declared.view.EmptyHead.{EmptyHead}
pub use Rattle.mv_core.specs.declared.view.WriteBack.{WriteBack}
pub use Rattle.mv_core.specs.declared.view.Scan.{Scan}
pub use Rattle.mv_core.specs.declared.view.JoinedSeat.{JoinedSeat}
pub use Rattle.mv_core.specs.declared.view.FoundStamp.{FoundStamp}
pub use Rattle.mv_core.specs.Passes.{view, config_of, start_of, IsOf, AreNew}
pub use Rattle.mv_core.specs.Rings.{slot_at, index_of, empty_ring, Names, NoneUncut, InUse, put_slot, is_held, held_count, Lives, set_first}
pub use Rattle.mv_core.specs.Rings.{IsVersion, HoldsNothing, own_of, IsGone, IsTop, HasFirst, NoneHolds, is_spare, spare_count, write_of, writes_from}
pub use Rattle.mv_core.specs.Views.{new_view, spent_view, set_at, parts_of, ViewParts, names_none, time_in, section_of, time_of, IsUnnamed, no_clocks}
pub use Rattle.mv_core.specs.Views.{low_of}
pub use Rattle.mv_core.specs.Times.{latest_at, last_own, IsNextWrite, IsEntry, is_by, latest, writes_to, AreThe, words_of, NotAboveAny, NotAbove}
pub use Rattle.mv_core.specs.Times.{last_that, one_more, IsNextIn}
pub use mathlib.Core.Logic.{dite}
pub use native.Mathlib.Decide.{ℕ_discrete, dec_lt, dec_le}
pub use mathlib.Core.Option.{some, some-injective, some-ne-none}
pub use lib.ListN.{get_elem?}
