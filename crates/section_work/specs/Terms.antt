-- The terms of sections, seats and works that the definitions of this crate speak of, under one name.
pub use Rattle.std.specs.Prelude.{ℕ, ◌≡◌, ◌+◌, ◌-◌, ◌<◌, ◌≤◌, ◌⊎◌, ◌==◌, true, List, [], ◌∷◌, ◌++◌, length, if◌then◌else◌, ◌≢◌, Bool}
pub use Rattle.mv_history.specs.State.{State, Writes, touches, state_at, written, rewritten}
pub use Rattle.mv_history.specs.declared.answers.Holder.{Holder}
pub use Rattle.mv_history.specs.declared.answers.Rival.{Rival as RivalEntry}
pub use Rattle.mv_history.specs.Meaning.{Seat, InSection, Holds, snapshot_of, state_of_time, Lacks, state_of, words_at, IsWorn, IsSection}
pub use Rattle.mv_history.specs.Legal.{are_distinct, AreWithin}
pub use Rattle.mv_history.specs.Drift.{Drifts, IsFit}
pub use Rattle.mv_history.specs.Trail.{commit_exchanges, IsOneLost}
pub use Rattle.mv_history.specs.Calls.{call_trail, Continues, IsAsBefore, GoesOn, Prepares, Leaves, IsEntryAt, Overtakes, IsStale, Enters, Commits, LocksWith}
pub use Rattle.section_work.specs.declared.place.Place.TheVariants.{Commit as AtCommit, Read}
pub use Rattle.section_work.specs.declared.causes.Refusal.{Refusal}
pub use Rattle.section_work.specs.declared.causes.Cause.{Cause}
pub use Rattle.section_work.specs.declared.causes.Cause.TheVariants.{Lock, Rival, LogFull}
pub use Rattle.section_work.specs.declared.attempting.Attempt.{Attempt}
pub use Rattle.section_work.specs.declared.attempting.Attempt.TheVariants.{Done, Again}
