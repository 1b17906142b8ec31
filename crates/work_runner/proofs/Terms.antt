-- The terms of this crate, under one name.
pub use Rattle.mv_history.specs.Meaning.{Seat, InSection}
pub use Rattle.mv_history.specs.Calls.{Continues, Prepares}
pub use Rattle.mv_history.proofs.Steps.{Continues-Continues, length-seen}
pub use Rattle.section_work.specs.Causes.{Causes}
pub use Rattle.work_runner.specs.Tries.{CommitsNone, IsUnder, IsEnteredBetween}
