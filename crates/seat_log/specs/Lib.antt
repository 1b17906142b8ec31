pub mod Notes
pub mod Stands
pub mod Builds
pub mod Frees
pub mod Tables
-- Passed on to the crates above: the definitions of reader_marks, commit_clock and mv_core.
pub use Rattle.reader_marks.specs as reader_marks
pub use Rattle.reader_marks.specs.commit_clock
pub use Rattle.reader_marks.specs.mv_core
