pub mod Entered
pub mod Looking
pub mod EnterKinds
pub mod EnterHears
-- Passed on to the crates above: the lemmas of commit_clock and mv_core.
pub use Rattle.commit_clock.proofs as commit_clock_lemmas
pub use Rattle.commit_clock.proofs.mv_core_lemmas
