pub mod Exchanged
pub mod Bounds
pub mod Looks
pub mod LockKinds
pub mod Stood
pub mod OwnNotes
pub mod BuildTrails
pub mod MayLocks
pub mod Outcomes
pub mod Holding
pub mod Built
pub mod Locked
pub mod Rewriting
-- Passed on to the crates above: the lemmas of version_chain, seat_log, reader_marks and mv_core.
pub use Rattle.version_chain.proofs as version_chain_lemmas
pub use Rattle.seat_log.proofs as seat_log_lemmas
pub use Rattle.seat_log.proofs.reader_marks_lemmas
pub use Rattle.seat_log.proofs.mv_core_lemmas
