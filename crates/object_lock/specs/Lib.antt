pub mod Tops
pub mod Locks
pub mod Writes
-- Passed on to the crates above: the definitions of version_chain, seat_log, reader_marks and mv_core.
pub use Rattle.version_chain.specs as version_chain
pub use Rattle.seat_log.specs as seat_log
pub use Rattle.seat_log.specs.reader_marks
pub use Rattle.seat_log.specs.mv_core
