pub mod Helps
pub mod Names
pub mod Hears
-- Passed on to the crates above: the definitions of mv_core.
pub use Rattle.mv_core.specs as mv_core
