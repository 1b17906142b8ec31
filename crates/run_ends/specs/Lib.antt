pub mod Sent
pub mod Status
-- Passed on to the crates above: the definitions of script_files, set_blocks and mvrlu.
pub use Rattle.script_files.specs as script_files
pub use Rattle.script_files.specs.set_blocks
pub use Rattle.mvrlu.specs as mvrlu
