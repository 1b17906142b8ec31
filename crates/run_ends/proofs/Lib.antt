pub mod SentParts
pub mod StopStatus
pub mod Stops
-- Passed on to the crates above: the lemmas of script_files, set_blocks and mvrlu.
pub use Rattle.script_files.proofs as script_files_lemmas
pub use Rattle.script_files.proofs.set_blocks_lemmas
pub use Rattle.mvrlu.proofs as mvrlu_lemmas
