pub mod Lines
mod PlainScripts
-- Passed on to the crates above: the lemmas of set_blocks.
pub use Rattle.set_blocks.proofs as set_blocks_lemmas
