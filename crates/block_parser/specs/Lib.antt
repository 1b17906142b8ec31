pub mod BlockGrammar
-- Passed on to the crates above: the definitions of set_blocks.
pub use Rattle.set_blocks.specs as set_blocks
