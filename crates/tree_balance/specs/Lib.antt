pub mod Steps
pub mod Depths
pub mod Drafts
pub mod Laws
-- Passed on to the crates above: the definitions of tree_set.
pub use Rattle.tree_set.specs as tree_set
