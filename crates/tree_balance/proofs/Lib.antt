pub mod Shapes
pub mod Reshaping
pub mod Turning
pub mod Stepping
pub mod Balancing
pub mod Keeping
pub mod Merging
pub mod Drafting
pub mod Making
pub mod Depths
pub mod Planning
pub mod Drifting
pub mod Fitting
-- Passed on to the crates above: the lemmas of tree_set.
pub use Rattle.tree_set.proofs as tree_set_lemmas
