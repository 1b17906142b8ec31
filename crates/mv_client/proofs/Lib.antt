mod Puts
pub mod Filled
pub mod Invariants
pub mod Commits
pub mod Fits
pub mod Rewriting
pub mod Locks
pub mod Linked
pub mod LinkedWalks
pub mod LinkedMoves
pub mod Keeping
pub mod LinkedOpening
