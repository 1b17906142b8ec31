pub mod Finishes
pub mod Commits
pub mod Aborts
