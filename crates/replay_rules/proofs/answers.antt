-- The answers of calls: how far a call has come, and that it comes to what the contract of the same call of the runtime says.
pub mod Progress
pub mod Trails
pub mod Seen
pub mod HeldObjects
pub mod Skips
pub mod Reads
pub mod Writes
pub mod Locks
pub mod Helps
pub mod Enters
pub mod Leaves
pub mod Aborts
pub mod CommitFar
pub mod Commits
pub mod Tidying
pub mod Far
pub mod TasksOf
