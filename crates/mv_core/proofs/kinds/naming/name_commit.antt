-- compare_exchange CLOCK (commit).
pub mod NextCommit
pub mod NameCommit
