pub mod Terms
pub mod Shares
pub mod Orders
pub mod OnePool
