pub mod Terms
pub mod Seats
pub mod OneRun
pub mod Fresh
