pub mod Terms
pub mod OneHistory
pub mod Fresh
pub mod NewSeats
