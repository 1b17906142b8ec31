pub mod NewSeats
pub mod Outcomes
pub mod Staying
