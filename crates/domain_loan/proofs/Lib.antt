pub mod Terms
pub mod Rows
pub mod Moves
pub mod Seats
pub mod Whole
pub mod Opened
