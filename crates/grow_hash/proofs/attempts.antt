pub mod Times
pub mod Fullness
pub mod Found
pub mod Outcomes
