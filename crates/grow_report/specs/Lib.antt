pub mod Turns
pub mod Whole
pub mod Text
