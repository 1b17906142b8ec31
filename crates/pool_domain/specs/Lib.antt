pub mod Legal
pub mod Whole
