pub mod Limits
pub mod Words
pub mod Places
pub mod Cells
