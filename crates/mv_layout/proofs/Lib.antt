pub mod Unpacking
pub mod Distinct
pub mod InCells
pub mod Masks
