pub mod Terms
pub mod Totals
pub mod Fits
pub mod Sections
pub mod Finding
pub mod Outcomes
pub mod Sums
