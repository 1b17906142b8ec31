pub mod Terms
pub mod Tries
pub mod Works
