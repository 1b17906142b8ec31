pub mod Terms
pub mod Links
pub mod Serves
pub mod Moving
