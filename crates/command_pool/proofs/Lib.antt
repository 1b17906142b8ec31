pub mod Terms
pub mod Sharing
pub mod Taking
