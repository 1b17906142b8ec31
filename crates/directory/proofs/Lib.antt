pub mod Placed
pub mod Keeps
pub mod Opens
mod Planned
pub mod Seeing
