pub mod Terms
pub mod Known
pub mod Heads
pub mod Lines
pub mod OneRun
pub mod Fresh
