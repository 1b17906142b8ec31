pub mod Terms
pub mod OneRun
pub mod Fresh
