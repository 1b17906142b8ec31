pub mod Terms
pub mod Workers
pub mod Lines
pub mod Links
pub mod GrowLinks
pub mod BlockRuns
