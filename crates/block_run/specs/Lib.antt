pub mod BlockRuns
