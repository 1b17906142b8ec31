pub mod ReplayRuns
