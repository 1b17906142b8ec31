pub mod GrowRuns
